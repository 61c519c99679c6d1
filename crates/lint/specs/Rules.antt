-- Which rows of a script deserve a warning: what they are may not be what the writer meant. Four rules, each over the rows, the tokens and the text.
use Rattle.std.specs.Prelude.{ℕ, ◌+◌, ◌-◌, ◌≤◌, ◌<◌, true, List, [], ◌∷◌, ◌⊎◌, ◌≡◌}
use Rattle.grammar.specs.Edition.{Edition}
use Rattle.grammar.specs.Handle.{absent}
use Rattle.grammar.specs.Kind.{Plus, Minus, Caret, LeftParen, RightBrace}
use Rattle.grammar.specs.Label.{Node, number_of}
use Rattle.grammar.specs.Pattern.{among}
use Rattle.grammar.specs.Token.{count, kind, start, end}
use Rattle.diagnostics.specs.Line.{ends}
use Rattle.lint.specs.declared.Rule.{Rule}
use Rattle.lint.specs.Reach.{number, kind_of, start_of, end_of, parent_of, Takes, FirstPast, Sign, brackets, in_block}

-- a line ends from one offset of the text up to another
pub record LineEnds (text : List ℕ) (from upto : ℕ) : Type 0 where
  pub at : ℕ
  pub after : from ≤ at
  pub before : at < upto
  pub there : ends text at ≡ true

-- token k has a token before it, and a line ends between the two, in no parentheses and no map
pub record OnNewLine (text ts : List ℕ) (k : ℕ) : Type 0 where
  pub second : 0 < k
  pub inside : k < count ts
  pub level : in_block ts k ≡ true
  pub breaks : LineEnds text (end ts (k - 1)) (start ts k)

-- Rule 1: a `not` that took an `and` or an `or` by reaching on, outside of all brackets that are opened after the `not`
abbrev pub joining : List ℕ
joining = number_of Node.LogicalAnd ∷ number_of Node.LogicalOr ∷ []

pub record Reached (ts nodes : List ℕ) (row x : ℕ) : Type 0 where
  pub joined : among joining (kind_of nodes x) ≡ true
  pub token : ℕ
  pub sign : Sign ts nodes x token
  pub bare : brackets ts (start_of nodes row) token ≡ 0

pub record ReachingNot (ts nodes : List ℕ) (row : ℕ) : Type 0 where
  pub not : kind_of nodes row ≡ number_of (Node.LogicalNot Edition.first)
  pub taken : ℕ
  pub takes : Takes nodes row taken
  pub reached : Reached ts nodes row taken

-- Rule 2: a statement, in a block or in the script, that ends at its own `}`, where the next token may start an operand, and elsewhere goes on after one
abbrev pub closed : List ℕ
closed = number_of Node.Function ∷ number_of Node.Block ∷ number_of Node.If ∷ number_of Node.WhileLoop ∷ []

abbrev pub going_on : List ℕ
going_on = Plus ∷ Minus ∷ Caret ∷ LeftParen ∷ []

pub record CutAt (ts : List ℕ) (offset token : ℕ) : Type 0 where
  pub inside : token + 1 < count ts
  pub last : end ts token ≡ offset
  pub brace : kind ts token ≡ RightBrace
  pub next : among going_on (kind ts (token + 1)) ≡ true

pub record CutOff (ts nodes : List ℕ) (row : ℕ) : Type 0 where
  pub own : among closed (kind_of nodes row) ≡ true
  pub statement : kind_of nodes (parent_of nodes row) ≡ number_of Node.Block
  pub token : ℕ
  pub cut : CutAt ts (end_of nodes row) token

-- Rule 3: a call whose `(`, or a sum or difference whose sign, stands first on its line: a statement may start with such a token, too
pub record CallGoesOn (text ts nodes : List ℕ) (row : ℕ) : Type 0 where
  pub call : kind_of nodes row ≡ number_of Node.FunctionCall
  pub token : ℕ
  pub opening : FirstPast ts (start_of nodes row) token
  pub line : OnNewLine text ts token

pub record SumGoesOn (text ts nodes : List ℕ) (row : ℕ) : Type 0 where
  pub binary : kind_of nodes row ≡ number_of Node.Binary
  pub operator : number nodes row 3 < 2  -- `+` and `-` are the first two (Operator.antt)
  pub token : ℕ
  pub sign : Sign ts nodes row token
  pub line : OnNewLine text ts token

abbrev pub GoingOn : (text ts nodes : List ℕ) (row : ℕ) → Type 0
GoingOn text ts nodes row = CallGoesOn text ts nodes row ⊎ SumGoesOn text ts nodes row

-- Rule 4: a string in which a line ends
pub record LongString (text nodes : List ℕ) (row : ℕ) : Type 0 where
  pub string : kind_of nodes row ≡ number_of Node.String
  pub line : LineEnds text (start_of nodes row) (end_of nodes row)

-- any of these
pub data Any (text ts nodes : List ℕ) (row : ℕ) : Type 0 where
  reaching : ReachingNot ts nodes row → Any text ts nodes row
  cut : CutOff ts nodes row → Any text ts nodes row
  going : GoingOn text ts nodes row → Any text ts nodes row
  long : LongString text nodes row → Any text ts nodes row

-- a row meets a rule
unfoldable pub Meets : Rule → (text ts nodes : List ℕ) (row : ℕ) → Type 0
Meets Rule.ReachingNot text ts nodes row = ReachingNot ts nodes row
Meets Rule.CutOff text ts nodes row = CutOff ts nodes row
Meets Rule.GoingOn text ts nodes row = GoingOn text ts nodes row
Meets Rule.LongString text ts nodes row = LongString text nodes row
Meets Rule.Any text ts nodes row = Any text ts nodes row

-- r is the first of `count` rows, from a row on, that meets a rule: none that does comes before it, and it is one, unless it is absent
pub record Next (M : ℕ → Type 0) (from count r : ℕ) : Type 0 where
  pub first : (i : ℕ) → from ≤ i → i < count → M i → r ≤ i
  pub meets : (r ≡ absent → ⊥) → (from ≤ r) × (r < count) × M r
