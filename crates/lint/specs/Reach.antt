-- How far a row reaches. An operator, a sign, a `not` and a lambda end where their last operand ends, and nothing closes them: what they took by reaching on is not to be
-- seen at their start. Rows are numbers that anyone may have written: a row that is not below the one that names it is not followed.
use Rattle.std.specs.Prelude.{ℕ, zero, suc, ◌+◌, ◌-◌, ◌*◌, ◌≤◌, ◌<◌, Bool, true, false, cond, not, ◌&&◌, ◌||◌, List, [], ◌∷◌, Option, Some, None, MatchOption, ◌≡◌, eqb, ltb, get_or}
use Rattle.grammar.specs.Handle.{absent}
use Rattle.grammar.specs.Kind.{LeftParen, RightParen, Hash, LeftBrace, RightBrace}
use Rattle.grammar.specs.Label.{Node, number_of}
use Rattle.grammar.specs.Room.{node_width, own_width}
use Rattle.grammar.specs.Token.{count, kind, start}
use Rattle.lint.specs.declared.reach.Bracket.{Bracket}

-- number i of a row: its kind, its span, what its kind has (Layout.antt) and its parent; absent where the room has none
abbrev pub number : (nodes : List ℕ) (row i : ℕ) → ℕ
number nodes row i = get_or nodes (node_width * row + i) absent

abbrev pub kind_of : (nodes : List ℕ) (row : ℕ) → ℕ
kind_of nodes row = number nodes row 0

abbrev pub start_of : (nodes : List ℕ) (row : ℕ) → ℕ
start_of nodes row = number nodes row 1

abbrev pub end_of : (nodes : List ℕ) (row : ℕ) → ℕ
end_of nodes row = number nodes row 2

abbrev pub parent_of : (nodes : List ℕ) (row : ℕ) → ℕ
parent_of nodes row = number nodes row own_width

-- by kind, from 0 on: which number of a row names what it takes last, with nothing behind that; 0 where something closes it, or it takes nothing
abbrev pub last_numbers : List ℕ
last_numbers =
    0 ∷  -- 0
    5 ∷  -- Binary: right
    4 ∷  -- LogicalAnd: right
    4 ∷  -- LogicalOr: right
    3 ∷  -- LogicalNot: child
    4 ∷  -- Unary: child
    0 ∷ 0 ∷ 0 ∷ 0 ∷  -- Assign to Ref are statements
    0 ∷ 0 ∷ 0 ∷ 0 ∷ 0 ∷ 0 ∷ 0 ∷ 0 ∷ 0 ∷  -- Identifier to Function end with a token of their own
    5 ∷  -- Lambda: body
    []

-- such a number of a kind, where there is one
pub record LastNumber (kind : ℕ) (r : Option ℕ) : Type 0 where
  pub names : MatchOption r (get_or last_numbers kind 0 ≡ 0) (λ i. (get_or last_numbers kind 0 ≡ i) × (0 < i))

-- what a row takes last; absent where it takes nothing last
unfoldable pub last : (nodes : List ℕ) (row : ℕ) → ℕ
last nodes row = let i = get_or last_numbers (kind_of nodes row) 0 in cond (eqb i 0) absent (number nodes row i)

-- y is among what a row took by reaching on: what it takes last, what that takes last, and so on
pub data Takes (nodes : List ℕ) : (row y : ℕ) → Type 0 where
  next : {row : ℕ} → last nodes row < row → Takes nodes row (last nodes row)
  on : {row y : ℕ} → last nodes row < row → Takes nodes (last nodes row) y → Takes nodes row y

-- y is where that comes to an end: the row itself, or the last of what it took
pub data Ends (nodes : List ℕ) : (row y : ℕ) → Type 0 where
  here : {row : ℕ} → row ≤ last nodes row → Ends nodes row row
  on : {row y : ℕ} → last nodes row < row → Ends nodes (last nodes row) y → Ends nodes row y

-- k is the first token from an offset on that is no `)`; the number of tokens where there is none
pub record Past (ts : List ℕ) (offset k : ℕ) : Type 0 where
  pub from : offset ≤ start ts k
  pub other : kind ts k ≡ RightParen → ⊥

pub record FirstPast (ts : List ℕ) (offset k : ℕ) : Type 0 where
  pub within : k ≤ count ts
  pub past : k < count ts → Past ts offset k
  pub least : (j : ℕ) → j < k → Past ts offset j → ⊥

-- which number of a row that joins two operands is the left one: a Binary has its operator before it
abbrev pub left_number : (kind : ℕ) → ℕ
left_number k = cond (eqb k (number_of Node.Binary)) 4 3

-- k is the token that joins the two operands of a row: past the left one stand the `)` that close it, and then the sign
pub record Sign (ts nodes : List ℕ) (row k : ℕ) : Type 0 where
  pub end : ℕ
  pub ends : Ends nodes (number nodes row (left_number (kind_of nodes row))) end
  pub first : FirstPast ts (end_of nodes end) k

-- the kinds that open a bracket, and those that close one
abbrev pub opens : ℕ → Bool
opens x = eqb x LeftParen || eqb x LeftBrace

abbrev pub closes : ℕ → Bool
closes x = eqb x RightParen || eqb x RightBrace

-- what a kind does to the brackets that are open: it opens one, closes one, or neither
unfoldable pub BracketCase : (kind : ℕ) → Option Bracket → Type 0
BracketCase k (Some Bracket.Opens) = (opens k ≡ true) × (closes k ≡ false)
BracketCase k (Some Bracket.Closes) = (opens k ≡ false) × (closes k ≡ true)
BracketCase k None = (opens k ≡ false) × (closes k ≡ false)

pub record BracketOf (kind : ℕ) (r : Option Bracket) : Type 0 where
  pub says : BracketCase kind r

-- so many brackets, and one more or one fewer, where there is one
abbrev pub counted : (more fewer : Bool) (before : ℕ) → ℕ
counted more fewer n = cond more (suc n) (cond fewer (n - 1) n)

-- so many brackets are open before token k, of those that are opened past an offset
abbrev pub after : (ts : List ℕ) (offset i before : ℕ) → ℕ
after ts offset i n = cond (ltb offset (start ts i)) (counted (opens (kind ts i)) (closes (kind ts i)) n) n

unfoldable pub brackets : (ts : List ℕ) (offset k : ℕ) → ℕ
brackets ts offset zero = 0
brackets ts offset (suc i) = after ts offset i (brackets ts offset i)

-- the innermost bracket that is open before token k, going back from it past as many that are closed; absent where none is
abbrev pub encloses : (kind closed : ℕ) → Bool
encloses x n = eqb n 0 && opens x

unfoldable pub enclosing : (ts : List ℕ) (k closed : ℕ) → ℕ
enclosing ts zero n = absent
enclosing ts (suc i) n = cond (encloses (kind ts i) n) i (enclosing ts i (counted (closes (kind ts i)) (opens (kind ts i)) n))

-- a statement could start at token k: it stands in no parentheses and in no map, so in a block or in the script itself
unfoldable pub in_block : (ts : List ℕ) (k : ℕ) → Bool
in_block ts k = let e = enclosing ts k 0 in eqb e absent || (eqb (kind ts e) LeftBrace && not (eqb (kind ts (e - 1)) Hash))
