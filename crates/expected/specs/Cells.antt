-- What is left to read, as numbers: the states of the machine that crate grammar's Stack.antt defines, and what a stack of them says.
use Rattle.std.specs.Prelude.{ℕ, zero, suc, ◌+◌, ◌*◌, ◌-◌, ◌/◌, ◌%◌, ◌≤◌, ◌<◌, Bool, true, false, cond, ◌&&◌, ◌||◌, List, [], ◌∷◌, ◌++◌, Option, Some, None, ◌≡◌, eqb, ltb, leb, T, length, get_or, drop}
use Rattle.std.proofs.Math.Seq.{slice}
use Rattle.grammar.specs.Edition.{Edition}
use Rattle.grammar.specs.Kaori.{Table, Form, returned, bindings, path_name, otherwise, branch, operand, body, value, comma, script_items, block_items, arguments, entries, names, may_end, must_end, assigned, dots, calls, operators, name, an_expression, a_block, expression, block, above, script}
use Rattle.grammar.specs.Kind.{Assign, LeftBrace, LeftParen, Not, Pipe, RightBrace, RightParen, Semicolon}
use Rattle.grammar.specs.Label.{Label}
use Rattle.grammar.specs.Phrase.{empty, token, part, nested, node, choice, chain, once, refusal}
use Rattle.grammar.proofs.Stack.{want, links, mark, Stack}
use Rattle.grammar.proofs.Verdicts.{Verdict, takes, passes, refuses, unknown, look}
use Rattle.expected.specs.Tables.{lengths, lists}
use Rattle.expected.specs.declared.tables.Action.{Action}
use Rattle.expected.specs.declared.tables.Bar.{Bar}

-- between two tokens nothing else is left but these, and marks. The links of all six levels stand together, and so do an operand's and those of its level on.
unfoldable pub states : List (Stack Table Label)
states =
    (want script ∷ []) ∷
    (want (choice operand) ∷ []) ∷
    (links true (operators 0) ∷ links true (operators 1) ∷ links true (operators 2) ∷ links true (operators 3) ∷ links true (operators 4) ∷ links true (operators 5) ∷ []) ∷
    (links false assigned ∷ []) ∷
    (links false must_end ∷ []) ∷
    (links true script_items ∷ []) ∷
    (want (part (chain empty (names Pipe)) (token Pipe (choice body))) ∷ []) ∷
    (want (part expression (token RightParen empty)) ∷ []) ∷
    (want (token LeftBrace (part (chain empty entries) (token RightBrace empty))) ∷ []) ∷
    (want (part (chain empty block_items) (token RightBrace empty)) ∷ []) ∷
    (links false may_end ∷ []) ∷
    (want expression ∷ []) ∷
    (want (part name (token Assign expression)) ∷ []) ∷
    (want (part (part name (token LeftParen (part (chain empty (names RightParen)) (token RightParen empty)))) block) ∷ []) ∷
    (want (part expression block) ∷ []) ∷
    (want empty ∷ []) ∷
    (want (part expression (part block (choice otherwise))) ∷ []) ∷
    (want (choice returned) ∷ []) ∷
    (want (part (chain (choice path_name) dots) (choice bindings)) ∷ []) ∷
    (links true calls ∷ []) ∷
    (want (above 1) ∷ links true (operators 1) ∷ links true (operators 2) ∷ links true (operators 3) ∷ links true (operators 4) ∷ links true (operators 5) ∷ []) ∷
    (want (above 3) ∷ links true (operators 3) ∷ links true (operators 4) ∷ links true (operators 5) ∷ []) ∷
    (want (above 2) ∷ links true (operators 2) ∷ links true (operators 3) ∷ links true (operators 4) ∷ links true (operators 5) ∷ []) ∷
    (want (above 4) ∷ links true (operators 4) ∷ links true (operators 5) ∷ []) ∷
    (want (above 5) ∷ links true (operators 5) ∷ []) ∷
    (want (choice body) ∷ []) ∷
    (want (choice (comma Pipe)) ∷ []) ∷
    (links true (names Pipe) ∷ []) ∷
    (want (token Pipe (choice body)) ∷ []) ∷
    (want (token RightParen empty) ∷ []) ∷
    (want (part (chain empty entries) (token RightBrace empty)) ∷ []) ∷
    (links true block_items ∷ []) ∷
    (want (token RightBrace empty) ∷ []) ∷
    (want (token Assign expression) ∷ []) ∷
    (want (token LeftParen (part (chain empty (names RightParen)) (token RightParen empty))) ∷ []) ∷
    (want block ∷ []) ∷
    (want (part block (choice otherwise)) ∷ []) ∷
    (links true dots ∷ []) ∷
    (want (choice bindings) ∷ []) ∷
    (want name ∷ []) ∷
    (want (part (chain empty arguments) (token RightParen empty)) ∷ []) ∷
    (want (choice value) ∷ []) ∷
    (want (choice (comma RightBrace)) ∷ []) ∷
    (links true entries ∷ []) ∷
    (want (part (chain empty (names RightParen)) (token RightParen empty)) ∷ []) ∷
    (want (choice otherwise) ∷ []) ∷
    (want (choice path_name) ∷ []) ∷
    (want (chain empty (names Semicolon)) ∷ []) ∷
    (want (choice (comma RightParen)) ∷ []) ∷
    (links true arguments ∷ []) ∷
    (links true (names RightParen) ∷ []) ∷
    (want (choice branch) ∷ []) ∷
    (want (choice (comma Semicolon)) ∷ []) ∷
    (links true (names Semicolon) ∷ []) ∷
    []

-- a cell: the number of a state, or 64 and more for a mark: four times its token, and its sort
unfoldable pub cell : ℕ → Stack Table Label
unfolding states
cell v = cond (ltb v 64) (get_or states v []) (mark (v % 4) (v / 4 - 16) ∷ [])

-- cells, the top first
unfoldable pub decoded : List ℕ → Stack Table Label
decoded [] = []
decoded (v ∷ vs) = cell v ++ decoded vs

-- what a number of a list says: a state, or from 60 on a mark of a sort at token c
unfoldable pub state : ℕ → ℕ → Stack Table Label
unfolding states
state c v = cond (ltb v 60) (get_or states v []) (mark (v - 60) c ∷ [])

unfoldable pub joined : ℕ → List ℕ → Stack Table Label
unfolding state
joined c [] = []
joined c (v ∷ vs) = state c v ++ joined c vs

unfoldable pub list : ℕ → List ℕ
unfolding lengths lists
list k = slice (8 * k) (8 * k + get_or lengths k 0) lists

-- how many constructs a list opens
unfoldable pub opens_of : ℕ → ℕ
opens_of k = cond (ltb k 54) 0 (cond (ltb k 144) 1 2)

-- the code that the top of a stack refuses by
abbrev pub refused_by : Form → ℕ
refused_by empty = 0
refused_by (token x p) = 8
refused_by (part p q) = 0
refused_by (nested s p) = 0
refused_by (node f p) = 0
refused_by (choice n) = 0
refused_by (chain p n) = 0
refused_by (once p n) = 0
refused_by (refusal e) = e

abbrev pub barred_by : Stack Table Label → ℕ
barred_by [] = 0
barred_by (want p ∷ K) = refused_by p
barred_by (links g n ∷ K) = 0
barred_by (mark k o ∷ K) = 0

-- of what bars, the marks alone
abbrev pub only_marks : Stack Table Label → Stack Table Label
only_marks [] = []
only_marks (want p ∷ K) = only_marks K
only_marks (links g n ∷ K) = only_marks K
only_marks (mark k o ∷ K) = mark k o ∷ only_marks K

-- a verdict, of which the code and the marks of what bars are kept
pub data Plain : Type 0 where
  taken : Stack Table Label → Plain
  passed : Plain
  barred : (code : ℕ) → Stack Table Label → Plain
  unsaid : Plain

abbrev pub plain : Verdict → Plain
plain (takes J) = taken J
plain passes = passed
plain (refuses J) = barred (barred_by J) (only_marks J)
plain unknown = unsaid

-- what a number of the table's says at token c
unfoldable pub entry : ℕ → ℕ → Plain
unfolding joined list
entry c zero = barred 8 []
entry c (suc zero) = barred 9 []
entry c (suc (suc zero)) = barred 10 []
entry c (suc (suc (suc zero))) = barred 9 (mark an_expression c ∷ [])
entry c (suc (suc (suc (suc zero)))) = barred 8 (mark a_block c ∷ [])
entry c (suc (suc (suc (suc (suc zero))))) = passed
entry c (suc (suc (suc (suc (suc (suc k)))))) = taken (joined c (list k))

-- the table's number of how a kind is barred, and of what a state does to it
abbrev pub bar_number : Bar → ℕ
bar_number Bar.Token = 0
bar_number Bar.Operand = 1
bar_number Bar.For = 2
bar_number Bar.OpenedOperand = 3
bar_number Bar.OpenedBlock = 4

abbrev pub number_of : Option Action → ℕ
number_of None = 5
number_of (Some (Action.Bars b)) = bar_number b
number_of (Some (Action.Takes k)) = 6 + k

-- the column of a kind: edition 2 reads four kinds in its own way
unfoldable pub column_of : Edition → ℕ → ℕ
column_of Edition.first x = x
column_of Edition.second x = cond (eqb x Not) 45 (cond (eqb x LeftParen) 46 (cond (eqb x Semicolon) 47 (cond (eqb x RightBrace) 48 x)))

-- what the table's number says of a state before a kind
pub record Acts (e : Edition) (s x r : ℕ) : Type 0 where
  pub says : (c : ℕ) → plain (look e x c 40 (get_or states s [])).verdict ≡ entry c r
  pub bound : r < 177

-- cells of states and of marks alone
unfoldable pub sound : ℕ → Bool
sound v = ltb v 54 || leb 64 v

-- and numbers of lists
unfoldable pub listed : ℕ → Bool
listed v = ltb v 54 || (leb 60 v && ltb v 64)

pub data Sound : List ℕ → Type 0 where
  bare : Sound []
  more : {v : ℕ} {vs : List ℕ} → T (sound v) → Sound vs → Sound (v ∷ vs)

-- a cell that says what a number of a list does
pub record Celled (v at r : ℕ) : Type 0 where
  pub same : cell r ≡ state at v
  pub sounds : T (listed v) → T (sound r)

-- a list stands on a stack: r is the top then
pub record Pushed (k at top : ℕ) (before after : List ℕ) (r : ℕ) : Type 0 where
  pub stack : decoded (drop r after) ≡ joined at (list k) ++ decoded (drop top before)
  pub sounds : Sound (drop top before) → Sound (drop r after)
  pub fits : r ≤ top
  pub near : top ≤ r + 8
  pub same_length : length after ≡ length before
