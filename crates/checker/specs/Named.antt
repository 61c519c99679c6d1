-- Which rows are named, and by which row: a mark for each row, which stands in the lent room in the order of the rows. It is 0 where the row is not named, the row that names it
-- where it is named once, and absent where it is named more often.
use Rattle.std.specs.Prelude.{ℕ, zero, suc, ◌+◌, ◌*◌, ◌/◌, ◌≤◌, ◌<◌, Bool, true, cond, ◌&&◌, ◌||◌, not, List, [], ◌∷◌, ◌≡◌, eqb, ltb, length, get_or, set}
use Rattle.grammar.specs.Handle.{absent}
use Rattle.grammar.specs.Naming.{named_below, times}
use Rattle.grammar.specs.Parent.{parent}
use Rattle.grammar.specs.Room.{node_width, own_width, link_width}
use Rattle.grammar.specs.Rows.{Rows}
use Rattle.foreign.specs.Check.{Item}
use Rattle.checker.specs.Marks.{Settled}
use Rattle.checker.specs.Test.{AllStanding, row_keeps}
use Rattle.checker.specs.Slots.{content_of}
use Rattle.checker.specs.declared.slots.Content.{Content}
use Rattle.checker.specs.declared.slots.Slot.{Slot}

-- what a mark becomes where a row names it so often
abbrev pub once_more : (row often mark : ℕ) → ℕ
once_more row zero s = s
once_more row (suc zero) s = cond (eqb s 0) row absent
once_more row (suc (suc t)) s = absent

-- the marks once a row names x, if that is an earlier row
abbrev pub noted : (row x : ℕ) (marks : List ℕ) → List ℕ
noted row x ms = cond (ltb x row) (set ms x (once_more row 1 (get_or ms x 0))) ms

-- a row named these: the marks of the first n rows, of which it is one. Marks of later rows stay
pub record Names (n row : ℕ) (xs before after : List ℕ) : Type 0 where
  pub earlier : (j : ℕ) → j < row → get_or after j 0 ≡ once_more row (times j xs) (get_or before j 0)
  pub later : (j : ℕ) → row ≤ j → j < n → get_or after j 0 ≡ get_or before j 0

-- nothing is to be learnt of a row that is named once more: it is absent, or has been named more than once
abbrev pub known : (n : ℕ) (marks : List ℕ) (x : ℕ) → Bool
known n ms x = eqb x absent || (ltb x n && eqb (get_or ms x 0) absent)

-- what link k of a list names: a row, or a key and a value
abbrev pub first_of : (links : List ℕ) (k : ℕ) → ℕ
first_of ls k = get_or ls (link_width * k) 0

abbrev pub second_of : (two : Bool) (links : List ℕ) (k : ℕ) → ℕ
second_of two ls k = cond two (get_or ls (link_width * k + 1) 0) absent

unfoldable pub link_known : (n : ℕ) (two : Bool) (links marks : List ℕ) (k : ℕ) → Bool
link_known n two ls ms k = known n ms (first_of ls k) && known n ms (second_of two ls k)

-- the rows that so many links from one on name, absent ones too
unfoldable pub names_from : (two : Bool) (links : List ℕ) (from count : ℕ) → List ℕ
names_from two ls from zero = []
names_from two ls from (suc c) = first_of ls from ∷ second_of two ls from ∷ names_from two ls (suc from) c

-- where the marks of a list's links stand, behind those of n rows
abbrev pub base_of : (n : ℕ) (two : Bool) (links : List ℕ) → ℕ
base_of n two ls = n + cond two (length ls / link_width) 0

-- the marks of n rows, and behind them two marks a link, which are right
pub record Ready (n : ℕ) (links marks : List ℕ) : Type 0 where
  pub few : length links / link_width ≤ absent
  pub rows : n ≤ absent
  pub room : n + 2 * (length links / link_width) ≤ length marks
  pub settled : (two : Bool) → Settled (link_known n two links marks) (base_of n two links) (length links / link_width) marks

-- a list of so many links from one on is there, and a row that names what they do
pub record Listed (n row : ℕ) (links : List ℕ) (from count : ℕ) (marks : List ℕ) : Type 0 where
  pub low : row ≤ n
  pub inside : from + count ≤ length links / link_width
  pub ready : Ready n links marks

-- what a list, a slot or a row that names these leaves
pub record Noted (n row : ℕ) (links xs before after : List ℕ) : Type 0 where
  pub names : Names n row xs before after
  pub ready : Ready n links after

-- the rows that items name
abbrev pub names_in : List Item → List ℕ
names_in [] = []
names_in (Item.number l x ∷ is) = names_in is
names_in (Item.child x ∷ is) = x ∷ names_in is
names_in (Item.option x ∷ is) = x ∷ names_in is
names_in (Item.symbol x ∷ is) = names_in is
names_in (Item.list f c ∷ is) = names_in is
names_in (Item.unused x ∷ is) = names_in is

-- a slot's list of rows, if it is one, is in range
abbrev pub InRange : (links : List ℕ) → Content → Type 0
InRange ls Content.Nothing = Unit {0}
InRange ls (Content.Child x) = Unit {0}
InRange ls (Content.Option x) = Unit {0}
InRange ls (Content.Symbol x) = Unit {0}
InRange ls (Content.List o f n) = f + n ≤ length ls / link_width
InRange ls (Content.Number l x) = Unit {0}

abbrev pub InLists : (links : List ℕ) → Slot → Type 0
InLists ls s = InRange ls (content_of s.code s.x s.y)

-- the mark of row j once the first n rows are gone through
abbrev pub mark_by : (often : ℕ) (by : ℕ) → ℕ
mark_by zero p = 0
mark_by (suc zero) p = p
mark_by (suc (suc t)) p = absent

abbrev pub mark_of : Rows → (n j : ℕ) → ℕ
mark_of w n j = mark_by (times j (named_below w n)) (parent w n j)

-- what is asked of all rows: each is there, its lists are in range, and it names earlier rows alone, by rule 3 asked with some number of symbols; and there is room for marks
pub record Nameable (table nodes links : List ℕ) (n : ℕ) (marks : List ℕ) : Type 0 where
  pub few : length links / link_width ≤ absent
  pub rows : n ≤ absent
  pub room : n + 2 * (length links / link_width) ≤ length marks
  pub standing : AllStanding table nodes n
  pub symbols : ℕ
  pub earlier : (i : ℕ) → i < n → row_keeps 3 symbols table nodes links i ≡ true

pub record AllNamed (w : Rows) (n : ℕ) (marks : List ℕ) : Type 0 where
  pub each : (j : ℕ) → j < n → get_or marks j 0 ≡ mark_of w n j

-- a row is named once; and its parent is right
abbrev pub is_once : (marks : List ℕ) (j : ℕ) → Bool
is_once ms j = not (eqb (get_or ms j 0) 0) && not (eqb (get_or ms j 0) absent)

abbrev pub is_parent : (nodes marks : List ℕ) (j : ℕ) → Bool
is_parent ns ms j = eqb (get_or ns (node_width * j + own_width) 0) (cond (eqb (get_or ms j 0) 0) absent (get_or ms j 0))
