-- Each row's parent, and with it the rows of a script. Document 02, L11: 'the tenth is the parent's row, absent at the root'; 'the tenth number is the one later
-- row that names this one'.
use Rattle.std.specs.Prelude.{ℕ, zero, suc, ◌+◌, ◌-◌, ◌*◌, ◌<◌, cond, List, [], ◌∷◌, ◌++◌, ◌≡◌, eqb, get_or, take, drop}
use Rattle.grammar.specs.Handle.{absent}
use Rattle.grammar.specs.Label.{Label}
use Rattle.grammar.specs.Naming.{height, named_by, times}
use Rattle.grammar.specs.Phrase.{Tree}
use Rattle.grammar.specs.Room.{node_width, own_width}
use Rattle.grammar.specs.Rows.{Rows, unparented}

-- the last of the first n rows that names row j, absent where none does
unfoldable pub parent : Rows → (n j : ℕ) → ℕ
parent w zero j = absent
parent w (suc n) j = cond (eqb (times j (named_by w n)) 0) (parent w n j) n

-- a row's own nine numbers, and the tenth
abbrev pub own : Rows → (row : ℕ) → List ℕ
own w i = take own_width (drop (node_width * i) w.nodes)

abbrev pub tenth : Rows → (row : ℕ) → ℕ
tenth w i = get_or w.nodes (node_width * i + own_width) 0

-- the first n rows, each with its parent among all
unfoldable pub parented_below : Rows → (n : ℕ) → List ℕ
parented_below w zero = []
parented_below w (suc n) = parented_below w n ++ (own w n ++ parent w (height w) n ∷ [])

abbrev pub parented : Rows → Rows
parented w = record { nodes = parented_below w (height w); links = w.links }

-- all rows of a script
unfoldable pub written : (ts : List ℕ) (symbol : ℕ → ℕ) → Tree Label → Rows
written ts symbol t = parented (unparented ts symbol t)

-- p is the one row that names row j, and it is a later one
pub record ParentOf (w : Rows) (j p : ℕ) : Type 0 where
  pub later : j < p
  pub row : p < height w
  pub names : times j (named_by w p) ≡ 1
  pub only : (i : ℕ) → i < height w → 0 < times j (named_by w i) → i ≡ p

-- the tenth number of every row but the last is that row; the last row's is absent
pub record Parents (w : Rows) : Type 0 where
  pub parents : (j : ℕ) → j + 1 < height w → ParentOf w j (tenth w j)
  pub root : tenth w (height w - 1) ≡ absent
