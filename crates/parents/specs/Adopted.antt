-- Parents put into the node room, once all rows are written. Document 02, L11: 'the tenth is the parent's row, absent at the root'.
use Rattle.std.specs.Prelude.{ℕ, ◌+◌, ◌*◌, ◌≤◌, ◌<◌, cond, List, [], ◌∷◌, ◌++◌, ◌≡◌, eqb, ltb, length, set, take, drop}
use Rattle.grammar.specs.Handle.{absent}
use Rattle.grammar.specs.Naming.{linked_nodes, linked_entries, named_by, Rising}
use Rattle.grammar.specs.Parent.{parented}
use Rattle.grammar.specs.Room.{node_width, own_width}
use Rattle.grammar.specs.Rows.{Rows}

abbrev pub rows : (nodes links : List ℕ) → Rows
rows ns ls = record { nodes = ns; links = ls }

-- the room has this row
abbrev pub InRoom : (row : ℕ) → List ℕ → Type 0
InRoom row ns = node_width * row + node_width ≤ length ns

-- row x has this parent, if it is an earlier row; and so has each of these
abbrev pub claim : (row x : ℕ) → List ℕ → List ℕ
claim row x ns = cond (ltb x row) (set ns (node_width * x + own_width) row) ns

unfoldable pub claims : (row : ℕ) (xs : List ℕ) → List ℕ → List ℕ
claims row [] ns = ns
claims row (x ∷ xs) ns = claims row xs (claim row x ns)

-- the rows that so many links name: one each, or two where they are entries
abbrev pub listed : (each count : ℕ) (links : List ℕ) → List ℕ
listed each = cond (eqb each 2) linked_entries linked_nodes

-- a row has no parent
abbrev pub orphaned : (row : ℕ) → List ℕ → List ℕ
orphaned row ns = set ns (node_width * row + own_width) absent

-- the first `count` rows of a room
abbrev pub first : (count : ℕ) (links nodes : List ℕ) → Rows
first count ls ns = rows (take (node_width * count) ns) ls

-- what is asked: the room has them, and each names earlier rows alone, as those of one tree do
pub record Adoptable (count : ℕ) (links nodes : List ℕ) : Type 0 where
  pub room : node_width * count ≤ length nodes
  pub rising : (i : ℕ) → i < count → Rising i 0 (named_by (first count links nodes) i)

-- the room afterwards: those rows with their parents, and what follows as it was
pub record Adopted (count : ℕ) (links before after : List ℕ) : Type 0 where
  pub room : after ≡ (parented (first count links before)).nodes ++ drop (node_width * count) before
