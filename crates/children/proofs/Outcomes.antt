-- Each contract allows one answer.
use Prim.Native.Nat.{ℕ, ◌+◌, ◌*◌}
use native.Mathlib.Decide.{dec_le}
use native.Mathlib.Omega.{arith}
use mathlib.Core.List.{List}
use mathlib.Core.Path.{◌≡◌, sym, ◌∙◌}
use lib.ListN.{length}
use Rattle.grammar.specs.Room.{node_width}
use Rattle.children.specs.Below.{Number, Below, Linked, Places, Child}
use Rattle.children.specs.declared.Children.{Children}
use Rattle.children.proofs.Laws.{number_is}

-- `node`, `link`
pub one_number : {room : List ℕ} {i r s : ℕ} → Number room i r → Number room i s → r ≡ s
one_number m n = number_is m ∙ sym (number_is n)

-- `below`
pub one_below : {room : List ℕ} {row : ℕ} {r s : Children} → Below room row r → Below room row s → r ≡ s
one_below {room} {row} m n = elim (dec_le (node_width * row + node_width) (length room)) [ yes h ↦ m.inside h ∙ sym (n.inside h) | no h ↦ m.outside (omega arith) ∙ sym (n.outside (omega arith)) ]

-- `child`
pub one_child : {links : List ℕ} {b : Children} {place r s : ℕ} → Child links b place r → Child links b place s → r ≡ s
one_child m n = m.one ∙ sym n.one

-- `linked`, `places`
pub one_linked : (b : Children) {r s : ℕ} → Linked b r → Linked b s → r ≡ s
one_linked b m n = m.0 ∙ sym n.0

pub one_places : (b : Children) {r s : ℕ} → Places b r → Places b s → r ≡ s
one_places b m n = m.0 ∙ sym n.0
