-- `row` meets its contract: three slots and what is left over, one after another, each with the marks that those before it left.
use Rattle.std.proofs.Common.{ℕ, Bool, List, ◌++◌}
use Rattle.foreign.specs.Check.{Item}
use Rattle.checker.specs.Pass.{number}
use Rattle.checker.specs.Slots.{held, held_in}
use Rattle.checker.specs.Test.{Keeps}
use Rattle.checker.proofs.Holding.{stays_broken, kept_then, spared_kept, regrouped}
use Rattle.checker.proofs.keep.Asked.row.Goals as goal
use Rattle.checker.proofs.keep.Asked.row.Goals.{then-slot, else-slot, then-slot-2, else-slot-2}

pub returns-then-slot-3 : goal.returns-then-slot-3
unfolding held_in
returns-then-slot-3 c =
    let a = c.args in
    let K : List Item → List ℕ → Bool → Type 0 = λ is ms b. Keeps (number a.self.rule) a.self.row a.self.symbols a.links.now is ms b in
    let x = held a.links.now a.c.first in
    let y = held a.links.now a.c.second in
    let z = held a.links.now a.c.third in
    let two : K (x ++ y) c.if-slot.marks c.if-slot.value = elim c.if-slot.branch [
      | then-slot w ↦ rw (w.marks-is, w.value-is) (kept_then c.slot.ensures w.if-slot.true w.slot-then-slot.ensures)
      | else-slot w ↦ rw (w.marks-is, w.value-is) (stays_broken c.slot.ensures y w.if-slot.false)
    ] in
    let three : K ((x ++ y) ++ z) c.if-slot-2.marks c.if-slot-2.value = elim c.if-slot-2.branch [
      | then-slot-2 w ↦ rw (w.marks-is, w.value-is) (kept_then two w.if-slot-2.true w.slot-then-slot-2.ensures)
      | else-slot-2 w ↦ rw (w.marks-is, w.value-is) (stays_broken two z w.if-slot-2.false)
    ] in
    regrouped x y z _ (kept_then three c.if-slot-3.true (spared_kept _ _ _ _ _ _ c.spare.ensures (three.marked c.if-slot-3.true)))

pub returns-else-slot-3 : goal.returns-else-slot-3
unfolding held_in
returns-else-slot-3 c =
    let a = c.args in
    let K : List Item → List ℕ → Bool → Type 0 = λ is ms b. Keeps (number a.self.rule) a.self.row a.self.symbols a.links.now is ms b in
    let x = held a.links.now a.c.first in
    let y = held a.links.now a.c.second in
    let z = held a.links.now a.c.third in
    let two : K (x ++ y) c.if-slot.marks c.if-slot.value = elim c.if-slot.branch [
      | then-slot w ↦ rw (w.marks-is, w.value-is) (kept_then c.slot.ensures w.if-slot.true w.slot-then-slot.ensures)
      | else-slot w ↦ rw (w.marks-is, w.value-is) (stays_broken c.slot.ensures y w.if-slot.false)
    ] in
    let three : K ((x ++ y) ++ z) c.if-slot-2.marks c.if-slot-2.value = elim c.if-slot-2.branch [
      | then-slot-2 w ↦ rw (w.marks-is, w.value-is) (kept_then two w.if-slot-2.true w.slot-then-slot-2.ensures)
      | else-slot-2 w ↦ rw (w.marks-is, w.value-is) (stays_broken two z w.if-slot-2.false)
    ] in
    regrouped x y z _ (stays_broken three _ c.if-slot-3.false)
