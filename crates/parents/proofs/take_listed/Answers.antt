-- `take_listed` meets its contract: a claim for each link, or two for each.
use mathlib.Core.Path.{refl, ◌∙◌}
use Rattle.parents.proofs.Laws.{none_listed, listed_one, listed_two}
use Rattle.parents.proofs.take_listed.Goals as goal
use Rattle.parents.proofs.take_listed.Goals.{then-this-eq2, else-this-eq2}

pub loop-i-init : goal.loop-i-init
loop-i-init g c = none_listed g.row.EACH

pub loop-i-preserved : goal.loop-i-preserved
loop-i-preserved g c = elim c.if-this-eq2.branch [
  | then-this-eq2 w ↦ rw w.nodes-is (listed_two g.row.EACH w.if-this-eq2.true c.loop-i.invariant (c.take.ensures ∙ rw c.held.ensures refl) (w.take-then-this-eq2.ensures ∙ rw w.held-then-this-eq2.ensures refl))
  | else-this-eq2 w ↦ rw w.nodes-is (listed_one g.row.EACH w.if-this-eq2.false c.loop-i.invariant (c.take.ensures ∙ rw c.held.ensures refl))
]
