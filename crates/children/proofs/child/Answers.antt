-- `child` meets its contract: the place says which of the children it is.
use native.Mathlib.Omega.{arith}
use Rattle.children.proofs.Laws.{at_first, at_one, at_two, at_later, at_past}
use Rattle.children.proofs.child.Goals as goal

pub returns-then-place-eq0 : goal.returns-then-place-eq0
returns-then-place-eq0 c = at_first c.if-place-eq0.true

pub returns-then-b-eq1 : goal.returns-then-b-eq1
returns-then-b-eq1 c = at_one c.if-b-eq1.true (omega arith) (omega (arith, c.linked-many.ensures)) c.link.ensures

pub returns-then-place-many : goal.returns-then-place-many
returns-then-place-many c = at_two c.if-b-eq1.false (omega arith) (omega (arith, c.linked-many.ensures)) c.link-then-place-many.ensures

pub returns-then-place-many-2 : goal.returns-then-place-many-2
returns-then-place-many-2 c = at_later 0 (omega (arith, c.linked-many.ensures))

pub returns-then-place-many-3 : goal.returns-then-place-many-3
returns-then-place-many-3 c = at_later 1 (omega (arith, c.linked-many.ensures))

pub returns : goal.returns
returns c = at_past (omega (arith, c.linked-many.ensures))
