-- `skip` meets its contract: a jump after another, until one stays or the last link is passed.
use borrow.Author.Rules.{rules}
use Rattle.checker.proofs.Skipping.{stopped, skips_on}
use Rattle.checker.proofs.marks.skip.Goals as goal

pub loop-at-init : goal.loop-at-init
loop-at-init c = (stopped, search rules)

pub jump-next-requires : goal.jump-next-requires
jump-next-requires c = search rules

pub shape_of-marks-then-next-at : goal.shape_of-marks-then-next-at
shape_of-marks-then-next-at c = search rules

pub returns-then-next-at : goal.returns-then-next-at
returns-then-next-at c = rw c.if-next-at.true at (skips_on c.loop-at.invariant.0 c.jump-next.ensures)

pub loop-at-smaller : goal.loop-at-smaller
loop-at-smaller c = search rules

pub loop-at-preserved : goal.loop-at-preserved
loop-at-preserved c = (skips_on c.loop-at.invariant.0 c.jump-next.ensures, search rules)

pub shape_of-marks : goal.shape_of-marks
shape_of-marks c = search rules

pub returns : goal.returns
returns c = c.loop-at.invariant.0
