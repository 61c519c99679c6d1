-- `reach::end_row` meets its contract. Its loop keeps what the row takes last, and that wherever this row ends the first one ends.
use mathlib.Core.Path.{sym}
use Rattle.lint.specs.Reach.{Ends, here}
use Rattle.lint.proofs.reach.end_row.Goals as goal

pub loop-next-preserved : goal.loop-next-preserved
loop-next-preserved c = let l = c.loop-next in (c.last-next-in-loop-next.ensures, λ y e. l.invariant.1 y (Ends.on (rw (sym l.invariant.0) c.loop-next-test.true) (rw (sym l.invariant.0) e)))

pub returns : goal.returns
returns c = let l = c.loop-next in l.invariant.1 _ (here (rw (sym l.invariant.0) c.loop-next-test.false))
