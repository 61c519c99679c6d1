-- `pass` meets its contract: all rows so far keep the rule, and the marks are right of the next.
use Rattle.std.proofs.Common.{refl, arith}
use Rattle.checker.proofs.Cutting.{rest_inside}
use Rattle.checker.proofs.Holding.{answers, marked_later}
use Rattle.checker.proofs.Laws.{held_more, found}
use Rattle.checker.proofs.keep.pass.Goals as goal

pub row-requires : goal.row-requires
row-requires c = let s = c.requires.0.each _ c.loop-row-test.true in (rest_inside s c.cut_row.ensures, omega (arith, s.room), c.loop-row.invariant.1)

pub returns-then-not-row : goal.returns-then-not-row
returns-then-not-row c = (refl, c.loop-row-test.true, found c.loop-row-test.true c.loop-row.invariant.0 (answers _ _ c.cut_row.ensures c.row.ensures c.if-not-row.true))

pub loop-row-preserved : goal.loop-row-preserved
loop-row-preserved c = (held_more c.loop-row.invariant.0 (answers _ _ c.cut_row.ensures c.row.ensures c.if-not-row.false), marked_later (c.row.ensures.marked c.if-not-row.false))
