-- `follow` meets its contract: row by row, the lists of all rows so far follow each other.
use Rattle.checker.proofs.Following.{none_follow, goes_wrong, follow_more, follow_stopped}
use Rattle.checker.proofs.follow.follow.Goals as goal

pub loop-row-init : goal.loop-row-init
loop-row-init c = none_follow

pub returns-in_default : goal.returns-in_default
returns-in_default c = follow_stopped c.loop-row-test.true c.loop-row.invariant (goes_wrong c.loop-row.invariant c.cut_row.ensures c.after_row.ensures c.in_default.is)

pub loop-row-preserved : goal.loop-row-preserved
loop-row-preserved c = follow_more c.loop-row.invariant c.cut_row.ensures c.after_row.ensures c.in-Some.is
