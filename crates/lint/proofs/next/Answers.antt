-- `next` meets its contract: one row after another.
use native.Mathlib.Omega.{arith}
use Rattle.spelling.proofs.Deciding.{held, failed, said}
use Rattle.lint.proofs.Laws.{one_more, next_found}
use Rattle.lint.proofs.next.Goals as goal

pub returns-then-meets : goal.returns-then-meets
returns-then-meets c = next_found c.loop-row.invariant (omega arith) (held (said c.meets.ensures c.if-meets.true))

pub loop-row-preserved : goal.loop-row-preserved
loop-row-preserved c = one_more c.loop-row.invariant (failed (said c.meets.ensures c.if-meets.false))
