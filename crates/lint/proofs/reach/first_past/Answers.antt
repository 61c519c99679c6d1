-- `reach::first_past` meets its contract: one token after another.
use Rattle.spelling.proofs.Deciding.{held, failed, said}
use Rattle.lint.proofs.Laws.{one_more, first_found}
use Rattle.lint.proofs.reach.first_past.Goals as goal

pub returns-then-is_past : goal.returns-then-is_past
returns-then-is_past c = first_found c.loop-k.invariant c.loop-k-test.true (held (said c.is_past.ensures c.if-is_past.true))

pub loop-k-preserved : goal.loop-k-preserved
loop-k-preserved c = one_more c.loop-k.invariant (failed (said c.is_past.ensures c.if-is_past.false))
