-- `open` meets its contract: the marks below, outermost first, up to as many as may be.
use Rattle.expected.proofs.Chaining.{Walking}
use Rattle.expected.proofs.open.Given as goal

abbrev pub invariant-loop-i : goal.invariant-loop-i
invariant-loop-i l = Walking l.top l.most l.room l.c l.i
