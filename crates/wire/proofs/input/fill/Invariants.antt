-- `wire::input::fill` meets its contract: the tokens up to i are written.
use Rattle.wire.specs.Scanned.{TokensFilled}
use Rattle.wire.proofs.input.fill.Given as goal

abbrev pub invariant-loop-i : goal.invariant-loop-i
invariant-loop-i l = TokensFilled l.input l.from l.i l.initial.tokens l.tokens
