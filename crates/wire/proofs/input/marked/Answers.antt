-- `wire::input::marked` meets its contract: the records up to i have their marks.
use native.Mathlib.Omega.{arith}
use mathlib.Core.Path.{◌≡◌}
use Rattle.spelling.proofs.Deciding.{holds, fails, held, failed, said}
use Rattle.wire.proofs.Scanning.{marks_none, marks_more}
use Rattle.wire.proofs.input.marked.Goals as goal

pub loop-i-init : goal.loop-i-init
loop-i-init c = marks_none _ _

pub returns-then-not-is_marked : goal.returns-then-not-is_marked
returns-then-not-is_marked c = fails (λ m. failed (said c.is_marked.ensures c.if-not-is_marked.true) (m.marked c.loop-i.i c.loop-i-test.true))

pub loop-i-preserved : goal.loop-i-preserved
loop-i-preserved c = marks_more c.loop-i.invariant (held (said c.is_marked.ensures c.if-not-is_marked.false))

pub returns : goal.returns
returns c =
    let all : c.loop-i.i ≡ c.args.n = omega arith in
    holds (rw all at c.loop-i.invariant)
