-- `wire::input::fill` meets its contract: the tokens up to i are written.
use native.Mathlib.Omega.{arith}
use mathlib.Core.Path.{◌≡◌}
use Rattle.wire.proofs.Scanning.{filled_none, filled_more}
use Rattle.wire.proofs.input.fill.Goals as goal

pub loop-i-init : goal.loop-i-init
loop-i-init c = filled_none _ _ _

pub loop-i-preserved : goal.loop-i-preserved
loop-i-preserved c =
    let turn = c.loop-i in
    filled_more turn.invariant (omega arith) (c.requires.0.marked turn.i c.loop-i-test.true) c.from.ensures c.four.ensures c.four-in-loop-i.ensures

pub returns : goal.returns
returns c =
    let all : c.loop-i.i ≡ c.args.n = omega arith in
    rw all at c.loop-i.invariant
