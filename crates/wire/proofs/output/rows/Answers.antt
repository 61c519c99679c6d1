-- `wire::output::rows` meets its contract: the lines of the rows up to i are written.
use native.Mathlib.Omega.{arith}
use mathlib.Core.Path.{◌≡◌}
use Rattle.wire.proofs.Lines.{no_row, another_row}
use Rattle.wire.proofs.output.rows.Goals as goal

pub loop-i-init : goal.loop-i-init
loop-i-init c = no_row _ _ _ _ _

pub loop-i-preserved : goal.loop-i-preserved
loop-i-preserved c = another_row _ _ _ c.loop-i.i c.loop-i.invariant c.row-k.ensures

pub returns : goal.returns
returns c =
    let all : c.loop-i.i ≡ c.args.n = omega arith in
    rw all at c.loop-i.invariant
