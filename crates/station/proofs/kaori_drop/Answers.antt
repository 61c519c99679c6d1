-- `kaori_drop` meets its contract: the numbers handed back are those that `drop` answers.
use native.Mathlib.Omega.{arith}
use Rattle.station.specs.Exports.{Drops}
use Rattle.station.proofs.kaori_drop.Goals as goal

pub returns-then-answer-lt-PACKED : goal.returns-then-answer-lt-PACKED
returns-then-answer-lt-PACKED c = Drops.short (omega arith)

pub returns : goal.returns
returns c = rw c.put_packed.ensures (Drops.dropped (omega arith) c.drop-p.ensures.says)
