-- `read_text` meets its contract: the numbers handed back are those that `read_as` answers.
use native.Mathlib.Omega.{arith}
use Rattle.station.specs.Exports.{ReadsText}
use Rattle.station.proofs.read_text.Goals as goal

pub returns-then-answer-lt8 : goal.returns-then-answer-lt8
returns-then-answer-lt8 c = ReadsText.short (omega arith)

pub returns : goal.returns
returns c = rw c.put.ensures (ReadsText.read (omega arith) c.read_as-a.ensures)
