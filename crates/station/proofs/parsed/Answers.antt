-- `parsed` meets its contract: the numbers handed back are those that `parse_as` answers.
use native.Mathlib.Omega.{arith}
use Rattle.station.specs.Exports.{Parses}
use Rattle.station.proofs.parsed.Goals as goal

pub returns-then-answer-lt8 : goal.returns-then-answer-lt8
returns-then-answer-lt8 c = Parses.short (omega arith)

pub returns : goal.returns
returns c = rw c.put.ensures (Parses.parsed (omega arith) c.parse_as-a.ensures)
