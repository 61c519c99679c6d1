-- The links have room, and then it is as for a row alone.
use native.Mathlib.Omega.{arith}
use Rattle.reading.specs.Parts.{MakesList}
use Rattle.reading.proofs.pieces.made_list.Goals as goal

pub made-read-requires : goal.made-read-requires
made-read-requires c = c.requires.0

pub overflow_mul-cur : goal.overflow_mul-cur
overflow_mul-cur c = omega (arith, c.requires.1)

pub returns-then-links-cur : goal.returns-then-links-cur
returns-then-links-cur c = MakesList.full c.if-links-cur.true

pub returns-else-links-cur : goal.returns-else-links-cur
returns-else-links-cur c = MakesList.listed c.if-links-cur.false c.made-read.ensures
