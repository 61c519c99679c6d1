-- A node is there, or its number is the absent one.
use Rattle.reading.specs.Parts.{Makes}
use Rattle.reading.proofs.pieces.made.Goals as goal

pub returns-then-node-eq-ABSENT : goal.returns-then-node-eq-ABSENT
returns-then-node-eq-ABSENT c = Makes.full c.if-node-eq-ABSENT.true

pub returns-else-node-eq-ABSENT : goal.returns-else-node-eq-ABSENT
returns-else-node-eq-ABSENT c = Makes.made c.if-node-eq-ABSENT.false
