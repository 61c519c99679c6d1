-- `name` meets its contract: row by row, the marks are those of the rows gone through.
use Rattle.checker.specs.Slots.{rows}
use Rattle.checker.proofs.Naming.{Naming}
use Rattle.checker.proofs.name.name.Given as goal

abbrev pub invariant-loop-row : goal.invariant-loop-row
invariant-loop-row l = Naming (rows l.rows.nodes.now l.rows.links.now) l.count l.row l.marks
