-- `pass` meets its contract: all rows so far keep the rule, and the marks are right of the next.
use Rattle.checker.specs.Pass.{number}
use Rattle.checker.specs.Test.{Marked, row_keeps}
use Rattle.checker.proofs.Laws.{Held}
use Rattle.checker.proofs.keep.pass.Given as goal

abbrev pub invariant-loop-row : goal.invariant-loop-row
invariant-loop-row l = Held (row_keeps (number l.rule) l.symbols l.rows.table.now l.rows.nodes.now l.rows.links.now) l.row × Marked (number l.rule) l.row l.symbols l.rows.links.now l.marks
