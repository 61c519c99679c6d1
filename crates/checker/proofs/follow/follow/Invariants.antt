-- `follow` meets its contract: row by row, the lists of all rows so far follow each other.
use Rattle.checker.proofs.Following.{Following}
use Rattle.checker.proofs.follow.follow.Given as goal

abbrev pub invariant-loop-row : goal.invariant-loop-row
invariant-loop-row l = Following l.rows.table.now l.rows.nodes.now l.row l.links
