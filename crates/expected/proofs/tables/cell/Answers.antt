-- `cell` meets its contract: a state's number, or a mark's.
use borrow.Author.Rules.{rules}
use Rattle.expected.proofs.Laws.{celled_state, celled_mark}
use Rattle.expected.proofs.tables.cell.Goals as goal

pub returns-then-v-lt-MARKS : goal.returns-then-v-lt-MARKS
returns-then-v-lt-MARKS c = celled_state c.args.v c.args.at (search rules)

pub returns : goal.returns
returns c = celled_mark c.args.v c.args.at (search rules) (search rules)
