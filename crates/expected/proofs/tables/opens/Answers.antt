-- `opens` meets its contract.
use borrow.Author.Tests.{lt-ltb, le-ltb}
use Rattle.expected.specs.Cells.{opens_of}
use Rattle.expected.proofs.tables.opens.Goals as goal

pub returns-then-list-lt-OPENING_ONE : goal.returns-then-list-lt-OPENING_ONE
unfolding opens_of
returns-then-list-lt-OPENING_ONE c = rw (lt-ltb c.args.list 54 c.if-list-lt-OPENING_ONE.true)

pub returns-then-list-lt-OPENING_TWO : goal.returns-then-list-lt-OPENING_TWO
unfolding opens_of
returns-then-list-lt-OPENING_TWO c = simp (lt-ltb, le-ltb, c.if-list-lt-OPENING_ONE.false, c.if-list-lt-OPENING_TWO.true)

pub returns : goal.returns
unfolding opens_of
returns c = simp (le-ltb, c.if-list-lt-OPENING_ONE.false, c.if-list-lt-OPENING_TWO.false)
