-- `lowest` meets its contract.
use borrow.Author.Tests.{eq-eqb, ne_eqb}
use Rattle.expected.specs.Parts.{lowest_of}
use Rattle.expected.proofs.lowest.Goals as goal

pub returns-then-kinds-eq0 : goal.returns-then-kinds-eq0
unfolding lowest_of
returns-then-kinds-eq0 c = rw (eq-eqb c.args.kinds 0 c.if-kinds-eq0.true)

pub returns : goal.returns
unfolding lowest_of
returns c = rw (ne_eqb c.args.kinds 0 c.if-kinds-eq0.false)
