-- `kinds` meets its contract: after n turns it is the set of the kinds under n.
use lib.ListN.{drop}
use Rattle.grammar.specs.Edition.{edition as the-edition}
use Rattle.expected.specs.Cells.{decoded}
use Rattle.expected.proofs.Gathering.{Gathering}
use Rattle.expected.proofs.kinds.Given as goal

abbrev pub invariant-loop-kind : goal.invariant-loop-kind
invariant-loop-kind l = Gathering (the-edition l.edition) (decoded (drop l.top l.room)) l.kind l.set
