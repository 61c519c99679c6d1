-- A script whose list is given meets the trait's contract: it is answered by the single call on a given list.
use Rattle.scripts.specs.Joined.{Single}
use Rattle.scripts.proofs.tokens.GivenTokens.answer.Goals as goal

pub returns-clause-single : goal.returns-clause-single
returns-clause-single c = Single.parsed c.parse_with.ensures
