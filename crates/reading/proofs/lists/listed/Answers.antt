-- A name, and what has to come after it.
use Rattle.reading.proofs.Names.{separated}
use Rattle.reading.proofs.Refusals as Refuses
use Rattle.reading.proofs.Replies.{success, passed}
use Rattle.reading.proofs.lists.listed.Goals as goal

pub returns-in_default : goal.returns-in_default
returns-in_default c = passed c.in_default.is c.name-read.ensures (λ x h. Refuses.in_first h)

pub comma-requires : goal.comma-requires
comma-requires c = (success c.in-Node.is c.name-read.ensures).within.at

pub returns : goal.returns
returns c = separated _ c.requires.ready (success c.in-Node.is c.name-read.ensures) c.comma.ensures
