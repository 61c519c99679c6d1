-- `leaves::identifier` meets its contract: a name, and its row.
use Rattle.reading.proofs.Leaf.{identifier_read, relabelled}
use Rattle.reading.proofs.Replies.{success, passed}
use Rattle.reading.proofs.Taking.{free}
use Rattle.reading.proofs.leaves.identifier.Goals as goal

pub returns-in_default : goal.returns-in_default
returns-in_default c = passed c.in_default.is c.name-read.ensures (λ x h. relabelled h)

pub identifier-node-requires : goal.identifier-node-requires
identifier-node-requires c = free c.requires.lent (success c.in-Node.is c.name-read.ensures).within

pub made-requires : goal.made-requires
made-requires c = free c.requires.lent (success c.in-Node.is c.name-read.ensures).within

pub returns : goal.returns
returns c = identifier_read c.made.ensures c.requires (success c.in-Node.is c.name-read.ensures) c.identifier-node.ensures
