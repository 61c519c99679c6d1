-- `leaves::single` meets its contract: a token of its kind, and its row.
use Rattle.reading.proofs.Leaf.{next_row, single_read}
use Rattle.reading.proofs.Refusals as Refuses
use Rattle.reading.proofs.Replies.{token_taken, lacks}
use Rattle.reading.proofs.leaves.single.Goals as goal

pub returns-in_default : goal.returns-in_default
returns-in_default c = lacks c.in_default.is c.consume-read.ensures (λ n. Refuses.in_node (Refuses.missing n))

pub row-node-requires : goal.row-node-requires
row-node-requires c = next_row c.requires.ready (token_taken c.in-Node.is c.consume-read.ensures)

pub made-requires : goal.made-requires
made-requires c = next_row c.requires.ready (token_taken c.in-Node.is c.consume-read.ensures)

pub returns : goal.returns
returns c = single_read c.made.ensures c.requires.ready c.requires.single (token_taken c.in-Node.is c.consume-read.ensures) c.row-node.ensures
