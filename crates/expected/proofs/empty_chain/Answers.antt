-- `empty_chain` meets its contract.
use Rattle.expected.proofs.Chaining.{no_chain}
use Rattle.expected.proofs.empty_chain.Goals as goal

pub returns : goal.returns
returns c = no_chain
