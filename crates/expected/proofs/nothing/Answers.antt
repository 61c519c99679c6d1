-- `nothing` meets its contract.
use lib.Count.{ones, ones_in}
use Rattle.expected.specs.Parts.{lowest_of}
use Rattle.expected.proofs.nothing.Goals as goal

pub returns : goal.returns
unfolding ones ones_in lowest_of
returns c = let f = c.fill.ensures in record { kinds_are = f.kinds_are; how_many_are = f.how_many_are; lowest_is = f.lowest_is; chained = rw f.chain_is c.empty_chain.ensures }
