-- Names up to a closer: the loop keeps a listing, and each turn holds one name more.
use Prim.Native.Nat.{◌-◌}
use Rattle.grammar.specs.Kaori.{names}
use Rattle.grammar.specs.Token.{count}
use Rattle.reading.proofs.Listings.{Listing}
use Rattle.reading.proofs.lists.names.Given as goal
use Rattle.reading.specs.State.{state}

abbrev pub invariant-list : goal.invariant-list
invariant-list l = Listing l.tokens l.terms (names l.closer) l.depth (state l.initial.nodes l.initial.links l.initial.scratch l.initial.now)
    (state l.nodes l.links l.scratch l.now)

abbrev pub decreases-list : goal.decreases-list
decreases-list l = count l.tokens - l.now.at
