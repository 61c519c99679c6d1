-- A path is a step, and steps after dots: the loop keeps that whatever is held where it begins is held, and more.
use Prim.Native.Nat.{◌-◌}
use Rattle.grammar.specs.Kaori.{path_name, dots}
use Rattle.grammar.specs.Phrase.{choice}
use Rattle.grammar.specs.Token.{count}
use Rattle.reading.proofs.Listings.{Longer}
use Rattle.reading.proofs.lists.path.Given as goal
use Rattle.reading.specs.State.{state}

abbrev pub invariant-path : goal.invariant-path
invariant-path l = Longer l.tokens l.terms (choice path_name) dots l.depth (state l.initial.nodes l.initial.links l.initial.scratch l.initial.now)
    (state l.nodes l.links l.scratch l.now)

abbrev pub decreases-path : goal.decreases-path
decreases-path l = count l.tokens - l.now.at
