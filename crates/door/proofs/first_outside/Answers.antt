use borrow.Author.Rules.{rules}
use Rattle.std.proofs.lemmas.Iterator.{first_from_Range}
use Rattle.grammar.specs.Door.{Inside}
use Rattle.grammar.specs.Profile.{guard}
use Rattle.door.proofs.Searching.{searched}
use Rattle.door.proofs.first_outside.Goals as goal

pub returns : goal.returns
returns c =
    searched _ _ _
    (first_from_Range _ _ _ c.find.result (λ i. Inside guard c.args.tokens.now i → ⊥) (Inside guard c.args.tokens.now) c.find.ensures.ran (λ x q k. search rules) (λ x q k. (search rules, search rules)))
