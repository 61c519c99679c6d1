use borrow.Author.Rules.{rules}
use Rattle.std.proofs.lemmas.Iterator.{first_from_Range}
use Rattle.grammar.specs.Door.{Sound}
use Rattle.spelling.proofs.Deciding.{held, failed}
use Rattle.door.proofs.Searching.{searched}
use Rattle.door.proofs.first_unsound.Goals as goal

pub returns : goal.returns
returns c =
    searched _ _ _
    (first_from_Range _ _ _ c.find.result (λ i. Sound c.args.text.now c.args.tokens.now i → ⊥) (Sound c.args.text.now c.args.tokens.now) c.find.ensures.ran (λ x q k. failed (search rules)) (λ x q k. (search rules, held (search rules))))
