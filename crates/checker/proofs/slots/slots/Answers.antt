-- `slots` meets its contract: the table of each edition is computed.
use borrow.Author.Tests.{eq-eqb, ne_eqb}
use mathlib.Core.Path.{refl}
use Rattle.grammar.specs.Edition.{edition}
use Rattle.checker.specs.Slots.{table}
use Rattle.checker.proofs.slots.slots.Goals as goal

pub returns-then-edition-eq2 : goal.returns-then-edition-eq2
unfolding table edition
returns-then-edition-eq2 c = rw (eq-eqb _ _ c.if-edition-eq2.true) refl

pub returns-else-edition-eq2 : goal.returns-else-edition-eq2
unfolding table edition
returns-else-edition-eq2 c = rw (ne_eqb _ _ c.if-edition-eq2.false) refl
