-- `pieces::lone` meets its contract, by the kind and the edition.
use mathlib.Core.Path.{refl}
use borrow.Author.Tests.{ne_eqb}
use Rattle.reading.specs.Parts.{head_form, chained_form}
use Rattle.reading.proofs.Picks.{is_first, is_second}
use Rattle.reading.proofs.pieces.lone.Goals as goal

pub returns-then-kind-ne-LEFT_PAREN : goal.returns-then-kind-ne-LEFT_PAREN
unfolding head_form chained_form
returns-then-kind-ne-LEFT_PAREN c = record { form = rw (ne_eqb c.args.kind 17 c.if-kind-ne-LEFT_PAREN.true) refl }

pub returns-then-edition-eq-SECOND : goal.returns-then-edition-eq-SECOND
unfolding head_form chained_form
returns-then-edition-eq-SECOND c = record { form = rw (is_second c.if-edition-eq-SECOND.true, c.if-kind-ne-LEFT_PAREN.false) refl }

pub returns : goal.returns
unfolding head_form chained_form
returns c = record { form = rw (is_first c.if-edition-eq-SECOND.false, c.if-kind-ne-LEFT_PAREN.false) refl }
