-- `pieces::bare` meets its contract, by the edition and the kind.
use mathlib.Core.Path.{refl}
use borrow.Author.Tests.{ne_eqb}
use Rattle.grammar.specs.Kaori.{kaori, rules}
use Rattle.reading.proofs.Picks.{is_first, is_second}
use Rattle.reading.proofs.pieces.bare.Goals as goal

pub returns-then-edition-ne-SECOND : goal.returns-then-edition-ne-SECOND
unfolding kaori rules
returns-then-edition-ne-SECOND c = record { form = rw (is_first c.if-edition-ne-SECOND.true) refl }

pub returns-then-kind-eq-SEMICOLON : goal.returns-then-kind-eq-SEMICOLON
unfolding kaori rules
returns-then-kind-eq-SEMICOLON c = record { form = rw (is_second c.if-edition-ne-SECOND.false, c.if-kind-eq-SEMICOLON.true) refl }

pub returns-else-kind-eq-SEMICOLON : goal.returns-else-kind-eq-SEMICOLON
unfolding kaori rules
returns-else-kind-eq-SEMICOLON c = record { form = rw (is_second c.if-edition-ne-SECOND.false, ne_eqb c.args.kind 41 c.if-kind-eq-SEMICOLON.false) refl }
