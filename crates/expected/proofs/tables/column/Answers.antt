-- `column` meets its contract: the kind, but for four kinds in edition 2.
use native.Mathlib.Omega.{arith}
use borrow.Author.Tests.{ne_eqb}
use Rattle.grammar.specs.Edition.{edition}
use Rattle.expected.specs.Cells.{column_of}
use Rattle.expected.proofs.tables.column.Goals as goal

pub returns-then-edition-ne-SECOND : goal.returns-then-edition-ne-SECOND
unfolding edition column_of
returns-then-edition-ne-SECOND c = rw (ne_eqb c.args.edition 2 c.if-edition-ne-SECOND.true)

pub returns-in-24 : goal.returns-in-24
unfolding edition column_of
returns-in-24 c = rw (c.if-edition-ne-SECOND.false, c.in-24.is)

pub returns-in-17 : goal.returns-in-17
unfolding edition column_of
returns-in-17 c = rw (c.if-edition-ne-SECOND.false, c.in-17.is)

pub returns-in-41 : goal.returns-in-41
unfolding edition column_of
returns-in-41 c = rw (c.if-edition-ne-SECOND.false, c.in-41.is)

pub returns-in-21 : goal.returns-in-21
unfolding edition column_of
returns-in-21 c = rw (c.if-edition-ne-SECOND.false, c.in-21.is)

pub returns-in_default : goal.returns-in_default
unfolding edition column_of
returns-in_default c =
    let k = c.args.kind in
    rw c.if-edition-ne-SECOND.false (simp (ne_eqb k 24 (omega arith), ne_eqb k 17 (omega arith), ne_eqb k 41 (omega arith), ne_eqb k 21 (omega arith)))
