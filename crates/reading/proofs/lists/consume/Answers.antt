-- The kind at the cursor is what was asked for, or it is not.
use mathlib.Core.Path.{refl}
use Rattle.reading.specs.Answers.{Took}
use Rattle.reading.proofs.lists.consume.Goals as goal

pub returns-then-kind_at-expected : goal.returns-then-kind_at-expected
unfolding Took
returns-then-kind_at-expected c = record { says = (rw c.kind_at.ensures at c.if-kind_at-expected.true, refl) }

pub returns : goal.returns
unfolding Took
returns c = record { says = (rw c.kind_at.ensures at c.if-kind_at-expected.false, rw (c.start_at-start.ensures, c.end_at-end.ensures), refl) }
