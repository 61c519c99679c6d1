-- `pieces::untailed` meets its contract, by the test.
use mathlib.Core.Path.{refl}
use Rattle.reading.proofs.pieces.untailed.Goals as goal

pub returns-then-tail-eq-ABSENT : goal.returns-then-tail-eq-ABSENT
returns-then-tail-eq-ABSENT c = record { none = λ e. refl; one = λ n. absurd (n c.if-tail-eq-ABSENT.true) }

pub overflow_sub-past : goal.overflow_sub-past
overflow_sub-past c = c.requires c.if-tail-eq-ABSENT.false

pub returns : goal.returns
returns c = record { none = λ e. absurd (c.if-tail-eq-ABSENT.false e); one = λ n. refl }
