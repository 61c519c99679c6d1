-- `first_unclosed` meets its contract: the loop keeps that every token passed is Eof just where it is last.
use native.Mathlib.Omega.{arith}
use mathlib.Core.Path.{◌≡◌, sym, ◌∙◌}
use Rattle.door.proofs.Searching.{passed_more, first_here}
use Rattle.door.proofs.first_unclosed.Goals as goal

pub loop-i-preserved : goal.loop-i-preserved
loop-i-preserved c =
    passed_more c.loop-i.invariant (omega arith)
    (record { only = λ e. absurd (c.if-kind_at-eq-EOF.false (c.kind_at.ensures ∙ e)); last = λ e. absurd (omega arith) })

pub returns-then-kind_at-eq-EOF : goal.returns-then-kind_at-eq-EOF
returns-then-kind_at-eq-EOF c = first_here c.loop-i.invariant (omega arith) (λ x. omega (arith, x.only (sym c.kind_at.ensures ∙ c.if-kind_at-eq-EOF.true)))

pub returns : goal.returns
returns c =
    let e : c.in_ok-last.last ≡ c.loop-i.i = omega arith in
    let k = rw e at c.kind_at-2.ensures in
    λ j m. (passed_more c.loop-i.invariant (omega arith) (record { only = λ z. omega arith; last = λ z. sym k ∙ c.if-kind_at-ne-EOF.false })).before j (omega (arith, m))
