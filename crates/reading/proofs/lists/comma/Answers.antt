-- The closer stays, a comma is taken, and anything else is refused.
use mathlib.Core.Logic.{inl, inr}
use mathlib.Core.Path.{refl}
use Rattle.reading.specs.Answers.{Took}
use Rattle.reading.specs.Parts.{Separates}
use Rattle.reading.proofs.Replies.{token_taken}
use Rattle.reading.proofs.lists.comma.Goals as goal

pub returns-then-kind_at-closer : goal.returns-then-kind_at-closer
unfolding Separates
returns-then-kind_at-closer c = record { says = (refl, inl (rw c.kind_at.ensures at c.if-kind_at-closer.true, refl)) }

pub returns-in_default : goal.returns-in_default
unfolding Separates Took
returns-in_default c =
    let e = c.in_default.is in
    let z = (rw e at c.consume-read.ensures).says in
    rw e (record { says = (rw c.kind_at.ensures at c.if-kind_at-closer.false, z.0, z.1) })

pub returns : goal.returns
unfolding Separates
returns c =
    let z = token_taken c.in-Node.is c.consume-read.ensures in
    record { says = (refl, inr (rw c.kind_at.ensures at c.if-kind_at-closer.false, z.kind_is, z.after)) }
