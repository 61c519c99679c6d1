-- The kind of its first token picks a statement's form.
use borrow.Author.Rules.{rules}
use mathlib.Core.Logic.{inl, inr}
use mathlib.Core.Path.{ap, sym, ◌∙◌}
use Rattle.reading.specs.Parts.{form_of}
use Rattle.parser.proofs.Forms.{binder_of, keyword_of, keyword_single, form_binding, form_single, form_other}
use Rattle.reading.proofs.Refusals as Refuses
use Rattle.reading.proofs.Replies.{refuse}
use native.Mathlib.Omega.{arith}
use Rattle.parser.proofs.readers.+readers.Goals.{form-in_default-via-then-kind-lt25, form-in_default-via-else-kind-lt25+else-kind-lt28+else-kind-lt33}
use Rattle.parser.proofs.readers.+readers.Goals as goal

pub form-bind-requires : goal.form-bind-requires
form-bind-requires t c = (
  search rules,
  (
    binder_of _ (omega arith) (omega arith),
    c.requires,
  ),
)

pub form-single-requires : goal.form-single-requires
form-single-requires t c =
    let w = keyword_of c.kind_at-kind.result (omega arith) (λ e. omega arith) (λ e. omega arith) (λ e. omega arith)
    (omega arith) in record { single = keyword_single w; ready = c.requires }

pub form-returns-in-20 : goal.form-returns-in-20
unfolding form_of
form-returns-in-20 t c =
    rw (sym c.kind_at-kind.ensures ∙
    c.in-20.is) c.block.ensures

pub form-returns-in-28 : goal.form-returns-in-28
unfolding form_of
form-returns-in-28 t c =
    rw (sym c.kind_at-kind.ensures ∙
    c.in-28.is) c.fun_.ensures

pub form-returns-in-29 : goal.form-returns-in-29
unfolding form_of
form-returns-in-29 t c = rw (sym c.kind_at-kind.ensures ∙ c.in-29.is) (refuse Refuses.stopped)

pub form-returns-in-30 : goal.form-returns-in-30
unfolding form_of
form-returns-in-30 t c =
    rw (sym c.kind_at-kind.ensures ∙
    c.in-30.is) c.while_.ensures

pub form-returns-in-33 : goal.form-returns-in-33
unfolding form_of
form-returns-in-33 t c =
    rw (sym c.kind_at-kind.ensures ∙
    c.in-33.is) c.if_.ensures

pub form-returns-in-35 : goal.form-returns-in-35
unfolding form_of
form-returns-in-35 t c =
    rw (sym c.kind_at-kind.ensures ∙
    c.in-35.is) c.return_.ensures

pub form-returns-in-36 : goal.form-returns-in-36
unfolding form_of
form-returns-in-36 t c =
    rw (sym c.kind_at-kind.ensures ∙
    c.in-36.is) c.import.ensures

pub form-returns-in-25-to-27 : goal.form-returns-in-25-to-27
form-returns-in-25-to-27 t c =
    rw (ap form_of (sym c.kind_at-kind.ensures) ∙ form_binding _
    (binder_of _ (omega arith)
    (omega arith))) c.bind.ensures

pub form-returns-in-31-to-32 : goal.form-returns-in-31-to-32
form-returns-in-31-to-32 t c =
    rw (ap form_of (sym c.kind_at-kind.ensures) ∙ form_single _
    (keyword_of c.kind_at-kind.result (omega arith) (λ e. omega arith) (λ e. omega arith) (λ e. omega arith)
    (omega arith))) c.single.ensures

pub form-returns-in_default : goal.form-returns-in_default
form-returns-in_default t c =
    let e = form_other c.kind_at-kind.result (λ e. omega arith) (λ e. omega arith) (λ e. omega arith) (λ e. omega arith)
    (elim c.in_default.branch [ form-in_default-via-then-kind-lt25 w ↦ inl (omega arith) | form-in_default-via-else-kind-lt25+else-kind-lt28+else-kind-lt33 w ↦ inr (omega arith) ]) in
    rw (ap form_of (sym c.kind_at-kind.ensures) ∙ e) c.assign.ensures
