-- `is_cut` meets its contract: each of three tests can fail, and where none does the rule is met.
use mathlib.Core.Path.{sym, ◌∙◌}
use Rattle.std.proofs.lemmas.Bool.{eqb-false}
use borrow.Author.Tests.{eqb-true, ne_eqb}
use Rattle.lint.proofs.Laws.{cut_elsewhere, no_brace, cut_here, not_both}
use Rattle.lint.proofs.is_cut.Goals as goal
use Rattle.lint.proofs.is_cut.Goals.{then-end_at-offset, else-end_at-offset}

pub returns-then-kind_at-eq-RIGHT_BRACE : goal.returns-then-kind_at-eq-RIGHT_BRACE
returns-then-kind_at-eq-RIGHT_BRACE c = elim c.if-end_at-offset.branch [
  | then-end_at-offset w ↦ cut_here c.requires c.end_at.ensures w.if-end_at-offset.true w.kind_at.ensures (eqb-true _ _ (sym w.value-is ∙ c.if-kind_at-eq-RIGHT_BRACE.true)) c.kind_at-then-kind_at-eq-RIGHT_BRACE.ensures c.goes_on.ensures
  | else-end_at-offset w ↦ absurd (not_both (w.value-is ∙ ne_eqb _ _ w.if-end_at-offset.false) c.if-kind_at-eq-RIGHT_BRACE.true)
]

pub returns-else-kind_at-eq-RIGHT_BRACE : goal.returns-else-kind_at-eq-RIGHT_BRACE
returns-else-kind_at-eq-RIGHT_BRACE c =
    rw c.if-kind_at-eq-RIGHT_BRACE.false
    (elim c.if-end_at-offset.branch [
      | then-end_at-offset w ↦ no_brace w.kind_at.ensures (eqb-false _ _ (sym w.value-is ∙ c.if-kind_at-eq-RIGHT_BRACE.false))
      | else-end_at-offset w ↦ cut_elsewhere c.end_at.ensures w.if-end_at-offset.false
    ])
