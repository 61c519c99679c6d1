-- The kind of its first token picks the form that most operands have; any other kind is left to the rarer ones.
use native.Mathlib.Omega.{arith}
use borrow.Author.Rules.{rules}
use mathlib.Core.Logic.{inl, inr}
use mathlib.Core.Path.{refl, ap, ◌∙◌}
use Rattle.grammar.specs.Kaori.{kaori, rules as form_rules, denial, operand}
use Rattle.reading.proofs.Picks.{picked_as, signed, one_number, head_entry, is_first, is_second}
use Rattle.parser.proofs.readers.+readers.Goals as goal

-- `not`, by the edition
pub prefix-returns-then-terms-eq-SECOND : goal.prefix-returns-then-terms-eq-SECOND
unfolding kaori form_rules
prefix-returns-then-terms-eq-SECOND t c = picked_as _ operand c.kind_at-kind.ensures c.in-24.is (ap denial (is_second c.if-terms-eq-SECOND.true)) c.deny.ensures

pub prefix-single-requires : goal.prefix-single-requires
prefix-single-requires t c = record { single = record { known = inr (inr (inr (inr (inr c.in-40.is)))) }; ready = c.requires }

pub prefix-primary-requires : goal.prefix-primary-requires
prefix-primary-requires t c =
    let k = c.kind_at-kind.ensures in
    let n = c.in_default.in_default-own.rest in (
      search rules,
      (
        record {
          not_plus = λ e. omega arith;
          not_minus = λ e. n.0.0.0.0.1 (inl (k ∙ e));
          not_caret = λ e. n.0.0.0.0.1 (inr (k ∙ e));
          not_paren = λ e. n.0.0.0.1 (inl (k ∙ e));
          not_not = λ e. omega arith;
          not_number = λ e. omega arith;
          not_string = λ e. omega arith;
          not_name = λ e. n.0.0.0.1 (inr (k ∙ e));
        },
        c.requires,
      ),
    )

pub prefix-returns-in-1 : goal.prefix-returns-in-1
unfolding kaori form_rules
prefix-returns-in-1 t c =
    picked_as _ operand c.kind_at-kind.ensures
    c.in-1.is refl c.plus.ensures

pub prefix-returns-in-2 : goal.prefix-returns-in-2
prefix-returns-in-2 t c =
    picked_as _ operand c.kind_at-kind.ensures refl
    (signed _ (record { known = c.in-2.is }))
    c.unary.ensures

pub prefix-returns-in-17 : goal.prefix-returns-in-17
prefix-returns-in-17 t c = picked_as _ operand c.kind_at-kind.ensures refl (head_entry _ c.in-17.is) c.chained.ensures

pub prefix-returns-else-terms-eq-SECOND : goal.prefix-returns-else-terms-eq-SECOND
unfolding kaori form_rules
prefix-returns-else-terms-eq-SECOND t c = picked_as _ operand c.kind_at-kind.ensures c.in-24.is (ap denial (is_first c.if-terms-eq-SECOND.false)) c.not_.ensures

pub prefix-returns-in-40 : goal.prefix-returns-in-40
prefix-returns-in-40 t c =
    picked_as _ operand c.kind_at-kind.ensures refl
    (one_number _ c.in-40.is) c.single.ensures

pub prefix-returns-in-42 : goal.prefix-returns-in-42
unfolding kaori form_rules
prefix-returns-in-42 t c =
    picked_as _ operand c.kind_at-kind.ensures
    c.in-42.is refl c.string.ensures
