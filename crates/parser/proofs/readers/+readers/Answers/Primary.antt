-- The kind of its first token picks the form of an operand that is rarer.
use native.Mathlib.Omega.{arith}
use mathlib.Core.Path.{refl}
use Rattle.grammar.specs.Kaori.{kaori, rules as form_rules, operand}
use Rattle.reading.proofs.Picks.{picked_as, a_single, one_token, no_operand}
use Rattle.reading.proofs.Refusals as Refuses
use Rattle.reading.proofs.Replies.{refuse}
use Rattle.parser.proofs.readers.+readers.Goals as goal

pub primary-single-requires : goal.primary-single-requires
primary-single-requires t c = record { single = a_single (omega arith) (omega arith); ready = c.requires.ready }

pub primary-returns-in-16 : goal.primary-returns-in-16
unfolding kaori form_rules
primary-returns-in-16 t c =
    picked_as _ operand c.kind_at-kind.ensures
    c.in-16.is refl c.lambda.ensures

pub primary-returns-in-19 : goal.primary-returns-in-19
unfolding kaori form_rules
primary-returns-in-19 t c =
    picked_as _ operand c.kind_at-kind.ensures
    c.in-19.is refl c.map_.ensures

pub primary-returns-in-20 : goal.primary-returns-in-20
unfolding kaori form_rules
primary-returns-in-20 t c =
    picked_as _ operand c.kind_at-kind.ensures
    c.in-20.is refl c.block.ensures

pub primary-returns-in-33 : goal.primary-returns-in-33
unfolding kaori form_rules
primary-returns-in-33 t c =
    picked_as _ operand c.kind_at-kind.ensures
    c.in-33.is refl c.if_.ensures

pub primary-returns-in-37-to-39 : goal.primary-returns-in-37-to-39
primary-returns-in-37-to-39 t c =
    picked_as _ operand c.kind_at-kind.ensures refl
    (one_token _ (omega arith)
    (omega arith)) c.single.ensures

pub primary-returns-in_default : goal.primary-returns-in_default
primary-returns-in_default t c = refuse (Refuses.in_choice (no_operand _ c.kind_at-kind.ensures c.requires.other ((((tt, λ e. omega arith), λ e. omega arith), λ e. omega arith), λ e. omega arith) (λ h. omega arith)) Refuses.stopped)

pub primary-returns-in_default-2 : goal.primary-returns-in_default-2
primary-returns-in_default-2 t c = refuse (Refuses.in_choice (no_operand _ c.kind_at-kind.ensures c.requires.other ((((tt, λ e. omega arith), λ e. omega arith), λ e. omega arith), λ e. omega arith) (λ h. omega arith)) Refuses.stopped)
