-- `scan::token_at` meets its contract: the first byte decides what can stand there, and the scan of that finds its end.
use Prim.Native.Nat.{ℕ, ◌≤◌, ◌<◌}
use native.Mathlib.Decide.{ℕ_discrete, dec_lt}
use mathlib.Core.Bool.{true}
use mathlib.Core.Path.{◌≡◌, sym, ap}
use native.Mathlib.Omega.{arith}
use lib.ListN.{get_or}
use Rattle.grammar.specs.Lexeme.{letter}
use Rattle.grammar.specs.Pattern.{digit}
use Rattle.grammar.proofs.Ranges.{true_on}
use Rattle.lexer.specs.Parts.{StartCase}
use Rattle.lexer.proofs.Standing.{a_number, a_string, no_string, a_word}
use Rattle.lexer.proofs.Stretches.{taken_out}
use Rattle.lexer.proofs.scan.token_at.Goals as goal

-- a number between the ranges of the arms is ruled out where these do not hold
a_digit : (x : ℕ) → 48 ≤ x → x ≤ 57 → digit x ≡ true
a_digit x l h = sym (true_on digit 48 10 x tt l (omega arith))

a_letter : (x : ℕ) → ((x ≡ 95 → ⊥) → (65 ≤ x → 90 < x) → (97 ≤ x → 122 < x) → ⊥) → letter x ≡ true
a_letter x f = elim (ℕ_discrete x 95) [
  | yes e ↦ ap letter e
  | no n ↦
      elim (dec_lt x 91) [
        | yes u ↦ elim (dec_lt x 65) [ yes v ↦ absurd (f n (λ h. omega arith) (λ h. omega arith)) | no v ↦ sym (true_on letter 65 26 x tt (omega arith) (omega arith)) ]
        | no u ↦
            elim (dec_lt x 97) [
              | yes v ↦ absurd (f n (λ h. omega arith) (λ h. omega arith))
              | no v ↦ elim (dec_lt x 123) [ yes w ↦ sym (true_on letter 97 26 x tt (omega arith) (omega arith)) | no w ↦ absurd (f n (λ h. omega arith) (λ h. omega arith)) ]
            ]
      ]
]

pub returns-then-end-start : goal.returns-then-end-start
unfolding StartCase
returns-then-end-start c = record { says = no_string c.in-34.is c.string_end-end.ensures c.if-end-start.true }

pub returns-else-end-start : goal.returns-else-end-start
unfolding StartCase
returns-else-end-start c = record { says = a_string c.in-34.is (taken_out c.string_end-end.ensures c.if-end-start.false) }

pub returns-in-48-to-57 : goal.returns-in-48-to-57
unfolding StartCase
returns-in-48-to-57 c = record { says = a_number (a_digit (get_or c.args.text.now c.args.start 0) (omega arith) (omega arith)) c.number_end.ensures }

pub returns-in-65-to-90 : goal.returns-in-65-to-90
unfolding StartCase
returns-in-65-to-90 c = record { says = a_word (a_letter (get_or c.args.text.now c.args.start 0) (λ n u l. grind arith)) c.word_end-end.ensures c.keyword.ensures }
