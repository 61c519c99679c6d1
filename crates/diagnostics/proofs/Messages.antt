-- What is true of every message: its contract leaves one answer and one room, and a text has at most 52 bytes.
use Prim.Native.Nat.{ℕ, ◌≤◌}
use native.Mathlib.Decide.{dec_lt}
use native.Mathlib.Omega.{arith}
use mathlib.Core.Bool.{Bool, true, false, cond}
use mathlib.Core.List.{List, [], ◌++◌}
use mathlib.Core.Path.{◌≡◌, refl, sym, ap, ◌∙◌}
use lib.Dec.{eqb, leb}
use lib.ListN.{length, length-append}
use Rattle.grammar.specs.Kind.{NumberLiteral, StringLiteral, Eof}
use Rattle.grammar.specs.Pattern.{bytes}
use Rattle.spelling.specs.Display.{display}
use Rattle.spelling.proofs.display.Names.{short}
use Rattle.diagnostics.specs.Message.{text_of, MessageGiven}
use Rattle.diagnostics.specs.declared.Message.{Message}

-- the contract settles the answer and every byte of the room
pub one_message : {code expected found : ℕ} {before after other : List ℕ} {r s : Message} → MessageGiven code expected found before after r → MessageGiven code expected found before other s → (r ≡ s) × (after ≡ other)
one_message {before = before} p q =
    elim (dec_lt (length before) 52) [
      | yes h ↦ (p.refused h ∙ sym (q.refused h), p.untouched h ∙ sym (q.untouched h))
      | no h ↦ let i : 52 ≤ length before = omega arith in (p.answer i ∙ sym (q.answer i), p.room i ∙ sym (q.room i))
    ]

-- every text fits 52 bytes, and so does a choice of two that do
pub either : (b : Bool) (x y : List ℕ) → length x ≤ 52 → length y ≤ 52 → length (cond b x y) ≤ 52
either true x y h i = h
either false x y h i = i

pub text_fits : (code expected found : ℕ) → length (text_of code expected found) ≤ 52
unfolding text_of
text_fits code expected found =
    either (eqb code 8) _ _ (either (leb expected Eof) _ [] (either (leb found Eof) _ [] required none) none)
    (either (eqb code 9) _ _ (either (leb found Eof) _ [] operand none)
    (either (eqb code 10) _ _ (omega arith)
    (either (eqb code 11) _ [] (omega arith) none)))
  where
    none : length {A = ℕ} [] ≤ 52
    none = omega arith

    required : length (bytes "expected " ++ (display expected ++ (bytes " and found " ++ display found))) ≤ 52
    required = simp length-append (omega (arith, short expected, short found))

    operand : length (bytes "expected a <operand> and found: " ++ display found) ≤ 52
    operand = simp length-append (omega (arith, short found))

-- 'a message for 12 has length 0'
pub none_for_12 : (expected found : ℕ) → text_of 12 expected found ≡ []
unfolding text_of
none_for_12 expected found = refl

-- '52 is `expected` 40 `and found` 42'
pub longest : length (text_of 8 NumberLiteral StringLiteral) ≡ 52
unfolding text_of display
longest = refl

-- what was written lies in the room
pub inside : {code expected found : ℕ} {before after : List ℕ} {r : Message} → MessageGiven code expected found before after r → r.length ≤ length before
inside {code} {expected} {found} {before} p =
    elim (dec_lt (length before) 52) [
      | yes h ↦ omega (arith, ap (λ (m : Message). m.length) (p.refused h))
      | no h ↦ omega (arith, ap (λ (m : Message). m.length) (p.answer (omega arith)), text_fits code expected found)
    ]
