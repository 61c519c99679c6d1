-- What a scan of a number goes through: what is left of grammar's pattern after a byte.
use Prim.Native.Nat.{ℕ, ◌+◌, ◌≤◌, ◌<◌}
use mathlib.Core.Bool.{Bool, true, false}
use mathlib.Core.List.{List, []}
use mathlib.Core.Path.{◌≡◌, refl, sym, ◌∙◌}
use native.Mathlib.Omega.{arith}
use lib.Dec.{eqb}
use lib.ListN.{length, get_or}
use borrow.Author.Tests.{eqb-true, eqb-false}
use Rattle.grammar.specs.Derivative.{matches}
use Rattle.grammar.specs.Pattern.{Pattern, byte, sequence, bytes, among, digit, some, maybe}
use Rattle.grammar.specs.Token.{lexeme}
use Rattle.lexeme.specs.Parts.{signed, power}
use Rattle.grammar.specs.Run.{Ran}
use Rattle.lexeme.proofs.Numbers.{rest, rest_none, power_shy, rest_other, rest_point, power_none, power_first, signed_none, signed_sign, signed_digits}
use Rattle.grammar.proofs.Lexemes.{at_first, at_end}
use Rattle.grammar.proofs.Matching.{either_says, no_byte}
use Rattle.lexer.specs.Parts.{StretchEnds}
use Rattle.lexer.proofs.Stretches.{Becomes, stays, run_none}

-- two patterns that say the same at a place, of the empty text and of any other
alike_here : {p q : Pattern} {text : List ℕ} {i : ℕ} → matches p [] ≡ matches q [] → ((e : ℕ) → i < e → e ≤ length text → matches p (lexeme text i e) ≡ matches q (lexeme text i e)) → Becomes p q text i i
alike_here {p} {q} {text} {i} n f = record { onward = omega arith; alike = λ e h m. go e h m (eqb i e) refl }
  where
    go : (e : ℕ) → i ≤ e → e ≤ length text → (b : Bool) → eqb i e ≡ b → matches p (lexeme text i e) ≡ matches q (lexeme text i e)
    go e h m true z = let y = eqb-true i e z in at_end p text i e y ∙ n ∙ sym (at_end q text i e y)
    go e h m false z = let y : i ≡ e → ⊥ = eqb-false i e z in f e (omega arith) m

pub no_digits : matches (some (byte digit)) [] ≡ false
no_digits = no_byte digit _

module _ {text : List ℕ} {i : ℕ} where
  -- what may be left out becomes what else may be left out
  pub maybe_alike : {p q : Pattern} → Becomes p q text i i → Becomes (maybe p) (maybe q) text i i
  maybe_alike {p} {q} b = record { onward = b.onward; alike = λ e h m. either_says p Pattern.nothing (lexeme text i e) ∙ rw (b.alike e h m) (sym (either_says q Pattern.nothing (lexeme text i e))) }

  -- after the first digits: no point, or a point
  pub no_point : (get_or text i 0 ≡ 46 → ⊥) → Becomes rest (maybe power) text i i
  no_point n = alike_here (rest_none ∙ sym power_none) (λ e h m. at_first rest text i e h m ∙ rest_other _ _ n ∙ sym (at_first (maybe power) text i e h m))

  pub a_point : get_or text i 0 ≡ 46 → i < length text → Becomes rest (sequence (some (byte digit)) (maybe power)) text i (i + 1)
  a_point d h = record { onward = omega arith; alike = λ e l m. at_first rest text i e (omega arith) m ∙ rest_point _ _ d }

  pub lone_point : {r : ℕ} → get_or text i 0 ≡ 46 → i < length text → Ran digit text (i + 1) (length text) r → r ≡ i + 1 → StretchEnds rest text i i
  lone_point d h ran z = stays (omega arith) rest_none (λ e l m. (a_point d h).alike e (omega arith) m ∙ run_none ran power_shy z e (omega arith) m)

  -- a sign, or none
  pub a_sign : among (bytes "+-") (get_or text i 0) ≡ true → digit (get_or text i 0) ≡ false → i < length text → Becomes signed (some (byte digit)) text i (i + 1)
  a_sign s d h = record { onward = omega arith; alike = λ e l m. at_first signed text i e (omega arith) m ∙ signed_sign _ _ s d }

  pub no_sign : among (bytes "+-") (get_or text i 0) ≡ false → Becomes signed (some (byte digit)) text i i
  no_sign s = alike_here (signed_none ∙ sym no_digits) (λ e h m. at_first signed text i e h m ∙ signed_digits _ _ s ∙ sym (at_first (some (byte digit)) text i e h m))

  -- no exponent
  pub no_power : i ≤ length text → among (bytes "eE") (get_or text i 0) ≡ false → StretchEnds (maybe power) text i i
  no_power h n = stays h power_none (λ e l m. at_first (maybe power) text i e l m ∙ power_first _ _ ∙ rw n)
