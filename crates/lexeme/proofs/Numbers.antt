-- What grammar's pattern of numbers asks of a text: a run of digits, then a point and a run, or none, then an exponent or nothing.
use Prim.Native.Nat.{ℕ}
use mathlib.Core.Bool.{true, false, ◌&&◌, ◌||◌, or-false}
use mathlib.Core.List.{List, [], ◌∷◌}
use mathlib.Core.Path.{◌≡◌, refl, ◌∙◌}
use borrow.Author.Tests.{ne_eqb}
use Rattle.grammar.specs.Derivative.{matches, nullable}
use Rattle.grammar.specs.Pattern.{Pattern, byte, sequence, many, bytes, among, digit, some, maybe}
use Rattle.grammar.proofs.Matching.{Shy, either_says, regroup, maybe_then, byte_then, only_empty, shy_first, shy_maybe, shy_optional}
use Rattle.lexeme.specs.Parts.{signed, power}
use Rattle.grammar.proofs.Ranges.{apart}

-- \.[0-9]+
abbrev fraction : Pattern
fraction = sequence (byte (among (bytes "."))) (some (byte digit))

-- what follows the first digits
abbrev pub rest : Pattern
rest = sequence (maybe fraction) (maybe power)

pub power_shy : Shy digit (maybe power)
power_shy = shy_maybe (shy_first digit (among (bytes "eE")) signed (apart digit (bytes "eE") tt))

pub rest_shy : Shy digit rest
rest_shy = shy_optional (shy_first digit (among (bytes ".")) (sequence (some (byte digit)) (maybe power)) (apart digit (bytes ".") tt)) power_shy

pub power_first : (x : ℕ) (xs : List ℕ) → matches (maybe power) (x ∷ xs) ≡ (among (bytes "eE") x && matches signed xs)
power_first x xs = either_says power Pattern.nothing (x ∷ xs) ∙ rw (byte_then (among (bytes "eE")) signed x xs, only_empty x xs, or-false)

rest_cases : (x : ℕ) (xs : List ℕ) → matches rest (x ∷ xs) ≡ ((among (bytes ".") x && matches (sequence (some (byte digit)) (maybe power)) xs) || matches (maybe power) (x ∷ xs))
rest_cases x xs =
    maybe_then fraction (maybe power) (x ∷ xs)
    ∙ rw (regroup (byte (among (bytes "."))) (some (byte digit)) (maybe power) (x ∷ xs), byte_then (among (bytes ".")) (sequence (some (byte digit)) (maybe power)) x xs)

pub rest_point : (x : ℕ) (xs : List ℕ) → x ≡ 46 → matches rest (x ∷ xs) ≡ matches (sequence (some (byte digit)) (maybe power)) xs
rest_point x xs e = rw e (rest_cases 46 xs ∙ rw (power_first 46 xs) (or-false _))

pub rest_other : (x : ℕ) (xs : List ℕ) → (x ≡ 46 → ⊥) → matches rest (x ∷ xs) ≡ matches (maybe power) (x ∷ xs)
rest_other x xs h = rest_cases x xs ∙ rw (ne_eqb x 46 h)

pub rest_none : matches rest [] ≡ true
unfolding matches nullable
rest_none = refl

pub power_none : matches (maybe power) [] ≡ true
unfolding matches nullable
power_none = refl

pub signed_none : matches signed [] ≡ false
unfolding matches nullable
signed_none = refl

signed_cases : (x : ℕ) (xs : List ℕ) → matches signed (x ∷ xs) ≡ ((among (bytes "+-") x && matches (some (byte digit)) xs) || matches (some (byte digit)) (x ∷ xs))
signed_cases x xs = maybe_then (byte (among (bytes "+-"))) (some (byte digit)) (x ∷ xs) ∙ rw (byte_then (among (bytes "+-")) (some (byte digit)) x xs)

module _ (x : ℕ) (xs : List ℕ) where
  pub signed_sign : among (bytes "+-") x ≡ true → digit x ≡ false → matches signed (x ∷ xs) ≡ matches (some (byte digit)) xs
  signed_sign s d = signed_cases x xs ∙ rw (byte_then digit (many (byte digit)) x xs, s, d) (or-false _)

  pub signed_digits : among (bytes "+-") x ≡ false → matches signed (x ∷ xs) ≡ matches (some (byte digit)) (x ∷ xs)
  signed_digits s = signed_cases x xs ∙ rw s
