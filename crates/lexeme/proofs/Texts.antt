-- What grammar's patterns ask of a text, byte by byte: a string, an identifier.
use Prim.Native.Nat.{ℕ, suc, ◌-◌, ◌≤◌, ◌<◌}
use mathlib.Core.Bool.{Bool, false, not, ◌&&◌, ◌||◌, or-false}
use mathlib.Core.List.{List, [], ◌∷◌}
use mathlib.Core.Path.{◌≡◌, refl, sym, ap, ◌∙◌}
use native.Mathlib.Omega.{arith}
use lib.Dec.{eqb}
use lib.ListN.{length, get_or, take, drop, length-drop}
use lib.Seq.{take_all}
use borrow.Author.Tests.{ne_eqb}
use Rattle.grammar.specs.Derivative.{matches, nullable}
use Rattle.grammar.specs.Lexeme.{letter, string, identifier}
use Rattle.grammar.specs.Pattern.{Pattern, byte, sequence, either, many, bytes, among}
use Rattle.grammar.proofs.Matching.{regroup, either_then, many_then, byte_then, byte_alone, only_empty, whole_empty}
use Rattle.lexeme.specs.Parts.{inside, letter_or_digit}

-- a text from its first byte, as a slice's pattern cuts it; one that has none; and what is behind a place
pub opened : (w : List ℕ) → 1 ≤ length w → w ≡ get_or w 0 0 ∷ take (length w - 1) (drop 1 w)
opened [] h = absurd (omega arith)
opened (x ∷ xs) h = ap (λ (l : List ℕ). x ∷ l) (sym (take_all (suc (length xs) - 1) xs (omega arith)))

pub emptied : {w : List ℕ} → length w < 1 → w ≡ []
emptied {w = []} h = refl
emptied {w = x ∷ xs} h = absurd (omega arith)

pub behind : (w : List ℕ) (n : ℕ) → take (length w - n) (drop n w) ≡ drop n w
behind w n = take_all (length w - n) (drop n w) (omega (arith, length-drop n w))

-- a text with nothing left has no byte
pub nothing_left : (xs : List ℕ) → eqb (length xs) 0 ≡ matches Pattern.nothing xs
nothing_left [] = sym (whole_empty [] refl)
nothing_left (x ∷ xs) = ne_eqb (suc (length xs)) 0 (λ e. omega arith) ∙ sym (only_empty x xs)

-- what one byte of a string may be, or one after a backslash
abbrev plain : ℕ → Bool
plain x = not (among (bytes "\"\\") x)

abbrev other : ℕ → Bool
other x = not (eqb x 10)

abbrev backslash : ℕ → Bool
backslash = among (bytes "\\")

abbrev quote : ℕ → Bool
quote = among (bytes "\"")

abbrev escape : Pattern
escape = sequence (byte backslash) (byte other)

inside_cases : (x : ℕ) (xs : List ℕ) → matches inside (x ∷ xs) ≡ (((plain x && matches inside xs) || (backslash x && matches (sequence (byte other) inside) xs)) || (quote x && matches Pattern.nothing xs))
inside_cases x xs =
    many_then (either (byte plain) escape) (byte quote) (x ∷ xs)
    ∙ rw (either_then (byte plain) escape inside (x ∷ xs), byte_then plain inside x xs, regroup (byte backslash) (byte other) inside (x ∷ xs), byte_then backslash (sequence (byte other) inside) x xs, byte_alone quote x xs)

module _ (x : ℕ) (xs : List ℕ) where
  pub inside_quote : x ≡ 34 → matches inside (x ∷ xs) ≡ matches Pattern.nothing xs
  inside_quote e = rw e (inside_cases 34 xs)

  pub inside_plain : (x ≡ 34 → ⊥) → (x ≡ 92 → ⊥) → matches inside (x ∷ xs) ≡ matches inside xs
  inside_plain q b = inside_cases x xs ∙ rw (ne_eqb x 34 q, ne_eqb x 92 b, or-false, or-false)

  pub inside_escape : (y : ℕ) → x ≡ 92 → matches inside (x ∷ y ∷ xs) ≡ (other y && matches inside xs)
  inside_escape y e = rw e (inside_cases 92 (y ∷ xs) ∙ or-false (matches (sequence (byte other) inside) (y ∷ xs)) ∙ byte_then other inside y xs)

pub inside_cut : (x : ℕ) → x ≡ 92 → matches inside (x ∷ []) ≡ false
unfolding matches nullable
inside_cut x e = rw e (inside_cases 92 [])

pub inside_open : matches inside [] ≡ false
unfolding matches nullable
inside_open = refl

pub string_first : (x : ℕ) (xs : List ℕ) → matches string (x ∷ xs) ≡ (quote x && matches inside xs)
string_first x xs = byte_then quote inside x xs

pub identifier_first : (x : ℕ) (xs : List ℕ) → matches identifier (x ∷ xs) ≡ (letter x && matches (many (byte letter_or_digit)) xs)
identifier_first x xs = byte_then letter (many (byte letter_or_digit)) x xs

-- said of a text by its first byte, and what a slice's pattern leaves
pub identifier_opened : (w : List ℕ) → 1 ≤ length w → {b : Bool} → letter (get_or w 0 0) ≡ b → matches identifier w ≡ (b && matches (many (byte letter_or_digit)) (take (length w - 1) (drop 1 w)))
identifier_opened w h e = ap (matches identifier) (opened w h) ∙ identifier_first _ _ ∙ ap (λ b. b && matches (many (byte letter_or_digit)) (take (length w - 1) (drop 1 w))) e
