-- The longest token at a place, by what its first byte lets stand there.
use Rattle.std.specs.Prelude.{Some, None}
use Prim.Native.Nat.{ℕ, ◌+◌, ◌≤◌, ◌<◌}
use mathlib.Core.Bool.{true}
use mathlib.Core.List.{List, [], ◌∷◌}
use mathlib.Core.Logic.{◌⊎◌, inl, inr, ⊎_elim}
use mathlib.Core.Path.{◌≡◌, refl, sym, ap, ◌∙◌}
use native.Mathlib.Decide.{dec_lt}
use native.Mathlib.Omega.{arith}
use lib.ListN.{length, get_or}
use Rattle.grammar.specs.Kind.{NumberLiteral, StringLiteral, Eof}
use Rattle.grammar.specs.Lexeme.{letter, number, string, identifier, spelling, Fits}
use Rattle.grammar.specs.Pattern.{Pattern, Matches, digit, maybe}
use Rattle.grammar.specs.Token.{lexeme}
use Rattle.lexeme.specs.Parts.{Word}
use Rattle.lexeme.proofs.Fitting.{spelled_pattern}
use Rattle.grammar.proofs.Lexemes.{lexeme_none, lexeme_first, lexeme_length}
use Rattle.grammar.proofs.Matching.{literal_made}
use Rattle.lexer.specs.Reads.{Stands, Longest}
use Rattle.lexer.specs.Parts.{StretchEnds, OtherByte, Spelt}
use Rattle.lexer.proofs.Sorts.{Sort, sort_of, not_empty, digit_only, quote_only, letter_only, other_only}

module _ {text : List ℕ} {k i e : ℕ} where
  pub sort : Stands text k i e → Sort (lexeme text i e) k
  sort s = sort_of s.known s.fits

  -- no token is empty
  pub stands_some : Stands text k i e → i < e
  stands_some s = elim (dec_lt i e) [ yes h ↦ h | no h ↦ absurd (not_empty (sort s) (lexeme_none text i e (omega (arith, s.forward)))) ]

  pub cut_there : Stands text k i e → lexeme text i e ≡ get_or text i 0 ∷ lexeme text (i + 1) e
  cut_there s = lexeme_first text i e (stands_some s) s.inside

-- the longest stretch that matches p is the longest token where all that can stand there match p
longest_by : {p : Pattern} {text : List ℕ} {k i r : ℕ} → StretchEnds p text i r → k < Eof → Fits k (lexeme text i r) → ((l e : ℕ) → Stands text l i e → Matches p (lexeme text i e)) → Longest text k i r
longest_by {r = r} n h f only =
    record { stands = record { known = h; forward = n.forward; inside = n.inside; fits = f }; longest = λ l e s. elim (dec_lt r e) [ yes z ↦ absurd (n.longest e z s.inside (only l e s)) | no z ↦ omega arith ] }

module _ {text : List ℕ} {i r : ℕ} where
  pub a_number : digit (get_or text i 0) ≡ true → StretchEnds number text i r → Longest text NumberLiteral i r
  a_number d n = longest_by n (omega arith) (record { lexeme = λ h. n.match; no_keyword = λ z. absurd (omega arith) }) (λ l e s. (digit_only _ _ (cut_there s) d (sort s)).1)

  pub a_string : get_or text i 0 ≡ 34 → StretchEnds string text i r → Longest text StringLiteral i r
  a_string q n = longest_by n (omega arith) (record { lexeme = λ h. n.match; no_keyword = λ z. absurd (omega arith) }) (λ l e s. (quote_only _ _ (cut_there s) q (sort s)).1)

  pub no_string : get_or text i 0 ≡ 34 → StretchEnds (maybe string) text i r → r ≡ i → (k e : ℕ) → Stands text k i e → ⊥
  no_string q n z k e s = let h = stands_some s in n.longest e (omega arith) s.inside (Matches.left (quote_only _ _ (cut_there s) q (sort s)).1)

word_fits : {k : ℕ} {x : List ℕ} → Matches identifier x → Word x k → Fits k x
word_fits m (Word.keyword {k = k} l h e) = record { lexeme = λ z. rw (spelled_pattern k (omega arith) (omega arith) (omega arith), e) (literal_made (spelling k)); no_keyword = λ z. absurd (omega arith) }
word_fits m (Word.name n) = record { lexeme = λ z. m; no_keyword = λ z w l h s. n (w, l, h, s) }

word_known : {k : ℕ} {x : List ℕ} → Word x k → k < Eof
word_known (Word.keyword l h e) = omega arith
word_known (Word.name n) = omega arith

pub a_word : {text : List ℕ} {k i r : ℕ} → letter (get_or text i 0) ≡ true → StretchEnds identifier text i r → Word (lexeme text i r) k → Longest text k i r
a_word l n w = longest_by n (word_known w) (word_fits n.match w) (λ k e s. (letter_only _ _ (cut_there s) l (sort s)).0)

-- a text that is the spelling of a kind fits it, unless it is empty
spelt_fits : (k : ℕ) {x : List ℕ} → x ≡ spelling k → (x ≡ [] → ⊥) → Fits k x
unfolding spelling
spelt_fits k {x} e some = record { lexeme = λ h. rw (spelled_pattern k (apart 40 refl) (apart 42 refl) (apart 43 refl), e) (literal_made (spelling k)); no_keyword = λ z. absurd (apart 43 refl z) }
  where
    apart : (n : ℕ) → spelling n ≡ [] → k ≡ n → ⊥
    apart n z y = some (e ∙ ap spelling y ∙ z)

-- no sign of two bytes starts here
pub record Alone (text : List ℕ) (i : ℕ) : Type 0 where
  pub no_two : (k : ℕ) → k < Eof → i + 1 < length text → get_or text (i + 1) 0 ≡ 61 → get_or text i 0 ∷ 61 ∷ [] ≡ spelling k → ⊥

pub not_spelt : {x : List ℕ} → Spelt x None → (k : ℕ) → k < Eof → x ≡ spelling k → ⊥
not_spelt (Spelt.none f) = f

-- signs
module _ {text : List ℕ} {i : ℕ} (o : OtherByte (get_or text i 0)) where
  -- a token here is one byte, or two with `=` second
  one_or_two : {k e : ℕ} → Stands text k i e → ((e ≡ i + 1) × (get_or text i 0 ∷ [] ≡ spelling k)) ⊎ ((e ≡ i + 1 + 1) × (get_or text (i + 1) 0 ≡ 61) × (get_or text i 0 ∷ 61 ∷ [] ≡ spelling k))
  one_or_two {k} {e} s = let (h, n, x, y) = other_only _ _ (cut_there s) o (sort s) in ⊎_elim (λ z. inl (one z, sym z ∙ x)) (λ z. inr (two z, equals z, sym z ∙ x)) y
    where
      one : lexeme text i e ≡ get_or text i 0 ∷ [] → e ≡ i + 1
      one z = omega (arith, s.forward, stands_some s, sym (lexeme_length text i e s.forward s.inside) ∙ ap length z)

      two : lexeme text i e ≡ get_or text i 0 ∷ 61 ∷ [] → e ≡ i + 1 + 1
      two z = omega (arith, s.forward, stands_some s, sym (lexeme_length text i e s.forward s.inside) ∙ ap length z)

      equals : lexeme text i e ≡ get_or text i 0 ∷ 61 ∷ [] → get_or text (i + 1) 0 ≡ 61
      equals z = let y = cut_there s in let h = two z in let w = lexeme_first text (i + 1) e (omega arith) s.inside in cc

  spelt_there : {k e : ℕ} → k < Eof → i < e → e ≤ length text → lexeme text i e ≡ spelling k → Stands text k i e
  spelt_there {k} {e} h l m z = record { known = h; forward = omega arith; inside = m; fits = spelt_fits k z (λ n. let y = lexeme_first text i e l m in let x : ◌≡◌ {A = ℕ} 0 1 = cc in omega arith) }

  pub two_bytes : {k : ℕ} → Spelt (get_or text i 0 ∷ 61 ∷ []) (Some k) → i + 1 < length text → get_or text (i + 1) 0 ≡ 61 → Longest text k i (i + 1 + 1)
  two_bytes (Spelt.sign h x) l q =
      record {
        stands = spelt_there h (omega arith) (omega arith) (lexeme_first text i (i + 1 + 1) (omega arith) (omega arith) ∙ rw (lexeme_first text (i + 1) (i + 1 + 1) (omega arith) (omega arith), q, lexeme_none text (i + 1 + 1) (i + 1 + 1) refl) x);
        longest = λ l e s. ⊎_elim (λ z. omega arith) (λ z. omega arith) (one_or_two s);
      }

  pub one_byte : {k : ℕ} → Alone text i → Spelt (get_or text i 0 ∷ []) (Some k) → i < length text → Longest text k i (i + 1)
  one_byte a (Spelt.sign h x) l =
      record {
        stands = spelt_there h (omega arith) (omega arith) (lexeme_first text i (i + 1) (omega arith) (omega arith) ∙ rw (lexeme_none text (i + 1) (i + 1) refl) x);
        longest = λ l e s. ⊎_elim (λ z. omega arith) (λ z. absurd (a.no_two l s.known (omega (arith, s.inside)) z.1 z.2)) (one_or_two s);
      }

  pub no_byte : Alone text i → Spelt (get_or text i 0 ∷ []) None → (l e : ℕ) → Stands text l i e → ⊥
  no_byte a (Spelt.none f) l e s = ⊎_elim (λ z. f l s.known z.1) (λ z. a.no_two l s.known (omega (arith, s.inside)) z.1 z.2) (one_or_two s)
