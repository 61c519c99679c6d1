-- What the first byte of a text decides: which kinds can fit it. A digit, a quote and a letter leave one pattern each, and any other byte the signs, which have one byte or one
-- and `=`. What is asked of the spellings is computed over their table.
use Prim.Native.Nat.{ℕ, ◌≤◌, ◌<◌}
use mathlib.Core.Bool.{Bool, true, false, not, ◌&&◌, ◌||◌, or-false}
use mathlib.Core.List.{List, [], ◌∷◌, ◌++◌}
use mathlib.Core.Logic.{◌⊎◌, inl, inr}
use mathlib.Core.Path.{◌≡◌, refl, sym, ap, ◌∙◌}
use native.Mathlib.Omega.{arith}
use lib.Dec.{T, eqb, leb, leb→le, eqb→eq}
use lib.ListN.{length, drop}
use borrow.Author.Tests.{eqb-true, eqb-false, eq-eqb, ne_eqb, leb-true, lt-leb}
use Rattle.grammar.specs.Derivative.{matches, nullable, after}
use Rattle.grammar.specs.Kind.{NumberLiteral, StringLiteral, Identifier, Eof}
use Rattle.grammar.specs.Lexeme.{letter, number, string, identifier, spelling, Fits}
use Rattle.grammar.specs.Pattern.{Pattern, Matches, byte, sequence, bytes, among, from_to, digit}
use Rattle.grammar.specs.Symbol.{same}
use Rattle.grammar.proofs.Patterns.{matches_sound}
use Rattle.lexeme.specs.Parts.{Keyword, Word}
use Rattle.lexeme.proofs.Fitting.{spelled_pattern}
use Rattle.lexeme.proofs.Keywords.{one_word}
use Rattle.spelling.specs.Words.{first}
use Rattle.spelling.proofs.Spellings.{all_spelt, one_spelling}
use Rattle.grammar.proofs.Ranges.{member}
use Rattle.grammar.proofs.Matching.{literal_same}
use Rattle.grammar.proofs.Tests.{both, as_true, within, same_means}
use Rattle.lexer.specs.Reads.{blanks, blank}
use Rattle.lexer.specs.Parts.{OtherByte}

-- a text that is not empty, and its first byte
pub record First (test : ℕ → Bool) (x : List ℕ) : Type 0 where
  pub head : ℕ
  pub rest : List ℕ
  pub cut : x ≡ head ∷ rest
  pub passed : T (test head)

first_byte : {test : ℕ → Bool} {x : List ℕ} → Matches (byte test) x → First test x
first_byte (Matches.byte {x = b} t) = record { head = b; rest = []; cut = refl; passed = t }

first_part : {test : ℕ → Bool} {p q : Pattern} {x : List ℕ} → ((y : List ℕ) → Matches p y → First test y) → Matches (sequence p q) x → First test x
first_part f (Matches.sequence {xs = xs} {ys = ys} m n e) = let d = f xs m in record { head = d.head; rest = d.rest ++ ys; cut = e ∙ ap (λ (l : List ℕ). l ++ ys) d.cut; passed = d.passed }

first_spelt : (x : List ℕ) → T (leb 1 (length x)) → First (eqb (first x)) x
first_spelt [] t = absurd t
first_spelt (b ∷ x) t = record { head = b; rest = x; cut = refl; passed = rw (eq-eqb b b refl) tt }

-- how a text fits a kind below Eof
pub data Sort (x : List ℕ) : ℕ → Type 0 where
  a_number : Matches number x → Sort x NumberLiteral
  a_string : Matches string x → Sort x StringLiteral
  a_name : Matches identifier x → (Keyword x → ⊥) → Sort x Identifier
  a_spelling : {k : ℕ} → k < 42 → (k ≡ NumberLiteral → ⊥) → x ≡ spelling k → Sort x k

pub sort_of : {k : ℕ} {x : List ℕ} → k < Eof → Fits k x → Sort x k
sort_of {k} {x} h f = go (eqb k NumberLiteral) refl (eqb k StringLiteral) refl (eqb k Identifier) refl
  where
    go : (a : Bool) → eqb k NumberLiteral ≡ a → (b : Bool) → eqb k StringLiteral ≡ b → (c : Bool) → eqb k Identifier ≡ c → Sort x k
    go true d b e c g = let z = eqb-true k NumberLiteral d in rw z (Sort.a_number (rw z at (f.lexeme h)))
    go false d true e c g = let z = eqb-true k StringLiteral e in rw z (Sort.a_string (rw z at (f.lexeme h)))
    go false d false e true g = let z = eqb-true k Identifier g in rw z (Sort.a_name (rw z at (f.lexeme h)) (λ w. f.no_keyword z w.0 w.1 w.2 w.3))
    go false d false e false g =
        let u : k ≡ 40 → ⊥ = eqb-false k NumberLiteral d in
        let v : k ≡ 42 → ⊥ = eqb-false k StringLiteral e in
        let w : k ≡ 43 → ⊥ = eqb-false k Identifier g in
        Sort.a_spelling {k = k} (omega arith) u (literal_same (spelling k) (rw (spelled_pattern k u v w) at (f.lexeme h)))

-- the first byte of what fits a kind
pub digit_first : {x : List ℕ} → Matches number x → First digit x
digit_first m = first_part (λ y n. first_part (λ z. first_byte) n) m

pub quote_first : {x : List ℕ} → Matches string x → First (among (bytes "\"")) x
quote_first m = first_part (λ y. first_byte) m

pub letter_first : {x : List ℕ} → Matches identifier x → First letter x
letter_first m = first_part (λ y. first_byte) m

pub spelling_first : {k : ℕ} → k < 42 → (k ≡ NumberLiteral → ⊥) → First (eqb (first (spelling k))) (spelling k)
unfolding spelling
spelling_first {k} h n = first_spelt (spelling k) (all_spelt (λ k. leb 1 (length (spelling k))) tt h n)

-- no text that is empty fits
some_first : {test : ℕ → Bool} {x : List ℕ} → First test x → x ≡ [] → ⊥
some_first f e = let c = f.cut in let z : ◌≡◌ {A = ℕ} 0 1 = cc in omega arith

pub not_empty : {k : ℕ} {x : List ℕ} → Sort x k → x ≡ [] → ⊥
not_empty (Sort.a_number m) e = some_first (digit_first m) e
not_empty (Sort.a_string m) e = some_first (quote_first m) e
not_empty (Sort.a_name m n) e = some_first (letter_first m) e
not_empty (Sort.a_spelling h n s) e = some_first (spelling_first h n) (sym s ∙ e)

-- the first byte of a text that is known to start with b
at_head : {test : ℕ → Bool} {x : List ℕ} (b : ℕ) (xs : List ℕ) → First test x → x ≡ b ∷ xs → T (test b)
at_head b xs f e = let c = f.cut in let z : f.head ≡ b = cc in rw z at f.passed

-- the classes of bytes exclude each other
digit_no_letter : (b : ℕ) → T (digit b) → T (not (letter b))
digit_no_letter b t = let (l, h) = both (leb 48 b) (leb b 57) t in within (λ y. not (letter y)) 48 10 b tt (leb→le 48 b l) (omega (arith, leb→le b 57 h))

quoted : {b : ℕ} → T (among (bytes "\"") b) → b ≡ 34
quoted {b} t = eqb→eq b 34 (rw (or-false (eqb b 34)) at t)

never_both : {A : Type 0} (b : Bool) → b ≡ true → T (not b) → A
never_both b e t = absurd (rw e at t)

module _ {x : List ℕ} (b : ℕ) (xs : List ℕ) (cut : x ≡ b ∷ xs) where
  pub digit_only : {k : ℕ} → digit b ≡ true → Sort x k → (k ≡ NumberLiteral) × Matches number x
  unfolding spelling
  digit_only d (Sort.a_number m) = (refl, m)
  digit_only d (Sort.a_string m) = never_both (digit b) d (member (λ y. not (digit y)) (bytes "\"") b tt (as_true _ (at_head b xs (quote_first m) cut)))
  digit_only d (Sort.a_name m n) = never_both (letter b) (as_true _ (at_head b xs (letter_first m) cut)) (digit_no_letter b (rw d tt))
  digit_only d (Sort.a_spelling {k = k} h n s) = let z = eqb→eq _ b (at_head b xs (spelling_first h n) (sym s ∙ cut)) in never_both (digit b) d (rw z at (all_spelt (λ k. not (digit (first (spelling k)))) tt h n))

  pub quote_only : {k : ℕ} → b ≡ 34 → Sort x k → (k ≡ StringLiteral) × Matches string x
  unfolding spelling
  quote_only q (Sort.a_number m) = absurd (rw q at (at_head b xs (digit_first m) cut))
  quote_only q (Sort.a_string m) = (refl, m)
  quote_only q (Sort.a_name m n) = absurd (rw q at (at_head b xs (letter_first m) cut))
  quote_only q (Sort.a_spelling {k = k} h n s) = let z = eqb→eq _ b (at_head b xs (spelling_first h n) (sym s ∙ cut)) in absurd (rw (z ∙ q) at (all_spelt (λ k. not (eqb (first (spelling k)) 34)) tt h n))

  pub letter_only : {k : ℕ} → letter b ≡ true → Sort x k → Matches identifier x × Word x k
  unfolding spelling matches nullable after
  letter_only l (Sort.a_number m) = never_both (letter b) l (digit_no_letter b (at_head b xs (digit_first m) cut))
  letter_only l (Sort.a_string m) = never_both (letter b) l (member (λ y. not (letter y)) (bytes "\"") b tt (as_true _ (at_head b xs (quote_first m) cut)))
  letter_only l (Sort.a_name m n) = (m, Word.name n)
  letter_only l (Sort.a_spelling {k = k} h n s) =
      let z = eqb→eq _ b (at_head b xs (spelling_first h n) (sym s ∙ cut)) in
      go (rw (z, l) at (all_spelt (λ k. not (letter (first (spelling k))) || (leb 22 k && (leb k 39 && matches identifier (spelling k)))) tt h n))
    where
      go : T (leb 22 k && (leb k 39 && matches identifier (spelling k))) → Matches identifier x × Word x k
      go t =
          let (u, v) = both (leb 22 k) (leb k 39 && matches identifier (spelling k)) t in
          let (w, m) = both (leb k 39) (matches identifier (spelling k)) v in
          (rw s (matches_sound identifier (spelling k) m), Word.keyword (leb→le 22 k u) (leb→le k 39 w) s)

  -- any other byte, alone or with `=`
  pub other_only : {k : ℕ} → OtherByte b → Sort x k → (k < 42) × (k ≡ NumberLiteral → ⊥) × (x ≡ spelling k) × ((x ≡ b ∷ []) ⊎ (x ≡ b ∷ 61 ∷ []))
  unfolding spelling same
  other_only o (Sort.a_number m) = never_both (digit b) (as_true _ (at_head b xs (digit_first m) cut)) (rw o.no_digit tt)
  other_only o (Sort.a_string m) = absurd (o.no_quote (quoted (at_head b xs (quote_first m) cut)))
  other_only o (Sort.a_name m n) = never_both (letter b) (as_true _ (at_head b xs (letter_first m) cut)) (rw o.no_letter tt)
  other_only o (Sort.a_spelling {k = k} h n s) =
      let z = eqb→eq _ b (at_head b xs (spelling_first h n) (sym s ∙ cut)) in
      let d : drop 1 (spelling k) ≡ xs = ap (drop 1) (sym s ∙ cut) in
      (h, n, s, go (same xs []) refl (rw (d, z, o.no_letter) at (all_spelt (λ k. letter (first (spelling k)) || (same (drop 1 (spelling k)) [] || same (drop 1 (spelling k)) (61 ∷ []))) tt h n)))
    where
      go : (a : Bool) → same xs [] ≡ a → T (a || same xs (61 ∷ [])) → (x ≡ b ∷ []) ⊎ (x ≡ b ∷ 61 ∷ [])
      go true e t = inl (cut ∙ ap (λ (l : List ℕ). b ∷ l) (same_means xs [] (rw e tt)))
      go false e t = inr (cut ∙ ap (λ (l : List ℕ). b ∷ l) (same_means xs (61 ∷ []) t))

  -- no token starts with a blank
  pub blank_none : {k : ℕ} → blank b ≡ true → Sort x k → ⊥
  unfolding spelling
  blank_none t (Sort.a_number m) = never_both (digit b) (as_true _ (at_head b xs (digit_first m) cut)) (member (λ y. not (digit y)) blanks b tt t)
  blank_none t (Sort.a_string m) = never_both (blank b) t (member (λ y. not (blank y)) (bytes "\"") b tt (as_true _ (at_head b xs (quote_first m) cut)))
  blank_none t (Sort.a_name m n) = never_both (letter b) (as_true _ (at_head b xs (letter_first m) cut)) (member (λ y. not (letter y)) blanks b tt t)
  blank_none t (Sort.a_spelling {k = k} h n s) = let z = eqb→eq _ b (at_head b xs (spelling_first h n) (sym s ∙ cut)) in never_both (blank b) t (rw z at (all_spelt (λ k. not (blank (first (spelling k)))) tt h n))

-- a text fits one kind at most
pub one_kind : {x : List ℕ} {k l : ℕ} (b : ℕ) (xs : List ℕ) → x ≡ b ∷ xs → Sort x k → Sort x l → k ≡ l
one_kind {x} {k} {l} b xs cut s t = go (digit b) refl (eqb b 34) refl (letter b) refl
  where
    go : (d : Bool) → digit b ≡ d → (q : Bool) → eqb b 34 ≡ q → (a : Bool) → letter b ≡ a → k ≡ l
    go true d q e a f = (digit_only b xs cut d s).0 ∙ sym (digit_only b xs cut d t).0
    go false d true e a f = let z = eqb-true b 34 e in (quote_only b xs cut z s).0 ∙ sym (quote_only b xs cut z t).0
    go false d false e true f = one_word (letter_only b xs cut f s).1 (letter_only b xs cut f t).1
    go false d false e false f =
        let o : OtherByte b = record { no_letter = f; no_digit = d; no_quote = eqb-false b 34 e } in
        let (h, n, y, u) = other_only b xs cut o s in
        let (i, m, z, v) = other_only b xs cut o t in
        one_spelling h n y i m z

-- a byte outside all of these
outside : (low high x : ℕ) → (low ≤ x → high < x) → from_to low high x ≡ false
outside low high x f = go (leb low x) refl
  where
    go : (b : Bool) → leb low x ≡ b → (b && leb x high) ≡ false
    go true e = lt-leb x high (f (leb-true low x e))
    go false e = refl

pub other_byte : (x : ℕ) → (x ≡ 34 → ⊥) → (x ≡ 95 → ⊥) → (48 ≤ x → 57 < x) → (65 ≤ x → 90 < x) → (97 ≤ x → 122 < x) → OtherByte x
other_byte x q u d a z = record { no_letter = rw (outside 97 122 x z, outside 65 90 x a, ne_eqb x 95 u); no_digit = outside 48 57 x d; no_quote = q }
