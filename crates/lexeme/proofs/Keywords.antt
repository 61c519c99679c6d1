-- The keywords by their slots: which one a text can be, by tests that the checker computes over the 18 keywords and over the 64 slots.
use Prim.Native.Nat.{ℕ, ◌+◌, ◌-◌, ◌≤◌, ◌<◌}
use mathlib.Core.Bool.{Bool, true, false, ◌&&◌, ◌||◌}
use mathlib.Core.List.{List}
use mathlib.Core.Path.{◌≡◌, refl, sym, ap, ◌∙◌}
use native.Mathlib.Omega.{arith}
use lib.Dec.{T, eqb, leb, leb→le, eqb→eq}
use lib.ListN.{length, get_or}
use borrow.Author.Tests.{eqb-true}
use Rattle.grammar.specs.Kind.{And, Nil, Identifier}
use Rattle.grammar.specs.Lexeme.{spelling}
use Rattle.grammar.specs.Token.{lexeme}
use Rattle.grammar.proofs.Lexemes.{part_at, lexeme_length}
use Rattle.grammar.proofs.Tests.{both, within}
use Rattle.spelling.specs.Words.{slot, slot_of, key}
use Rattle.spelling.proofs.Spellings.{no_spelling, one_spelling}
use Rattle.lexeme.specs.Parts.{Keyword, Word}

-- the keyword that has the slot of a text
abbrev pub key_of : List ℕ → ℕ
key_of x = key (slot_of x)

-- each keyword has its slot for itself
own_slot : (w : ℕ) → And ≤ w → w ≤ Nil → key_of (spelling w) ≡ w
unfolding spelling key
own_slot w l h = eqb→eq (key_of (spelling w)) w (within (λ k. eqb (key_of (spelling k)) k) And 18 w tt l (omega arith))

-- and where no keyword has a slot, Identifier stands
keyed : (s : ℕ) → s < 64 → T (eqb (key s) Identifier || (leb And (key s) && leb (key s) Nil))
unfolding spelling key
keyed s h = within (λ i. eqb (key i) Identifier || (leb And (key i) && leb (key i) Nil)) 0 64 s tt (omega arith) (omega arith)

-- the bytes of a part of a text that decide its slot
pub key_between : (text : List ℕ) (start end : ℕ) → start < end → end ≤ length text → key_of (lexeme text start end) ≡ key (slot (get_or text start 0) (get_or text (end - 1) 0))
key_between text start end h m =
    let n = end - start in
    let z : start + (n - 1) ≡ end - 1 = omega arith in
    let o : start + 0 ≡ start = omega arith in
    rw (lexeme_length text start end (omega arith) m, part_at text start n 0 (omega arith), part_at text start n (n - 1) (omega arith), z, o)

module _ (x : List ℕ) where
  -- every keyword has two bytes or more
  pub too_short : length x < 2 → Keyword x → ⊥
  unfolding spelling
  too_short s (w, l, h, e) = omega (arith, ap length e, leb→le 2 (length (spelling w)) (within (λ k. leb 2 (length (spelling k))) And 18 w tt l (omega arith)))

  -- a text that is spelt as the keyword of its slot is that one
  pub spelt_so : {k : ℕ} → k ≡ key_of x → 1 ≤ length x → x ≡ spelling k → Word x k
  spelt_so {k} z n e = go (eqb k Identifier) refl (rw (sym z) at (keyed (slot_of x) (omega arith)))
    where
      go : (b : Bool) → eqb k Identifier ≡ b → T (b || (leb And k && leb k Nil)) → Word x k
      go true i t = absurd (omega (arith, ap length (e ∙ no_spelling k (omega (arith, eqb-true k Identifier i)))))
      go false i t = let (u, v) = both (leb And k) (leb k Nil) t in Word.keyword (leb→le And k u) (leb→le k Nil v) e

  -- and one that is not is no keyword
  pub spelt_otherwise : {k : ℕ} → k ≡ key_of x → (x ≡ spelling k → ⊥) → Word x Identifier
  spelt_otherwise {k} z n = Word.name go
    where
      go : Keyword x → ⊥
      go (w, l, h, e) = n (e ∙ ap spelling (sym (own_slot w l h) ∙ ap key_of (sym e) ∙ sym z))

module _ {x : List ℕ} where
  -- a keyword, or none
  pub word_keyword : {k : ℕ} → Word x k → (k ≡ Identifier → ⊥) → Keyword x
  word_keyword (Word.keyword {k = k} l h e) n = (k, l, h, e)
  word_keyword (Word.name f) n = absurd (n refl)

  pub word_name : {k : ℕ} → Word x k → k ≡ Identifier → Keyword x → ⊥
  word_name (Word.keyword l h e) n = absurd (omega arith)
  word_name (Word.name f) n = f

-- two outcomes of `keyword` are equal
pub one_word : {x : List ℕ} {k l : ℕ} → Word x k → Word x l → k ≡ l
one_word (Word.keyword l h e) (Word.keyword m i f) = one_spelling (omega arith) (λ z. omega arith) e (omega arith) (λ z. omega arith) f
one_word (Word.keyword {k = k} l h e) (Word.name n) = absurd (n (k, l, h, e))
one_word (Word.name n) (Word.keyword {k = k} l h e) = absurd (n (k, l, h, e))
one_word (Word.name n) (Word.name m) = refl
