-- All kept statements, one after another: the built-in names are known first, and then the words of each statement are heard.
use Prim.Native.Nat.{ℕ, zero, suc, ◌*◌, ◌≤◌, ◌<◌}
use native.Mathlib.Decide.{dec_lt}
use native.Mathlib.Omega.{arith}
use mathlib.Core.Bool.{Bool, true, false, cond}
use mathlib.Core.List.{List, [], ◌∷◌, ◌++◌, append-nil, append_assoc}
use mathlib.Core.Path.{◌≡◌, refl, sym, ap, ◌∙◌}
use lib.ListN.{get_or, take}
use borrow.Author.Tests.{eq-eqb, ne_eqb}
use Rattle.grammar.specs.Naming.{height}
use Rattle.grammar.specs.Operator.{place}
use Rattle.grammar.specs.Pattern.{among}
use Rattle.grammar.specs.Room.{symbol_width}
use Rattle.grammar.specs.Rows.{Rows}
use Rattle.parts.specs.Packed.{keeps, statement, kept_upto, spoken_all, upto}
use Rattle.parts.specs.Spoken.{spoken, heard, first_places}
use Rattle.parts.proofs.Words.{among_kept, among_new, place_own, place_behind, upto_length}
use Rattle.parts.proofs.Symbols.{heard_append, first_places_append, upto_once, upto_low, place_below}
use Rattle.packing.specs.Known.{numbered, Heard, Hears, Built, Begins, all_words, HearingAll}

-- the first n symbols are known under their own numbers, and no other
upto_in : (n x : ℕ) → x < n → among (upto n) x ≡ true
unfolding upto
upto_in zero x h = absurd (omega arith)
upto_in (suc n) x h = elim (dec_lt x n) [ yes i ↦ among_kept x (upto n) (n ∷ []) (upto_in n x i) | no i ↦ (let z : x ≡ n = omega arith in rw z (among_new n (upto n))) ]

numbered_own : (n x : ℕ) → x < n → numbered (upto n) x ≡ suc x
unfolding numbered
numbered_own n x h = rw (upto_in n x h, sym (append-nil (upto n)), place_own x n [] h) refl

numbered_other : (n x : ℕ) → n ≤ x → numbered (upto n) x ≡ 0
unfolding numbered
numbered_other n x h = pick (among (upto n) x) refl
  where
    pick : (t : Bool) → among (upto n) x ≡ t → cond (among (upto n) x) (suc (place x (upto n))) 0 ≡ 0
    pick true e = absurd (omega (arith, place_below x (upto n) e, upto_length n, place_behind x n [] h, ap (place x) (append-nil (upto n))))
    pick false e = rw e refl

-- nothing was said yet
pub begun : {s b first : ℕ} {w : Rows} {choice symbols scratch scratch' : List ℕ} → Begins s b w first choice symbols scratch → Built b scratch scratch' → (c : ℕ → Bool) → HearingAll s b symbols c w 0 symbols scratch' b
unfolding kept_upto spoken_all heard first_places
begun {s} {b} {symbols = symbols} h k c = record {
  known = record {
    numbers = λ x l. elim (dec_lt x b) [ yes i ↦ k.known x i ∙ sym (numbered_own b x i) | no i ↦ k.others x (omega arith) ∙ h.zeros x l ∙ sym (numbered_other b x (omega arith)) ];
    many = sym (upto_length b);
    rows = sym (append-nil (take (symbol_width * b) symbols));
    room = h.room;
    once = upto_once b;
    below = upto_low b s h.builtins;
  };
}

-- the words of one statement more
spoken_both : (w : Rows) (is js : List ℕ) → spoken_all w (is ++ js) ≡ spoken_all w is ++ spoken_all w js
unfolding spoken_all
spoken_both w [] js = refl
spoken_both w (i ∷ is) js = ap (λ xs. spoken w (height w) i ++ xs) (spoken_both w is js) ∙ sym (append_assoc (spoken w (height w) i) (spoken_all w is) (spoken_all w js))

words_kept : (c : ℕ → Bool) (w : Rows) (j : ℕ) → c j ≡ true → all_words c w (suc j) ≡ all_words c w j ++ spoken w (height w) (statement w j)
unfolding kept_upto spoken_all
words_kept c w j e = rw e (spoken_both w (kept_upto c w j) (statement w j ∷ []) ∙ ap (λ xs. spoken_all w (kept_upto c w j) ++ xs) (append-nil (spoken w (height w) (statement w j))))

words_dropped : (c : ℕ → Bool) (w : Rows) (j : ℕ) → c j ≡ false → all_words c w (suc j) ≡ all_words c w j
unfolding kept_upto
words_dropped c w j e = rw (e, append-nil (kept_upto c w j)) refl

module _ {s b : ℕ} {ss : List ℕ} {w : Rows} {j : ℕ} {symbols scratch : List ℕ} {known : ℕ} (choice : List ℕ) (h : HearingAll s b ss (keeps choice) w j symbols scratch known) where
  pub statement_heard : {symbols' scratch' : List ℕ} {r : ℕ} → (get_or choice j 0 ≡ 0 → ⊥) → Hears s (spoken w (height w) (statement w j)) symbols scratch known symbols' scratch' r → HearingAll s b ss (keeps choice) w (suc j) symbols' scratch' r
  statement_heard n p =
      let e : keeps choice j ≡ true = rw (ne_eqb (get_or choice j 0) 0 n) refl in
      let xs = all_words (keeps choice) w j in
      record { known = rw (words_kept (keeps choice) w j e, heard_append xs (spoken w (height w) (statement w j)) (upto b), first_places_append xs (spoken w (height w) (statement w j)) (upto b)) (p.says h.known) }

  pub statement_dropped : get_or choice j 0 ≡ 0 → HearingAll s b ss (keeps choice) w (suc j) symbols scratch known
  statement_dropped n =
      let e : keeps choice j ≡ false = rw (eq-eqb (get_or choice j 0) 0 n) refl in
      record { known = rw (words_dropped (keeps choice) w j e) h.known }

  -- some symbols are known
  pub some_heard : Heard s symbols scratch known
  some_heard = record { builtins = b; before = ss; known = _; places = _; hearing = h.known }
