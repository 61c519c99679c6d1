-- Where the longest match ends. A scan goes from one pattern to what is left of it: from some place on, a text that ends anywhere later matches p from i exactly where it
-- matches q from j (`Becomes`). The longest match of q is then that of p (`ended`).
use Prim.Native.Nat.{ℕ, zero, suc, ◌+◌, ◌-◌, ◌≤◌, ◌<◌}
use mathlib.Core.Bool.{Bool, true, false, cond, or-false}
use mathlib.Core.List.{List, [], ◌∷◌}
use mathlib.Core.Path.{◌≡◌, refl, sym, ap, ◌∙◌}
use native.Mathlib.Omega.{arith}
use lib.Dec.{T, eqb}
use lib.ListN.{length, get_or, take, drop}
use borrow.Author.Tests.{eqb-true, eqb-false}
use Rattle.grammar.specs.Derivative.{matches}
use Rattle.grammar.specs.Pattern.{Pattern, Matches, byte, sequence, many, some, maybe}
use Rattle.grammar.specs.Token.{lexeme}
use Rattle.grammar.proofs.Patterns.{matches_sound, matches_whole}
use Rattle.grammar.specs.Run.{run, Ran}
use Rattle.grammar.proofs.Runs.{run_on}
use Rattle.lexeme.proofs.Runs.{some_read, none_read}
use Rattle.grammar.proofs.Lexemes.{at_first, at_end, lexeme_drop}
use Rattle.grammar.proofs.Matching.{Shy, byte_then, either_says, many_none, many_on, only_empty, shy_nothing, then_nothing, whole_empty}
use Rattle.grammar.proofs.Tests.{as_true}
use Rattle.lexer.specs.Parts.{StretchEnds}

-- a test that is not true is false
pub unmatched : (p : Pattern) (xs : List ℕ) → (Matches p xs → ⊥) → matches p xs ≡ false
unmatched p xs f = go (matches p xs) (λ t. f (matches_sound p xs t))
  where
    go : (b : Bool) → (T b → ⊥) → b ≡ false
    go true g = absurd (g tt)
    go false g = refl

pub matched : (p : Pattern) (xs : List ℕ) → matches p xs ≡ true → Matches p xs
matched p xs e = matches_sound p xs (rw e tt)

pub unlike : {p : Pattern} {xs : List ℕ} → matches p xs ≡ false → Matches p xs → ⊥
unlike {p} {xs} e m = rw e at (matches_whole p xs m)

pub record Becomes (p q : Pattern) (text : List ℕ) (i j : ℕ) : Type 0 where
  pub onward : i ≤ j
  pub alike : (e : ℕ) → j ≤ e → e ≤ length text → matches p (lexeme text i e) ≡ matches q (lexeme text j e)

pub becomes_then : {p q s : Pattern} {text : List ℕ} {i j k : ℕ} → Becomes p q text i j → Becomes q s text j k → Becomes p s text i k
becomes_then b d = record { onward = omega (arith, b.onward, d.onward); alike = λ e h m. b.alike e (omega (arith, d.onward)) m ∙ d.alike e h m }

pub ended : {p q : Pattern} {text : List ℕ} {i j r : ℕ} → Becomes p q text i j → StretchEnds q text j r → StretchEnds p text i r
ended {p} {q} {text} {i} {j} {r} b n =
    record {
      forward = omega (arith, b.onward, n.forward);
      inside = n.inside;
      match = matched p (lexeme text i r) (b.alike r n.forward n.inside ∙ as_true _ (matches_whole q (lexeme text j r) n.match));
      longest = λ e h m. unlike (b.alike e (omega (arith, n.forward)) m ∙ unmatched q (lexeme text j e) (n.longest e h m));
    }

-- the longest match is the empty one
pub stays : {p : Pattern} {text : List ℕ} {i : ℕ} → i ≤ length text → matches p [] ≡ true → ((e : ℕ) → i < e → e ≤ length text → matches p (lexeme text i e) ≡ false) → StretchEnds p text i i
stays {p} {text} {i} h n f = record { forward = omega arith; inside = h; match = matched p (lexeme text i i) (at_end p text i i refl ∙ n); longest = λ e l m. unlike (f e l m) }

-- at the text's end there is no other
pub at_text_end : {p : Pattern} {text : List ℕ} {i : ℕ} → i ≡ length text → matches p [] ≡ true → StretchEnds p text i i
at_text_end h n = stays (omega arith) n (λ e l m. absurd (omega arith))

-- nothing more is asked for
pub ends_nothing : {text : List ℕ} {i : ℕ} → i ≤ length text → StretchEnds Pattern.nothing text i i
ends_nothing {text} {i} h = stays h (whole_empty [] refl) (λ e l m. at_first Pattern.nothing text i e l m ∙ only_empty _ _)

-- what may be left out
maybe_some : (p : Pattern) (text : List ℕ) (i e : ℕ) → i < e → e ≤ length text → matches (maybe p) (lexeme text i e) ≡ matches p (lexeme text i e)
maybe_some p text i e h m = either_says p Pattern.nothing (lexeme text i e) ∙ rw (at_first Pattern.nothing text i e h m, only_empty (get_or text i 0) (lexeme text (i + 1) e)) (or-false _)

maybe_none : (p : Pattern) → matches (maybe p) [] ≡ true
maybe_none p = as_true _ (matches_whole (maybe p) [] (Matches.right Matches.nothing))

pub left_out : {p : Pattern} {text : List ℕ} {i : ℕ} → i ≤ length text → ((e : ℕ) → i < e → e ≤ length text → matches p (lexeme text i e) ≡ false) → StretchEnds (maybe p) text i i
left_out {p} {text} {i} h f = stays h (maybe_none p) (λ e l m. maybe_some p text i e l m ∙ f e l m)

pub put_in : {p : Pattern} {text : List ℕ} {i r : ℕ} → StretchEnds p text i r → StretchEnds (maybe p) text i r
put_in {p} {text} {i} {r} n =
    record { forward = n.forward; inside = n.inside; match = Matches.left n.match; longest = λ e h m. unlike (maybe_some p text i e (omega (arith, n.forward)) m ∙ unmatched p (lexeme text i e) (n.longest e h m)) }

pub taken_out : {p : Pattern} {text : List ℕ} {i r : ℕ} → StretchEnds (maybe p) text i r → (r ≡ i → ⊥) → StretchEnds p text i r
taken_out {p} {text} {i} {r} n apart =
    record {
      forward = n.forward;
      inside = n.inside;
      match = matched p (lexeme text i r) (sym (maybe_some p text i r (omega (arith, n.forward)) n.inside) ∙ as_true _ (matches_whole (maybe p) _ n.match));
      longest = λ e h m x. n.longest e h m (Matches.left x);
    }

-- a first byte that is taken, with what follows it or, where that is missing, not at all
pub taken_on : {p q : Pattern} {text : List ℕ} {i j r : ℕ} → Becomes p q text i j → StretchEnds (maybe q) text j r → (r ≡ j → ⊥) → StretchEnds (maybe p) text i r
taken_on b n apart = put_in (ended b (taken_out n apart))

-- q is missing from j on
pub missing : {q : Pattern} {text : List ℕ} {j r : ℕ} → StretchEnds (maybe q) text j r → r ≡ j → matches q [] ≡ false → (e : ℕ) → j ≤ e → e ≤ length text → matches q (lexeme text j e) ≡ false
missing {q} {text} {j} {r} n z none e h m = go (eqb j e) refl
  where
    go : (b : Bool) → eqb j e ≡ b → matches q (lexeme text j e) ≡ false
    go true y = at_end q text j e (eqb-true j e y) ∙ none
    go false y = let apart : j ≡ e → ⊥ = eqb-false j e y in unmatched q _ (λ x. n.longest e (omega arith) m (Matches.left x))

pub given_back : {p q : Pattern} {text : List ℕ} {i r : ℕ} → i < length text → Becomes p q text i (i + 1) → StretchEnds (maybe q) text (i + 1) r → r ≡ i + 1 → matches q [] ≡ false → StretchEnds (maybe p) text i i
given_back {i = i} h b n z none = left_out (omega arith) (λ e l m. b.alike e (omega arith) m ∙ missing n z none e (omega arith) m)

-- one byte
pub byte_on : {test : ℕ → Bool} {q : Pattern} {text : List ℕ} {i : ℕ} → i < length text → test (get_or text i 0) ≡ true → Becomes (sequence (byte test) q) q text i (i + 1)
byte_on {test} {q} {text} {i} h t = record { onward = omega arith; alike = λ e l m. at_first (sequence (byte test) q) text i e (omega arith) m ∙ byte_then test q _ _ ∙ rw t }

-- bytes of a test, one after the other
module _ {test : ℕ → Bool} {text : List ℕ} {i : ℕ} where
  pub many_more : i < length text → test (get_or text i 0) ≡ true → Becomes (many (byte test)) (many (byte test)) text i (i + 1)
  many_more h t = record { onward = omega arith; alike = λ e l m. at_first (many (byte test)) text i e (omega arith) m ∙ many_on test _ _ ∙ rw t }

  pub many_stop : i ≤ length text → (i < length text → test (get_or text i 0) ≡ false) → StretchEnds (many (byte test)) text i i
  many_stop h f = stays h (many_none (byte test)) (λ e l m. at_first (many (byte test)) text i e l m ∙ many_on test _ _ ∙ rw (f (omega arith)))

-- so many bytes of a test, up to j
pub many_run : {test : ℕ → Bool} {text : List ℕ} {i : ℕ} (n j : ℕ) → j ≡ i + n → j ≤ length text → ((k : ℕ) → k < n → test (get_or text (i + k) 0) ≡ true) → Becomes (many (byte test)) (many (byte test)) text i j
many_run {i = i} zero j e h f = let z : j ≡ i = omega arith in rw z (record { onward = omega arith; alike = λ e l m. refl })
many_run {i = i} (suc n) j e h f =
    let z : j ≡ i + n + 1 = omega arith in
    rw z (becomes_then (many_run n (i + n) refl (omega arith) (λ k l. f k (omega arith))) (many_more {i = i + n} (omega arith) (f n (omega arith))))

-- a run to the text's end is a run to any end past it
run_cut : (test : ℕ → Bool) (xs : List ℕ) (k m : ℕ) → run test (take k xs) ≤ m → m ≤ k → run test (take m xs) ≡ run test (take k xs)
run_cut test xs zero zero h l = refl
run_cut test xs zero (suc m) h l = absurd (omega arith)
run_cut test [] (suc k) zero h l = refl
run_cut test [] (suc k) (suc m) h l = refl
run_cut test (x ∷ xs) (suc k) zero h l = go (test x) h
  where
    go : (b : Bool) → cond b (suc (run test (take k xs))) 0 ≤ 0 → 0 ≡ cond b (suc (run test (take k xs))) 0
    go true h = absurd (omega arith)
    go false h = refl
run_cut test (x ∷ xs) (suc k) (suc m) h l = go (test x) h (λ i. run_cut test xs k m i (omega arith))
  where
    go : (b : Bool) → cond b (suc (run test (take k xs))) 0 ≤ suc m → (run test (take k xs) ≤ m → run test (take m xs) ≡ run test (take k xs)) → cond b (suc (run test (take m xs))) 0 ≡ cond b (suc (run test (take k xs))) 0
    go true h f = ap suc (f (omega arith))
    go false h f = refl

-- what is left of a stretch after a run in it
after_run : {test : ℕ → Bool} (text : List ℕ) (i e r : ℕ) → i ≤ e → e ≤ length text → Ran test text i e r → drop (run test (lexeme text i e)) (lexeme text i e) ≡ lexeme text r e
after_run {test} text i e r h m ran = lexeme_drop text (run test (lexeme text i e)) i e (omega arith) m ∙ ap (λ (n : ℕ). lexeme text n e) (sym ran.counted)

module _ {test : ℕ → Bool} {text : List ℕ} {i r : ℕ} (ran : Ran test text i (length text) r) where
  pub ran_to : (e : ℕ) → i ≤ r → r ≤ e → e ≤ length text → Ran test text i e r
  ran_to e o h m = record { counted = ran.counted ∙ ap (λ n. i + n) (sym (run_cut test (drop i text) (length text - i) (e - i) (omega (arith, ran.counted)) (omega arith))); within = h }

  pub run_forward : i ≤ r
  run_forward = omega (arith, ran.counted)

  pub run_on_some : {q : Pattern} → Shy test q → (r ≡ i → ⊥) → Becomes (sequence (some (byte test)) q) q text i r
  run_on_some {q} shy apart = record { onward = run_forward; alike = λ e h m. let z = ran_to e run_forward h m in some_read test q shy (lexeme text i e) (λ n. apart (omega (arith, z.counted))) ∙ ap (matches q) (after_run text i e r (omega (arith, run_forward)) m z) }

  pub run_none : {q : Pattern} → Shy test q → r ≡ i → (e : ℕ) → i ≤ e → e ≤ length text → matches (sequence (some (byte test)) q) (lexeme text i e) ≡ false
  run_none {q} shy z e h m = let y = ran_to e run_forward (omega arith) m in none_read test q shy (lexeme text i e) (omega (arith, y.counted))

  -- a run that is all, or none
  pub run_ends : StretchEnds (maybe (some (byte test))) text i r
  run_ends = go (eqb r i) refl
    where
      go : (b : Bool) → eqb r i ≡ b → StretchEnds (maybe (some (byte test))) text i r
      go true y =
          let z : r ≡ i = eqb-true r i y in
          rw z (left_out (omega (arith, ran.within)) (λ e l m. sym (then_nothing (some (byte test)) (lexeme text i e)) ∙ run_none (shy_nothing test) z e (omega arith) m))
      go false y = put_in (ended (record { onward = run_forward; alike = λ e h m. sym (then_nothing (some (byte test)) (lexeme text i e)) ∙ (run_on_some (shy_nothing test) (eqb-false r i y)).alike e h m }) (ends_nothing ran.within))

  pub run_some : i < length text → test (get_or text i 0) ≡ true → r ≡ i → ⊥
  run_some h t z = omega (arith, ran.counted, run_on test text i (length text) (omega arith) h t)
