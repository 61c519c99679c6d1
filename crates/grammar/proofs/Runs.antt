-- A run of bytes in a lexeme: where it goes on and where it stops, what a loop over it keeps, and which of its bytes pass the test.
use Prim.Native.Nat.{ℕ, zero, suc, ◌+◌, ◌-◌, ◌≤◌, ◌<◌}
use mathlib.Core.Bool.{Bool, true, false, cond}
use mathlib.Core.List.{List, [], ◌∷◌}
use mathlib.Core.Path.{◌≡◌, refl, sym, ap, ◌∙◌}
use native.Mathlib.Omega.{arith}
use lib.ListN.{length, get_or}
use Rattle.grammar.specs.Token.{lexeme}
use Rattle.grammar.specs.Run.{run, Ran}
use Rattle.grammar.proofs.Lexemes.{part_at, lexeme_none, lexeme_first, lexeme_length}

module _ (test : ℕ → Bool) (text : List ℕ) (at end : ℕ) (fits : end ≤ length text) where
  pub run_on : at < end → test (get_or text at 0) ≡ true → run test (lexeme text at end) ≡ suc (run test (lexeme text (at + 1) end))
  run_on h e = rw (lexeme_first text at end h fits, e)

  pub run_stops : at < end → test (get_or text at 0) ≡ false → run test (lexeme text at end) ≡ 0
  run_stops h e = rw (lexeme_first text at end h fits, e)

-- a loop has come as far as `at`: what is counted from the start is what is passed and what is counted from here
pub record Running (test : ℕ → Bool) (text : List ℕ) (start end at : ℕ) : Type 0 where
  pub within : at ≤ end
  pub counted : start + run test (lexeme text start end) ≡ at + run test (lexeme text at end)

pub begun : {test : ℕ → Bool} {text : List ℕ} {start end : ℕ} → start ≤ end → Running test text start end start
begun h = record { within = h; counted = refl }

module _ {test : ℕ → Bool} {text : List ℕ} {start end at : ℕ} (fits : end ≤ length text) (so_far : Running test text start end at) where
  pub goes_on : at < end → test (get_or text at 0) ≡ true → Running test text start end (at + 1)
  goes_on h e = record { within = omega arith; counted = omega (arith, so_far.counted, run_on test text at end fits h e) }

  pub stops : at < end → test (get_or text at 0) ≡ false → Ran test text start end at
  stops h e = record { counted = omega (arith, so_far.counted, run_stops test text at end fits h e); within = so_far.within }

  pub is_over : end ≤ at → Ran test text start end at
  is_over h = record { counted = omega (arith, so_far.counted, none); within = so_far.within }
    where
      none : run test (lexeme text at end) ≡ 0
      none = rw (lexeme_none text at end (omega (arith, so_far.within, h))) refl

-- the bytes of a run pass the test, and the byte after it does not
module _ (test : ℕ → Bool) where
  passes : (xs : List ℕ) (n : ℕ) → n < run test xs → test (get_or xs n 0) ≡ true
  passes [] n h = absurd (omega arith)
  passes (x ∷ xs) n h = go (test x) refl n h (passes xs)
    where
      go : (b : Bool) → test x ≡ b → (n : ℕ) → n < cond b (suc (run test xs)) 0 → ((n : ℕ) → n < run test xs → test (get_or xs n 0) ≡ true) → test (get_or (x ∷ xs) n 0) ≡ true
      go true e zero h f = e
      go true e (suc n) h f = f n (omega arith)
      go false e n h f = absurd (omega arith)

  fails : (xs : List ℕ) → run test xs < length xs → test (get_or xs (run test xs) 0) ≡ false
  fails [] h = absurd (omega arith)
  fails (x ∷ xs) h = go (test x) refl h (fails xs)
    where
      go : (b : Bool) → test x ≡ b → cond b (suc (run test xs)) 0 < suc (length xs) → (run test xs < length xs → test (get_or xs (run test xs) 0) ≡ false) → test (get_or (x ∷ xs) (cond b (suc (run test xs)) 0) 0) ≡ false
      go true e h f = f (omega arith)
      go false e h f = e

module _ {test : ℕ → Bool} {text : List ℕ} {start end r : ℕ} (ran : Ran test text start end r) where
  pub run_passes : (n : ℕ) → start + n < r → test (get_or text (start + n) 0) ≡ true
  run_passes n h = sym (ap test (part_at text start (end - start) n (omega (arith, ran.within)))) ∙ passes test (lexeme text start end) n (omega (arith, ran.counted))

  pub run_fails : start ≤ end → end ≤ length text → r < end → test (get_or text r 0) ≡ false
  run_fails h fits l =
      let n = run test (lexeme text start end) in
      rw ran.counted (sym (ap test (part_at text start (end - start) n (omega (arith, ran.counted)))) ∙ fails test (lexeme text start end) (omega (arith, ran.counted, lexeme_length text start end h fits)))
