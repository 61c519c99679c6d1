-- A run of bytes in a lexeme, as patterns take it: whole, and what is left of the lexeme after it is left to match.
use Prim.Native.Nat.{ℕ, suc, ◌+◌, ◌≤◌, ◌<◌}
use mathlib.Core.Bool.{Bool, true, false, cond, ◌&&◌, ◌||◌, or-false}
use mathlib.Core.List.{List, [], ◌∷◌}
use mathlib.Core.Path.{◌≡◌, refl, sym, ap, ◌∙◌}
use native.Mathlib.Omega.{arith}
use borrow.Author.Tests.{lt-ltb, le-ltb}
use lib.Dec.{ltb}
use lib.ListN.{length, drop}
use Rattle.grammar.specs.Derivative.{matches, nullable}
use Rattle.grammar.specs.Pattern.{Pattern, byte, sequence, many, some}
use Rattle.grammar.proofs.Matching.{Shy, regroup, many_then, many_on, many_none, byte_then, no_byte}
use Rattle.grammar.specs.Run.{run}
use Rattle.std.specs.List.{list_all, prefix_len}

-- a run is taken whole before what is shy of its bytes
module _ (test : ℕ → Bool) (q : Pattern) (shy : Shy test q) where
  pub run_then : (xs : List ℕ) → matches (sequence (many (byte test)) q) xs ≡ matches q (drop (run test xs) xs)
  unfolding matches nullable
  run_then [] = refl
  run_then (x ∷ xs) = many_then (byte test) q (x ∷ xs) ∙ rw (byte_then test (sequence (many (byte test)) q) x xs) (go (test x) refl (run_then xs))
    where
      go : (b : Bool) → test x ≡ b → matches (sequence (many (byte test)) q) xs ≡ matches q (drop (run test xs) xs) → ((b && matches (sequence (many (byte test)) q) xs) || matches q (x ∷ xs)) ≡ matches q (drop (cond b (suc (run test xs)) 0) (x ∷ xs))
      go true e h = rw (shy.start x xs e, or-false) h
      go false e h = refl

  pub some_then : (xs : List ℕ) → matches (sequence (some (byte test)) q) xs ≡ (ltb 0 (run test xs) && matches q (drop (run test xs) xs))
  some_then xs = regroup (byte test) (many (byte test)) q xs ∙ go xs
    where
      step : (x : ℕ) (xs : List ℕ) (b : Bool) → (b && matches q (drop (run test xs) xs)) ≡ (ltb 0 (cond b (suc (run test xs)) 0) && matches q (drop (cond b (suc (run test xs)) 0) (x ∷ xs)))
      step x xs true = rw (lt-ltb 0 (suc (run test xs)) (omega arith))
      step x xs false = refl

      go : (xs : List ℕ) → matches (sequence (byte test) (sequence (many (byte test)) q)) xs ≡ (ltb 0 (run test xs) && matches q (drop (run test xs) xs))
      go [] = no_byte test (sequence (many (byte test)) q)
      go (x ∷ xs) = rw (byte_then test (sequence (many (byte test)) q) x xs, run_then xs) (step x xs (test x))

-- where a run was read, what follows it is what is left to match
module _ (test : ℕ → Bool) (q : Pattern) (shy : Shy test q) (xs : List ℕ) where
  pub some_read : (run test xs ≡ 0 → ⊥) → matches (sequence (some (byte test)) q) xs ≡ matches q (drop (run test xs) xs)
  some_read apart = some_then test q shy xs ∙ rw (lt-ltb 0 (run test xs) (omega arith))

  pub none_read : run test xs ≡ 0 → matches (sequence (some (byte test)) q) xs ≡ false
  none_read e = some_then test q shy xs ∙ rw (le-ltb 0 (run test xs) (omega arith))

-- all bytes pass, or all of at least one
module _ (test : ℕ → Bool) where
  pub many_all : (xs : List ℕ) → list_all test xs ≡ matches (many (byte test)) xs
  many_all [] = sym (many_none (byte test))
  many_all (x ∷ xs) = ap (λ b. test x && b) (many_all xs) ∙ sym (many_on test x xs)

  pub some_all : (xs : List ℕ) → 0 < length xs → list_all test xs ≡ matches (some (byte test)) xs
  some_all [] h = absurd (omega arith)
  some_all (x ∷ xs) h = ap (λ b. test x && b) (many_all xs) ∙ sym (byte_then test (many (byte test)) x xs)

  -- a run is what `take_while` takes, and is no longer than the text
  pub run_prefix : (xs : List ℕ) → prefix_len test xs ≡ run test xs
  run_prefix [] = refl
  run_prefix (x ∷ xs) = go (test x) (run_prefix xs)
    where
      go : (b : Bool) → prefix_len test xs ≡ run test xs → cond b (1 + prefix_len test xs) 0 ≡ cond b (suc (run test xs)) 0
      go true e = omega arith
      go false e = refl

  pub run_within : (xs : List ℕ) → run test xs ≤ length xs
  run_within [] = omega arith
  run_within (x ∷ xs) = go (test x) (run_within xs)
    where
      go : (b : Bool) → run test xs ≤ length xs → cond b (suc (run test xs)) 0 ≤ suc (length xs)
      go true h = omega arith
      go false h = omega arith
