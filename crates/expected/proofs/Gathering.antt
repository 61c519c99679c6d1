-- The set of the kinds under n, kind by kind.
use Prim.Native.Nat.{ℕ, zero, suc, ◌+◌, ◌*◌, ◌%◌, ◌^◌, ◌≤◌, ◌<◌}
use mathlib.Core.Bool.{Bool, true, false, cond}
use mathlib.Core.Path.{◌≡◌, refl, sym, ap, subst, ◌∙◌}
use native.Mathlib.Decide.{dec_lt}
use native.Mathlib.Omega.{arith}
use lib.Dec.{ltb}
use lib.Pow.{pow_mono}
use native.Mathlib.Nat.{pow-succ'}
use native.Mathlib.Numerals.{add-one}
use borrow.Author.Tests.{lt-ltb, le-ltb}
use Rattle.grammar.specs.Edition.{Edition}
use Rattle.grammar.specs.Expected.{gathered}
use Rattle.grammar.specs.Kaori.{Table}
use Rattle.grammar.specs.Label.{Label}
use Rattle.grammar.proofs.Stack.{Stack}
use Rattle.expected.specs.Steps.{Admits, Gathers}

pub record Gathering (e : Edition) (K : Stack Table Label) (n set : ℕ) : Type 0 where
  pub so_far : Gathers e K n set
  pub under : set < 2 ^ n
  pub upto : n ≤ 45

pub none_yet : {e : Edition} {K : Stack Table Label} → Gathering e K 0 0
unfolding gathered
none_yet = record { so_far = record { member = λ x. false; number = refl; right = λ x h. absurd (omega arith) }; under = omega arith; upto = omega arith }

-- one more kind
insert : (ℕ → Bool) → ℕ → Bool → ℕ → Bool
insert f n b x = cond (ltb x n) (f x) b

same_below : (f : ℕ → Bool) (n : ℕ) (b : Bool) (m : ℕ) → m ≤ n → gathered (insert f n b) m ≡ gathered f m
unfolding gathered insert
same_below f n b zero h = refl
same_below f n b (suc m) h = rw (same_below f n b m (omega arith), lt-ltb m n h)

insert_right : {e : Edition} {K : Stack Table Label} (f : ℕ → Bool) (n : ℕ) (b : Bool) → ((x : ℕ) → x < n → Admits e x K (f x)) → Admits e n K b → (x : ℕ) → x < n + 1 → Admits e x K (insert f n b x)
unfolding insert
insert_right {e} {K} f n b h a x l = elim (dec_lt x n) [ yes i ↦ rw (lt-ltb x n i) (h x i) | no i ↦ let j : n ≤ x = omega arith in let d : n ≡ x = omega arith in rw (le-ltb x n j) (subst (λ y. Admits e y K b) d a) ]

insert_at : (f : ℕ → Bool) (n : ℕ) (b : Bool) → insert f n b n ≡ b
unfolding insert
insert_at f n b = rw (le-ltb n n (omega arith))

module _ {e : Edition} {K : Stack Table Label} {n set : ℕ} (g : Gathering e K n set) (h : n < 45) where
  next : (b : Bool) → Admits e n K b → Gathers e K (n + 1) (set + cond b (2 ^ n) 0)
  unfolding gathered
  next b a =
      let f = g.so_far.member in
      let d : n + 1 ≡ suc n = omega arith in
      let q : gathered (insert f n b) (suc n) ≡ gathered f n + cond b (2 ^ n) 0 = rw (same_below f n b n (omega arith), insert_at f n b) in
      let m : set + cond b (2 ^ n) 0 ≡ gathered (insert f n b) (suc n) = ap (λ k. k + cond b (2 ^ n) 0) g.so_far.number ∙ sym q in
      record { member = insert f n b; number = m ∙ ap (gathered (insert f n b)) (sym d); right = insert_right f n b g.so_far.right a }

  double : 2 ^ (n + 1) ≡ 2 ^ n * 2
  double = rw (add-one n) (omega (arith, pow-succ' 2 n))

  shifted : 1 * 2 ^ n % 18446744073709551616 ≡ 2 ^ n
  shifted = let l : 2 ^ n ≤ 2 ^ 45 = pow_mono g.upto in omega (arith, l)

  pub with_kind : Admits e n K true → Gathering e K (n + 1) (set + 1 * 2 ^ n % 18446744073709551616)
  with_kind a = rw shifted (record { so_far = next true a; under = omega (arith, g.under, double); upto = omega arith })

  pub without_kind : Admits e n K false → Gathering e K (n + 1) set
  without_kind a = let z : set + 0 ≡ set = omega arith in record { so_far = rw z at (next false a); under = omega (arith, g.under, double); upto = omega arith }
