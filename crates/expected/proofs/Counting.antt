-- The number of a set: how many digits of it are set, and which is the lowest.
use Prim.Native.Nat.{ℕ, zero, suc, ◌+◌, ◌*◌, ◌/◌, ◌%◌, ◌^◌, ◌≤◌, ◌<◌}
use mathlib.Core.Bool.{Bool, true, false, cond}
use mathlib.Core.Path.{◌≡◌, refl, sym, ap, ◌∙◌}
use native.Mathlib.Decide.{ℕ_discrete}
use native.Mathlib.Omega.{arith}
use lib.Count.{ones_in, ones, ones_cat, under, count_trailing_zeros}
use lib.Dec.{eqb}
use native.Mathlib.Nat.{pow-suc}
use borrow.Author.Tests.{eq-eqb, ne_eqb}
use Rattle.grammar.specs.Expected.{gathered, how_many, lowest_from}
use Rattle.expected.specs.Parts.{lowest_of}

-- the digits under n are all
pub under_power : (f : ℕ → Bool) (n : ℕ) → gathered f n < 2 ^ n
unfolding gathered
under_power f zero = omega arith
under_power f (suc n) = go (f n) (under_power f n)
  where
    go : (b : Bool) → gathered f n < 2 ^ n → gathered f n + cond b (2 ^ n) 0 < 2 ^ suc n
    go true h = rw (pow-suc 2 n) (omega arith)
    go false h = rw (pow-suc 2 n) (omega arith)

-- how many
pub count_right : (f : ℕ → Bool) (n : ℕ) → ones (gathered f n) ≡ how_many f n
unfolding gathered how_many ones ones_in
count_right f zero = refl
count_right f (suc n) = go (f n) (count_right f n)
  where
    go : (b : Bool) → ones (gathered f n) ≡ how_many f n → ones (gathered f n + cond b (2 ^ n) 0) ≡ how_many f n + cond b 1 0
    go true h = let e : gathered f n + 2 ^ n ≡ 1 * 2 ^ n + gathered f n = omega arith in ap ones e ∙ ones_cat n 1 (gathered f n) (under_power f n) ∙ omega (arith, h)
    go false h = let e : gathered f n + 0 ≡ gathered f n = omega arith in ap ones e ∙ h ∙ omega arith

-- the same, the lowest digit apart
low_first : (f : ℕ → Bool) (n : ℕ) → gathered f (suc n) ≡ cond (f 0) 1 0 + 2 * gathered (λ i. f (suc i)) n
unfolding gathered
low_first f zero = omega arith
low_first f (suc n) = go (f (suc n)) (low_first f n)
  where
    go : (b : Bool) → gathered f (suc n) ≡ cond (f 0) 1 0 + 2 * gathered (λ i. f (suc i)) n → gathered f (suc n) + cond b (2 ^ suc n) 0 ≡ cond (f 0) 1 0 + 2 * (gathered (λ i. f (suc i)) n + cond b (2 ^ n) 0)
    go true h = rw (pow-suc 2 n) (omega arith)
    go false h = omega arith

-- the lowest, of the kinds from j on
low_right : (g : ℕ → Bool) (j n k : ℕ) → n ≤ k → (f : ℕ → Bool) → ((i : ℕ) → f i ≡ g (j + i)) → cond (eqb (gathered f n) 0) 255 (j + count_trailing_zeros k (gathered f n)) ≡ lowest_from g j n
unfolding gathered lowest_from count_trailing_zeros
low_right g j zero k h f e = refl
low_right g j (suc n) zero h f e = absurd (omega arith)
low_right g j (suc n) (suc k) h f e = go (f 0) refl (low_right g (suc j) n k (omega arith) (λ i. f (suc i)) later)
  where
    on : ℕ → Bool
    on i = f (suc i)

    half : ℕ
    half = gathered on n

    here : f 0 ≡ g j
    here = let d : j + 0 ≡ j = omega arith in e 0 ∙ ap g d

    later : (i : ℕ) → on i ≡ g (suc j + i)
    later i = let d : j + suc i ≡ suc j + i = omega arith in e (suc i) ∙ ap g d

    set : (m : ℕ) → m ≡ 1 + 2 * half → cond (eqb m 0) 255 (j + under (m % 2) (count_trailing_zeros k (m / 2))) ≡ j
    set m d = let o : m % 2 ≡ 1 = omega arith in rw (ne_eqb m 0 (λ z. absurd (omega (arith, z, d))), o) (omega arith)

    unset : (m : ℕ) → m ≡ 2 * half → cond (eqb m 0) 255 (j + under (m % 2) (count_trailing_zeros k (m / 2))) ≡ cond (eqb half 0) 255 (suc j + count_trailing_zeros k half)
    unset m d = let o : m % 2 ≡ 0 = omega arith in let q : m / 2 ≡ half = omega arith in let i : eqb m 0 ≡ eqb half 0 = elim (ℕ_discrete half 0) [ yes z ↦ eq-eqb m 0 (omega (arith, z, d)) ∙ sym (eq-eqb half 0 z) | no z ↦ ne_eqb m 0 (λ w. z (omega (arith, w, d))) ∙ sym (ne_eqb half 0 z) ] in rw (i, o, q) (ap (cond (eqb half 0) 255) (omega arith))

    go : (b : Bool) → f 0 ≡ b → cond (eqb half 0) 255 (suc j + count_trailing_zeros k half) ≡ lowest_from g (suc j) n → cond (eqb (gathered f (suc n)) 0) 255 (j + count_trailing_zeros (suc k) (gathered f (suc n))) ≡ lowest_from g j (suc n)
    go true t i = set (gathered f (suc n)) (low_first f n ∙ ap (λ b. cond b 1 0 + 2 * half) t) ∙ sym (ap (λ b. cond b j (lowest_from g (suc j) n)) (sym here ∙ t))
    go false t i = unset (gathered f (suc n)) (low_first f n ∙ ap (λ b. cond b 1 0 + 2 * half) t ∙ omega arith) ∙ i ∙ sym (ap (λ b. cond b j (lowest_from g (suc j) n)) (sym here ∙ t))

pub lowest_right : (f : ℕ → Bool) → lowest_of (gathered f 45) ≡ lowest_from f 0 45
unfolding lowest_of
lowest_right f =
    let m = gathered f 45 in
    let d : count_trailing_zeros 64 m ≡ 0 + count_trailing_zeros 64 m = omega arith in
    ap (cond (eqb m 0) 255) d ∙ low_right f 0 45 64 (omega arith) f (λ i. let o : i ≡ 0 + i = omega arith in ap f o)
