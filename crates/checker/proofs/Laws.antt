-- Small laws that the passes have in common: of truth values, of a loop that looks for the first row that fails a test, and of marks.
use Prim.Native.Nat.{ℕ, ◌+◌, ◌≤◌, ◌<◌}
use native.Mathlib.Decide.{dec_lt}
use native.Mathlib.Omega.{arith}
use mathlib.Core.Bool.{Bool, true, false, ◌&&◌, ◌||◌}
use mathlib.Core.List.{List}
use mathlib.Core.Path.{◌≡◌, refl}
use lib.ListN.{get_or}
use Rattle.std.specs.Prelude.{Some, None}
use Rattle.checker.specs.Marks.{Settled, Within}
use Rattle.checker.specs.Test.{First}

pub and_false : (x : Bool) {y : Bool} → y ≡ false → (x && y) ≡ false
and_false true e = e
and_false false e = refl

pub and_assoc : (x y z : Bool) → (x && (y && z)) ≡ ((x && y) && z)
and_assoc true y z = refl
and_assoc false y z = refl

pub both_true : (x y : Bool) → (x && y) ≡ true → (x ≡ true) × (y ≡ true)
both_true true y e = (refl, e)
both_true false y e = absurd (let z : ◌≡◌ {A = ℕ} 0 1 = cc in omega arith)

pub true_both : {x y : Bool} → x ≡ true → y ≡ true → (x && y) ≡ true
true_both e f = rw (e, f) refl

pub or_true : (b : Bool) → (b || true) ≡ true
or_true true = refl
or_true false = refl

pub or_false : (b : Bool) → (b || false) ≡ true → b ≡ true
or_false true e = refl
or_false false e = e

pub never : {b : Bool} → b ≡ true → b ≡ false → ⊥
never e f = let z : ◌≡◌ {A = ℕ} 0 1 = cc in omega arith

-- of options
pub some_none : {A : Type 0} {x : A} → Some x ≡ None → ⊥
some_none e = cc

pub some_same : {A : Type 0} {x y : A} → Some x ≡ Some y → x ≡ y
some_same e = cc

-- all rows so far pass a test
pub record Held (test : ℕ → Bool) (i : ℕ) : Type 0 where
  pub all : (j : ℕ) → j < i → test j ≡ true

pub held_none : (test : ℕ → Bool) → Held test 0
held_none test = record { all = λ j h. absurd (omega arith) }

pub held_more : {test : ℕ → Bool} {i : ℕ} → Held test i → test i ≡ true → Held test (i + 1)
held_more {test} {i} h e = record { all = λ j l. elim (dec_lt j i) [ yes k ↦ h.all j k | no k ↦ let q : j ≡ i = omega arith in rw q e ] }

-- so the first that fails it is this one, or there is none
pub found : {test : ℕ → Bool} {n i : ℕ} → i < n → Held test i → test i ≡ false → First test n i
found l h e = record { most = omega arith; before = h.all; fails = λ k. e }

pub none_found : {test : ℕ → Bool} {n i : ℕ} → i ≡ n → Held test i → First test n n
none_found {n = n} e h = record { most = omega arith; before = λ j l. h.all j (omega arith); fails = λ k. absurd (omega arith) }

-- marks that stay, and marks that are zero
pub wider : {base end size : ℕ} {ms ms' : List ℕ} → end ≤ size → Within base end ms ms' → Within base size ms ms'
wider h w = record { low = w.low; high = λ i l. w.high i (omega arith) }

pub settled_same : {test : ℕ → Bool} {base size : ℕ} {ms ms' : List ℕ} → ((k : ℕ) → k < size → get_or ms' (base + k) 0 ≡ get_or ms (base + k) 0) → Settled test base size ms → Settled test base size ms'
settled_same f s = record { right = λ k j h l m. s.right k j h l (rw (f k h) at m) }

pub settled_none : (test : ℕ → Bool) {base size : ℕ} {ms : List ℕ} → ((k : ℕ) → k < size → get_or ms (base + k) 0 ≡ 0) → Settled test base size ms
settled_none test f = record { right = λ k j h l m. absurd (omega (arith, f k h)) }
