-- Ways over links that are settled: to stay, to go by one mark, by two, and one way after another.
use Prim.Native.Nat.{ℕ, ◌+◌, ◌≤◌, ◌<◌}
use native.Mathlib.Decide.{dec_lt, ℕ_discrete}
use native.Mathlib.Omega.{arith}
use mathlib.Core.Bool.{Bool, true}
use mathlib.Core.List.{List}
use mathlib.Core.Path.{◌≡◌, refl, ◌∙◌}
use lib.ListN.{length, get_or, set}
use lib.Seq.{get_or-set_same, get_or-set_other}
use Rattle.checker.specs.Marks.{Settled, Within, Skips}

pub within_self : (base end : ℕ) (ms : List ℕ) → Within base end ms ms
within_self base end ms = record { low = λ i h. refl; high = λ i h. refl }

pub within_both : {base end : ℕ} {a b c : List ℕ} → Within base end a b → Within base end b c → Within base end a c
within_both x y = record { low = λ i h. y.low i h ∙ x.low i h; high = λ i h. y.high i h ∙ x.high i h }

-- one mark that changes
pub within_one : {base end at : ℕ} {ms : List ℕ} (v : ℕ) → at < end → Within base end ms (set ms (base + at) v)
within_one {base} {end} {at} {ms} v h = record { low = λ i l. get_or-set_other ms (base + at) i v 0 (λ e. omega arith); high = λ i l. get_or-set_other ms (base + at) i v 0 (λ e. omega arith) }

-- a mark up to which all links are settled
pub settled_one : {test : ℕ → Bool} {base size at v : ℕ} {ms : List ℕ} → base + at < length ms → ((j : ℕ) → at ≤ j → j < v → test j ≡ true) → Settled test base size ms → Settled test base size (set ms (base + at) v)
settled_one {test} {base} {size} {at} {v} {ms} r f s = record { right = λ k j h l m. elim (ℕ_discrete k at) [ yes e ↦ here k j e l m | no e ↦ s.right k j h l (rw (get_or-set_other ms (base + at) (base + k) v 0 (λ q. e (omega arith))) at m) ] }
  where
    here : (k j : ℕ) → k ≡ at → k ≤ j → j < get_or (set ms (base + at) v) (base + k) 0 → test j ≡ true
    here k j e l m = f j (omega arith) (let m' = rw (e, get_or-set_same ms (base + at) v 0 r) at m in m')

module _ {base at end : ℕ} {ms : List ℕ} where
  pub stopped : Skips base at end ms ms at
  stopped = record { onward = omega arith; within = within_self base end ms; settled = λ test size h s. s; between = λ test size h s j l m. absurd (omega arith) }

  pub jumped : {to : ℕ} → at < end → to ≡ get_or ms (base + at) 0 → at < to → Skips base at end ms ms to
  jumped {to} a e h = record { onward = omega arith; within = within_self base end ms; settled = λ test size k s. s; between = λ test size k s j l m. s.right at j (omega arith) l (rw (← e) m) }

  pub shortened : {to on : ℕ} → to ≡ get_or ms (base + at) 0 → on ≡ get_or ms (base + to) 0 → at < to → to < end → to < on → base + end ≤ length ms → Skips base at end ms (set ms (base + at) on) on
  shortened {to} {on} e f h k l r = record { onward = omega arith; within = within_one on (omega arith); settled = λ test size m s. settled_one (omega arith) (way test size m s) s; between = way }
    where
      way : (test : ℕ → Bool) (size : ℕ) → end ≤ size → Settled test base size ms → (j : ℕ) → at ≤ j → j < on → test j ≡ true
      way test size m s j p q = elim (dec_lt j to) [ yes y ↦ s.right at j (omega arith) p (rw (← e) y) | no y ↦ s.right to j (omega arith) (omega arith) (rw (← f) q) ]

-- one way after another
pub skips_on : {base at end r s : ℕ} {a b c : List ℕ} → Skips base at end a b r → Skips base r end b c s → Skips base at end a c s
skips_on {r = r} x y = record {
  onward = omega (arith, x.onward, y.onward);
  within = within_both x.within y.within;
  settled = λ test size h s. y.settled test size h (x.settled test size h s);
  between = λ test size h s j l m. elim (dec_lt j r) [ yes k ↦ x.between test size h s j l k | no k ↦ y.between test size h (x.settled test size h s) j (omega arith) m ];
}
