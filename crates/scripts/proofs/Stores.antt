-- Numbers that are stored one after another from a room's start.
use Prim.Native.Nat.{ℕ, ◌+◌, ◌≤◌, ◌<◌}
use native.Mathlib.Omega.{arith}
use mathlib.Core.List.{List, [], ◌∷◌, ◌++◌}
use mathlib.Core.Path.{◌≡◌}
use lib.ListN.{length, set, drop}
use Rattle.ast.specs.Written.{Written}
use Rattle.ast.proofs.Rooms.{unwritten, stored, joined, whole}

-- one number more
pub more : {a b : ℕ} {xs l m : List ℕ} (x : ℕ) → b < length l → Written a b xs l m → Written a (b + 1) (xs ++ x ∷ []) l (set m b x)
more {b = b} {m = m} x h w = joined (omega arith) w (stored m b x (rw w.size h))

module _ (l : List ℕ) (x₀ x₁ x₂ : ℕ) where
  pub first_three : 3 ≤ length l → Written 0 3 (x₀ ∷ x₁ ∷ x₂ ∷ []) l (set (set (set l 0 x₀) 1 x₁) 2 x₂)
  first_three h = more x₂ (omega arith) (more x₁ (omega arith) (more x₀ (omega arith) (unwritten 0 l)))

  pub three : 3 ≤ length l → set (set (set l 0 x₀) 1 x₁) 2 x₂ ≡ x₀ ∷ x₁ ∷ x₂ ∷ drop 3 l
  three h = whole (first_three h)

  pub eight : (x₃ x₄ x₅ x₆ x₇ : ℕ) → 8 ≤ length l → set (set (set (set (set (set (set (set l 0 x₀) 1 x₁) 2 x₂) 3 x₃) 4 x₄) 5 x₅) 6 x₆) 7 x₇ ≡ x₀ ∷ x₁ ∷ x₂ ∷ x₃ ∷ x₄ ∷ x₅ ∷ x₆ ∷ x₇ ∷ drop 8 l
  eight x₃ x₄ x₅ x₆ x₇ h = whole (more x₇ (omega arith) (more x₆ (omega arith) (more x₅ (omega arith) (more x₄ (omega arith) (more x₃ (omega arith) (first_three (omega arith)))))))
