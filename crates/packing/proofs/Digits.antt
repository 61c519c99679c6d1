-- What a match over the roles, or the test for a list, says of a role's number.
use Prim.Native.Nat.{ℕ, ◌≤◌, ◌<◌}
use native.Mathlib.Omega.{arith}
use mathlib.Core.Bool.{Bool, false, true≢false}
use native.Mathlib.Decide.{dec_lt}
use mathlib.Core.Logic.{◌⊎◌, inl, inr}
use mathlib.Core.Path.{◌≡◌, refl, sym, ◌∙◌}
use Rattle.std.specs.Prelude.{◌↔◌, IsTrue}
use Rattle.packing.specs.Digits.{digit}
use Rattle.packing.specs.declared.roles.Role.{Role}
use Rattle.packing.specs.declared.roles.Role.TheVariants.{Plain, Child, Letters, Name, Nodes, Names, Entries}

pub lists : {r : Role} → (r ≡ Nodes) ⊎ ((r ≡ Names) ⊎ (r ≡ Entries)) → 4 ≤ digit r
lists (inl e) = rw e (omega arith)
lists (inr (inl e)) = rw e (omega arith)
lists (inr (inr e)) = rw e (omega arith)

pub symbols_least : {r : Role} → (r ≡ Letters) ⊎ (r ≡ Name) → 2 ≤ digit r
symbols_least (inl e) = rw e (omega arith)
symbols_least (inr e) = rw e (omega arith)

pub symbols_most : {r : Role} → (r ≡ Letters) ⊎ (r ≡ Name) → digit r < 4
symbols_most (inl e) = rw e (omega arith)
symbols_most (inr e) = rw e (omega arith)

pub no_names : {r : Role} → (r ≡ Names → ⊥) → digit r ≡ 5 → ⊥
no_names {r = Names} h e = h refl
no_names {r = Plain} h e = omega arith
no_names {r = Child} h e = omega arith
no_names {r = Letters} h e = omega arith
no_names {r = Name} h e = omega arith
no_names {r = Nodes} h e = omega arith
no_names {r = Entries} h e = omega arith

pub no_entries : {r : Role} → (r ≡ Entries → ⊥) → digit r ≡ 6 → ⊥
no_entries {r = Entries} h e = h refl
no_entries {r = Plain} h e = omega arith
no_entries {r = Child} h e = omega arith
no_entries {r = Letters} h e = omega arith
no_entries {r = Name} h e = omega arith
no_entries {r = Nodes} h e = omega arith
no_entries {r = Names} h e = omega arith

pub no_list : {b : Bool} {n : ℕ} → (IsTrue b ↔ 4 ≤ n) → b ≡ false → n < 4
no_list {b} {n} h e = elim (dec_lt n 4) [ yes p ↦ p | no p ↦ absurd (true≢false (sym (h.1 (omega arith)) ∙ e)) ]
