-- `Role::at` meets its contract: an octal digit of the kind's number, by a test over the 26 kinds and the ten places.
use Prim.Native.Nat.{ℕ, ◌*◌, ◌/◌, ◌^◌, ◌≤◌, ◌<◌}
use native.Mathlib.Omega.{arith}
use mathlib.Core.Bool.{Bool}
use mathlib.Core.Path.{◌≡◌, sym, ◌∙◌}
use lib.Bits.{bit_and}
use lib.Dec.{eqb, eqb→eq}
use Rattle.grammar.proofs.Tests.{passes, within}
use Rattle.packing.specs.Roles.{all_roles, digits, role, table}
use Rattle.packing.proofs.Slots.{role_known}
use Rattle.packing.proofs.roles.Role.at.Goals as goal
use Rattle.packing.proofs.roles.Role.at.Goals.{After-roles}

abbrev right : (kind j : ℕ) → Bool
right k j = eqb (bit_and (all_roles k / 2 ^ (3 * j)) 7) (role k j)

told : (kind j : ℕ) → 1 ≤ kind → kind ≤ 26 → j < 10 → bit_and (all_roles kind / 2 ^ (3 * j)) 7 ≡ role kind j
unfolding all_roles digits role table
told k j l h i = eqb→eq _ _ (within (right k) 0 10 j (within (λ k. passes (right k) 0 10) 1 26 k tt (omega arith) (omega arith)) (omega arith) (omega arith))

-- the digit that is matched
shown : (c : After-roles) → bit_and (c.roles.result / 2 ^ (3 * c.args.j)) 7 ≡ role c.args.kind c.args.j
shown c = rw c.roles.ensures (told c.args.kind c.args.j (omega arith) (omega arith) (omega arith))

pub returns-in-0 : goal.returns-in-0
returns-in-0 c = sym c.in-0.is ∙ shown (goal.at.returns-in-0 c).After-roles

pub returns-in-1 : goal.returns-in-1
returns-in-1 c = sym c.in-1.is ∙ shown (goal.at.returns-in-1 c).After-roles

pub returns-in-2 : goal.returns-in-2
returns-in-2 c = sym c.in-2.is ∙ shown (goal.at.returns-in-2 c).After-roles

pub returns-in-3 : goal.returns-in-3
returns-in-3 c = sym c.in-3.is ∙ shown (goal.at.returns-in-3 c).After-roles

pub returns-in-4 : goal.returns-in-4
returns-in-4 c = sym c.in-4.is ∙ shown (goal.at.returns-in-4 c).After-roles

pub returns-in-5 : goal.returns-in-5
returns-in-5 c = sym c.in-5.is ∙ shown (goal.at.returns-in-5 c).After-roles

pub returns-in_default : goal.returns-in_default
returns-in_default c = omega (arith, shown (goal.at.returns-in_default c).After-roles, role_known c.args.kind c.args.j)
