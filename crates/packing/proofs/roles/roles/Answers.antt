-- `roles::roles` meets its contract: each arm is a kind, and the last is what the others leave of 26.
use mathlib.Core.Bool.{false, ◌||◌}
use mathlib.Core.List.{List, [], ◌∷◌}
use mathlib.Core.Path.{◌≡◌, refl}
use Prim.Native.Nat.{ℕ, ◌≤◌}
use native.Mathlib.Omega.{arith}
use borrow.Author.Tests.{ne_eqb}
use lib.Dec.{eqb, eqb→eq}
use Rattle.grammar.specs.Pattern.{among}
use Rattle.grammar.proofs.Ranges.{ranged}
use Rattle.grammar.proofs.Tests.{within}
use Rattle.packing.specs.Roles.{all_roles, digits, role, table}
use Rattle.packing.proofs.roles.roles.Goals as goal

-- the kinds that have an arm, the last first, and a kind that is none of them, as the match leaves it
abbrev others : List ℕ
others = 25 ∷ 24 ∷ 23 ∷ 22 ∷ 21 ∷ 20 ∷ 19 ∷ 18 ∷ 17 ∷ 16 ∷ 15 ∷ 14 ∷ 13 ∷ 12 ∷ 11 ∷ 10 ∷ 9 ∷ 8 ∷ 7 ∷ 6 ∷ 5 ∷ 4 ∷ 3 ∷ 2 ∷ 1 ∷ []

abbrev Apart : ℕ → List ℕ → Type 0
Apart x [] = Unit {0}
Apart x (y ∷ ys) = Apart x ys × (x ≡ y → ⊥)

apart : (x : ℕ) (ys : List ℕ) → Apart x ys → among ys x ≡ false
apart x [] h = refl
apart x (y ∷ ys) h = rw (ne_eqb x y h.1) (apart x ys h.0)

last : (kind : ℕ) → 1 ≤ kind → kind ≤ 26 → among others kind ≡ false → 134384128 ≡ all_roles kind
unfolding all_roles digits role table
last kind l h e = eqb→eq _ _ (rw e at (within (λ k. among others k || eqb 134384128 (all_roles k)) 1 26 kind tt (omega arith) (omega arith)))

pub returns-in-1 : goal.returns-in-1
unfolding all_roles digits role table
returns-in-1 c = ranged all_roles (λ x. 134254592) 1 1 c.args.kind tt (omega arith) (omega arith)

pub returns-in-2 : goal.returns-in-2
unfolding all_roles digits role table
returns-in-2 c = ranged all_roles (λ x. 134222336) 2 1 c.args.kind tt (omega arith) (omega arith)

pub returns-in-3 : goal.returns-in-3
unfolding all_roles digits role table
returns-in-3 c = ranged all_roles (λ x. 134222336) 3 1 c.args.kind tt (omega arith) (omega arith)

pub returns-in-4 : goal.returns-in-4
unfolding all_roles digits role table
returns-in-4 c = ranged all_roles (λ x. 134218240) 4 1 c.args.kind tt (omega arith) (omega arith)

pub returns-in-5 : goal.returns-in-5
unfolding all_roles digits role table
returns-in-5 c = ranged all_roles (λ x. 134221824) 5 1 c.args.kind tt (omega arith) (omega arith)

pub returns-in-6 : goal.returns-in-6
unfolding all_roles digits role table
returns-in-6 c = ranged all_roles (λ x. 134222336) 6 1 c.args.kind tt (omega arith) (omega arith)

pub returns-in-7 : goal.returns-in-7
unfolding all_roles digits role table
returns-in-7 c = ranged all_roles (λ x. 134481408) 7 1 c.args.kind tt (omega arith) (omega arith)

pub returns-in-8 : goal.returns-in-8
unfolding all_roles digits role table
returns-in-8 c = ranged all_roles (λ x. 134481408) 8 1 c.args.kind tt (omega arith) (omega arith)

pub returns-in-9 : goal.returns-in-9
unfolding all_roles digits role table
returns-in-9 c = ranged all_roles (λ x. 134481408) 9 1 c.args.kind tt (omega arith) (omega arith)

pub returns-in-10 : goal.returns-in-10
unfolding all_roles digits role table
returns-in-10 c = ranged all_roles (λ x. 134219264) 10 1 c.args.kind tt (omega arith) (omega arith)

pub returns-in-11 : goal.returns-in-11
unfolding all_roles digits role table
returns-in-11 c = ranged all_roles (λ x. 134218752) 11 1 c.args.kind tt (omega arith) (omega arith)

pub returns-in-12 : goal.returns-in-12
unfolding all_roles digits role table
returns-in-12 c = ranged all_roles (λ x. 134217728) 12 1 c.args.kind tt (omega arith) (omega arith)

pub returns-in-13 : goal.returns-in-13
unfolding all_roles digits role table
returns-in-13 c = ranged all_roles (λ x. 134217728) 13 1 c.args.kind tt (omega arith) (omega arith)

pub returns-in-14 : goal.returns-in-14
unfolding all_roles digits role table
returns-in-14 c = ranged all_roles (λ x. 134217728) 14 1 c.args.kind tt (omega arith) (omega arith)

pub returns-in-15 : goal.returns-in-15
unfolding all_roles digits role table
returns-in-15 c = ranged all_roles (λ x. 134234624) 15 1 c.args.kind tt (omega arith) (omega arith)

pub returns-in-16 : goal.returns-in-16
unfolding all_roles digits role table
returns-in-16 c = ranged all_roles (λ x. 134230528) 16 1 c.args.kind tt (omega arith) (omega arith)

pub returns-in-17 : goal.returns-in-17
unfolding all_roles digits role table
returns-in-17 c = ranged all_roles (λ x. 134220800) 17 1 c.args.kind tt (omega arith) (omega arith)

pub returns-in-18 : goal.returns-in-18
unfolding all_roles digits role table
returns-in-18 c = ranged all_roles (λ x. 152307200) 18 1 c.args.kind tt (omega arith) (omega arith)

pub returns-in-19 : goal.returns-in-19
unfolding all_roles digits role table
returns-in-19 c = ranged all_roles (λ x. 134253056) 19 1 c.args.kind tt (omega arith) (omega arith)

pub returns-in-20 : goal.returns-in-20
unfolding all_roles digits role table
returns-in-20 c = ranged all_roles (λ x. 134252544) 20 1 c.args.kind tt (omega arith) (omega arith)

pub returns-in-21 : goal.returns-in-21
unfolding all_roles digits role table
returns-in-21 c = ranged all_roles (λ x. 134255104) 21 1 c.args.kind tt (omega arith) (omega arith)

pub returns-in-22 : goal.returns-in-22
unfolding all_roles digits role table
returns-in-22 c = ranged all_roles (λ x. 134222336) 22 1 c.args.kind tt (omega arith) (omega arith)

pub returns-in-23 : goal.returns-in-23
unfolding all_roles digits role table
returns-in-23 c = ranged all_roles (λ x. 134218240) 23 1 c.args.kind tt (omega arith) (omega arith)

pub returns-in-24 : goal.returns-in-24
unfolding all_roles digits role table
returns-in-24 c = ranged all_roles (λ x. 134217728) 24 1 c.args.kind tt (omega arith) (omega arith)

pub returns-in-25 : goal.returns-in-25
unfolding all_roles digits role table
returns-in-25 c = ranged all_roles (λ x. 134217728) 25 1 c.args.kind tt (omega arith) (omega arith)

pub returns-in_default : goal.returns-in_default
unfolding all_roles digits role table
returns-in_default c = last c.args.kind (omega arith) (omega arith) (apart c.args.kind others c.in_default.in_default-own.rest)
