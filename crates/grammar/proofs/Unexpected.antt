-- What is told of a refusal is one answer, and the refused token's kind is not in the set.
use Prim.Native.Nat.{ℕ, ◌≤◌}
use mathlib.Core.Bool.{Bool}
use mathlib.Core.List.{List, []}
use mathlib.Core.Path.{◌≡◌, refl, sym, ◌∙◌}
use native.Mathlib.Omega.{arith}
use Rattle.grammar.specs.Edition.{edition}
use Rattle.grammar.specs.Expected.{CouldStand, Opening, Met, Expects}
use Rattle.grammar.specs.Kind.{Eof}
use Rattle.grammar.specs.Token.{kind}
use Rattle.grammar.proofs.Expected.{stands}
use Rattle.grammar.proofs.Stack.{bars}
use Rattle.grammar.proofs.Stopping.{meets, splits, one_chain}
use Rattle.grammar.proofs.Tests.{same_truth}

pub unexpected : {n : ℕ} {ts : List ℕ} {limit code place : ℕ} → Met n ts limit code place → 8 ≤ code → code ≤ 10 → CouldStand (edition n) (kind ts) place (kind ts place) → ⊥
unexpected {n} m l u c =
    let (M, x, d) = meets m.refusal (λ i. omega arith) [] refl (omega arith) in
    let (J, y, g) = splits x (λ i. omega arith) in
    stands (edition n) y (bars M) g c

pub one_told : {n : ℕ} {ts : List ℕ} {limit code place : ℕ} {f g : ℕ → Bool} {os ps : List Opening} → Expects n ts limit code place f os → Expects n ts limit code place g ps → ((x : ℕ) → x ≤ Eof → f x ≡ g x) × (os ≡ ps)
one_told {f = f} {g = g} (Expects.unread a b m c) (Expects.unread h l k d) = (λ x i. same_truth (f x) (g x) (λ t. (d x i).1 ((c x i).0 t)) (λ t. (c x i).1 ((d x i).0 t)), (one_chain m.refusal k.refusal (λ i. omega arith) (λ i. omega arith)).1)
one_told (Expects.unread a b m c) (Expects.too_deep e k d) = absurd (omega arith)
one_told (Expects.unread a b m c) (Expects.nothing h d) = absurd (h a (omega arith) m)
one_told (Expects.too_deep e m c) (Expects.unread h l k d) = absurd (omega arith)
one_told (Expects.too_deep e m c) (Expects.too_deep h k d) = (λ x i. c x i ∙ sym (d x i), (one_chain m.refusal k.refusal (λ i. omega arith) (λ i. omega arith)).1)
one_told (Expects.too_deep e m c) (Expects.nothing h d) = absurd (h (omega arith) (omega arith) m)
one_told (Expects.nothing h c) (Expects.unread a b k d) = absurd (h a (omega arith) k)
one_told (Expects.nothing h c) (Expects.too_deep e k d) = absurd (h (omega arith) (omega arith) k)
one_told (Expects.nothing h c) (Expects.nothing k d) = (λ x i. c x i ∙ sym (d x i), refl)
