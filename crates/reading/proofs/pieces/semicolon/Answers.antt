-- `pieces::semicolon` meets its contract: a `;`, a `}`, a statement that needs no `;`, and one that does.
use Prim.Native.Nat.{ℕ}
use borrow.Author.Rules.{rules}
use borrow.Author.Tests.{ne_eqb}
use mathlib.Core.List.{[], ◌∷◌}
use mathlib.Core.Logic.{inl, inr}
use mathlib.Core.Path.{◌≡◌, refl, sym, ◌∙◌}
use types.Run.{OneOf}
use Rattle.grammar.specs.Kaori.{may_end, must_end}
use Rattle.reading.specs.Parts.{ending, Ends}
use Rattle.reading.proofs.pieces.semicolon.Goals as goal

-- the kinds of the last arms
open_ended : {x : ℕ} → OneOf (20 ∷ 28 ∷ 30 ∷ 33 ∷ []) x → ending x ≡ may_end
unfolding ending
open_ended (inl e) = rw e
open_ended (inr (inl e)) = rw e
open_ended (inr (inr (inl e))) = rw e
open_ended (inr (inr (inr e))) = rw e

shut : {x : ℕ} → (OneOf (20 ∷ 28 ∷ 30 ∷ 33 ∷ []) x → ⊥) → ending x ≡ must_end
unfolding ending
shut {x} n = simp (ne_eqb x 20 (λ e. n (inl e)), ne_eqb x 28 (λ e. n (inr (inl e))), ne_eqb x 30 (λ e. n (inr (inr (inl e)))), ne_eqb x 33 (λ e. n (inr (inr (inr e)))))

pub returns-then-kind-eq-SEMICOLON : goal.returns-then-kind-eq-SEMICOLON
unfolding Ends
returns-then-kind-eq-SEMICOLON c = record { says = inl (sym c.kind_at-kind.ensures ∙ c.if-kind-eq-SEMICOLON.true, refl, refl) }

pub returns-then-kind-eq-RIGHT_BRACE : goal.returns-then-kind-eq-RIGHT_BRACE
unfolding Ends
returns-then-kind-eq-RIGHT_BRACE c = record { says = inr (λ e. c.if-kind-eq-SEMICOLON.false (c.kind_at-kind.ensures ∙ e), inl (sym c.kind_at-kind.ensures ∙ c.if-kind-eq-RIGHT_BRACE.true), refl, refl) }

pub returns-in-20 : goal.returns-in-20
unfolding Ends
returns-in-20 c = record { says = inr (λ e. c.if-kind-eq-SEMICOLON.false (c.kind_at-kind.ensures ∙ e), inr (open_ended c.in-20.is), refl, refl) }

pub returns-in_default : goal.returns-in_default
unfolding Ends
returns-in_default c =
    let k = c.kind_at-kind.ensures in
    record { says = (λ e. c.if-kind-eq-SEMICOLON.false (k ∙ e), λ e. c.if-kind-eq-RIGHT_BRACE.false (k ∙ e), shut (search rules), refl) }
