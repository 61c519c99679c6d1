-- `reach::bracket_of` meets its contract: the kinds of the brackets, and any other.
use mathlib.Core.Logic.{inl, inr}
use mathlib.Core.Path.{refl}
use native.Mathlib.Omega.{arith}
use Rattle.lint.specs.Reach.{BracketCase}
use Rattle.lint.proofs.Laws.{no_bracket}
use Rattle.lint.proofs.reach.bracket_of.Goals as goal

pub returns-in-17 : goal.returns-in-17
unfolding BracketCase
returns-in-17 c = elim c.in-17.is [ inl e ↦ rw e (record { says = (refl, refl) }) | inr e ↦ rw e (record { says = (refl, refl) }) ]

pub returns-in-18 : goal.returns-in-18
unfolding BracketCase
returns-in-18 c = elim c.in-18.is [ inl e ↦ rw e (record { says = (refl, refl) }) | inr e ↦ rw e (record { says = (refl, refl) }) ]

pub returns-in_default : goal.returns-in_default
returns-in_default c = no_bracket (grind arith) (grind arith) (grind arith) (grind arith)
