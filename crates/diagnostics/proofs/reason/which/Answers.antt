-- `diagnostics::reason::which` meets its contract: each answer is the place of a text.
use borrow.Author.Rules.{rules}
use native.Mathlib.Omega.{arith}
use mathlib.Core.Path.{refl, sym, ◌∙◌}
use Rattle.std.proofs.lemmas.Bool.{eqb-false}
use Rattle.diagnostics.proofs.Places.{byte_at}
use Rattle.diagnostics.proofs.Reasons.{past, at_code, at_byte, at_string}
use Rattle.diagnostics.proofs.reason.which.Goals as goal

pub returns-then-eq : goal.returns-then-eq
returns-then-eq c = at_string c.in-16.is (search rules)

pub returns-else-eq : goal.returns-else-eq
returns-else-eq c = at_byte c.in-16.is (eqb-false _ _ (sym (byte_at _ _ 34 _ _ refl (λ e. omega (arith, e)) c.get.ensures.lookup.0 c.get.ensures.lookup.1) ∙ sym c.eq.ensures ∙ c.if-eq.false))

pub returns-in-0-to-22 : goal.returns-in-0-to-22
returns-in-0-to-22 c = at_code (omega arith) (omega arith)

pub returns-in_default : goal.returns-in_default
returns-in_default c = past (omega arith)
