-- `diagnostics::line::ends_line` meets its contract: each of its three answers is one of the ways to tell whether a line ends.
use native.Mathlib.Omega.{arith}
use mathlib.Core.Bool.{not}
use mathlib.Core.Path.{refl, ap, ◌∙◌}
use Rattle.diagnostics.proofs.Places.{byte_at, newline, return_by, other_byte}
use Rattle.diagnostics.proofs.line.ends_line.Goals as goal

pub returns-in-10 : goal.returns-in-10
returns-in-10 c = newline _ _ c.in-10.is

pub returns-in-13 : goal.returns-in-13
returns-in-13 c = return_by _ _ c.in-13.is (c.ne.ensures ∙ ap not (byte_at _ _ 10 _ _ refl (λ e. omega (arith, e)) c.get.ensures.lookup.0 c.get.ensures.lookup.1))

pub returns-in_default : goal.returns-in_default
returns-in_default c = other_byte _ _ (omega arith) (omega arith)
