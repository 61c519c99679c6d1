-- `is_letter_or_digit` meets its contract, by the byte's class.
use Prim.Native.Nat.{ℕ}
use mathlib.Core.Bool.{not}
use mathlib.Core.Path.{ap, ◌∙◌}
use lib.Dec.{eqb}
use Rattle.lexeme.proofs.Bytes.{other_class}
use Rattle.lexeme.proofs.is_letter_or_digit.Goals as goal

pub returns : goal.returns
returns c = ap (λ (n : ℕ). not (eqb n 0)) c.class.ensures ∙ other_class _
