-- `is_letter` meets its contract, by the byte's class.
use Prim.Native.Nat.{ℕ}
use mathlib.Core.Path.{ap, ◌∙◌}
use lib.Dec.{eqb}
use Rattle.lexeme.proofs.Bytes.{letter_class}
use Rattle.lexeme.proofs.is_letter.Goals as goal

pub returns : goal.returns
returns c = ap (λ (n : ℕ). eqb n 2) c.class.ensures ∙ letter_class _
