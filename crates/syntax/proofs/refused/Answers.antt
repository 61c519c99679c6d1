-- `refused` meets its contract: its numbers are those that it is given, and no rows.
use mathlib.Core.Path.{refl}
use Rattle.syntax.proofs.refused.Goals as goal

pub returns : goal.returns
returns c = refl
