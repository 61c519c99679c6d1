-- `cut` meets its contract: each room is cleared, and the numbers are those of the refusal.
use mathlib.Core.Path.{◌∙◌}
use Rattle.syntax.proofs.Finishing.{cut}
use Rattle.syntax.proofs.cut.Goals as goal

pub returns : goal.returns
returns c =
    cut c.clear.ensures
    c.clear-2.ensures
    c.clear-3.ensures c.clear-4.ensures (c.refused.ensures ∙
    rw (c.start_at-start.ensures, c.end_at-end.ensures))
