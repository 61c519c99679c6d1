-- `spelled` meets its contract: slices are compared as lists, and the table's part is the kind's spelling.
use mathlib.Core.Path.{sym, ◌∙◌}
use Rattle.spelling.proofs.Deciding.{carried}
use Rattle.spelling.proofs.spelled.Goals as goal

pub returns : goal.returns
returns c = let e = c.spelling_of.ensures in carried (λ z. z ∙ e) (λ z. z ∙ sym e) c.same.ensures
