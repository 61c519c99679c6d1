-- `take_two` meets its contract: two claims.
use mathlib.Core.Path.{ap, ◌∙◌}
use Rattle.parents.specs.Adopted.{claim, claims}
use Rattle.parents.proofs.take_two.Goals as goal

pub returns : goal.returns
unfolding claims
returns c =
    let a = c.args in
    c.take-2.ensures ∙ ap (claim a.row a.y) c.take.ensures
