-- `adopt` meets its contract: row by row, each with the parents of the rows before it.
use native.Mathlib.Omega.{arith}
use mathlib.Core.Path.{ap, ◌∙◌}
use Rattle.grammar.specs.Naming.{named_by}
use Rattle.parents.specs.Adopted.{rows, claims}
use Rattle.parents.proofs.Adopting.{begun, room, next, done}
use Rattle.parents.proofs.adopt.Goals as goal

pub loop-row-init : goal.loop-row-init
loop-row-init c = begun _ _ _

pub orphan-requires : goal.orphan-requires
orphan-requires c = room c.requires (omega arith) (omega arith) c.loop-row.invariant

pub family-requires : goal.family-requires
family-requires c = omega (arith, room c.requires (omega arith) (omega arith) c.loop-row.invariant, c.orphan.auto.nodes)

pub loop-row-preserved : goal.loop-row-preserved
loop-row-preserved c =
    let o = c.orphan.ensures in
    let l = c.loop-row in
    let a = c.args in
    next c.requires (omega arith) (omega arith) l.invariant (c.family.ensures ∙ ap (λ xs. claims l.row (named_by (rows xs a.links.now) l.row) xs) o)

pub returns : goal.returns
returns c = done c.requires (omega arith) (omega arith) c.loop-row.invariant
