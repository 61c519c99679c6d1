-- After `else`: `if` picks a conditional, any other kind a block.
use native.Mathlib.Omega.{arith}
use mathlib.Core.Path.{refl}
use Rattle.grammar.specs.Kaori.{kaori, rules as form_rules, branch}
use Rattle.grammar.proofs.Tables.{unkeyed}
use Rattle.reading.proofs.Picks.{picked, picked_as}
use Rattle.parser.proofs.readers.+readers.Goals as goal

pub else_-returns-in-33 : goal.else_-returns-in-33
unfolding kaori form_rules
else_-returns-in-33 t c =
    picked_as _ branch c.kind_at-kind.ensures
    c.in-33.is refl c.if_.ensures

pub else_-returns-in_default : goal.else_-returns-in_default
unfolding form_rules
else_-returns-in_default t c =
    picked _ (unkeyed _ branch _ refl
    (λ e. omega arith))
    c.block.ensures
