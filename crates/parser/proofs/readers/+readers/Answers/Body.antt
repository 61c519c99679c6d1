-- A lambda's body: `{` picks a block, any other kind an expression.
use native.Mathlib.Omega.{arith}
use mathlib.Core.Path.{refl}
use Rattle.grammar.specs.Kaori.{kaori, rules as form_rules, body as bodies}
use Rattle.grammar.proofs.Tables.{unkeyed}
use Rattle.reading.proofs.Picks.{picked, picked_as}
use Rattle.parser.proofs.readers.+readers.Goals as goal

pub body-returns-in-20 : goal.body-returns-in-20
unfolding kaori form_rules
body-returns-in-20 t c =
    picked_as _ bodies c.kind_at-kind.ensures
    c.in-20.is refl c.block.ensures

pub body-returns-in_default : goal.body-returns-in_default
unfolding form_rules
body-returns-in_default t c =
    picked _ (unkeyed _ bodies _ refl
    (λ e. omega arith))
    c.expression.ensures
