-- `wire::output::decimal` meets its contract: one digit is the definition's, and so are the library's of more.
use native.Mathlib.Omega.{arith}
use mathlib.Core.Path.{◌≡◌, ap, ◌∙◌}
use lib.ListN.{length}
use Rattle.wire.specs.Number.{decimal}
use Rattle.wire.proofs.Decimals.{decimal_one, decimal_std}
use Rattle.wire.proofs.output.decimal.Goals as goal

pub returns-then-n-lt10 : goal.returns-then-n-lt10
returns-then-n-lt10 c = rw (decimal_one c.args.n c.if-n-lt10.true) c.put.ensures

pub put-requires : goal.put-requires
put-requires c = omega (arith, c.requires, ap length (decimal_one c.args.n c.if-n-lt10.true))

pub put-requires-2 : goal.put-requires-2
put-requires-2 c = omega (arith, c.requires, ap length (c.as_bytes.ensures.value ∙ c.format.ensures.text ∙ decimal_std c.args.n (omega arith)))

pub returns : goal.returns
returns c =
    let text : c.as_bytes.result.now ≡ decimal c.args.n = c.as_bytes.ensures.value ∙ c.format.ensures.text ∙ decimal_std c.args.n (omega arith) in
    rw text at c.put-2.ensures
