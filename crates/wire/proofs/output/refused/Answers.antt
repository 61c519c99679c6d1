-- `wire::output::refused` meets its contract: its parts one after the other.
use native.Mathlib.Omega.{arith}
use Rattle.diagnostics.proofs.Messages.{text_fits}
use Rattle.spelling.proofs.display.Writing.{joined}
use Rattle.wire.specs.Printed.{refused}
use Rattle.wire.proofs.output.refused.Goals as goal

pub put-requires : goal.put-requires
put-requires c =
    omega (arith, c.requires, c.line-a.ensures.most, c.told-end_of_text.ensures.ends, text_fits c.args.code c.args.expected c.found.result)

pub returns : goal.returns
unfolding refused
returns c = rw c.found.ensures at (joined c.line-a.ensures.put (joined c.told-end_of_text.ensures c.put.ensures))
