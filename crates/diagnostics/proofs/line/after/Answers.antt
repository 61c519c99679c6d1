-- `diagnostics::line::after` meets its contract: it does what `next` does.
use native.Mathlib.Omega.{arith}
use mathlib.Core.Path.{sym, ◌∙◌}
use Rattle.diagnostics.proofs.Places.{next_line, next_column, byte_small}
use Rattle.diagnostics.proofs.line.after.Goals as goal

pub overflow_add-result : goal.overflow_add-result
overflow_add-result c = omega (arith, (byte_small c.requires).line)

pub returns-then-ends_line : goal.returns-then-ends_line
returns-then-ends_line c = next_line c.requires (sym c.ends_line.ensures ∙ c.if-ends_line.true)

pub overflow_add-result-2 : goal.overflow_add-result-2
overflow_add-result-2 c = omega (arith, (byte_small c.requires).column)

pub returns : goal.returns
returns c = next_column c.requires (sym c.ends_line.ensures ∙ c.if-ends_line.false)
