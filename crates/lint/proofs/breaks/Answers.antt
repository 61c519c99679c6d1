-- `breaks` meets its contract: it looks at one byte after another, up to the last that is asked for or that the text has.
use native.Mathlib.Omega.{arith}
use mathlib.Core.Path.{sym, ◌∙◌}
use Rattle.lint.proofs.Laws.{line_found, no_line}
use Rattle.lint.proofs.breaks.Goals as goal

pub returns-then-ends_line : goal.returns-then-ends_line
returns-then-ends_line c = line_found c.loop-i.invariant (omega (arith, c.min-i-end.ensures)) (sym c.ends_line.ensures ∙ c.if-ends_line.true)

pub returns : goal.returns
returns c = no_line c.loop-i.invariant (omega (arith, c.min-i-end.ensures))
