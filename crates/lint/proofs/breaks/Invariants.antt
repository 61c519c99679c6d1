-- `breaks` meets its contract: it looks at one byte after another, up to the last that is asked for or that the text has.
use mathlib.Core.Bool.{true}
use mathlib.Core.Path.{◌≡◌}
use Rattle.diagnostics.specs.Line.{ends}
use Rattle.lint.proofs.Laws.{Passed}
use Rattle.lint.proofs.breaks.Given as goal

abbrev pub invariant-loop-i : goal.invariant-loop-i
invariant-loop-i l = Passed (λ j. ends l.text j ≡ true) l.from l.i
