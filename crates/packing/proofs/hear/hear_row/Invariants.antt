-- `hear_row` meets its contract: a walk with a stack, each step of which takes one from it.
use mathlib.Core.Path.{◌≡◌}
use lib.ListN.{length}
use Rattle.grammar.specs.Naming.{height}
use Rattle.parts.specs.Spoken.{spoken}
use Rattle.packing.specs.Seen.{seen}
use Rattle.packing.proofs.Touring.{Tour, left_steps}
use Rattle.packing.proofs.hear.hear_row.Given as goal

abbrev pub invariant-loop-top : goal.invariant-loop-top
invariant-loop-top l = Tour l.s (seen l.rows) (spoken (seen l.rows) (height (seen l.rows)) l.row) l.initial.symbols l.initial.numbers l.count l.symbols l.numbers l.known l.initial.stack l.stack l.top × (length l.symbols ≡ length l.initial.symbols)

abbrev pub decreases-loop-top : goal.decreases-loop-top
decreases-loop-top l = left_steps (seen l.rows) l.stack l.top
