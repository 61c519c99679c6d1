-- `is_inside` meets its contract: the whole text matches exactly where what is left does, byte after byte, or two after a backslash.
use mathlib.Core.Path.{◌≡◌}
use lib.ListN.{length}
use Rattle.grammar.specs.Derivative.{matches}
use Rattle.lexeme.specs.Parts.{inside}
use Rattle.lexeme.proofs.is_inside.Given as goal

abbrev pub invariant-loop-left : goal.invariant-loop-left
invariant-loop-left l = matches inside l.word ≡ matches inside l.left

abbrev pub decreases-loop-left : goal.decreases-loop-left
decreases-loop-left l = length l.left
