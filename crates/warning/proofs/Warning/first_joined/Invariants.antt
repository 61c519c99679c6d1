-- `Warning::first_joined` ends: what a row takes last has a lower number.
use Rattle.warning.proofs.Warning.first_joined.Given as goal

abbrev pub decreases-loop-x : goal.decreases-loop-x
decreases-loop-x l = l.above
