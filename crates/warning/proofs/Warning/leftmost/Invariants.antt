-- `Warning::leftmost` ends: a left operand has a lower number than its row.
use Rattle.warning.proofs.Warning.leftmost.Given as goal

abbrev pub decreases-loop-left : goal.decreases-loop-left
decreases-loop-left l = l.at
