-- `mark` meets its contract: after zeros, the statements so far that are kept are marked.
use lib.ListN.{length}
use Rattle.packing.specs.Seen.{seen}
use Rattle.packing.proofs.Keeping.{Marking}
use Rattle.packing.proofs.keep.mark.Given as goal

abbrev pub invariant-loop-j : goal.invariant-loop-j
invariant-loop-j l = Marking (seen l.rows) l.choice (length l.fn.marks) l.j l.marks
