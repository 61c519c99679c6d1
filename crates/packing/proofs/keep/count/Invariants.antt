-- `count` meets its contract: rows so far have their place, those from there on are still marked.
use Rattle.packing.proofs.Keeping.{Counts}
use Rattle.packing.proofs.keep.count.Given as goal

abbrev pub invariant-loop-i : goal.invariant-loop-i
invariant-loop-i l = Counts l.initial.marks l.i l.before l.marks
