-- `spread` meets its contract: from the last row to the first, each is marked as it stays.
use Rattle.packing.specs.Seen.{seen}
use Rattle.packing.proofs.Keeping.{SpreadsUpto}
use Rattle.packing.proofs.keep.spread.Given as goal

abbrev pub invariant-loop-i : goal.invariant-loop-i
invariant-loop-i l = SpreadsUpto (seen l.rows) l.initial.marks l.i l.marks
