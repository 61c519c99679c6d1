-- `numbers::take_all` meets its contract: number by number, what is left makes the whole.
use Rattle.frames.proofs.Listing.{Taking}
use Rattle.frames.proofs.numbers.take_all.Given as goal

abbrev pub invariant-loop-i : goal.invariant-loop-i
invariant-loop-i l = Taking l.frame l.from l.initial.list l.list l.i
