-- `numbers::put_all` meets its contract: number by number, what is left makes the whole.
use Rattle.frames.proofs.Listing.{Putting}
use Rattle.frames.proofs.numbers.put_all.Given as goal

abbrev pub invariant-loop-i : goal.invariant-loop-i
invariant-loop-i l = Putting l.list l.initial.out l.from l.out l.i
