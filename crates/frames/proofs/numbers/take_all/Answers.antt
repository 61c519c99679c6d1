-- `numbers::take_all` meets its contract: number by number, what is left makes the whole.
use borrow.Author.Rules.{rules}
use native.Mathlib.Omega.{arith}
use mathlib.Core.Path.{ap}
use lib.ListN.{set}
use Rattle.frames.proofs.Listing.{taking, take_more, take_done}
use Rattle.frames.proofs.numbers.take_all.Goals as goal

pub loop-i-init : goal.loop-i-init
loop-i-init c = taking _ _ _

pub loop-i-preserved : goal.loop-i-preserved
loop-i-preserved c = let l = c.loop-i in take_more (omega arith) (ap (set l.list l.i) c.four.ensures) l.invariant

pub returns : goal.returns
returns c = record { numbers = take_done (omega arith) c.loop-i.invariant; end = search rules }
