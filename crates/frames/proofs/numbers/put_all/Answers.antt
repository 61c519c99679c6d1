-- `numbers::put_all` meets its contract: number by number, what is left makes the whole.
use borrow.Author.Rules.{rules}
use native.Mathlib.Omega.{arith}
use Rattle.frames.proofs.Listing.{putting, put_more, put_done}
use Rattle.frames.proofs.numbers.put_all.Goals as goal

pub loop-i-init : goal.loop-i-init
loop-i-init c = putting _ _ _

pub loop-i-preserved : goal.loop-i-preserved
loop-i-preserved c = put_more (omega arith) c.put.ensures c.loop-i.invariant

pub returns : goal.returns
returns c = record { numbers = put_done (omega arith) c.loop-i.invariant; end = search rules }
