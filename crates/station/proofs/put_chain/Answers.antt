-- `put_chain` meets its contract. The loop's invariant: the pairs of the entries so far are written.
use native.Mathlib.Omega.{arith}
use lib.ListN.{length-set}
use Rattle.ast.proofs.Rooms.{unwritten}
use Rattle.station.specs.Exports.{pairs}
use Rattle.station.proofs.Stores.{one_pair, all_pairs}
use Rattle.station.proofs.put_chain.Goals as goal

pub loop-i-init : goal.loop-i-init
unfolding pairs
loop-i-init c = (omega arith, unwritten 3 c.args.room.now)

pub bounds-room-i-in-loop-i : goal.bounds-room-i-in-loop-i
bounds-room-i-in-loop-i c = simp length-set (omega (arith, c.loop-i.invariant.1.size))

pub loop-i-preserved : goal.loop-i-preserved
loop-i-preserved c = (omega arith, one_pair c.args.chain.entries (omega arith) (omega arith) c.loop-i.invariant.1)

pub returns : goal.returns
returns c = all_pairs c.args.chain.entries (omega arith) (omega arith) c.loop-i.invariant.1
