-- `put_told` meets its contract: three stores, and then the chain's.
use native.Mathlib.Omega.{arith}
use lib.ListN.{length-set}
use Rattle.station.proofs.Stores.{told_put}
use Rattle.station.proofs.put_told.Goals as goal

pub bounds-room-1 : goal.bounds-room-1
bounds-room-1 c = simp length-set (omega arith)

pub bounds-room-2 : goal.bounds-room-2
bounds-room-2 c = simp length-set (omega arith)

pub returns : goal.returns
returns c = told_put c.args.room.now c.args.t (omega (arith, c.requires)) c.requires.count_bound.1 c.put_chain.ensures
