-- `put` meets its contract: eight stores, each a number more.
use native.Mathlib.Omega.{arith}
use lib.ListN.{length-set}
use Rattle.scripts.proofs.Stores.{eight}
use Rattle.scripts.proofs.put.Goals as goal

pub bounds-room-1 : goal.bounds-room-1
bounds-room-1 c = simp length-set (omega arith)

pub bounds-room-2 : goal.bounds-room-2
bounds-room-2 c = simp length-set (omega arith)

pub bounds-room-3 : goal.bounds-room-3
bounds-room-3 c = simp length-set (omega arith)

pub bounds-room-4 : goal.bounds-room-4
bounds-room-4 c = simp length-set (omega arith)

pub bounds-room-5 : goal.bounds-room-5
bounds-room-5 c = simp length-set (omega arith)

pub bounds-room-6 : goal.bounds-room-6
bounds-room-6 c = simp length-set (omega arith)

pub returns : goal.returns
returns c = let a = c.args.a in eight c.args.room.now a.code a.nodes a.links a.symbols a.at a.start a.end a.expected (omega arith)
