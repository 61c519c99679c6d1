-- `put_packed` meets its contract: six stores, each a number more.
use native.Mathlib.Omega.{arith}
use lib.ListN.{length-set}
use Rattle.station.proofs.Stores.{six}
use Rattle.station.proofs.put_packed.Goals as goal

pub bounds-room-1 : goal.bounds-room-1
bounds-room-1 c = simp length-set (omega arith)

pub bounds-room-2 : goal.bounds-room-2
bounds-room-2 c = simp length-set (omega arith)

pub bounds-room-3 : goal.bounds-room-3
bounds-room-3 c = simp length-set (omega arith)

pub bounds-room-4 : goal.bounds-room-4
bounds-room-4 c = simp length-set (omega arith)

pub returns : goal.returns
returns c = let p = c.args.p in six c.args.room.now p.code p.nodes p.links p.symbols p.rule p.row (omega arith)
