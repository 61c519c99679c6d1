-- `put_chain` meets its contract. The loop's invariant: the pairs of the entries so far are written.
use Prim.Native.Nat.{◌+◌, ◌*◌, ◌≤◌}
use lib.ListN.{take}
use Rattle.ast.specs.Written.{Written}
use Rattle.station.specs.Exports.{pairs}
use Rattle.station.proofs.put_chain.Given as goal

abbrev pub invariant-loop-i : goal.invariant-loop-i
invariant-loop-i l = (l.i ≤ 64) × Written 3 (3 + 2 * l.i) (pairs (take l.i l.entry-items)) l.initial.room l.room
