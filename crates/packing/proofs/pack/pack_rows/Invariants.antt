-- `pack_rows` meets its contract: the rows so far are packed, whatever the choice was, and those from there on are as they were.
use Rattle.packing.specs.Roles.{rows}
use Rattle.packing.proofs.Packing.{Packing}
use Rattle.packing.proofs.pack.pack_rows.Given as goal

abbrev pub invariant-loop-i : goal.invariant-loop-i
invariant-loop-i l = Packing (rows l.initial.nodes l.initial.links) l.symbols l.words l.places l.i l.from l.to l.nodes l.links
