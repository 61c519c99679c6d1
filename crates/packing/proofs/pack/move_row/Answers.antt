-- `move_row` meets its contract: the numbers so far are moved, and those from the one that is read on are as they were.
use native.Mathlib.Omega.{arith}
use mathlib.Core.Path.{◌∙◌}
use Rattle.packing.specs.Seen.{moves_of}
use Rattle.packing.proofs.Moving.{role_read, none_rowed, still_number, number_turn}
use Rattle.packing.proofs.pack.move_row.Goals as goal

pub loop-j-init : goal.loop-j-init
loop-j-init c = let a = c.args in none_rowed (moves_of a.m) a.nodes.now a.row a.to

pub number-requires : goal.number-requires
number-requires c =
    let s = c in
    let l = c.loop-j in
    rw (c.at.ensures ∙ role_read s.args.nodes.now s.args.row l.j, still_number s.requires.back l.invariant) (s.requires.each l.j (omega arith))

pub loop-j-preserved : goal.loop-j-preserved
loop-j-preserved c =
    let s = c in
    let l = c.loop-j in
    number_turn s.requires.back l.invariant c.at.ensures c.number.ensures (omega (arith, l.invariant.done.size, s.requires.back, s.requires.stands.room)) (omega arith)
