-- `move_lists` meets its contract: the lists among the numbers so far are moved, one behind another, and those after them are as they were.
use Prim.Native.Nat.{ℕ, ◌+◌, ◌*◌}
use native.Mathlib.Omega.{arith}
use mathlib.Core.Path.{refl}
use Rattle.grammar.specs.Room.{node_width}
use lib.ListN.{get_or}
use Rattle.packing.specs.Digits.{digit}
use Rattle.packing.specs.Rows.{MovesList}
use Rattle.packing.specs.Seen.{maps_of, moves_of}
use Rattle.packing.proofs.Digits.{no_list}
use Rattle.packing.proofs.Moving.{next_read, none_done, moves_next, list_skipped, list_done}
use Rattle.packing.proofs.pack.move_lists.Goals as goal
use Rattle.packing.proofs.pack.move_lists.Goals.{Then-is_list, then-is_list, else-is_list}

-- where the next number is
abbrev place : Then-is_list → ℕ
place c = node_width * c.args.row + c.loop-j.j

-- the list's links can be moved
movable : (c : Then-is_list) → MovesList (maps_of c.args.m) (digit c.at-role.result) c.loop-j.links (get_or c.args.nodes.now (place c) 0) c.loop-j.to (get_or c.args.nodes.now (place c + 1) 0)
movable c = moves_next c.loop-j.invariant c.at-role.ensures (omega arith) c.requires refl (c.is_list.ensures.0 c.if-is_list.true)

pub loop-j-init : goal.loop-j-init
loop-j-init c = let a = c.args in none_done (moves_of a.m) a.nodes.now a.links.now a.row a.m.to

pub move_list-requires : goal.move_list-requires
move_list-requires c = movable (goal.at.move_list-requires c).Then-is_list

pub loop-j-preserved : goal.loop-j-preserved
loop-j-preserved c =
    let l = c.loop-j in
    let a = c.args in
    let e = c.at-role.ensures in
    elim c.if-is_list.branch [
      | then-is_list w ↦ list_done l.invariant e (omega arith) (c.is_list.ensures.0 w.if-is_list.true) (moves_next l.invariant e (omega arith) c.requires refl (c.is_list.ensures.0 w.if-is_list.true)).back (next_read a.nodes.now a.row l.j) w.move_list.ensures w.links-is w.to-is
      | else-is_list w ↦ list_skipped l.invariant e (omega arith) (no_list c.is_list.ensures w.if-is_list.false) w.links-is w.to-is
    ]
