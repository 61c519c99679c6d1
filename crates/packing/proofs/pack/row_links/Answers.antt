-- `row_links` meets its contract: what is counted is the links of the lists among the numbers so far.
use Prim.Native.Nat.{◌+◌, ◌*◌}
use native.Mathlib.Omega.{arith}
use Rattle.grammar.specs.Room.{node_width}
use Rattle.packing.proofs.Digits.{no_list}
use Rattle.packing.proofs.Moving.{none_counted, plain_counted, list_counted}
use Rattle.packing.proofs.pack.row_links.Goals as goal
use Rattle.packing.proofs.pack.row_links.Goals.{then-is_list, else-is_list}

pub loop-j-init : goal.loop-j-init
loop-j-init c = let a = c.args in none_counted a.nodes.now a.row

pub loop-j-preserved : goal.loop-j-preserved
loop-j-preserved c =
    let l = c.loop-j in
    let e = c.at.ensures in
    elim c.if-is_list.branch [
      | then-is_list w ↦ list_counted l.invariant e (omega arith) (c.is_list.ensures.0 w.if-is_list.true) (omega (arith, c.type_inv.nodes (node_width * c.args.row + l.j + 1))) w.size-is
      | else-is_list w ↦ plain_counted l.invariant e (omega arith) (no_list c.is_list.ensures w.if-is_list.false) w.size-is
    ]
