-- `pack_rows` meets its contract: the rows so far are packed, whatever the choice was, and those from there on are as they were.
use native.Mathlib.Omega.{arith}
use mathlib.Core.Path.{◌≡◌}
use Rattle.parts.specs.Packed.{root_row}
use Rattle.packing.specs.Roles.{rows}
use Rattle.packing.proofs.Packing.{none_packed, stands, low, fits, lists_ready, row_ready, turn_kept, turn_left}
use Rattle.packing.proofs.pack.pack_rows.Goals as goal
use Rattle.packing.proofs.pack.pack_rows.Goals.{then-places-i, else-places-i}

pub loop-i-init : goal.loop-i-init
loop-i-init c = let a = c.args in none_packed (rows a.nodes.now a.links.now) a.symbols a.words.now a.places.now

pub row_links-size-requires : goal.row_links-size-requires
row_links-size-requires c = stands c.requires c.loop-i.invariant c.loop-i-test.true

pub move_lists-requires : goal.move_lists-requires
move_lists-requires c = lists_ready c.requires c.loop-i.invariant c.loop-i-test.true

pub overflow_cast-place : goal.overflow_cast-place
overflow_cast-place c = omega (arith, (row_ready c.requires c.loop-i.invariant c.loop-i-test.true).back)

pub move_row-requires : goal.move_row-requires
move_row-requires c = row_ready c.requires c.loop-i.invariant c.loop-i-test.true

pub overflow_add-to : goal.overflow_add-to
overflow_add-to c = omega (arith, c.row_links-size.ensures, fits c.requires c.loop-i.invariant c.loop-i-test.true, low c.requires c.loop-i.invariant c.loop-i-test.true)

pub overflow_add-from : goal.overflow_add-from
overflow_add-from c = omega (arith, c.row_links-size.ensures, fits c.requires c.loop-i.invariant c.loop-i-test.true)

pub loop-i-preserved : goal.loop-i-preserved
loop-i-preserved c =
    let p = c.requires in
    let h = c.loop-i.invariant in
    elim c.if-places-i.branch [
      | then-places-i w ↦ turn_kept p h c.loop-i-test.true w.if-places-i.true c.row_links-size.ensures w.move_lists.ensures w.move_row.ensures w.nodes-is w.links-is w.to-is
      | else-places-i w ↦ turn_left p h c.loop-i-test.true w.if-places-i.false c.row_links-size.ensures w.nodes-is w.links-is w.to-is
    ]

pub returns : goal.returns
returns c =
    let l = c.loop-i in
    let e : l.i ≡ root_row (rows c.args.nodes.now c.args.links.now) = omega (arith, l.invariant.most, c.requires.last) in
    record { says = λ m. rw e at (l.invariant.each m) }
