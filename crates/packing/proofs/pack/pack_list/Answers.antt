-- `pack_list` meets its contract: the statements so far that are kept stand in the list, and those after them are as they were.
use Prim.Native.Nat.{◌+◌, ◌*◌, ◌<◌}
use lib.ListN.{length, get_or}
use Rattle.grammar.specs.Room.{link_width}
use Rattle.packing.proofs.Moving.{none_chosen, still_statement, statement_left, statement_kept}
use Rattle.packing.proofs.pack.pack_list.Goals as goal
use Rattle.packing.proofs.pack.pack_list.Goals.{In-loop-j, then-kept-ne0, else-kept-ne0}

-- the statement's row has a number
row_inside : (c : In-loop-j) → get_or c.loop-j.links (link_width * (c.args.first + c.loop-j.j)) 0 < length c.args.places.now
row_inside c = let s = c in rw (still_statement c.loop-j.invariant c.loop-j-test.true s.requires.back) (s.requires.rows c.loop-j.j c.loop-j-test.true)

pub loop-j-init : goal.loop-j-init
loop-j-init c = let a = c.args in none_chosen a.links.now a.places.now a.choice.now a.first a.to

pub bounds-places-row : goal.bounds-places-row
bounds-places-row c = row_inside (goal.at.bounds-places-row c).In-loop-j

pub loop-j-preserved : goal.loop-j-preserved
loop-j-preserved c =
    let b = (goal.at.loop-j-preserved c).In-loop-j in
    elim c.if-kept-ne0.branch [
      | then-kept-ne0 w ↦ statement_kept b.loop-j.invariant b.loop-j-test.true b.requires.back w.if-kept-ne0.true w.put_link.ensures w.links-is w.at-is
      | else-kept-ne0 w ↦ statement_left b.loop-j.invariant b.loop-j-test.true w.if-kept-ne0.false w.links-is w.at-is
    ]
