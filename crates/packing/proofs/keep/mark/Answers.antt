-- `mark` meets its contract: after zeros, the statements so far that are kept are marked.
use Prim.Native.Nat.{ℕ, ◌+◌, ◌*◌, ◌<◌}
use native.Mathlib.Omega.{arith}
use lib.ListN.{length}
use Rattle.grammar.specs.Room.{link_width}
use Rattle.packing.specs.Seen.{seen}
use Rattle.packing.proofs.Keeping.{none_marked, row_below, link_there, statement_marked, statement_passed}
use Rattle.packing.proofs.keep.mark.Goals as goal
use Rattle.packing.proofs.keep.mark.Goals.{In-loop-j, then-kept-ne0, else-kept-ne0}

-- the statement's link
abbrev link : In-loop-j → ℕ
link c = link_width * (c.args.first + c.loop-j.j)

there : (c : In-loop-j) → link c < length c.args.rows.links.now
there c = link_there c.requires c.loop-j.invariant c.loop-j-test.true

pub loop-j-init : goal.loop-j-init
loop-j-init c = none_marked (seen c.args.rows) c.args.choice.now (c.fill.ensures.after (λ y h. h))

pub overflow_add-row : goal.overflow_add-row
overflow_add-row c = omega (arith, there (goal.at.overflow_add-row c).In-loop-j)

pub overflow_mul-row : goal.overflow_mul-row
overflow_mul-row c = omega (arith, there (goal.at.overflow_mul-row c).In-loop-j)

pub offset_bounds-rows-first : goal.offset_bounds-rows-first
offset_bounds-rows-first c = omega (arith, there (goal.at.offset_bounds-rows-first c).In-loop-j)

pub bounds-rows-first : goal.bounds-rows-first
bounds-rows-first c = there (goal.at.bounds-rows-first c).In-loop-j

pub bounds-marks-row : goal.bounds-marks-row
bounds-marks-row c =
    let b = (goal.at.bounds-marks-row c).In-loop-j in
    omega (arith, row_below b.requires b.loop-j.invariant b.loop-j-test.true, b.loop-j.invariant.size)

pub loop-j-preserved : goal.loop-j-preserved
loop-j-preserved c =
    elim c.if-kept-ne0.branch [
      | then-kept-ne0 w ↦ statement_marked c.requires c.loop-j.invariant c.loop-j-test.true w.if-kept-ne0.true w.marks-is
      | else-kept-ne0 w ↦ statement_passed c.requires c.loop-j.invariant c.loop-j-test.true w.if-kept-ne0.false w.marks-is
    ]
