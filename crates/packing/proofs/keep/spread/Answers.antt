-- `spread` meets its contract: from the last row to the first, each is marked as it stays.
use Prim.Native.Nat.{◌-◌, ◌<◌}
use native.Mathlib.Omega.{arith}
use mathlib.Core.Path.{◌≡◌}
use lib.ListN.{length}
use Rattle.parts.specs.Packed.{root_row}
use Rattle.parts.proofs.Sizes.{parent_most}
use Rattle.packing.specs.Seen.{seen}
use Rattle.packing.proofs.Keeping.{spreads_row, spreads_kept}
use Rattle.packing.proofs.keep.spread.Goals as goal
use Rattle.packing.proofs.keep.spread.Goals.{In-loop-i}

root : (c : In-loop-i) → length c.args.marks.now - 1 ≡ root_row (seen c.args.rows)
root c = omega (arith, c.requires.1)

under : (c : In-loop-i) → c.loop-i.i - 1 < root_row (seen c.args.rows)
under c = omega (arith, c.requires.1, c.loop-i-test.true, c.loop-i.auto.i)

pub bounds-marks-parent : goal.bounds-marks-parent
bounds-marks-parent c =
    let b = (goal.at.bounds-marks-parent c).In-loop-i in
    let g = b.requires.0.good in
    omega (arith, parent_most g.checked g.short (b.loop-i.i - 1) (under b), b.requires.1, b.loop-i.auto.marks, g.checked.rooted.some)

pub loop-i-preserved-then-parent-root : goal.loop-i-preserved-then-parent-root
loop-i-preserved-then-parent-root c = let b = (goal.at.loop-i-preserved-then-parent-root c).In-loop-i in spreads_row b.loop-i.invariant b.loop-i-test.true (root b) c.if-parent-root.true

pub loop-i-preserved : goal.loop-i-preserved
loop-i-preserved c = let b = (goal.at.loop-i-preserved c).In-loop-i in spreads_kept b.loop-i.invariant b.loop-i-test.true (root b) c.if-parent-root.false

pub returns : goal.returns
returns c = let l = c.loop-i in let e : l.i ≡ 0 = omega arith in record { says = λ p m. rw e at (l.invariant.says p m).staying }
