-- `count` meets its contract: rows so far have their place, those from there on are still marked.
use native.Mathlib.Omega.{arith}
use Rattle.packing.proofs.Keeping.{counts_none, counts_row, mark_small}
use Rattle.packing.proofs.keep.count.Goals as goal
use Rattle.packing.proofs.keep.count.Goals.{In-loop-i}

pub loop-i-init : goal.loop-i-init
loop-i-init c = counts_none _

pub overflow_add-before : goal.overflow_add-before
overflow_add-before c =
    let b = (goal.at.overflow_add-before c).In-loop-i in
    let p = b.requires in
    omega (arith, mark_small (b.loop-i.invariant.says p.many p.staying) (omega (arith, p.many, b.loop-i-test.true)), p.many, p.sound.good.short, b.loop-i-test.true)

pub loop-i-preserved : goal.loop-i-preserved
loop-i-preserved c = let b = (goal.at.loop-i-preserved c).In-loop-i in counts_row b.loop-i.invariant b.loop-i-test.true
