-- `push_row` meets its contract: an absent row is passed over.
use native.Mathlib.Omega.{arith}
use Rattle.packing.proofs.Stacking.{pushed_none, pushed_one, absent_none, row_waits, row_one}
use Rattle.packing.proofs.stack.push_row.Goals as goal

pub returns-then-x-eq-ABSENT : goal.returns-then-x-eq-ABSENT
returns-then-x-eq-ABSENT c = λ w. pushed_none w _ _ (absent_none c.if-x-eq-ABSENT.true)

pub push-requires : goal.push-requires
push-requires c = omega (arith, row_one c.if-x-eq-ABSENT.false)

pub returns : goal.returns
returns c = let i = c.if-x-eq-ABSENT.false in λ w. pushed_one w _ _ _ (omega (arith, row_one i)) (row_waits _ i) c.push.ensures
