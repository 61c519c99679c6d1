-- `each` meets its contract: all rows so far pass whatever test the closure answers.
use Rattle.std.proofs.Common.{refl, sym, arith}
use Rattle.checker.proofs.Laws.{held_more, found, none_found}
use Rattle.checker.proofs.rule.each.Goals as goal

pub returns-then-not-test : goal.returns-then-not-test
returns-then-not-test g c = λ f h. (refl, c.loop-row-test.true, found c.loop-row-test.true (c.loop-row.invariant f h) (sym (h _ _ c.loop-row-test.true c.if-not-test.ensures)))

pub loop-row-preserved : goal.loop-row-preserved
loop-row-preserved g c = λ f h. held_more (c.loop-row.invariant f h) (sym (h _ _ c.loop-row-test.true c.if-not-test.ensures))

pub returns : goal.returns
returns g c = λ f h. none_found (omega arith) (c.loop-row.invariant f h)
