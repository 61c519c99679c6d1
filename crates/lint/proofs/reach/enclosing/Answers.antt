-- `reach::enclosing` meets its contract. Its loop goes back token by token, and keeps that from there on the same bracket is found.
use native.Mathlib.Omega.{arith}
use mathlib.Core.Path.{◌≡◌, sym, ◌∙◌}
use Rattle.lint.proofs.Laws.{back_closing, back_opening, back_other, found_open, none_open}
use Rattle.lint.proofs.reach.enclosing.Goals as goal

pub loop-i-preserved-in-Some-Closes : goal.loop-i-preserved-in-Some-Closes
loop-i-preserved-in-Some-Closes c =
    let l = c.loop-i in
    let b = rw c.in-Some-Closes.field-0-is at c.in-Some-Closes.ensures in
    (back_closing c.args.tokens.now l.closed l.i c.loop-i-test.true c.kind_at.ensures b ∙ l.invariant.0, omega (arith, l.invariant.1))

pub returns-then-closed-eq0 : goal.returns-then-closed-eq0
returns-then-closed-eq0 c =
    let l = c.loop-i in
    let b = rw c.in-Some-Opens.field-0-is at c.in-Some-Opens.ensures in
    found_open c.args.tokens.now l.closed l.i c.loop-i-test.true c.kind_at.ensures b c.if-closed-eq0.true ∙ l.invariant.0

pub loop-i-preserved-in-Some-Opens : goal.loop-i-preserved-in-Some-Opens
loop-i-preserved-in-Some-Opens c =
    let l = c.loop-i in
    let b = rw c.in-Some-Opens.field-0-is at c.in-Some-Opens.ensures in
    (back_opening c.args.tokens.now l.closed l.i c.loop-i-test.true c.kind_at.ensures b c.if-closed-eq0.false ∙ l.invariant.0, omega (arith, l.invariant.1))

pub loop-i-preserved : goal.loop-i-preserved
loop-i-preserved c = let l = c.loop-i in (back_other c.args.tokens.now l.closed l.i c.loop-i-test.true c.kind_at.ensures c.in-None.ensures ∙ l.invariant.0, omega (arith, l.invariant.1))

pub returns : goal.returns
returns c =
    let l = c.loop-i in
    let e : l.i ≡ 0 = omega arith in
    sym (none_open c.args.tokens.now l.closed) ∙ (rw e at l.invariant.0)
