-- `reach::in_block` meets its contract: the bracket that is open there, and the token before it.
use native.Mathlib.Omega.{arith}
use borrow.Author.Tests.{eq-eqb, ne_eqb}
use Rattle.lint.proofs.Laws.{within_list, nothing_open, other_open, first_open, brace_open}
use Rattle.lint.proofs.reach.in_block.Goals as goal

pub returns-then-e : goal.returns-then-e
returns-then-e c = nothing_open c.args.tokens.now c.args.k c.enclosing-e.ensures c.if-e.true

pub kind_at-requires : goal.kind_at-requires
kind_at-requires c = omega (arith, within_list c.args.tokens.now c.args.k c.enclosing-e.ensures c.if-e.false)

pub returns-then-e-eq0 : goal.returns-then-e-eq0
returns-then-e-eq0 c = rw (eq-eqb _ _ c.if-e-eq0.true) (first_open c.args.tokens.now c.args.k c.enclosing-e.ensures c.if-e.false c.kind_at.ensures c.if-kind_at-eq-LEFT_BRACE.true c.if-e-eq0.true)

pub returns-else-e-eq0 : goal.returns-else-e-eq0
returns-else-e-eq0 c = brace_open c.args.tokens.now c.args.k c.enclosing-e.ensures c.if-e.false c.kind_at.ensures c.if-kind_at-eq-LEFT_BRACE.true c.kind_at-else-e-eq0.ensures

pub returns-else-kind_at-eq-LEFT_BRACE : goal.returns-else-kind_at-eq-LEFT_BRACE
returns-else-kind_at-eq-LEFT_BRACE c = rw (ne_eqb _ _ c.if-kind_at-eq-LEFT_BRACE.false) (other_open c.args.tokens.now c.args.k c.enclosing-e.ensures c.if-e.false c.kind_at.ensures c.if-kind_at-eq-LEFT_BRACE.false)
