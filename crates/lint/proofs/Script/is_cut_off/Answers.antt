-- `Script::is_cut_off` meets its contract: a statement that ends at its own `}`, and one token after another.
use native.Mathlib.Omega.{arith}
use Rattle.spelling.proofs.Deciding.{held, failed, said}
use Rattle.children.proofs.Laws.{number_is}
use Rattle.lint.proofs.Laws.{one_more, not_closed, no_statement, cut_found, cut_nowhere}
use Rattle.lint.proofs.Script.is_cut_off.Goals as goal

pub returns-then-not-is_closed : goal.returns-then-not-is_closed
returns-then-not-is_closed c = not_closed (number_is c.node.ensures) c.is_closed.ensures c.if-not-is_closed.true

pub returns-then-node-ne-BLOCK : goal.returns-then-node-ne-BLOCK
returns-then-node-ne-BLOCK c = no_statement (number_is c.node-parent.ensures) (number_is c.node-2.ensures) c.if-node-ne-BLOCK.true

pub returns-then-is_cut : goal.returns-then-is_cut
returns-then-is_cut c =
    cut_found (number_is c.node.ensures) c.is_closed.ensures c.if-not-is_closed.false (number_is c.node-parent.ensures) (number_is c.node-2.ensures) c.if-node-ne-BLOCK.false (number_is c.node-end.ensures) (held (said c.is_cut.ensures c.if-is_cut.true))

pub loop-k-preserved : goal.loop-k-preserved
loop-k-preserved c = one_more c.loop-k.invariant (failed (said c.is_cut.ensures c.if-is_cut.false))

pub returns : goal.returns
returns c = cut_nowhere (number_is c.node-end.ensures) c.loop-k.invariant (omega (arith, c.saturating_sub-k-end.ensures))
