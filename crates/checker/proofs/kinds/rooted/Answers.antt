-- `rooted` meets its contract: a last row that is there, is a Block, and has no tail.
use Rattle.std.proofs.Common.{◌∙◌, ne_eqb}
use Rattle.checker.proofs.Roots.{no_root, no_block, a_block}
use Rattle.checker.proofs.kinds.rooted.Goals as goal

pub returns-then-rows-eq0 : goal.returns-then-rows-eq0
returns-then-rows-eq0 c = no_root c.args.rows.now.nodes.now c.args.rows.now.count c.if-rows-eq0.true

pub returns-then-rows-at-eq-BLOCK : goal.returns-then-rows-at-eq-BLOCK
returns-then-rows-at-eq-BLOCK c = a_block c.args.rows.now.nodes.now c.args.rows.now.count c.if-rows-eq0.false c.if-rows-at-eq-BLOCK.true

pub returns-else-rows-at-eq-BLOCK : goal.returns-else-rows-at-eq-BLOCK
returns-else-rows-at-eq-BLOCK c = ne_eqb _ _ c.if-rows-at-eq-BLOCK.false ∙ no_block c.args.rows.now.nodes.now c.args.rows.now.count c.if-rows-eq0.false c.if-rows-at-eq-BLOCK.false
