-- `open` meets its contract: the marks below, outermost first, up to as many as may be.
use borrow.Author.Rules.{rules}
use Rattle.expected.proofs.Chaining.{walk_start, walk_state, walk_mark, walked_most}
use Rattle.expected.proofs.open.Goals as goal

pub loop-i-init : goal.loop-i-init
loop-i-init c = walk_start c.empty_chain-c.ensures (search rules)

pub returns-then-c-most : goal.returns-then-c-most
returns-then-c-most c = walked_most c.loop-i.invariant (search rules)

pub loop-i-preserved-then-v-ge-MARK : goal.loop-i-preserved-then-v-ge-MARK
loop-i-preserved-then-v-ge-MARK c = walk_mark c.loop-i.invariant (search rules) (search rules) (search rules) (search rules) c.push.ensures

pub loop-i-preserved : goal.loop-i-preserved
loop-i-preserved c = walk_state c.loop-i.invariant (search rules) (search rules)
