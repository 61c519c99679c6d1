-- How the readers end: the tokens left and the openings left fall together, and where neither does, the reader's place in this order.
-- The loops: a block keeps the list of its statements, a list a listing, the levels an operand and its operators, and calls and dots what they follow.
use Rattle.std.proofs.Common.{ℕ, List, ◌+◌, ◌*◌, ◌-◌}
use Rattle.grammar.specs.Kaori.{Form, arguments, calls, entries}
use Rattle.grammar.specs.Phrase.{begun}
use Rattle.grammar.specs.Token.{count}
use Rattle.reading.specs.Chains.{Going}
use Rattle.reading.specs.State.{state}
use Rattle.reading.specs.declared.Cursor.{Cursor}
use Rattle.reading.specs.declared.Terms.{Terms}
use Rattle.reading.proofs.Listings.{Listing, Statements}
use Rattle.parser.proofs.Levels.{Climbing}
use Rattle.parser.proofs.readers.+readers.Given as goal

abbrev pub left : List ℕ → Terms → ℕ → Cursor → ℕ → ℕ
left ts terms depth c rank = 16 * ((count ts - c.at) + (terms.limit - depth)) + rank

abbrev pub decreases-arg : goal.decreases-arg
decreases-arg l = left l.tokens.now l.terms l.depth l.cur 7

abbrev pub decreases-args : goal.decreases-args
decreases-args l = left l.tokens.now l.terms l.depth l.cur 8

abbrev pub decreases-assign : goal.decreases-assign
decreases-assign l = left l.tokens.now l.terms l.depth l.cur 7

abbrev pub decreases-binary : goal.decreases-binary
decreases-binary l = left l.tokens.now l.terms l.depth l.cur 6

abbrev pub decreases-bind : goal.decreases-bind
decreases-bind l = left l.tokens.now l.terms l.depth l.cur 2

abbrev pub decreases-block : goal.decreases-block
decreases-block l = left l.tokens.now l.terms l.depth l.cur 2

abbrev pub decreases-body : goal.decreases-body
decreases-body l = left l.tokens.now l.terms l.depth l.cur 7

abbrev pub decreases-call : goal.decreases-call
decreases-call l = left l.tokens.now l.terms l.depth l.cur 2

abbrev pub decreases-chained : goal.decreases-chained
decreases-chained l = left l.tokens.now l.terms l.depth l.cur 4

abbrev pub decreases-deny : goal.decreases-deny
decreases-deny l = left l.tokens.now l.terms l.depth l.cur 2

abbrev pub decreases-else_ : goal.decreases-else_
decreases-else_ l = left l.tokens.now l.terms l.depth l.cur 7

abbrev pub decreases-expression : goal.decreases-expression
decreases-expression l = left l.tokens.now l.terms l.depth l.cur 6

abbrev pub decreases-form : goal.decreases-form
decreases-form l = left l.tokens.now l.terms l.depth l.cur 8

abbrev pub decreases-fun_ : goal.decreases-fun_
decreases-fun_ l = left l.tokens.now l.terms l.depth l.cur 2

abbrev pub decreases-group : goal.decreases-group
decreases-group l = left l.tokens.now l.terms l.depth l.cur 2

abbrev pub decreases-head : goal.decreases-head
decreases-head l = left l.tokens.now l.terms l.depth l.cur 3

abbrev pub decreases-if_ : goal.decreases-if_
decreases-if_ l = left l.tokens.now l.terms l.depth l.cur 2

abbrev pub decreases-items : goal.decreases-items
decreases-items l = left l.tokens.now l.terms l.depth l.cur 10

abbrev pub decreases-lambda : goal.decreases-lambda
decreases-lambda l = left l.tokens.now l.terms l.depth l.cur 2

abbrev pub decreases-map_ : goal.decreases-map_
decreases-map_ l = left l.tokens.now l.terms l.depth l.cur 2

abbrev pub decreases-not_ : goal.decreases-not_
decreases-not_ l = left l.tokens.now l.terms l.depth l.cur 2

abbrev pub decreases-pair : goal.decreases-pair
decreases-pair l = left l.tokens.now l.terms l.depth l.cur 7

abbrev pub decreases-pairs : goal.decreases-pairs
decreases-pairs l = left l.tokens.now l.terms l.depth l.cur 8

abbrev pub decreases-plus : goal.decreases-plus
decreases-plus l = left l.tokens.now l.terms l.depth l.cur 2

abbrev pub decreases-postfix : goal.decreases-postfix
decreases-postfix l = left l.tokens.now l.terms l.depth l.cur 3

abbrev pub decreases-prefix : goal.decreases-prefix
decreases-prefix l = left l.tokens.now l.terms l.depth l.cur 5

abbrev pub decreases-primary : goal.decreases-primary
decreases-primary l = left l.tokens.now l.terms l.depth l.cur 3

abbrev pub decreases-return_ : goal.decreases-return_
decreases-return_ l = left l.tokens.now l.terms l.depth l.cur 2

abbrev pub decreases-statement : goal.decreases-statement
decreases-statement l = left l.tokens.now l.terms l.depth l.cur 9

abbrev pub decreases-unary : goal.decreases-unary
decreases-unary l = left l.tokens.now l.terms l.depth l.cur 2

abbrev pub decreases-while_ : goal.decreases-while_
decreases-while_ l = left l.tokens.now l.terms l.depth l.cur 2

abbrev pub invariant-args-list : goal.invariant-args-list
invariant-args-list l = Listing l.tokens l.terms arguments l.depth (state l.initial.nodes l.initial.links l.initial.scratch l.initial.now) (state l.nodes l.links l.scratch l.now)

abbrev pub decreases-args-list : goal.decreases-args-list
decreases-args-list l = count l.tokens - l.now.at

abbrev pub invariant-binary-loop-terms : goal.invariant-binary-loop-terms
invariant-binary-loop-terms l = Climbing l.tokens l.terms l.level l.depth (state l.initial.nodes l.initial.links l.initial.scratch l.initial.now) l.initial.node (state l.nodes l.links l.scratch l.now) l.node

abbrev pub decreases-binary-loop-terms : goal.decreases-binary-loop-terms
decreases-binary-loop-terms l = count l.tokens - l.now.at

abbrev pub invariant-items-list : goal.invariant-items-list
invariant-items-list l = Statements l.tokens l.terms l.depth (state l.initial.nodes l.initial.links l.initial.scratch l.initial.now) (state l.nodes l.links l.scratch l.now) l.tail

abbrev pub decreases-items-list : goal.decreases-items-list
decreases-items-list l = count l.tokens - l.now.at

abbrev pub invariant-pairs-list : goal.invariant-pairs-list
invariant-pairs-list l = Listing l.tokens l.terms entries l.depth (state l.initial.nodes l.initial.links l.initial.scratch l.initial.now) (state l.nodes l.links l.scratch l.now)

abbrev pub decreases-pairs-list : goal.decreases-pairs-list
decreases-pairs-list l = count l.tokens - l.now.at

abbrev pub invariant-postfix-loop-nodes : goal.invariant-postfix-loop-nodes
invariant-postfix-loop-nodes l = (p : Form) → Going l.tokens l.terms p calls (begun p calls) l.depth (state l.initial.nodes l.initial.links l.initial.scratch l.initial.now) l.initial.node (state l.nodes l.links l.scratch l.now) l.node

abbrev pub decreases-postfix-loop-nodes : goal.decreases-postfix-loop-nodes
decreases-postfix-loop-nodes l = count l.tokens - l.now.at
