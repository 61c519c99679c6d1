-- The readers meet their contracts: a file for each.
mod Arg
mod Args
mod Assign
mod Binary
mod Bind
mod Block
mod Body
mod Call
mod Chained
mod Deny
mod Else
mod Expression
mod Form
mod Fun
mod Group
mod Head
mod If
mod Items
mod Lambda
mod Map
mod Not
mod Pair
mod Pairs
mod Plus
mod Postfix
mod Prefix
mod Primary
mod Return
mod Statement
mod Unary
mod While
use Rattle.parser.proofs.readers.+readers.Goals as goal
use Arg
use Args
use Assign
use Binary
use Bind
use Block
use Body
use Call
use Chained
use Deny
use Else
use Expression
use Form
use Fun
use Group
use Head
use If
use Items
use Lambda
use Map
use Not
use Pair
use Pairs
use Plus
use Postfix
use Prefix
use Primary
use Return
use Statement
use Unary
use While

pub arg-returns-in_default : goal.arg-returns-in_default
arg-returns-in_default = Arg.arg-returns-in_default

pub arg-comma-requires : goal.arg-comma-requires
arg-comma-requires = Arg.arg-comma-requires

pub arg-returns : goal.arg-returns
arg-returns = Arg.arg-returns

pub args-list-init : goal.args-list-init
args-list-init = Args.args-list-init

pub args-returns-in_default-read : goal.args-returns-in_default-read
args-returns-in_default-read = Args.args-returns-in_default-read

pub args-push-requires : goal.args-push-requires
args-push-requires = Args.args-push-requires

pub args-overflow_add-now : goal.args-overflow_add-now
args-overflow_add-now = Args.args-overflow_add-now

pub args-list-smaller : goal.args-list-smaller
args-list-smaller = Args.args-list-smaller

pub args-list-preserved : goal.args-list-preserved
args-list-preserved = Args.args-list-preserved

pub args-returns : goal.args-returns
args-returns = Args.args-returns

pub assign-returns-in_default : goal.assign-returns-in_default
assign-returns-in_default = Assign.assign-returns-in_default

pub assign-kind_at-requires : goal.assign-kind_at-requires
assign-kind_at-requires = Assign.assign-kind_at-requires

pub assign-returns-then-kind_at-ne-ASSIGN : goal.assign-returns-then-kind_at-ne-ASSIGN
assign-returns-then-kind_at-ne-ASSIGN = Assign.assign-returns-then-kind_at-ne-ASSIGN

pub assign-overflow_add-next : goal.assign-overflow_add-next
assign-overflow_add-next = Assign.assign-overflow_add-next

pub assign-expression-turn-requires : goal.assign-expression-turn-requires
assign-expression-turn-requires = Assign.assign-expression-turn-requires

pub assign-returns-in_default-turn : goal.assign-returns-in_default-turn
assign-returns-in_default-turn = Assign.assign-returns-in_default-turn

pub assign-assign-node-requires : goal.assign-assign-node-requires
assign-assign-node-requires = Assign.assign-assign-node-requires

pub assign-made-requires : goal.assign-made-requires
assign-made-requires = Assign.assign-made-requires

pub assign-returns : goal.assign-returns
assign-returns = Assign.assign-returns

pub binary-returns-in_default : goal.binary-returns-in_default
binary-returns-in_default = Binary.binary-returns-in_default

pub binary-loop-terms-init : goal.binary-loop-terms-init
binary-loop-terms-init = Binary.binary-loop-terms-init

pub binary-binary-turn-requires : goal.binary-binary-turn-requires
binary-binary-turn-requires = Binary.binary-binary-turn-requires

pub binary-returns-in_default-turn : goal.binary-returns-in_default-turn
binary-returns-in_default-turn = Binary.binary-returns-in_default-turn

pub binary-joined-whole-requires : goal.binary-joined-whole-requires
binary-joined-whole-requires = Binary.binary-joined-whole-requires

pub binary-returns-then-whole : goal.binary-returns-then-whole
binary-returns-then-whole = Binary.binary-returns-then-whole

pub binary-overflow_add-now : goal.binary-overflow_add-now
binary-overflow_add-now = Binary.binary-overflow_add-now

pub binary-loop-terms-smaller : goal.binary-loop-terms-smaller
binary-loop-terms-smaller = Binary.binary-loop-terms-smaller

pub binary-loop-terms-preserved : goal.binary-loop-terms-preserved
binary-loop-terms-preserved = Binary.binary-loop-terms-preserved

pub binary-returns : goal.binary-returns
binary-returns = Binary.binary-returns

pub bind-returns-in_default : goal.bind-returns-in_default
bind-returns-in_default = Bind.bind-returns-in_default

pub bind-name-read-requires : goal.bind-name-read-requires
bind-name-read-requires = Bind.bind-name-read-requires

pub bind-returns-in_default-read : goal.bind-returns-in_default-read
bind-returns-in_default-read = Bind.bind-returns-in_default-read

pub bind-consume-read-requires-2 : goal.bind-consume-read-requires-2
bind-consume-read-requires-2 = Bind.bind-consume-read-requires-2

pub bind-returns-in_default-read-2 : goal.bind-returns-in_default-read-2
bind-returns-in_default-read-2 = Bind.bind-returns-in_default-read-2

pub bind-expression-read-requires : goal.bind-expression-read-requires
bind-expression-read-requires = Bind.bind-expression-read-requires

pub bind-returns-in_default-read-3 : goal.bind-returns-in_default-read-3
bind-returns-in_default-read-3 = Bind.bind-returns-in_default-read-3

pub bind-bound-node-requires : goal.bind-bound-node-requires
bind-bound-node-requires = Bind.bind-bound-node-requires

pub bind-made-requires : goal.bind-made-requires
bind-made-requires = Bind.bind-made-requires

pub bind-returns : goal.bind-returns
bind-returns = Bind.bind-returns

pub block-returns-then-terms-depth : goal.block-returns-then-terms-depth
block-returns-then-terms-depth = Block.block-returns-then-terms-depth

pub block-returns-in_default : goal.block-returns-in_default
block-returns-in_default = Block.block-returns-in_default

pub block-items-read-requires : goal.block-items-read-requires
block-items-read-requires = Block.block-items-read-requires

pub block-returns-in_default-read : goal.block-returns-in_default-read
block-returns-in_default-read = Block.block-returns-in_default-read

pub block-consume-read-requires-2 : goal.block-consume-read-requires-2
block-consume-read-requires-2 = Block.block-consume-read-requires-2

pub block-returns-in_default-read-2 : goal.block-returns-in_default-read-2
block-returns-in_default-read-2 = Block.block-returns-in_default-read-2

pub block-overflow_sub-count : goal.block-overflow_sub-count
block-overflow_sub-count = Block.block-overflow_sub-count

pub block-gather-done-requires : goal.block-gather-done-requires
block-gather-done-requires = Block.block-gather-done-requires

pub block-overflow_cast-first : goal.block-overflow_cast-first
block-overflow_cast-first = Block.block-overflow_cast-first

pub block-overflow_cast-count : goal.block-overflow_cast-count
block-overflow_cast-count = Block.block-overflow_cast-count

pub block-block-node-requires : goal.block-block-node-requires
block-block-node-requires = Block.block-block-node-requires

pub block-made_list-requires : goal.block-made_list-requires
block-made_list-requires = Block.block-made_list-requires

pub block-returns : goal.block-returns
block-returns = Block.block-returns

pub body-returns-in-20 : goal.body-returns-in-20
body-returns-in-20 = Body.body-returns-in-20

pub body-returns-in_default : goal.body-returns-in_default
body-returns-in_default = Body.body-returns-in_default

pub call-returns-in_default : goal.call-returns-in_default
call-returns-in_default = Call.call-returns-in_default

pub call-args-read-requires : goal.call-args-read-requires
call-args-read-requires = Call.call-args-read-requires

pub call-returns-in_default-read : goal.call-returns-in_default-read
call-returns-in_default-read = Call.call-returns-in_default-read

pub call-consume-read-requires-2 : goal.call-consume-read-requires-2
call-consume-read-requires-2 = Call.call-consume-read-requires-2

pub call-returns-in_default-read-2 : goal.call-returns-in_default-read-2
call-returns-in_default-read-2 = Call.call-returns-in_default-read-2

pub call-overflow_sub-count : goal.call-overflow_sub-count
call-overflow_sub-count = Call.call-overflow_sub-count

pub call-gather-done-requires : goal.call-gather-done-requires
call-gather-done-requires = Call.call-gather-done-requires

pub call-overflow_cast-first : goal.call-overflow_cast-first
call-overflow_cast-first = Call.call-overflow_cast-first

pub call-overflow_cast-count : goal.call-overflow_cast-count
call-overflow_cast-count = Call.call-overflow_cast-count

pub call-function_call-node-requires : goal.call-function_call-node-requires
call-function_call-node-requires = Call.call-function_call-node-requires

pub call-made_list-requires : goal.call-made_list-requires
call-made_list-requires = Call.call-made_list-requires

pub call-returns : goal.call-returns
call-returns = Call.call-returns

pub chained-returns-in_default : goal.chained-returns-in_default
chained-returns-in_default = Chained.chained-returns-in_default

pub chained-returns-then-lone : goal.chained-returns-then-lone
chained-returns-then-lone = Chained.chained-returns-then-lone

pub chained-kind_at-next-requires : goal.chained-kind_at-next-requires
chained-kind_at-next-requires = Chained.chained-kind_at-next-requires

pub chained-returns-in_default-next : goal.chained-returns-in_default-next
chained-returns-in_default-next = Chained.chained-returns-in_default-next

pub chained-postfix-requires : goal.chained-postfix-requires
chained-postfix-requires = Chained.chained-postfix-requires

pub chained-returns : goal.chained-returns
chained-returns = Chained.chained-returns

pub deny-returns-then-terms-depth : goal.deny-returns-then-terms-depth
deny-returns-then-terms-depth = Deny.deny-returns-then-terms-depth

pub deny-returns-in_default : goal.deny-returns-in_default
deny-returns-in_default = Deny.deny-returns-in_default

pub deny-binary-read-requires : goal.deny-binary-read-requires
deny-binary-read-requires = Deny.deny-binary-read-requires

pub deny-returns-in_default-read : goal.deny-returns-in_default-read
deny-returns-in_default-read = Deny.deny-returns-in_default-read

pub deny-logical_not-node-requires : goal.deny-logical_not-node-requires
deny-logical_not-node-requires = Deny.deny-logical_not-node-requires

pub deny-made-requires : goal.deny-made-requires
deny-made-requires = Deny.deny-made-requires

pub deny-returns : goal.deny-returns
deny-returns = Deny.deny-returns

pub else_-returns-in-33 : goal.else_-returns-in-33
else_-returns-in-33 = Else.else_-returns-in-33

pub else_-returns-in_default : goal.else_-returns-in_default
else_-returns-in_default = Else.else_-returns-in_default

pub expression-returns-then-terms-depth : goal.expression-returns-then-terms-depth
expression-returns-then-terms-depth = Expression.expression-returns-then-terms-depth

pub expression-binary-requires : goal.expression-binary-requires
expression-binary-requires = Expression.expression-binary-requires

pub expression-returns : goal.expression-returns
expression-returns = Expression.expression-returns

pub form-bind-requires : goal.form-bind-requires
form-bind-requires = Form.form-bind-requires

pub form-single-requires : goal.form-single-requires
form-single-requires = Form.form-single-requires

pub form-returns-in-20 : goal.form-returns-in-20
form-returns-in-20 = Form.form-returns-in-20

pub form-returns-in-28 : goal.form-returns-in-28
form-returns-in-28 = Form.form-returns-in-28

pub form-returns-in-29 : goal.form-returns-in-29
form-returns-in-29 = Form.form-returns-in-29

pub form-returns-in-30 : goal.form-returns-in-30
form-returns-in-30 = Form.form-returns-in-30

pub form-returns-in-33 : goal.form-returns-in-33
form-returns-in-33 = Form.form-returns-in-33

pub form-returns-in-35 : goal.form-returns-in-35
form-returns-in-35 = Form.form-returns-in-35

pub form-returns-in-36 : goal.form-returns-in-36
form-returns-in-36 = Form.form-returns-in-36

pub form-returns-in-25-to-27 : goal.form-returns-in-25-to-27
form-returns-in-25-to-27 = Form.form-returns-in-25-to-27

pub form-returns-in-31-to-32 : goal.form-returns-in-31-to-32
form-returns-in-31-to-32 = Form.form-returns-in-31-to-32

pub form-returns-in_default : goal.form-returns-in_default
form-returns-in_default = Form.form-returns-in_default

pub fun_-returns-in_default : goal.fun_-returns-in_default
fun_-returns-in_default = Fun.fun_-returns-in_default

pub fun_-name-read-requires : goal.fun_-name-read-requires
fun_-name-read-requires = Fun.fun_-name-read-requires

pub fun_-returns-in_default-read : goal.fun_-returns-in_default-read
fun_-returns-in_default-read = Fun.fun_-returns-in_default-read

pub fun_-consume-read-requires-2 : goal.fun_-consume-read-requires-2
fun_-consume-read-requires-2 = Fun.fun_-consume-read-requires-2

pub fun_-returns-in_default-read-2 : goal.fun_-returns-in_default-read-2
fun_-returns-in_default-read-2 = Fun.fun_-returns-in_default-read-2

pub fun_-names-read-requires : goal.fun_-names-read-requires
fun_-names-read-requires = Fun.fun_-names-read-requires

pub fun_-returns-in_default-read-3 : goal.fun_-returns-in_default-read-3
fun_-returns-in_default-read-3 = Fun.fun_-returns-in_default-read-3

pub fun_-consume-read-requires-3 : goal.fun_-consume-read-requires-3
fun_-consume-read-requires-3 = Fun.fun_-consume-read-requires-3

pub fun_-returns-in_default-read-4 : goal.fun_-returns-in_default-read-4
fun_-returns-in_default-read-4 = Fun.fun_-returns-in_default-read-4

pub fun_-block-read-requires : goal.fun_-block-read-requires
fun_-block-read-requires = Fun.fun_-block-read-requires

pub fun_-returns-in_default-read-5 : goal.fun_-returns-in_default-read-5
fun_-returns-in_default-read-5 = Fun.fun_-returns-in_default-read-5

pub fun_-overflow_sub-count : goal.fun_-overflow_sub-count
fun_-overflow_sub-count = Fun.fun_-overflow_sub-count

pub fun_-gather-done-requires : goal.fun_-gather-done-requires
fun_-gather-done-requires = Fun.fun_-gather-done-requires

pub fun_-overflow_cast-first : goal.fun_-overflow_cast-first
fun_-overflow_cast-first = Fun.fun_-overflow_cast-first

pub fun_-overflow_cast-count : goal.fun_-overflow_cast-count
fun_-overflow_cast-count = Fun.fun_-overflow_cast-count

pub fun_-function-node-requires : goal.fun_-function-node-requires
fun_-function-node-requires = Fun.fun_-function-node-requires

pub fun_-made_list-requires : goal.fun_-made_list-requires
fun_-made_list-requires = Fun.fun_-made_list-requires

pub fun_-returns : goal.fun_-returns
fun_-returns = Fun.fun_-returns

pub group-returns-in_default : goal.group-returns-in_default
group-returns-in_default = Group.group-returns-in_default

pub group-expression-read-requires : goal.group-expression-read-requires
group-expression-read-requires = Group.group-expression-read-requires

pub group-returns-in_default-read : goal.group-returns-in_default-read
group-returns-in_default-read = Group.group-returns-in_default-read

pub group-consume-read-requires-2 : goal.group-consume-read-requires-2
group-consume-read-requires-2 = Group.group-consume-read-requires-2

pub group-returns-in_default-read-2 : goal.group-returns-in_default-read-2
group-returns-in_default-read-2 = Group.group-returns-in_default-read-2

pub group-returns : goal.group-returns
group-returns = Group.group-returns

pub head-returns-in-17 : goal.head-returns-in-17
head-returns-in-17 = Head.head-returns-in-17

pub head-returns-in_default : goal.head-returns-in_default
head-returns-in_default = Head.head-returns-in_default

pub if_-returns-then-terms-depth : goal.if_-returns-then-terms-depth
if_-returns-then-terms-depth = If.if_-returns-then-terms-depth

pub if_-returns-in_default : goal.if_-returns-in_default
if_-returns-in_default = If.if_-returns-in_default

pub if_-expression-read-requires : goal.if_-expression-read-requires
if_-expression-read-requires = If.if_-expression-read-requires

pub if_-returns-in_default-read : goal.if_-returns-in_default-read
if_-returns-in_default-read = If.if_-returns-in_default-read

pub if_-block-read-requires : goal.if_-block-read-requires
if_-block-read-requires = If.if_-block-read-requires

pub if_-returns-in_default-read-2 : goal.if_-returns-in_default-read-2
if_-returns-in_default-read-2 = If.if_-returns-in_default-read-2

pub if_-kind_at-requires : goal.if_-kind_at-requires
if_-kind_at-requires = If.if_-kind_at-requires

pub if_-if_-node-requires : goal.if_-if_-node-requires
if_-if_-node-requires = If.if_-if_-node-requires

pub if_-made-requires : goal.if_-made-requires
if_-made-requires = If.if_-made-requires

pub if_-returns-then-kind_at-ne-ELSE : goal.if_-returns-then-kind_at-ne-ELSE
if_-returns-then-kind_at-ne-ELSE = If.if_-returns-then-kind_at-ne-ELSE

pub if_-overflow_add-further : goal.if_-overflow_add-further
if_-overflow_add-further = If.if_-overflow_add-further

pub if_-else_-read-requires : goal.if_-else_-read-requires
if_-else_-read-requires = If.if_-else_-read-requires

pub if_-returns-in_default-read-3 : goal.if_-returns-in_default-read-3
if_-returns-in_default-read-3 = If.if_-returns-in_default-read-3

pub if_-if_-node-requires-2 : goal.if_-if_-node-requires-2
if_-if_-node-requires-2 = If.if_-if_-node-requires-2

pub if_-made-requires-2 : goal.if_-made-requires-2
if_-made-requires-2 = If.if_-made-requires-2

pub if_-returns : goal.if_-returns
if_-returns = If.if_-returns

pub items-list-init : goal.items-list-init
items-list-init = Items.items-list-init

pub items-returns-in_default-read : goal.items-returns-in_default-read
items-returns-in_default-read = Items.items-returns-in_default-read

pub items-push-requires : goal.items-push-requires
items-push-requires = Items.items-push-requires

pub items-overflow_add-now : goal.items-overflow_add-now
items-overflow_add-now = Items.items-overflow_add-now

pub items-list-smaller : goal.items-list-smaller
items-list-smaller = Items.items-list-smaller

pub items-list-preserved : goal.items-list-preserved
items-list-preserved = Items.items-list-preserved

pub items-untailed-requires : goal.items-untailed-requires
items-untailed-requires = Items.items-untailed-requires

pub items-returns : goal.items-returns
items-returns = Items.items-returns

pub lambda-returns-in_default : goal.lambda-returns-in_default
lambda-returns-in_default = Lambda.lambda-returns-in_default

pub lambda-names-read-requires : goal.lambda-names-read-requires
lambda-names-read-requires = Lambda.lambda-names-read-requires

pub lambda-returns-in_default-read : goal.lambda-returns-in_default-read
lambda-returns-in_default-read = Lambda.lambda-returns-in_default-read

pub lambda-consume-read-requires-2 : goal.lambda-consume-read-requires-2
lambda-consume-read-requires-2 = Lambda.lambda-consume-read-requires-2

pub lambda-returns-in_default-read-2 : goal.lambda-returns-in_default-read-2
lambda-returns-in_default-read-2 = Lambda.lambda-returns-in_default-read-2

pub lambda-body-read-requires : goal.lambda-body-read-requires
lambda-body-read-requires = Lambda.lambda-body-read-requires

pub lambda-returns-in_default-read-3 : goal.lambda-returns-in_default-read-3
lambda-returns-in_default-read-3 = Lambda.lambda-returns-in_default-read-3

pub lambda-overflow_sub-count : goal.lambda-overflow_sub-count
lambda-overflow_sub-count = Lambda.lambda-overflow_sub-count

pub lambda-gather-done-requires : goal.lambda-gather-done-requires
lambda-gather-done-requires = Lambda.lambda-gather-done-requires

pub lambda-overflow_cast-first : goal.lambda-overflow_cast-first
lambda-overflow_cast-first = Lambda.lambda-overflow_cast-first

pub lambda-overflow_cast-count : goal.lambda-overflow_cast-count
lambda-overflow_cast-count = Lambda.lambda-overflow_cast-count

pub lambda-lambda-node-requires : goal.lambda-lambda-node-requires
lambda-lambda-node-requires = Lambda.lambda-lambda-node-requires

pub lambda-made_list-requires : goal.lambda-made_list-requires
lambda-made_list-requires = Lambda.lambda-made_list-requires

pub lambda-returns : goal.lambda-returns
lambda-returns = Lambda.lambda-returns

pub map_-returns-in_default : goal.map_-returns-in_default
map_-returns-in_default = Map.map_-returns-in_default

pub map_-consume-read-requires-2 : goal.map_-consume-read-requires-2
map_-consume-read-requires-2 = Map.map_-consume-read-requires-2

pub map_-returns-in_default-read : goal.map_-returns-in_default-read
map_-returns-in_default-read = Map.map_-returns-in_default-read

pub map_-pairs-read-requires : goal.map_-pairs-read-requires
map_-pairs-read-requires = Map.map_-pairs-read-requires

pub map_-returns-in_default-read-2 : goal.map_-returns-in_default-read-2
map_-returns-in_default-read-2 = Map.map_-returns-in_default-read-2

pub map_-consume-read-requires-3 : goal.map_-consume-read-requires-3
map_-consume-read-requires-3 = Map.map_-consume-read-requires-3

pub map_-returns-in_default-read-3 : goal.map_-returns-in_default-read-3
map_-returns-in_default-read-3 = Map.map_-returns-in_default-read-3

pub map_-overflow_sub-count : goal.map_-overflow_sub-count
map_-overflow_sub-count = Map.map_-overflow_sub-count

pub map_-gather-done-requires : goal.map_-gather-done-requires
map_-gather-done-requires = Map.map_-gather-done-requires

pub map_-overflow_cast-first : goal.map_-overflow_cast-first
map_-overflow_cast-first = Map.map_-overflow_cast-first

pub map_-overflow_cast-count : goal.map_-overflow_cast-count
map_-overflow_cast-count = Map.map_-overflow_cast-count

pub map_-map-node-requires : goal.map_-map-node-requires
map_-map-node-requires = Map.map_-map-node-requires

pub map_-made_list-requires : goal.map_-made_list-requires
map_-made_list-requires = Map.map_-made_list-requires

pub map_-returns : goal.map_-returns
map_-returns = Map.map_-returns

pub not_-returns-in_default : goal.not_-returns-in_default
not_-returns-in_default = Not.not_-returns-in_default

pub not_-returns-then-terms-depth : goal.not_-returns-then-terms-depth
not_-returns-then-terms-depth = Not.not_-returns-then-terms-depth

pub not_-binary-read-requires : goal.not_-binary-read-requires
not_-binary-read-requires = Not.not_-binary-read-requires

pub not_-returns-in_default-read : goal.not_-returns-in_default-read
not_-returns-in_default-read = Not.not_-returns-in_default-read

pub not_-logical_not-node-requires : goal.not_-logical_not-node-requires
not_-logical_not-node-requires = Not.not_-logical_not-node-requires

pub not_-made-requires : goal.not_-made-requires
not_-made-requires = Not.not_-made-requires

pub not_-returns : goal.not_-returns
not_-returns = Not.not_-returns

pub pair-returns-in_default : goal.pair-returns-in_default
pair-returns-in_default = Pair.pair-returns-in_default

pub pair-kind_at-requires : goal.pair-kind_at-requires
pair-kind_at-requires = Pair.pair-kind_at-requires

pub pair-comma-requires : goal.pair-comma-requires
pair-comma-requires = Pair.pair-comma-requires

pub pair-returns-then-kind_at-ne-COLON : goal.pair-returns-then-kind_at-ne-COLON
pair-returns-then-kind_at-ne-COLON = Pair.pair-returns-then-kind_at-ne-COLON

pub pair-overflow_add-next : goal.pair-overflow_add-next
pair-overflow_add-next = Pair.pair-overflow_add-next

pub pair-expression-turn-requires : goal.pair-expression-turn-requires
pair-expression-turn-requires = Pair.pair-expression-turn-requires

pub pair-returns-in_default-turn : goal.pair-returns-in_default-turn
pair-returns-in_default-turn = Pair.pair-returns-in_default-turn

pub pair-comma-requires-2 : goal.pair-comma-requires-2
pair-comma-requires-2 = Pair.pair-comma-requires-2

pub pair-returns : goal.pair-returns
pair-returns = Pair.pair-returns

pub pairs-list-init : goal.pairs-list-init
pairs-list-init = Pairs.pairs-list-init

pub pairs-returns-in_default-read : goal.pairs-returns-in_default-read
pairs-returns-in_default-read = Pairs.pairs-returns-in_default-read

pub pairs-push-requires : goal.pairs-push-requires
pairs-push-requires = Pairs.pairs-push-requires

pub pairs-overflow_add-now : goal.pairs-overflow_add-now
pairs-overflow_add-now = Pairs.pairs-overflow_add-now

pub pairs-list-smaller : goal.pairs-list-smaller
pairs-list-smaller = Pairs.pairs-list-smaller

pub pairs-list-preserved : goal.pairs-list-preserved
pairs-list-preserved = Pairs.pairs-list-preserved

pub pairs-returns : goal.pairs-returns
pairs-returns = Pairs.pairs-returns

pub plus-returns-then-terms-depth : goal.plus-returns-then-terms-depth
plus-returns-then-terms-depth = Plus.plus-returns-then-terms-depth

pub plus-returns-in_default : goal.plus-returns-in_default
plus-returns-in_default = Plus.plus-returns-in_default

pub plus-binary-requires : goal.plus-binary-requires
plus-binary-requires = Plus.plus-binary-requires

pub plus-returns : goal.plus-returns
plus-returns = Plus.plus-returns

pub postfix-kind_at-kind-requires : goal.postfix-kind_at-kind-requires
postfix-kind_at-kind-requires = Postfix.postfix-kind_at-kind-requires

pub postfix-property_access-read-requires : goal.postfix-property_access-read-requires
postfix-property_access-read-requires = Postfix.postfix-property_access-read-requires

pub postfix-returns-in_default-read : goal.postfix-returns-in_default-read
postfix-returns-in_default-read = Postfix.postfix-returns-in_default-read

pub postfix-loop-nodes-smaller-in-15 : goal.postfix-loop-nodes-smaller-in-15
postfix-loop-nodes-smaller-in-15 = Postfix.postfix-loop-nodes-smaller-in-15

pub postfix-loop-nodes-preserved-in-15 : goal.postfix-loop-nodes-preserved-in-15
postfix-loop-nodes-preserved-in-15 = Postfix.postfix-loop-nodes-preserved-in-15

pub postfix-call-read-requires : goal.postfix-call-read-requires
postfix-call-read-requires = Postfix.postfix-call-read-requires

pub postfix-returns-in_default-read-2 : goal.postfix-returns-in_default-read-2
postfix-returns-in_default-read-2 = Postfix.postfix-returns-in_default-read-2

pub postfix-loop-nodes-smaller : goal.postfix-loop-nodes-smaller
postfix-loop-nodes-smaller = Postfix.postfix-loop-nodes-smaller

pub postfix-loop-nodes-preserved : goal.postfix-loop-nodes-preserved
postfix-loop-nodes-preserved = Postfix.postfix-loop-nodes-preserved

pub postfix-returns : goal.postfix-returns
postfix-returns = Postfix.postfix-returns

pub prefix-returns-then-terms-eq-SECOND : goal.prefix-returns-then-terms-eq-SECOND
prefix-returns-then-terms-eq-SECOND = Prefix.prefix-returns-then-terms-eq-SECOND

pub prefix-single-requires : goal.prefix-single-requires
prefix-single-requires = Prefix.prefix-single-requires

pub prefix-primary-requires : goal.prefix-primary-requires
prefix-primary-requires = Prefix.prefix-primary-requires

pub prefix-returns-in-1 : goal.prefix-returns-in-1
prefix-returns-in-1 = Prefix.prefix-returns-in-1

pub prefix-returns-in-2 : goal.prefix-returns-in-2
prefix-returns-in-2 = Prefix.prefix-returns-in-2

pub prefix-returns-in-17 : goal.prefix-returns-in-17
prefix-returns-in-17 = Prefix.prefix-returns-in-17

pub prefix-returns-else-terms-eq-SECOND : goal.prefix-returns-else-terms-eq-SECOND
prefix-returns-else-terms-eq-SECOND = Prefix.prefix-returns-else-terms-eq-SECOND

pub prefix-returns-in-40 : goal.prefix-returns-in-40
prefix-returns-in-40 = Prefix.prefix-returns-in-40

pub prefix-returns-in-42 : goal.prefix-returns-in-42
prefix-returns-in-42 = Prefix.prefix-returns-in-42

pub primary-single-requires : goal.primary-single-requires
primary-single-requires = Primary.primary-single-requires

pub primary-returns-in-16 : goal.primary-returns-in-16
primary-returns-in-16 = Primary.primary-returns-in-16

pub primary-returns-in-19 : goal.primary-returns-in-19
primary-returns-in-19 = Primary.primary-returns-in-19

pub primary-returns-in-20 : goal.primary-returns-in-20
primary-returns-in-20 = Primary.primary-returns-in-20

pub primary-returns-in-33 : goal.primary-returns-in-33
primary-returns-in-33 = Primary.primary-returns-in-33

pub primary-returns-in-37-to-39 : goal.primary-returns-in-37-to-39
primary-returns-in-37-to-39 = Primary.primary-returns-in-37-to-39

pub primary-returns-in_default : goal.primary-returns-in_default
primary-returns-in_default = Primary.primary-returns-in_default

pub primary-returns-in_default-2 : goal.primary-returns-in_default-2
primary-returns-in_default-2 = Primary.primary-returns-in_default-2

pub return_-returns-in_default : goal.return_-returns-in_default
return_-returns-in_default = Return.return_-returns-in_default

pub return_-kind_at-requires : goal.return_-kind_at-requires
return_-kind_at-requires = Return.return_-kind_at-requires

pub return_-return_-node-requires : goal.return_-return_-node-requires
return_-return_-node-requires = Return.return_-return_-node-requires

pub return_-made-requires : goal.return_-made-requires
return_-made-requires = Return.return_-made-requires

pub return_-returns-then-bare : goal.return_-returns-then-bare
return_-returns-then-bare = Return.return_-returns-then-bare

pub return_-expression-read-requires : goal.return_-expression-read-requires
return_-expression-read-requires = Return.return_-expression-read-requires

pub return_-returns-in_default-read : goal.return_-returns-in_default-read
return_-returns-in_default-read = Return.return_-returns-in_default-read

pub return_-return_-node-requires-2 : goal.return_-return_-node-requires-2
return_-return_-node-requires-2 = Return.return_-return_-node-requires-2

pub return_-made-requires-2 : goal.return_-made-requires-2
return_-made-requires-2 = Return.return_-made-requires-2

pub return_-returns : goal.return_-returns
return_-returns = Return.return_-returns

pub statement-returns-in_default : goal.statement-returns-in_default
statement-returns-in_default = Statement.statement-returns-in_default

pub statement-semicolon-requires : goal.statement-semicolon-requires
statement-semicolon-requires = Statement.statement-semicolon-requires

pub statement-returns : goal.statement-returns
statement-returns = Statement.statement-returns

pub unary-returns-then-terms-depth : goal.unary-returns-then-terms-depth
unary-returns-then-terms-depth = Unary.unary-returns-then-terms-depth

pub unary-returns-in_default : goal.unary-returns-in_default
unary-returns-in_default = Unary.unary-returns-in_default

pub unary-binary-read-requires : goal.unary-binary-read-requires
unary-binary-read-requires = Unary.unary-binary-read-requires

pub unary-returns-in_default-read : goal.unary-returns-in_default-read
unary-returns-in_default-read = Unary.unary-returns-in_default-read

pub unary-unary-node-requires : goal.unary-unary-node-requires
unary-unary-node-requires = Unary.unary-unary-node-requires

pub unary-made-requires : goal.unary-made-requires
unary-made-requires = Unary.unary-made-requires

pub unary-returns : goal.unary-returns
unary-returns = Unary.unary-returns

pub while_-returns-in_default : goal.while_-returns-in_default
while_-returns-in_default = While.while_-returns-in_default

pub while_-expression-read-requires : goal.while_-expression-read-requires
while_-expression-read-requires = While.while_-expression-read-requires

pub while_-returns-in_default-read : goal.while_-returns-in_default-read
while_-returns-in_default-read = While.while_-returns-in_default-read

pub while_-block-read-requires : goal.while_-block-read-requires
while_-block-read-requires = While.while_-block-read-requires

pub while_-returns-in_default-read-2 : goal.while_-returns-in_default-read-2
while_-returns-in_default-read-2 = While.while_-returns-in_default-read-2

pub while_-while_loop-node-requires : goal.while_-while_loop-node-requires
while_-while_loop-node-requires = While.while_-while_loop-node-requires

pub while_-made-requires : goal.while_-made-requires
while_-made-requires = While.while_-made-requires

pub while_-returns : goal.while_-returns
while_-returns = While.while_-returns
