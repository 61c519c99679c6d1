-- A `while`, an expression and a block: a WhileLoop of the two.
use borrow.Author.Rules.{rules}
use native.Mathlib.Omega.{arith}
use mathlib.Core.Path.{refl}
use Rattle.grammar.specs.Kaori.{above}
use Rattle.grammar.specs.Rows.{make, put, fill, numbers, write}
use Rattle.grammar.specs.Rule.{rule}
use Rattle.grammar.specs.Space.{has_word}
use Rattle.grammar.proofs.Room.{paid, spare}
use Rattle.reading.proofs.Laws.{both, ready_on}
use Rattle.reading.proofs.Refusals as Refuses
use Rattle.reading.proofs.Replies.{success, token_taken, passed, lacks, after}
use Rattle.reading.proofs.Taking.{starts, past_at, led, led_refused, ready_led, free, tried_as, row_answered}
use Rattle.parser.proofs.readers.+readers.Goals as goal

pub while_-returns-in_default : goal.while_-returns-in_default
while_-returns-in_default t c = lacks c.in_default.is c.consume-read.ensures (λ h. Refuses.in_node (Refuses.missing h))

pub while_-expression-read-requires : goal.while_-expression-read-requires
while_-expression-read-requires t c =
    let lead = token_taken c.in-Node.is c.consume-read.ensures in
    let e = past_at lead in (search rules, ready_led c.requires lead (λ e. omega arith))

pub while_-returns-in_default-read : goal.while_-returns-in_default-read
while_-returns-in_default-read t c =
    let lead = token_taken c.in-Node.is c.consume-read.ensures in
    passed c.in_default-read.is c.expression-read.ensures
    (λ x h. Refuses.in_node (led_refused lead (Refuses.in_first h)))

pub while_-block-read-requires : goal.while_-block-read-requires
while_-block-read-requires t c =
    let lead = token_taken c.in-Node.is c.consume-read.ensures in
    let condition = success c.in-Node-read.is c.expression-read.ensures in (
      omega (arith, past_at lead, condition.past, condition.within.at),
      ready_on
          c.requires condition.within,
    )

pub while_-returns-in_default-read-2 : goal.while_-returns-in_default-read-2
while_-returns-in_default-read-2 t c =
    let lead = token_taken c.in-Node.is c.consume-read.ensures in
    let condition = success c.in-Node-read.is c.expression-read.ensures in
    passed c.in_default-read-2.is c.block-read.ensures
    (λ x h. Refuses.in_node (led_refused lead (after condition.reading h)))

pub while_-while_loop-node-requires : goal.while_-while_loop-node-requires
while_-while_loop-node-requires t c =
    let body = success c.in-Node-read-2.is c.block-read.ensures in
    free c.requires.lent body.within

pub while_-made-requires : goal.while_-made-requires
while_-made-requires t c =
    let body = success c.in-Node-read-2.is c.block-read.ensures in
    free c.requires.lent body.within

pub while_-returns : goal.while_-returns
unfolding paid spare above make put fill numbers write rule has_word
while_-returns t c =
    let lead = token_taken c.in-Node.is c.consume-read.ensures in
    let condition = success c.in-Node-read.is c.expression-read.ensures in
    let body = success c.in-Node-read-2.is c.block-read.ensures in
    row_answered c.made.ensures c.requires (record { pays = tt }) (led lead (both condition.reading body.reading)) body.within
    (tried_as (starts lead) refl refl c.while_loop-node.ensures) refl refl
