-- A `return`, and its expression: a Return from the one to the end of the other. In edition 2 it may stand alone: a Return of its own token.
use borrow.Author.Rules.{rules}
use native.Mathlib.Omega.{arith}
use mathlib.Core.Path.{refl}
use Rattle.grammar.specs.Kaori.{above}
use Rattle.grammar.specs.Rows.{make, put, fill, numbers, write}
use Rattle.grammar.specs.Rule.{rule}
use Rattle.grammar.specs.Space.{has_word}
use Rattle.grammar.proofs.Room.{paid, spare}
use Rattle.reading.proofs.Laws.{nothing, chosen}
use Rattle.reading.proofs.Picks.{stands_alone, takes_expression}
use Rattle.reading.proofs.Refusals as Refuses
use Rattle.reading.proofs.Replies.{success, token_taken, passed, lacks}
use Rattle.reading.proofs.Taking.{starts, ends, past_at, led, led_refused, ready_led, free, tried_as, row_answered}
use Rattle.parser.proofs.readers.+readers.Goals as goal

pub return_-returns-in_default : goal.return_-returns-in_default
return_-returns-in_default t c = lacks c.in_default.is c.consume-read.ensures (λ h. Refuses.in_node (Refuses.missing h))

pub return_-kind_at-requires : goal.return_-kind_at-requires
return_-kind_at-requires t c =
    let lead = token_taken c.in-Node.is c.consume-read.ensures in
    (ready_led c.requires lead (λ e. omega arith)).within.at

pub return_-return_-node-requires : goal.return_-return_-node-requires
return_-return_-node-requires t c =
    let lead = token_taken c.in-Node.is c.consume-read.ensures in
    free c.requires.lent (ready_led c.requires lead (λ e. omega arith)).within

pub return_-made-requires : goal.return_-made-requires
return_-made-requires t c =
    let lead = token_taken c.in-Node.is c.consume-read.ensures in
    free c.requires.lent (ready_led c.requires lead (λ e. omega arith)).within

-- alone
pub return_-returns-then-bare : goal.return_-returns-then-bare
unfolding paid spare above make put fill numbers write rule has_word
return_-returns-then-bare t c =
    let lead = token_taken c.in-Node.is c.consume-read.ensures in
    row_answered c.made.ensures c.requires (record { pays = tt })
    (led lead (chosen (stands_alone c.kind_at.ensures c.bare.ensures c.if-bare.true) (nothing c.requires.deep))) (ready_led c.requires lead (λ e. omega arith)).within
    (tried_as (starts lead) (ends lead) refl c.return_-node.ensures) refl refl

pub return_-expression-read-requires : goal.return_-expression-read-requires
return_-expression-read-requires t c =
    let lead = token_taken c.in-Node.is c.consume-read.ensures in
    let e = past_at lead in
    (search rules, ready_led c.requires lead (λ e. omega arith))

pub return_-returns-in_default-read : goal.return_-returns-in_default-read
return_-returns-in_default-read t c =
    let lead = token_taken c.in-Node.is c.consume-read.ensures in
    passed c.in_default-read.is c.expression-read.ensures
    (λ x h. Refuses.in_node (led_refused lead (Refuses.in_choice (takes_expression c.kind_at.ensures c.bare.ensures c.if-bare.false) h)))

pub return_-return_-node-requires-2 : goal.return_-return_-node-requires-2
return_-return_-node-requires-2 t c =
    let part = success c.in-Node-read.is c.expression-read.ensures in
    free c.requires.lent part.within

pub return_-made-requires-2 : goal.return_-made-requires-2
return_-made-requires-2 t c =
    let part = success c.in-Node-read.is c.expression-read.ensures in
    free c.requires.lent part.within

pub return_-returns : goal.return_-returns
unfolding paid spare above make put fill numbers write rule has_word
return_-returns t c =
    let lead = token_taken c.in-Node.is c.consume-read.ensures in
    let part = success c.in-Node-read.is c.expression-read.ensures in
    row_answered c.made-2.ensures c.requires (record { pays = tt })
    (led lead (chosen (takes_expression c.kind_at.ensures c.bare.ensures c.if-bare.false) part.reading)) part.within
    (tried_as (starts lead) refl refl c.return_-node-2.ensures) refl refl
