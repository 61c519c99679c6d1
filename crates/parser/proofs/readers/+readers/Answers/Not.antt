-- A `not` of edition 1, and a whole expression, one opening deeper: a LogicalNot with the span of the `not` alone.
use borrow.Author.Rules.{rules}
use native.Mathlib.Omega.{arith}
use mathlib.Core.Path.{refl}
use Rattle.grammar.specs.Kaori.{above}
use Rattle.grammar.specs.Rows.{make, put, fill, numbers, write}
use Rattle.grammar.specs.Rule.{rule}
use Rattle.grammar.specs.Space.{has_word}
use Rattle.grammar.proofs.Room.{paid, spare}
use Rattle.reading.proofs.Laws.{opened, ready_deep}
use Rattle.reading.proofs.Refusals as Refuses
use Rattle.reading.proofs.Replies.{success, token_taken, passed, refuse, lacks}
use Rattle.reading.proofs.Taking.{starts, ends, past_at, led, led_refused, ready_led, free, tried_as, row_answered}
use Rattle.parser.proofs.readers.+readers.Goals as goal

pub not_-returns-in_default : goal.not_-returns-in_default
not_-returns-in_default t c = lacks c.in_default.is c.consume-read.ensures (λ h. Refuses.in_node (Refuses.missing h))

pub not_-returns-then-terms-depth : goal.not_-returns-then-terms-depth
not_-returns-then-terms-depth t c =
    let lead = token_taken c.in-Node.is c.consume-read.ensures in
    refuse (Refuses.in_node (led_refused lead (Refuses.too_deep c.if-terms-depth.true)))

pub not_-binary-read-requires : goal.not_-binary-read-requires
not_-binary-read-requires t c =
    let lead = token_taken c.in-Node.is c.consume-read.ensures in
    let e = past_at lead in
    (search rules, (omega arith, ready_deep (ready_led c.requires lead (λ e. omega arith)) c.if-terms-depth.false))

pub not_-returns-in_default-read : goal.not_-returns-in_default-read
not_-returns-in_default-read t c =
    let lead = token_taken c.in-Node.is c.consume-read.ensures in
    passed c.in_default-read.is c.binary-read.ensures
    (λ x h. Refuses.in_node
    (led_refused lead
    (Refuses.inside c.if-terms-depth.false h)))

pub not_-logical_not-node-requires : goal.not_-logical_not-node-requires
not_-logical_not-node-requires t c =
    let part = success c.in-Node-read.is c.binary-read.ensures in
    free c.requires.lent part.within

pub not_-made-requires : goal.not_-made-requires
not_-made-requires t c =
    let part = success c.in-Node-read.is c.binary-read.ensures in
    free c.requires.lent part.within

pub not_-returns : goal.not_-returns
unfolding paid spare above make put fill numbers write rule has_word
not_-returns t c =
    let lead = token_taken c.in-Node.is c.consume-read.ensures in
    let part = success c.in-Node-read.is c.binary-read.ensures in
    row_answered c.made.ensures c.requires (record { pays = tt }) (led lead (opened part.reading)) part.within
    (tried_as (starts lead) (ends lead) refl c.logical_not-node.ensures) refl refl
