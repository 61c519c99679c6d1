-- A `not` of edition 2, and an operand, one opening deeper: a LogicalNot from the one to the end of the other.
use borrow.Author.Rules.{rules}
use native.Mathlib.Omega.{arith}
use mathlib.Core.Path.{refl}
use Rattle.grammar.specs.Kaori.{above}
use Rattle.grammar.specs.Rows.{make, put, fill, numbers, write}
use Rattle.grammar.specs.Rule.{rule}
use Rattle.grammar.specs.Space.{has_word}
use Rattle.grammar.proofs.Room.{paid, spare}
use Rattle.reading.proofs.Laws.{ready_deep}
use Rattle.reading.proofs.Refusals as Refuses
use Rattle.reading.proofs.Replies.{success, token_taken, passed, refuse, lacks, nested_answer}
use Rattle.reading.proofs.Taking.{starts, past_at, led, led_refused, ready_led, free, tried_as, row_answered}
use Rattle.parser.proofs.readers.+readers.Goals as goal

pub deny-returns-then-terms-depth : goal.deny-returns-then-terms-depth
deny-returns-then-terms-depth t c = refuse (Refuses.too_deep c.if-terms-depth.true)

pub deny-returns-in_default : goal.deny-returns-in_default
deny-returns-in_default t c = lacks c.in_default.is c.consume-read.ensures (λ h. Refuses.inside c.if-terms-depth.false (Refuses.in_node (Refuses.missing h)))

pub deny-binary-read-requires : goal.deny-binary-read-requires
deny-binary-read-requires t c =
    let lead = token_taken c.in-Node.is c.consume-read.ensures in
    let e = past_at lead in
    (search rules, (search rules, ready_led (ready_deep c.requires c.if-terms-depth.false) lead (λ e. omega arith)))

pub deny-returns-in_default-read : goal.deny-returns-in_default-read
unfolding above
deny-returns-in_default-read t c =
    let lead = token_taken c.in-Node.is c.consume-read.ensures in
    passed c.in_default-read.is c.binary-read.ensures
    (λ x h. Refuses.inside c.if-terms-depth.false (Refuses.in_node (led_refused lead h)))

pub deny-logical_not-node-requires : goal.deny-logical_not-node-requires
deny-logical_not-node-requires t c =
    let part = success c.in-Node-read.is c.binary-read.ensures in
    free c.requires.lent part.within

pub deny-made-requires : goal.deny-made-requires
deny-made-requires t c =
    let part = success c.in-Node-read.is c.binary-read.ensures in
    free c.requires.lent part.within

pub deny-returns : goal.deny-returns
unfolding paid spare above make put fill numbers write rule has_word
deny-returns t c =
    let lead = token_taken c.in-Node.is c.consume-read.ensures in
    let part = success c.in-Node-read.is c.binary-read.ensures in
    let h = c.if-terms-depth.false in
    nested_answer _ h
    (row_answered c.made.ensures (ready_deep c.requires h) (record { pays = tt }) (led lead part.reading) part.within
    (tried_as (starts lead) refl refl c.logical_not-node.ensures) refl refl)
