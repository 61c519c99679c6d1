-- A `-` or `^` is one opening deeper, and makes a Unary of its operand.
use borrow.Author.Rules.{rules}
use native.Mathlib.Omega.{arith}
use mathlib.Core.List.{[], ◌∷◌}
use mathlib.Core.Path.{refl, sym, ap, ◌∙◌}
use Rattle.grammar.specs.Kaori.{above}
use Rattle.grammar.specs.Operator.{place, unary_operators}
use Rattle.grammar.specs.Rows.{make, put, fill, numbers, write}
use Rattle.grammar.specs.Rule.{rule}
use Rattle.grammar.specs.Space.{has_word}
use Rattle.grammar.proofs.Room.{paid, spare}
use Rattle.reading.proofs.Laws.{ready_deep}
use Rattle.reading.proofs.Refusals as Refuses
use Rattle.reading.proofs.Replies.{success, token_taken, passed, refuse, lacks, nested_answer}
use Rattle.reading.proofs.Taking.{starts, past_at, led, led_refused, ready_led, free, tried_as, row_answered, sign_low}
use Rattle.parser.proofs.readers.+readers.Goals as goal

pub unary-returns-then-terms-depth : goal.unary-returns-then-terms-depth
unary-returns-then-terms-depth t c = refuse (Refuses.too_deep c.if-terms-depth.true)

pub unary-returns-in_default : goal.unary-returns-in_default
unary-returns-in_default t c = lacks c.in_default.is c.consume-read.ensures (λ h. Refuses.inside c.if-terms-depth.false (Refuses.in_node (Refuses.missing h)))

pub unary-binary-read-requires : goal.unary-binary-read-requires
unary-binary-read-requires t c =
    let lead = token_taken c.in-Node.is c.consume-read.ensures in
    let e = past_at lead in
    let l = sign_low c.requires.sign in
    (search rules, (search rules, ready_led (ready_deep c.requires.ready c.if-terms-depth.false) lead (λ e. omega arith)))

pub unary-returns-in_default-read : goal.unary-returns-in_default-read
unfolding above
unary-returns-in_default-read t c =
    let lead = token_taken c.in-Node.is c.consume-read.ensures in
    let l = sign_low c.requires.sign in
    passed c.in_default-read.is c.binary-read.ensures
    (λ x h. Refuses.inside c.if-terms-depth.false (Refuses.in_node (led_refused lead h)))

pub unary-unary-node-requires : goal.unary-unary-node-requires
unary-unary-node-requires t c =
    let part = success c.in-Node-read.is c.binary-read.ensures in
    free c.requires.ready.lent part.within

pub unary-made-requires : goal.unary-made-requires
unary-made-requires t c =
    let part = success c.in-Node-read.is c.binary-read.ensures in
    free c.requires.ready.lent part.within

pub unary-returns : goal.unary-returns
unfolding paid spare above make put fill numbers write rule has_word
unary-returns t c =
    let lead = token_taken c.in-Node.is c.consume-read.ensures in
    let part = success c.in-Node-read.is c.binary-read.ensures in
    let l = sign_low c.requires.sign in
    let h = c.if-terms-depth.false in
    nested_answer _ h
    (row_answered c.made.ensures (ready_deep c.requires.ready h) (record { pays = tt }) (led lead part.reading) part.within
    (tried_as (starts lead) refl
    (ap (λ n. n ∷ c.in-Node-read.child.id ∷ [])
    (c.sign_of.ensures ∙ ap (λ x. place x unary_operators) (sym lead.kind_is))) c.unary-node.ensures) refl refl)
