-- An expression in parentheses, which make nothing.
use borrow.Author.Rules.{rules}
use native.Mathlib.Omega.{arith}
use Rattle.grammar.specs.Kaori.{above}
use Rattle.grammar.proofs.Room.{paid, spare}
use Rattle.reading.proofs.Laws.{nothing, both, ready_on}
use Rattle.reading.proofs.Refusals as Refuses
use Rattle.reading.proofs.Replies.{success, token_taken, passed, answer, lacks, after}
use Rattle.reading.proofs.Taking.{past_at, led, led_refused, ready_led}
use Rattle.parser.proofs.readers.+readers.Goals as goal

pub group-returns-in_default : goal.group-returns-in_default
group-returns-in_default t c = lacks c.in_default.is c.consume-read.ensures (λ h. Refuses.missing h)

pub group-expression-read-requires : goal.group-expression-read-requires
group-expression-read-requires t c =
    let lead = token_taken c.in-Node.is c.consume-read.ensures in
    let e = past_at lead in (search rules, ready_led c.requires lead (λ e. omega arith))

pub group-returns-in_default-read : goal.group-returns-in_default-read
group-returns-in_default-read t c =
    let lead = token_taken c.in-Node.is c.consume-read.ensures in
    passed c.in_default-read.is c.expression-read.ensures
    (λ x h. led_refused lead (Refuses.in_first h))

pub group-consume-read-requires-2 : goal.group-consume-read-requires-2
group-consume-read-requires-2 t c =
    let part = success c.in-Node-read.is c.expression-read.ensures in
    part.within.at

pub group-returns-in_default-read-2 : goal.group-returns-in_default-read-2
group-returns-in_default-read-2 t c =
    let lead = token_taken c.in-Node.is c.consume-read.ensures in
    let part = success c.in-Node-read.is c.expression-read.ensures in
    lacks c.in_default-read-2.is c.consume-read-2.ensures (λ h. led_refused lead (after part.reading (Refuses.missing h)))

pub group-returns : goal.group-returns
unfolding paid spare above
group-returns t c =
    let lead = token_taken c.in-Node.is c.consume-read.ensures in
    let part = success c.in-Node-read.is c.expression-read.ensures in
    let close = token_taken c.in-Node-read-2.is c.consume-read-2.ensures in
    let w = (ready_led (ready_on c.requires part.within) close (λ e. omega arith)).within in
    answer c.requires (record { pays = tt }) w.at (led lead (both part.reading (led close (nothing c.requires.deep))))
