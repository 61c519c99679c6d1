-- The parameters of a function wait on the scratch room while its block is read, and then become links with its row.
use native.Mathlib.Omega.{arith}
use mathlib.Core.Logic.{inl, inr}
use mathlib.Core.Path.{refl, ◌∙◌}
use Rattle.grammar.proofs.Room.{paid, spare}
use Rattle.reading.proofs.Laws.{both, both_first, ready_on}
use Rattle.reading.proofs.Listings.{lower}
use Rattle.reading.proofs.Refusals as Refuses
use Rattle.reading.proofs.Replies.{token_taken, listed, success, lacks, passed, passed_list, after, built}
use Rattle.reading.proofs.Taking.{led, ready_led, led_refused, starts, past_at, opened_led}
use Rattle.reading.proofs.Gathering.{token_within, token_closes, token_held, list_kept, list_reading, kept_as, kept_on}
use Rattle.reading.proofs.Gathering.{kept_under, gather_asks, gathered_numbers, numbers_fit, function_tried}
use Rattle.parser.proofs.readers.+readers.Goals as goal

pub fun_-returns-in_default : goal.fun_-returns-in_default
fun_-returns-in_default t c = lacks c.in_default.is c.consume-read.ensures (λ n. Refuses.in_node (Refuses.missing n))

pub fun_-name-read-requires : goal.fun_-name-read-requires
fun_-name-read-requires t c =
    let lead = token_taken c.in-Node.is c.consume-read.ensures in
    let asked = ready_led c.requires lead (λ e. omega arith) in
    asked

pub fun_-returns-in_default-read : goal.fun_-returns-in_default-read
fun_-returns-in_default-read t c =
    let lead = token_taken c.in-Node.is c.consume-read.ensures in
    passed c.in_default-read.is c.name-read.ensures
    (λ x h. Refuses.in_node
    (led_refused lead (Refuses.in_first (Refuses.in_first h))))

pub fun_-consume-read-requires-2 : goal.fun_-consume-read-requires-2
fun_-consume-read-requires-2 t c =
    let word = success c.in-Node-read.is c.name-read.ensures in
    word.within.at

pub fun_-returns-in_default-read-2 : goal.fun_-returns-in_default-read-2
fun_-returns-in_default-read-2 t c =
    let lead = token_taken c.in-Node.is c.consume-read.ensures in
    let word = success c.in-Node-read.is c.name-read.ensures in
    lacks c.in_default-read-2.is c.consume-read-2.ensures
    (λ n. Refuses.in_node (led_refused lead (Refuses.in_first (after word.reading (Refuses.missing n)))))

pub fun_-names-read-requires : goal.fun_-names-read-requires
fun_-names-read-requires t c =
    let lead = token_taken c.in-Node.is c.consume-read.ensures in
    let asked = ready_led c.requires lead (λ e. omega arith) in
    let word = success c.in-Node-read.is c.name-read.ensures in
    let paren = token_taken c.in-Node-read-2.is c.consume-read-2.ensures in
    record {
      closer = record { known = inr (inl refl) };
      opened = opened_led (ready_on asked word.within)
          paren (λ e. omega arith);
    }

pub fun_-returns-in_default-read-3 : goal.fun_-returns-in_default-read-3
fun_-returns-in_default-read-3 t c =
    let lead = token_taken c.in-Node.is c.consume-read.ensures in
    let word = success c.in-Node-read.is c.name-read.ensures in
    let paren = token_taken c.in-Node-read-2.is c.consume-read-2.ensures in
    passed_list c.in_default-read-3.is c.names-read.ensures
    (λ x h. Refuses.in_node (led_refused lead (Refuses.in_first (after word.reading (led_refused paren (Refuses.in_first h))))))

pub fun_-consume-read-requires-3 : goal.fun_-consume-read-requires-3
fun_-consume-read-requires-3 t c =
    let names = listed c.in-Node-read-3.is c.names-read.ensures in
    names.within.at

pub fun_-returns-in_default-read-4 : goal.fun_-returns-in_default-read-4
fun_-returns-in_default-read-4 t c =
    let lead = token_taken c.in-Node.is c.consume-read.ensures in
    let word = success c.in-Node-read.is c.name-read.ensures in
    let paren = token_taken c.in-Node-read-2.is c.consume-read-2.ensures in
    let names = listed c.in-Node-read-3.is c.names-read.ensures in
    lacks c.in_default-read-4.is c.consume-read-3.ensures
    (λ n. Refuses.in_node
    (led_refused lead
    (Refuses.in_first
    (after word.reading
    (led_refused paren (after names.reading (Refuses.missing n)))))))

pub fun_-block-read-requires : goal.fun_-block-read-requires
fun_-block-read-requires t c =
    let lead = token_taken c.in-Node.is c.consume-read.ensures in
    let asked = ready_led c.requires lead (λ e. omega arith) in
    let word = success c.in-Node-read.is c.name-read.ensures in
    let paren = token_taken c.in-Node-read-2.is c.consume-read-2.ensures in
    let names = listed c.in-Node-read-3.is c.names-read.ensures in
    let close = token_taken c.in-Node-read-4.is c.consume-read-3.ensures in
    let within = token_within close (λ e. omega arith) asked.lent names.within in (
      omega (
        arith,
        past_at
            lead,
        word.past,
        past_at
            paren,
        names.past,
        past_at close,
        within.at,
      ),
      ready_on asked within,
    )

pub fun_-returns-in_default-read-5 : goal.fun_-returns-in_default-read-5
fun_-returns-in_default-read-5 t c =
    let lead = token_taken c.in-Node.is c.consume-read.ensures in
    let word = success c.in-Node-read.is c.name-read.ensures in
    let paren = token_taken c.in-Node-read-2.is c.consume-read-2.ensures in
    let names = listed c.in-Node-read-3.is c.names-read.ensures in
    let close = token_taken c.in-Node-read-4.is c.consume-read-3.ensures in
    let f = both word.reading
    (led paren
    (token_closes close c.requires.deep names.reading)) in
    passed c.in_default-read-5.is c.block-read.ensures
    (λ x h. Refuses.in_node (led_refused lead (after f (Refuses.lowered h))))

pub fun_-overflow_sub-count : goal.fun_-overflow_sub-count
fun_-overflow_sub-count t c =
    let lead = token_taken c.in-Node.is c.consume-read.ensures in
    let asked = ready_led c.requires lead (λ e. omega arith) in
    let word = success c.in-Node-read.is c.name-read.ensures in
    let paren = token_taken c.in-Node-read-2.is c.consume-read-2.ensures in
    let named = token_within paren (λ e. omega arith) asked.lent word.within in
    let names = listed c.in-Node-read-3.is c.names-read.ensures in
    let close = token_taken c.in-Node-read-4.is c.consume-read-3.ensures in
    let held = kept_as (list_kept
    (token_held paren ∙ word.reading.holds ∙ token_held
    lead) names named) (token_held close) in
    let part = success c.in-Node-read-5.is c.block-read.ensures in
    let kept = kept_on held part.reading in
    kept_under kept

pub fun_-gather-done-requires : goal.fun_-gather-done-requires
fun_-gather-done-requires t c =
    let lead = token_taken c.in-Node.is c.consume-read.ensures in
    let asked = ready_led c.requires lead (λ e. omega arith) in
    let word = success c.in-Node-read.is c.name-read.ensures in
    let paren = token_taken c.in-Node-read-2.is c.consume-read-2.ensures in
    let named = token_within paren (λ e. omega arith) asked.lent word.within in
    let names = listed c.in-Node-read-3.is c.names-read.ensures in
    let close = token_taken c.in-Node-read-4.is c.consume-read-3.ensures in
    let held = kept_as (list_kept
    (token_held paren ∙ word.reading.holds ∙ token_held
    lead) names named) (token_held close) in
    let part = success c.in-Node-read-5.is c.block-read.ensures in
    let kept = kept_on held part.reading in
    gather_asks asked.lent part.within
    (kept_under kept)

pub fun_-overflow_cast-first : goal.fun_-overflow_cast-first
fun_-overflow_cast-first t c =
    let lead = token_taken c.in-Node.is c.consume-read.ensures in
    let asked = ready_led c.requires lead (λ e. omega arith) in
    let part = success c.in-Node-read-5.is c.block-read.ensures in
    omega
    (arith, (numbers_fit asked.lent part.within).0)

pub fun_-overflow_cast-count : goal.fun_-overflow_cast-count
fun_-overflow_cast-count t c =
    let lead = token_taken c.in-Node.is c.consume-read.ensures in
    let asked = ready_led c.requires lead (λ e. omega arith) in
    let part = success c.in-Node-read-5.is c.block-read.ensures in
    omega
    (arith, (numbers_fit asked.lent part.within).1)

pub fun_-function-node-requires : goal.fun_-function-node-requires
fun_-function-node-requires t c =
    let lead = token_taken c.in-Node.is c.consume-read.ensures in
    let asked = ready_led c.requires lead (λ e. omega arith) in
    let part = success c.in-Node-read-5.is c.block-read.ensures in
    (gathered_numbers asked.lent
    part.within c.gather-done.ensures).0

pub fun_-made_list-requires : goal.fun_-made_list-requires
fun_-made_list-requires t c =
    let lead = token_taken c.in-Node.is c.consume-read.ensures in
    let asked = ready_led c.requires lead (λ e. omega arith) in
    let part = success c.in-Node-read-5.is c.block-read.ensures in
    gathered_numbers
    asked.lent part.within c.gather-done.ensures

pub fun_-returns : goal.fun_-returns
unfolding paid spare
fun_-returns t c =
    let lead = token_taken c.in-Node.is c.consume-read.ensures in
    let asked = ready_led c.requires lead (λ e. omega arith) in
    let word = success c.in-Node-read.is c.name-read.ensures in
    let paren = token_taken c.in-Node-read-2.is c.consume-read-2.ensures in
    let named = token_within paren (λ e. omega arith) asked.lent word.within in
    let names = listed c.in-Node-read-3.is c.names-read.ensures in
    let close = token_taken c.in-Node-read-4.is c.consume-read-3.ensures in
    let held = kept_as (list_kept
    (token_held paren ∙ word.reading.holds ∙ token_held
    lead) names named) (token_held close) in
    let part = success c.in-Node-read-5.is c.block-read.ensures in
    let kept = kept_on held part.reading in
    let g = c.gather-done.ensures in
    let l = list_reading
    (token_held paren ∙ word.reading.holds ∙ token_held
    lead) names in
    let f = both word.reading
    (led paren
    (token_closes close c.requires.deep l)) in
    let b = lower c.args.cur.held (kept_under held) part.reading in
    built c.requires (record { pays = tt }) part.within.at (led lead (both_first f b))
    (function_tried part.within c.requires.lent g (starts lead) c.made_list.ensures kept c.function-node.ensures)
