-- The names of a lambda wait on the scratch room while its body is read, and then become links with its row.
use native.Mathlib.Omega.{arith}
use mathlib.Core.Logic.{inl}
use mathlib.Core.Path.{refl}
use Rattle.grammar.proofs.Room.{paid, spare}
use Rattle.reading.proofs.Laws.{both, ready_on}
use Rattle.reading.proofs.Listings.{lower}
use Rattle.reading.proofs.Refusals as Refuses
use Rattle.reading.proofs.Replies.{token_taken, listed, success, lacks, passed, passed_list, after, built}
use Rattle.reading.proofs.Taking.{led, ready_led, led_refused, starts, past_at, opened_led}
use Rattle.reading.proofs.Gathering.{token_within, token_held, list_kept, list_reading, kept_as, kept_on, kept_under}
use Rattle.reading.proofs.Gathering.{gather_asks, gathered_numbers, numbers_fit, lambda_tried}
use Rattle.parser.proofs.readers.+readers.Goals as goal

pub lambda-returns-in_default : goal.lambda-returns-in_default
lambda-returns-in_default t c = lacks c.in_default.is c.consume-read.ensures (λ n. Refuses.in_node (Refuses.missing n))

pub lambda-names-read-requires : goal.lambda-names-read-requires
lambda-names-read-requires t c =
    let lead = token_taken c.in-Node.is c.consume-read.ensures in
    record { closer = record { known = inl refl }; opened = opened_led c.requires lead (λ e. omega arith) }

pub lambda-returns-in_default-read : goal.lambda-returns-in_default-read
lambda-returns-in_default-read t c =
    let lead = token_taken c.in-Node.is c.consume-read.ensures in
    passed_list c.in_default-read.is c.names-read.ensures
    (λ x h. Refuses.in_node (led_refused lead (Refuses.in_first h)))

pub lambda-consume-read-requires-2 : goal.lambda-consume-read-requires-2
lambda-consume-read-requires-2 t c =
    let names = listed c.in-Node-read.is c.names-read.ensures in
    names.within.at

pub lambda-returns-in_default-read-2 : goal.lambda-returns-in_default-read-2
lambda-returns-in_default-read-2 t c =
    let lead = token_taken c.in-Node.is c.consume-read.ensures in
    let names = listed c.in-Node-read.is c.names-read.ensures in
    lacks c.in_default-read-2.is c.consume-read-2.ensures
    (λ n. Refuses.in_node (led_refused lead (after names.reading (Refuses.missing n))))

pub lambda-body-read-requires : goal.lambda-body-read-requires
lambda-body-read-requires t c =
    let lead = token_taken c.in-Node.is c.consume-read.ensures in
    let asked = ready_led c.requires lead (λ e. omega arith) in
    let names = listed c.in-Node-read.is c.names-read.ensures in
    let close = token_taken c.in-Node-read-2.is c.consume-read-2.ensures in
    let within = token_within close (λ e. omega arith) asked.lent names.within in (
      omega (
        arith,
        past_at lead,
        names.past,
        past_at close,
        within.at,
      ),
      ready_on
          asked within,
    )

pub lambda-returns-in_default-read-3 : goal.lambda-returns-in_default-read-3
lambda-returns-in_default-read-3 t c =
    let lead = token_taken c.in-Node.is c.consume-read.ensures in
    let names = listed c.in-Node-read.is c.names-read.ensures in
    let close = token_taken c.in-Node-read-2.is c.consume-read-2.ensures in
    passed c.in_default-read-3.is c.body-read.ensures
    (λ x h. Refuses.in_node (led_refused lead (after names.reading (Refuses.lowered (led_refused close h)))))

pub lambda-overflow_sub-count : goal.lambda-overflow_sub-count
lambda-overflow_sub-count t c =
    let lead = token_taken c.in-Node.is c.consume-read.ensures in
    let asked = ready_led c.requires lead (λ e. omega arith) in
    let names = listed c.in-Node-read.is c.names-read.ensures in
    let close = token_taken c.in-Node-read-2.is c.consume-read-2.ensures in
    let held = kept_as (list_kept (token_held lead) names asked.within) (token_held close) in
    let part = success c.in-Node-read-3.is c.body-read.ensures in
    let kept = kept_on held part.reading in
    kept_under kept

pub lambda-gather-done-requires : goal.lambda-gather-done-requires
lambda-gather-done-requires t c =
    let lead = token_taken c.in-Node.is c.consume-read.ensures in
    let asked = ready_led c.requires lead (λ e. omega arith) in
    let names = listed c.in-Node-read.is c.names-read.ensures in
    let close = token_taken c.in-Node-read-2.is c.consume-read-2.ensures in
    let held = kept_as (list_kept (token_held lead) names asked.within) (token_held close) in
    let part = success c.in-Node-read-3.is c.body-read.ensures in
    let kept = kept_on held part.reading in
    gather_asks asked.lent part.within
    (kept_under kept)

pub lambda-overflow_cast-first : goal.lambda-overflow_cast-first
lambda-overflow_cast-first t c =
    let lead = token_taken c.in-Node.is c.consume-read.ensures in
    let asked = ready_led c.requires lead (λ e. omega arith) in
    let part = success c.in-Node-read-3.is c.body-read.ensures in
    omega (arith, (numbers_fit asked.lent part.within).0)

pub lambda-overflow_cast-count : goal.lambda-overflow_cast-count
lambda-overflow_cast-count t c =
    let lead = token_taken c.in-Node.is c.consume-read.ensures in
    let asked = ready_led c.requires lead (λ e. omega arith) in
    let part = success c.in-Node-read-3.is c.body-read.ensures in
    omega (arith, (numbers_fit asked.lent part.within).1)

pub lambda-lambda-node-requires : goal.lambda-lambda-node-requires
lambda-lambda-node-requires t c =
    let lead = token_taken c.in-Node.is c.consume-read.ensures in
    let asked = ready_led c.requires lead (λ e. omega arith) in
    let part = success c.in-Node-read-3.is c.body-read.ensures in
    (gathered_numbers asked.lent part.within
    c.gather-done.ensures).0

pub lambda-made_list-requires : goal.lambda-made_list-requires
lambda-made_list-requires t c =
    let lead = token_taken c.in-Node.is c.consume-read.ensures in
    let asked = ready_led c.requires lead (λ e. omega arith) in
    let part = success c.in-Node-read-3.is c.body-read.ensures in
    gathered_numbers asked.lent
    part.within c.gather-done.ensures

pub lambda-returns : goal.lambda-returns
unfolding paid spare
lambda-returns t c =
    let lead = token_taken c.in-Node.is c.consume-read.ensures in
    let asked = ready_led c.requires lead (λ e. omega arith) in
    let names = listed c.in-Node-read.is c.names-read.ensures in
    let close = token_taken c.in-Node-read-2.is c.consume-read-2.ensures in
    let held = kept_as (list_kept (token_held lead) names asked.within) (token_held close) in
    let part = success c.in-Node-read-3.is c.body-read.ensures in
    let kept = kept_on held part.reading in
    let g = c.gather-done.ensures in
    let l = list_reading (token_held lead) names in
    let b = lower c.args.cur.held
    (omega (arith, names.count, token_held lead)) (led close part.reading) in
    built c.requires (record { pays = tt }) part.within.at (led lead (both l b))
    (lambda_tried part.within c.requires.lent g (starts lead) c.made_list.ensures kept c.lambda-node.ensures)
