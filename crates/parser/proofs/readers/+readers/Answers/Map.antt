-- The entries of a map become links with its row.
use native.Mathlib.Omega.{arith}
use mathlib.Core.Path.{◌∙◌}
use Rattle.grammar.proofs.Room.{paid, spare}
use Rattle.reading.proofs.Refusals as Refuses
use Rattle.reading.proofs.Replies.{token_taken, listed, lacks, passed_list, after, built}
use Rattle.reading.proofs.Taking.{led, ready_led, led_refused, starts, past_at, opened_led}
use Rattle.reading.proofs.Gathering.{token_within, token_closes, token_end, token_held, list_kept, list_reading, kept_as}
use Rattle.reading.proofs.Gathering.{kept_under, gather_asks, gathered_numbers, numbers_fit, map_tried}
use Rattle.parser.proofs.readers.+readers.Goals as goal

pub map_-returns-in_default : goal.map_-returns-in_default
map_-returns-in_default t c = lacks c.in_default.is c.consume-read.ensures (λ n. Refuses.in_node (Refuses.missing n))

pub map_-consume-read-requires-2 : goal.map_-consume-read-requires-2
map_-consume-read-requires-2 t c =
    let lead = token_taken c.in-Node.is c.consume-read.ensures in
    let asked = ready_led c.requires lead (λ e. omega arith) in
    asked.within.at

pub map_-returns-in_default-read : goal.map_-returns-in_default-read
map_-returns-in_default-read t c =
    let lead = token_taken c.in-Node.is c.consume-read.ensures in
    lacks c.in_default-read.is c.consume-read-2.ensures (λ n. Refuses.in_node (led_refused lead (Refuses.missing n)))

pub map_-pairs-read-requires : goal.map_-pairs-read-requires
map_-pairs-read-requires t c =
    let lead = token_taken c.in-Node.is c.consume-read.ensures in
    let brace = token_taken c.in-Node-read.is c.consume-read-2.ensures in
    let asked = ready_led c.requires lead (λ e. omega arith) in
    let opened = ready_led asked brace (λ e. omega arith) in (
      omega (
        arith,
        past_at lead,
        past_at brace,
        opened.within.at,
      ),
      opened_led asked brace (λ e. omega arith),
    )

pub map_-returns-in_default-read-2 : goal.map_-returns-in_default-read-2
map_-returns-in_default-read-2 t c =
    let lead = token_taken c.in-Node.is c.consume-read.ensures in
    let brace = token_taken c.in-Node-read.is c.consume-read-2.ensures in
    passed_list c.in_default-read-2.is c.pairs-read.ensures
    (λ x h. Refuses.in_node (led_refused lead (led_refused brace (Refuses.in_first h))))

pub map_-consume-read-requires-3 : goal.map_-consume-read-requires-3
map_-consume-read-requires-3 t c =
    let entries = listed c.in-Node-read-2.is c.pairs-read.ensures in
    entries.within.at

pub map_-returns-in_default-read-3 : goal.map_-returns-in_default-read-3
map_-returns-in_default-read-3 t c =
    let lead = token_taken c.in-Node.is c.consume-read.ensures in
    let brace = token_taken c.in-Node-read.is c.consume-read-2.ensures in
    let entries = listed c.in-Node-read-2.is c.pairs-read.ensures in
    lacks c.in_default-read-3.is c.consume-read-3.ensures
    (λ n. Refuses.in_node
    (led_refused lead
    (led_refused brace (after entries.reading (Refuses.missing n)))))

pub map_-overflow_sub-count : goal.map_-overflow_sub-count
map_-overflow_sub-count t c =
    let lead = token_taken c.in-Node.is c.consume-read.ensures in
    let brace = token_taken c.in-Node-read.is c.consume-read-2.ensures in
    let asked = ready_led c.requires lead (λ e. omega arith) in
    let opened = ready_led asked brace (λ e. omega arith) in
    let entries = listed c.in-Node-read-2.is c.pairs-read.ensures in
    let close = token_taken c.in-Node-read-3.is c.consume-read-3.ensures in
    let kept = kept_as (list_kept (token_held brace ∙ token_held lead) entries
    opened.within) (token_held close) in
    kept_under kept

pub map_-gather-done-requires : goal.map_-gather-done-requires
map_-gather-done-requires t c =
    let lead = token_taken c.in-Node.is c.consume-read.ensures in
    let brace = token_taken c.in-Node-read.is c.consume-read-2.ensures in
    let asked = ready_led c.requires lead (λ e. omega arith) in
    let opened = ready_led asked brace (λ e. omega arith) in
    let entries = listed c.in-Node-read-2.is c.pairs-read.ensures in
    let close = token_taken c.in-Node-read-3.is c.consume-read-3.ensures in
    let within = token_within close (λ e. omega arith) opened.lent entries.within in
    let kept = kept_as (list_kept (token_held brace ∙ token_held lead) entries
    opened.within) (token_held close) in
    gather_asks opened.lent within (kept_under kept)

pub map_-overflow_cast-first : goal.map_-overflow_cast-first
map_-overflow_cast-first t c =
    let lead = token_taken c.in-Node.is c.consume-read.ensures in
    let brace = token_taken c.in-Node-read.is c.consume-read-2.ensures in
    let asked = ready_led c.requires lead (λ e. omega arith) in
    let opened = ready_led asked brace (λ e. omega arith) in
    let entries = listed c.in-Node-read-2.is c.pairs-read.ensures in
    let close = token_taken c.in-Node-read-3.is c.consume-read-3.ensures in
    let within = token_within close (λ e. omega arith) opened.lent entries.within in
    omega (arith, (numbers_fit opened.lent within).0)

pub map_-overflow_cast-count : goal.map_-overflow_cast-count
map_-overflow_cast-count t c =
    let lead = token_taken c.in-Node.is c.consume-read.ensures in
    let brace = token_taken c.in-Node-read.is c.consume-read-2.ensures in
    let asked = ready_led c.requires lead (λ e. omega arith) in
    let opened = ready_led asked brace (λ e. omega arith) in
    let entries = listed c.in-Node-read-2.is c.pairs-read.ensures in
    let close = token_taken c.in-Node-read-3.is c.consume-read-3.ensures in
    let within = token_within close (λ e. omega arith) opened.lent entries.within in
    omega (arith, (numbers_fit opened.lent within).1)

pub map_-map-node-requires : goal.map_-map-node-requires
map_-map-node-requires t c =
    let lead = token_taken c.in-Node.is c.consume-read.ensures in
    let brace = token_taken c.in-Node-read.is c.consume-read-2.ensures in
    let asked = ready_led c.requires lead (λ e. omega arith) in
    let opened = ready_led asked brace (λ e. omega arith) in
    let entries = listed c.in-Node-read-2.is c.pairs-read.ensures in
    let close = token_taken c.in-Node-read-3.is c.consume-read-3.ensures in
    let within = token_within close (λ e. omega arith) opened.lent entries.within in
    (gathered_numbers opened.lent within
    c.gather-done.ensures).0

pub map_-made_list-requires : goal.map_-made_list-requires
map_-made_list-requires t c =
    let lead = token_taken c.in-Node.is c.consume-read.ensures in
    let brace = token_taken c.in-Node-read.is c.consume-read-2.ensures in
    let asked = ready_led c.requires lead (λ e. omega arith) in
    let opened = ready_led asked brace (λ e. omega arith) in
    let entries = listed c.in-Node-read-2.is c.pairs-read.ensures in
    let close = token_taken c.in-Node-read-3.is c.consume-read-3.ensures in
    let within = token_within close (λ e. omega arith) opened.lent entries.within in
    gathered_numbers opened.lent within
    c.gather-done.ensures

pub map_-returns : goal.map_-returns
unfolding paid spare
map_-returns t c =
    let lead = token_taken c.in-Node.is c.consume-read.ensures in
    let brace = token_taken c.in-Node-read.is c.consume-read-2.ensures in
    let asked = ready_led c.requires lead (λ e. omega arith) in
    let opened = ready_led asked brace (λ e. omega arith) in
    let entries = listed c.in-Node-read-2.is c.pairs-read.ensures in
    let close = token_taken c.in-Node-read-3.is c.consume-read-3.ensures in
    let within = token_within close (λ e. omega arith) opened.lent entries.within in
    let kept = kept_as (list_kept (token_held brace ∙ token_held lead) entries
    opened.within) (token_held close) in
    let g = c.gather-done.ensures in
    let l = list_reading (token_held brace ∙ token_held lead) entries in
    built c.requires (record { pays = tt }) within.at
    (led lead (led brace (token_closes close c.requires.deep l)))
    (map_tried within c.requires.lent g (starts lead) c.made_list.ensures kept (token_end close) c.map-node.ensures)
