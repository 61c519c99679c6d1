-- The statements of a block become links with its row, but the tail. A block is one opening deeper.
use native.Mathlib.Omega.{arith}
use Rattle.grammar.proofs.Room.{paid, spare}
use Rattle.reading.proofs.Laws.{ready_deep, opened_deep}
use Rattle.reading.proofs.Refusals as Refuses
use Rattle.reading.proofs.Replies.{token_taken, filled, refuse, lacks, passed_fill, after, built, nested_answer}
use Rattle.reading.proofs.Taking.{led, ready_led, opened_led, led_refused, starts, past_at}
use Rattle.reading.proofs.Gathering.{token_within, token_closes, token_end, token_held, fill_kept, fill_reading}
use Rattle.reading.proofs.Gathering.{kept_as, kept_under, gather_asks, gathered_numbers, numbers_fit, block_tried}
use Rattle.parser.proofs.readers.+readers.Goals as goal

pub block-returns-then-terms-depth : goal.block-returns-then-terms-depth
block-returns-then-terms-depth t c = refuse (Refuses.too_deep c.if-terms-depth.true)

pub block-returns-in_default : goal.block-returns-in_default
block-returns-in_default t c = lacks c.in_default.is c.consume-read.ensures (λ n. Refuses.inside c.if-terms-depth.false (Refuses.in_node (Refuses.missing n)))

pub block-items-read-requires : goal.block-items-read-requires
block-items-read-requires t c =
    let lead = token_taken c.in-Node.is c.consume-read.ensures in
    let asked = ready_led c.requires lead (λ e. omega arith) in (
      omega (
        arith,
        c.if-terms-depth.false,
        past_at lead,
        asked.within.at,
      ),
      opened_deep (opened_led c.requires lead (λ e. omega arith))
          c.if-terms-depth.false,
    )

pub block-returns-in_default-read : goal.block-returns-in_default-read
block-returns-in_default-read t c =
    let lead = token_taken c.in-Node.is c.consume-read.ensures in
    passed_fill c.in_default-read.is c.items-read.ensures
    (λ x h. Refuses.inside c.if-terms-depth.false (Refuses.in_node (led_refused lead (Refuses.in_first h))))

pub block-consume-read-requires-2 : goal.block-consume-read-requires-2
block-consume-read-requires-2 t c =
    let statements = filled c.in-Node-read.is c.items-read.ensures in
    statements.within.at

pub block-returns-in_default-read-2 : goal.block-returns-in_default-read-2
block-returns-in_default-read-2 t c =
    let lead = token_taken c.in-Node.is c.consume-read.ensures in
    let statements = filled c.in-Node-read.is c.items-read.ensures in
    lacks c.in_default-read-2.is c.consume-read-2.ensures
    (λ n. Refuses.inside c.if-terms-depth.false
    (Refuses.in_node (led_refused lead (after statements.reading (Refuses.missing n)))))

pub block-overflow_sub-count : goal.block-overflow_sub-count
block-overflow_sub-count t c =
    let lead = token_taken c.in-Node.is c.consume-read.ensures in
    let asked = ready_led c.requires lead (λ e. omega arith) in
    let statements = filled c.in-Node-read.is c.items-read.ensures in
    let close = token_taken c.in-Node-read-2.is c.consume-read-2.ensures in
    let kept = kept_as (fill_kept (token_held lead) statements asked.within) (token_held close) in
    kept_under kept

pub block-gather-done-requires : goal.block-gather-done-requires
block-gather-done-requires t c =
    let lead = token_taken c.in-Node.is c.consume-read.ensures in
    let asked = ready_led c.requires lead (λ e. omega arith) in
    let statements = filled c.in-Node-read.is c.items-read.ensures in
    let close = token_taken c.in-Node-read-2.is c.consume-read-2.ensures in
    let within = token_within close (λ e. omega arith) asked.lent statements.within in
    let kept = kept_as (fill_kept (token_held lead) statements asked.within) (token_held close) in
    gather_asks asked.lent within (kept_under kept)

pub block-overflow_cast-first : goal.block-overflow_cast-first
block-overflow_cast-first t c =
    let lead = token_taken c.in-Node.is c.consume-read.ensures in
    let asked = ready_led c.requires lead (λ e. omega arith) in
    let statements = filled c.in-Node-read.is c.items-read.ensures in
    let close = token_taken c.in-Node-read-2.is c.consume-read-2.ensures in
    let within = token_within close (λ e. omega arith) asked.lent statements.within in
    omega (arith, (numbers_fit asked.lent within).0)

pub block-overflow_cast-count : goal.block-overflow_cast-count
block-overflow_cast-count t c =
    let lead = token_taken c.in-Node.is c.consume-read.ensures in
    let asked = ready_led c.requires lead (λ e. omega arith) in
    let statements = filled c.in-Node-read.is c.items-read.ensures in
    let close = token_taken c.in-Node-read-2.is c.consume-read-2.ensures in
    let within = token_within close (λ e. omega arith) asked.lent statements.within in
    omega (arith, (numbers_fit asked.lent within).1)

pub block-block-node-requires : goal.block-block-node-requires
block-block-node-requires t c =
    let lead = token_taken c.in-Node.is c.consume-read.ensures in
    let asked = ready_led c.requires lead (λ e. omega arith) in
    let statements = filled c.in-Node-read.is c.items-read.ensures in
    let close = token_taken c.in-Node-read-2.is c.consume-read-2.ensures in
    let within = token_within close (λ e. omega arith) asked.lent statements.within in
    (gathered_numbers asked.lent within
    c.gather-done.ensures).0

pub block-made_list-requires : goal.block-made_list-requires
block-made_list-requires t c =
    let lead = token_taken c.in-Node.is c.consume-read.ensures in
    let asked = ready_led c.requires lead (λ e. omega arith) in
    let statements = filled c.in-Node-read.is c.items-read.ensures in
    let close = token_taken c.in-Node-read-2.is c.consume-read-2.ensures in
    let within = token_within close (λ e. omega arith) asked.lent statements.within in
    gathered_numbers asked.lent within
    c.gather-done.ensures

pub block-returns : goal.block-returns
unfolding paid spare
block-returns t c =
    let lead = token_taken c.in-Node.is c.consume-read.ensures in
    let asked = ready_led c.requires lead (λ e. omega arith) in
    let statements = filled c.in-Node-read.is c.items-read.ensures in
    let close = token_taken c.in-Node-read-2.is c.consume-read-2.ensures in
    let within = token_within close (λ e. omega arith) asked.lent statements.within in
    let kept = kept_as (fill_kept (token_held lead) statements asked.within) (token_held close) in
    let g = c.gather-done.ensures in
    let l = fill_reading (token_held lead) statements in
    let h = c.if-terms-depth.false in
    nested_answer _ h
    (built (ready_deep c.requires h) (record { pays = tt }) within.at (led lead (token_closes close (omega (arith, h)) l))
    (block_tried within c.requires.lent g (starts lead) c.made_list.ensures kept (token_end close) statements.tail c.block-node.ensures))
