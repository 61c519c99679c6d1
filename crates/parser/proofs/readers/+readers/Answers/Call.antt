-- The arguments of a call become links with its row.
use Prim.Native.Nat.{ℕ}
use native.Mathlib.Omega.{arith}
use mathlib.Core.Path.{◌≡◌, ap}
use Rattle.grammar.specs.Edition.{Edition}
use Rattle.grammar.specs.Kaori.{kaori, rules as form_rules, row, function_call as form, calls}
use Rattle.grammar.specs.Kind.{LeftParen}
use Rattle.grammar.specs.Label.{Node}
use Rattle.reading.proofs.Refusals as Refuses
use Rattle.reading.proofs.Replies.{token_taken, listed, after, further}
use Rattle.reading.proofs.Chains.{tried, stops_lacking, stopped_list}
use Rattle.reading.proofs.Taking.{led, ready_led, led_refused, starts, past_at, opened_led}
use Rattle.reading.proofs.Gathering.{token_within, token_closes, token_end, token_held, list_kept, list_reading, kept_as}
use Rattle.reading.proofs.Gathering.{kept_under, gather_asks, gathered_numbers, numbers_fit, call_tried}
use Rattle.parser.proofs.readers.+readers.Goals as goal

-- a `(` after a callee is a call
call_link : (e : Edition) {x : ℕ} → x ≡ LeftParen → kaori e calls x ≡ row Node.FunctionCall form
unfolding kaori form_rules
call_link e k = ap (kaori e calls) k

pub call-returns-in_default : goal.call-returns-in_default
call-returns-in_default t c p =
    stops_lacking c.in_default.is c.consume-read.ensures
    (λ s b n. further b (call_link _ c.requires.at_value) (Refuses.missing n))

pub call-args-read-requires : goal.call-args-read-requires
call-args-read-requires t c =
    let lead = token_taken c.in-Node.is c.consume-read.ensures in
    let asked = ready_led c.requires.ready lead (λ e. omega arith) in (
      omega (arith, past_at lead, asked.within.at),
      opened_led
          c.requires.ready lead (λ e. omega arith),
    )

pub call-returns-in_default-read : goal.call-returns-in_default-read
call-returns-in_default-read t c p =
    let lead = token_taken c.in-Node.is c.consume-read.ensures in
    stopped_list c.in_default-read.is c.args-read.ensures
    (λ s x b h. further b (call_link _ c.requires.at_value) (led_refused lead (Refuses.in_first h)))

pub call-consume-read-requires-2 : goal.call-consume-read-requires-2
call-consume-read-requires-2 t c =
    let items = listed c.in-Node-read.is c.args-read.ensures in
    items.within.at

pub call-returns-in_default-read-2 : goal.call-returns-in_default-read-2
call-returns-in_default-read-2 t c p =
    let lead = token_taken c.in-Node.is c.consume-read.ensures in
    let items = listed c.in-Node-read.is c.args-read.ensures in
    stops_lacking c.in_default-read-2.is c.consume-read-2.ensures
    (λ s b n. further b (call_link _ c.requires.at_value)
    (led_refused lead (after items.reading (Refuses.missing n))))

pub call-overflow_sub-count : goal.call-overflow_sub-count
call-overflow_sub-count t c =
    let lead = token_taken c.in-Node.is c.consume-read.ensures in
    let asked = ready_led c.requires.ready lead (λ e. omega arith) in
    let items = listed c.in-Node-read.is c.args-read.ensures in
    let close = token_taken c.in-Node-read-2.is c.consume-read-2.ensures in
    let kept = kept_as (list_kept (token_held lead) items asked.within) (token_held close) in
    kept_under kept

pub call-gather-done-requires : goal.call-gather-done-requires
call-gather-done-requires t c =
    let lead = token_taken c.in-Node.is c.consume-read.ensures in
    let asked = ready_led c.requires.ready lead (λ e. omega arith) in
    let items = listed c.in-Node-read.is c.args-read.ensures in
    let close = token_taken c.in-Node-read-2.is c.consume-read-2.ensures in
    let within = token_within close (λ e. omega arith) asked.lent items.within in
    let kept = kept_as (list_kept (token_held lead) items asked.within) (token_held close) in
    gather_asks asked.lent within (kept_under kept)

pub call-overflow_cast-first : goal.call-overflow_cast-first
call-overflow_cast-first t c =
    let lead = token_taken c.in-Node.is c.consume-read.ensures in
    let asked = ready_led c.requires.ready lead (λ e. omega arith) in
    let items = listed c.in-Node-read.is c.args-read.ensures in
    let close = token_taken c.in-Node-read-2.is c.consume-read-2.ensures in
    let within = token_within close (λ e. omega arith) asked.lent items.within in
    omega (arith, (numbers_fit asked.lent within).0)

pub call-overflow_cast-count : goal.call-overflow_cast-count
call-overflow_cast-count t c =
    let lead = token_taken c.in-Node.is c.consume-read.ensures in
    let asked = ready_led c.requires.ready lead (λ e. omega arith) in
    let items = listed c.in-Node-read.is c.args-read.ensures in
    let close = token_taken c.in-Node-read-2.is c.consume-read-2.ensures in
    let within = token_within close (λ e. omega arith) asked.lent items.within in
    omega (arith, (numbers_fit asked.lent within).1)

pub call-function_call-node-requires : goal.call-function_call-node-requires
call-function_call-node-requires t c =
    let lead = token_taken c.in-Node.is c.consume-read.ensures in
    let asked = ready_led c.requires.ready lead (λ e. omega arith) in
    let items = listed c.in-Node-read.is c.args-read.ensures in
    let close = token_taken c.in-Node-read-2.is c.consume-read-2.ensures in
    let within = token_within close (λ e. omega arith) asked.lent items.within in
    (gathered_numbers asked.lent within
    c.gather-done.ensures).0

pub call-made_list-requires : goal.call-made_list-requires
call-made_list-requires t c =
    let lead = token_taken c.in-Node.is c.consume-read.ensures in
    let asked = ready_led c.requires.ready lead (λ e. omega arith) in
    let items = listed c.in-Node-read.is c.args-read.ensures in
    let close = token_taken c.in-Node-read-2.is c.consume-read-2.ensures in
    let within = token_within close (λ e. omega arith) asked.lent items.within in
    gathered_numbers asked.lent within
    c.gather-done.ensures

pub call-returns : goal.call-returns
call-returns t c p =
    let lead = token_taken c.in-Node.is c.consume-read.ensures in
    let asked = ready_led c.requires.ready lead (λ e. omega arith) in
    let items = listed c.in-Node-read.is c.args-read.ensures in
    let close = token_taken c.in-Node-read-2.is c.consume-read-2.ensures in
    let within = token_within close (λ e. omega arith) asked.lent items.within in
    let kept = kept_as (list_kept (token_held lead) items asked.within) (token_held close) in
    let g = c.gather-done.ensures in
    let l = list_reading (token_held lead) items in
    tried c.requires.ready.within (call_link _ c.requires.at_value) (led lead (token_closes close c.requires.ready.deep l)) within.at
    (omega (arith, past_at close, past_at lead, items.past))
    (call_tried within c.requires.ready.lent g (starts lead) c.made_list.ensures kept (token_end close) c.function_call-node.ensures)
