-- A condition, a block, and what comes after `else`, if there is one. All are one opening deeper.
use native.Mathlib.Omega.{arith}
use mathlib.Core.Path.{refl, sym, ◌∙◌}
use Rattle.grammar.specs.Kaori.{rules as form_rules, above, otherwise}
use Rattle.grammar.proofs.Room.{paid, spare}
use Rattle.grammar.proofs.Tables.{keyed, unkeyed}
use Rattle.reading.proofs.Laws.{nothing, both, both_more, chosen, taken, ready_next, ready_deep, ready_on}
use Rattle.reading.proofs.Refusals as Refuses
use Rattle.reading.proofs.Replies.{token_taken, success, refuse, lacks, passed, after, built, nested_answer}
use Rattle.reading.proofs.Taking.{led, ready_led, led_refused, starts, past_at, free}
use Rattle.reading.proofs.Gathering.{if_tried, else_tried}
use Rattle.parser.proofs.readers.+readers.Goals as goal

pub if_-returns-then-terms-depth : goal.if_-returns-then-terms-depth
if_-returns-then-terms-depth t c = refuse (Refuses.too_deep c.if-terms-depth.true)

pub if_-returns-in_default : goal.if_-returns-in_default
if_-returns-in_default t c = lacks c.in_default.is c.consume-read.ensures (λ n. Refuses.inside c.if-terms-depth.false (Refuses.in_node (Refuses.missing n)))

pub if_-expression-read-requires : goal.if_-expression-read-requires
if_-expression-read-requires t c =
    let lead = token_taken c.in-Node.is c.consume-read.ensures in
    let asked = ready_led c.requires lead (λ e. omega arith) in (
      omega (
        arith,
        c.if-terms-depth.false,
        past_at lead,
        asked.within.at,
      ),
      ready_deep asked c.if-terms-depth.false,
    )

pub if_-returns-in_default-read : goal.if_-returns-in_default-read
if_-returns-in_default-read t c =
    let lead = token_taken c.in-Node.is c.consume-read.ensures in
    passed c.in_default-read.is c.expression-read.ensures
    (λ x h. Refuses.inside c.if-terms-depth.false (Refuses.in_node (led_refused lead (Refuses.in_first h))))

pub if_-block-read-requires : goal.if_-block-read-requires
if_-block-read-requires t c =
    let lead = token_taken c.in-Node.is c.consume-read.ensures in
    let asked = ready_led c.requires lead (λ e. omega arith) in
    let condition = success c.in-Node-read.is c.expression-read.ensures in (
      omega (
        arith,
        c.if-terms-depth.false,
        past_at
            lead,
        condition.past,
        condition.within.at,
      ),
      ready_deep
          (ready_on asked condition.within) c.if-terms-depth.false,
    )

pub if_-returns-in_default-read-2 : goal.if_-returns-in_default-read-2
if_-returns-in_default-read-2 t c =
    let lead = token_taken c.in-Node.is c.consume-read.ensures in
    let condition = success c.in-Node-read.is c.expression-read.ensures in
    passed c.in_default-read-2.is c.block-read.ensures
    (λ x h. Refuses.inside c.if-terms-depth.false (Refuses.in_node (led_refused lead (after condition.reading (Refuses.in_first h)))))

pub if_-kind_at-requires : goal.if_-kind_at-requires
if_-kind_at-requires t c =
    let body = success c.in-Node-read-2.is c.block-read.ensures in
    body.within.at

pub if_-if_-node-requires : goal.if_-if_-node-requires
if_-if_-node-requires t c =
    let lead = token_taken c.in-Node.is c.consume-read.ensures in
    let asked = ready_led c.requires lead (λ e. omega arith) in
    let body = success c.in-Node-read-2.is c.block-read.ensures in
    free asked.lent body.within

pub if_-made-requires : goal.if_-made-requires
if_-made-requires t c =
    let lead = token_taken c.in-Node.is c.consume-read.ensures in
    let asked = ready_led c.requires lead (λ e. omega arith) in
    let body = success c.in-Node-read-2.is c.block-read.ensures in
    free asked.lent body.within

pub if_-returns-then-kind_at-ne-ELSE : goal.if_-returns-then-kind_at-ne-ELSE
unfolding paid spare above form_rules
if_-returns-then-kind_at-ne-ELSE t c =
    let lead = token_taken c.in-Node.is c.consume-read.ensures in
    let condition = success c.in-Node-read.is c.expression-read.ensures in
    let body = success c.in-Node-read-2.is c.block-read.ensures in
    let e = unkeyed _ otherwise _ refl (λ k. c.if-kind_at-ne-ELSE.true (c.kind_at.ensures ∙ k)) in
    let h = c.if-terms-depth.false in
    nested_answer _ h
    (built (ready_deep c.requires h) (record { pays = tt }) body.within.at
    (led lead (both_more condition.reading (both body.reading (chosen e (nothing (omega (arith, h)))))))
    (if_tried body.within c.requires.lent (starts lead) c.made.ensures c.if_-node.ensures))

pub if_-overflow_add-further : goal.if_-overflow_add-further
if_-overflow_add-further t c =
    let lead = token_taken c.in-Node.is c.consume-read.ensures in
    let asked = ready_led c.requires lead (λ e. omega arith) in
    let body = success c.in-Node-read-2.is c.block-read.ensures in
    omega (arith, body.within.at, asked.lent.whole.most)

pub if_-else_-read-requires : goal.if_-else_-read-requires
if_-else_-read-requires t c =
    let lead = token_taken c.in-Node.is c.consume-read.ensures in
    let asked = ready_led c.requires lead (λ e. omega arith) in
    let condition = success c.in-Node-read.is c.expression-read.ensures in
    let body = success c.in-Node-read-2.is c.block-read.ensures in
    let r = ready_next (ready_deep (ready_on asked body.within) c.if-terms-depth.false)
    (sym c.kind_at.ensures ∙ c.if-kind_at-ne-ELSE.false) (λ e. omega arith) in (
      omega (
        arith,
        c.if-terms-depth.false,
        past_at lead,
        condition.past,
        body.past,
        r.within.at,
      ),
      r,
    )

pub if_-returns-in_default-read-3 : goal.if_-returns-in_default-read-3
unfolding form_rules
if_-returns-in_default-read-3 t c =
    let lead = token_taken c.in-Node.is c.consume-read.ensures in
    let condition = success c.in-Node-read.is c.expression-read.ensures in
    let body = success c.in-Node-read-2.is c.block-read.ensures in
    let k = sym c.kind_at.ensures ∙
    c.if-kind_at-ne-ELSE.false in
    passed c.in_default-read-3.is c.else_-read.ensures
    (λ x h. Refuses.inside c.if-terms-depth.false
    (Refuses.in_node
    (led_refused lead
    (after condition.reading (after body.reading (Refuses.in_choice (keyed _ otherwise _ refl k) (Refuses.past_token k h)))))))

pub if_-if_-node-requires-2 : goal.if_-if_-node-requires-2
if_-if_-node-requires-2 t c =
    let lead = token_taken c.in-Node.is c.consume-read.ensures in
    let asked = ready_led c.requires lead (λ e. omega arith) in
    let other = success c.in-Node-read-3.is c.else_-read.ensures in
    free asked.lent other.within

pub if_-made-requires-2 : goal.if_-made-requires-2
if_-made-requires-2 t c =
    let lead = token_taken c.in-Node.is c.consume-read.ensures in
    let asked = ready_led c.requires lead (λ e. omega arith) in
    let other = success c.in-Node-read-3.is c.else_-read.ensures in
    free asked.lent other.within

pub if_-returns : goal.if_-returns
unfolding paid spare above form_rules
if_-returns t c =
    let lead = token_taken c.in-Node.is c.consume-read.ensures in
    let condition = success c.in-Node-read.is c.expression-read.ensures in
    let body = success c.in-Node-read-2.is c.block-read.ensures in
    let other = success c.in-Node-read-3.is c.else_-read.ensures in
    let k = sym c.kind_at.ensures ∙ c.if-kind_at-ne-ELSE.false in
    let h = c.if-terms-depth.false in
    nested_answer _ h
    (built (ready_deep c.requires h) (record { pays = tt }) other.within.at
    (led lead
    (both_more condition.reading (both body.reading (chosen (keyed _ otherwise _ refl k) (taken k other.reading)))))
    (else_tried other.within c.requires.lent (starts lead) c.made-2.ensures c.if_-node-2.ensures))
