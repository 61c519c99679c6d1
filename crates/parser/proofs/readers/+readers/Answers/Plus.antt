-- A `+` is one opening deeper, and makes nothing.
use borrow.Author.Rules.{rules}
use native.Mathlib.Omega.{arith}
use Rattle.grammar.specs.Kaori.{above}
use Rattle.reading.proofs.Laws.{opened, ready_deep}
use Rattle.reading.proofs.Refusals as Refuses
use Rattle.reading.proofs.Replies.{token_taken, mapped, refuse, lacks}
use Rattle.reading.proofs.Taking.{past_at, led, led_refused, ready_led}
use Rattle.parser.proofs.readers.+readers.Goals as goal

pub plus-returns-then-terms-depth : goal.plus-returns-then-terms-depth
plus-returns-then-terms-depth t c = refuse (Refuses.too_deep c.if-terms-depth.true)

pub plus-returns-in_default : goal.plus-returns-in_default
plus-returns-in_default t c = lacks c.in_default.is c.consume-read.ensures (λ h. Refuses.inside c.if-terms-depth.false (Refuses.missing h))

pub plus-binary-requires : goal.plus-binary-requires
plus-binary-requires t c =
    let lead = token_taken c.in-Node.is c.consume-read.ensures in
    let e = past_at lead in (
      search rules,
      (
        search rules,
        ready_led (ready_deep c.requires c.if-terms-depth.false) lead
            (λ e. omega arith),
      ),
    )

pub plus-returns : goal.plus-returns
unfolding above
plus-returns t c =
    let lead = token_taken c.in-Node.is c.consume-read.ensures in
    let e = past_at lead in
    mapped _ (omega arith) c.binary.ensures (λ n d r. opened (led lead r)) (λ x h. Refuses.inside c.if-terms-depth.false (led_refused lead h))
