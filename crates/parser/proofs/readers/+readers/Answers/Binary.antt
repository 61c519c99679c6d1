-- The levels of binary operators: an operand, and each operator that binds tighter, with its right operand.
use native.Mathlib.Omega.{arith}
use mathlib.Core.Path.{refl, sym}
use Rattle.reading.specs.Parts.{Makes}
use Rattle.reading.proofs.Chains.{going_link}
use Rattle.reading.proofs.Entering.{made_of, unmade_of}
use Rattle.reading.proofs.Laws.{ready_next, ready_on, taken, full_linked}
use Rattle.parser.proofs.Levels.{climbing_none, climbing_on, settled, refused_link, refused_operand}
use Rattle.reading.proofs.Picks.{level_is, level_most, operator_goes, operator_form, operator_tried}
use Rattle.reading.proofs.Refusals as Refuses
use Rattle.reading.proofs.Replies.{success, passed, answered, refuse, further}
use Rattle.reading.proofs.Taking.{free}
use Rattle.parser.proofs.readers.+readers.Goals as goal

pub binary-returns-in_default : goal.binary-returns-in_default
binary-returns-in_default t c = passed c.in_default.is c.prefix-read.ensures (λ x h. refused_operand _ h)

pub binary-loop-terms-init : goal.binary-loop-terms-init
binary-loop-terms-init t c =
    let lead = success c.in-Node.is c.prefix-read.ensures in
    climbing_none lead.within

pub binary-binary-turn-requires : goal.binary-binary-turn-requires
binary-binary-turn-requires t c =
    let lead = success c.in-Node.is c.prefix-read.ensures in
    let i = c.loop-terms.invariant in
    let l = c.if-level-tier.false in (
      omega (arith, lead.past, i.past, i.within.at),
      (
        omega (arith, c.requires.level_bound, l),
        ready_next (ready_on c.requires.ready i.within) (sym c.kind_at-kind.ensures)
            (operator_goes c.level_of-tier.ensures (omega (arith, c.requires.level_bound, l))),
      ),
    )

pub binary-returns-in_default-turn : goal.binary-returns-in_default-turn
binary-returns-in_default-turn t c =
    let lead = success c.in-Node.is c.prefix-read.ensures in
    let i = c.loop-terms.invariant in
    let k = c.kind_at-kind.ensures in
    let e = c.level_of-tier.ensures in
    let l = c.if-level-tier.false in
    passed c.in_default-turn.is c.binary-turn.ensures
    (λ x h. refused_link l (further ((i.grown _ lead.reading).link _ l (level_is k e)) (operator_form k e _ (omega (arith, c.requires.level_bound, l))) (Refuses.past_token refl h)))

pub binary-joined-whole-requires : goal.binary-joined-whole-requires
binary-joined-whole-requires t c =
    let part = success c.in-Node-turn.is c.binary-turn.ensures in
    free c.requires.ready.lent part.within

pub binary-returns-then-whole : goal.binary-returns-then-whole
binary-returns-then-whole t c =
    let lead = success c.in-Node.is c.prefix-read.ensures in
    let part = success c.in-Node-turn.is c.binary-turn.ensures in
    let i = c.loop-terms.invariant in
    let k = c.kind_at-kind.ensures in
    let e = c.level_of-tier.ensures in
    let l = c.if-level-tier.false in
    rw c.no_room.ensures
    (refuse (refused_link l
    (full_linked ((i.grown _ lead.reading).link _ l (level_is k e)) (operator_form k e _ (omega (arith, c.requires.level_bound, l))) (taken refl part.reading)
    (unmade_of (operator_tried k part.within c.requires.ready.lent (Makes.full c.if-whole.true) c.joined-whole.ensures)))))

pub binary-overflow_add-now : goal.binary-overflow_add-now
binary-overflow_add-now t c =
    let part = success c.in-Node-turn.is c.binary-turn.ensures in
    omega (arith, free c.requires.ready.lent part.within)

pub binary-loop-terms-smaller : goal.binary-loop-terms-smaller
binary-loop-terms-smaller t c =
    let part = success c.in-Node-turn.is c.binary-turn.ensures in
    omega (arith, part.past, c.loop-terms.invariant.within.at)

pub binary-loop-terms-preserved : goal.binary-loop-terms-preserved
binary-loop-terms-preserved t c =
    let part = success c.in-Node-turn.is c.binary-turn.ensures in
    let i = c.loop-terms.invariant in
    let k = c.kind_at-kind.ensures in
    let e = c.level_of-tier.ensures in
    let l = c.if-level-tier.false in
    climbing_on i (level_is k e) l (settled _ _ (omega (arith, c.requires.level_bound, l)) part.reading.reads)
    (going_link i.within (operator_form k e _ (omega (arith, c.requires.level_bound, l))) (taken refl part.reading)
    (made_of (operator_tried k part.within c.requires.ready.lent (Makes.made c.if-whole.false) c.joined-whole.ensures)) part.within.at)

pub binary-returns : goal.binary-returns
binary-returns t c =
    let lead = success c.in-Node.is c.prefix-read.ensures in
    let i = c.loop-terms.invariant in
    answered (record {
      reading = (i.grown _ lead.reading).end (level_most c.kind_at-kind.ensures c.level_of-tier.ensures c.if-level-tier.true);
      within = i.within;
      past = omega
          (arith, lead.past, i.past);
    })
