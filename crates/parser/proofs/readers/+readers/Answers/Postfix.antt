-- The calls and dots after a form, whatever it is.
use native.Mathlib.Omega.{arith}
use mathlib.Core.Path.{sym, ◌∙◌}
use Rattle.grammar.specs.Phrase.{empty}
use Rattle.reading.proofs.Chains.{going_on, going_end, gone, goes, stopped_later}
use Rattle.reading.proofs.Laws.{ready_on}
use Rattle.reading.proofs.Picks.{no_call}
use Rattle.parser.proofs.readers.+readers.Goals as goal

pub postfix-kind_at-kind-requires : goal.postfix-kind_at-kind-requires
postfix-kind_at-kind-requires t c = (c.loop-nodes.invariant empty).within.at

pub postfix-property_access-read-requires : goal.postfix-property_access-read-requires
postfix-property_access-read-requires t c = record { at_value = sym c.kind_at-kind.ensures ∙ c.in-15.is; ready = ready_on c.requires (c.loop-nodes.invariant empty).within }

pub postfix-returns-in_default-read : goal.postfix-returns-in_default-read
postfix-returns-in_default-read t c =
    λ p. stopped_later c.in_default-read.is (c.loop-nodes.invariant p)
    (c.property_access-read.ensures p)

pub postfix-loop-nodes-smaller-in-15 : goal.postfix-loop-nodes-smaller-in-15
postfix-loop-nodes-smaller-in-15 t c =
    let z = gone c.in-Node.is (c.property_access-read.ensures empty) in
    omega (arith, z.far, (c.loop-nodes.invariant empty).within.at)

pub postfix-loop-nodes-preserved-in-15 : goal.postfix-loop-nodes-preserved-in-15
postfix-loop-nodes-preserved-in-15 t c =
    λ p. going_on (c.loop-nodes.invariant p)
    (gone c.in-Node.is (c.property_access-read.ensures p)).going

pub postfix-call-read-requires : goal.postfix-call-read-requires
postfix-call-read-requires t c =
    let i = c.loop-nodes.invariant empty in (
      omega (arith, i.past),
      (sym c.kind_at-kind.ensures ∙ c.in-17.is, ready_on c.requires i.within),
    )

pub postfix-returns-in_default-read-2 : goal.postfix-returns-in_default-read-2
postfix-returns-in_default-read-2 t c =
    λ p. stopped_later c.in_default-read-2.is (c.loop-nodes.invariant p)
    (c.call-read.ensures p)

pub postfix-loop-nodes-smaller : goal.postfix-loop-nodes-smaller
postfix-loop-nodes-smaller t c =
    let z = gone c.in-Node-read.is (c.call-read.ensures empty) in
    omega (arith, z.far, (c.loop-nodes.invariant empty).within.at)

pub postfix-loop-nodes-preserved : goal.postfix-loop-nodes-preserved
postfix-loop-nodes-preserved t c =
    λ p. going_on (c.loop-nodes.invariant p)
    (gone c.in-Node-read.is (c.call-read.ensures p)).going

pub postfix-returns : goal.postfix-returns
postfix-returns t c =
    λ p. let i = c.loop-nodes.invariant p in
    goes i.past (going_end (no_call _ (λ e. omega arith) (λ e. omega arith)) i)
