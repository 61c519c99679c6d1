-- A name of a path is held; at Eof there is none.
use mathlib.Core.Path.{refl}
use native.Mathlib.Omega.{arith}
use Rattle.grammar.proofs.Tables.{keyed, unkeyed}
use Rattle.grammar.specs.Kaori.{path_name, rules}
use Rattle.reading.proofs.Listings.{lists_nothing, listed_chosen, lists, lists_passed, hold_room, hold_number}
use Rattle.reading.proofs.Names.{name_held}
use Rattle.reading.proofs.Refusals as Refuses
use Rattle.reading.proofs.Replies.{success}
use Rattle.reading.proofs.lists.step.Goals as goal

pub returns-then-kind_at-eq-EOF : goal.returns-then-kind_at-eq-EOF
unfolding rules
returns-then-kind_at-eq-EOF c = lists_nothing c.requires.ready (keyed _ path_name _ refl (rw c.kind_at.ensures at c.if-kind_at-eq-EOF.true))

pub returns-in_default : goal.returns-in_default
unfolding rules
returns-in_default c =
    lists_passed c.in_default.is c.name-read.ensures (λ x h. Refuses.in_choice (unkeyed _ path_name _ refl (rw c.kind_at.ensures at c.if-kind_at-eq-EOF.false)) h)

pub push-requires : goal.push-requires
push-requires c = hold_room (success c.in-Node.is c.name-read.ensures).within

pub overflow_add-past : goal.overflow_add-past
overflow_add-past c = omega (arith, hold_number (success c.in-Node.is c.name-read.ensures).within c.requires.ready.lent)

pub returns : goal.returns
unfolding rules
returns c =
    lists (listed_chosen (unkeyed _ path_name _ refl (rw c.kind_at.ensures at c.if-kind_at-eq-EOF.false))
    (name_held c.requires (success c.in-Node.is c.name-read.ensures) c.push.ensures refl))
