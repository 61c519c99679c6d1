-- `first_stop` meets its contract: what its loop leaves behind passes the kind on, wherever the token is, and its marks are counted.
use native.Mathlib.Omega.{arith}
use mathlib.Core.Path.{◌≡◌, refl}
use lib.ListN.{length}
use Rattle.expected.specs.Steps.{StopCase}
use Rattle.expected.proofs.Passing.{none_above, state_number, one_state, one_mark}
use Rattle.expected.proofs.stack.first_stop.Goals as goal

pub loop-at-init : goal.loop-at-init
loop-at-init c = none_above c.requires.top_in_bounds c.requires.sound

pub overflow_add-marks : goal.overflow_add-marks
overflow_add-marks c = omega (arith, c.loop-at.invariant.few)

pub loop-at-preserved-then-v-ge-MARK : goal.loop-at-preserved-then-v-ge-MARK
loop-at-preserved-then-v-ge-MARK c = one_mark c.loop-at.invariant c.loop-at-test.true c.if-v-ge-MARK.true

pub action_on-requires : goal.action_on-requires
action_on-requires c = record { state_bound = state_number (c.loop-at.invariant.passing 0) c.loop-at-test.true c.if-v-ge-MARK.false; kind_bound = c.requires.kind_bound }

pub returns-in-Some : goal.returns-in-Some
unfolding StopCase
returns-in-Some c =
    record { says = record { above = c.loop-at.invariant; inside = c.loop-at-test.true; state = c.if-v-ge-MARK.false; acts = c.in-Some.ensures } }

pub loop-at-preserved : goal.loop-at-preserved
loop-at-preserved c = one_state c.loop-at.invariant c.loop-at-test.true c.if-v-ge-MARK.false c.in_default.ensures refl

pub returns : goal.returns
unfolding StopCase
returns c =
    let all : c.loop-at.at ≡ length c.args.room.now = omega (arith, c.requires.top_in_bounds) in
    record { says = rw all at c.loop-at.invariant.passing }
