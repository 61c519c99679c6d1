-- `tell` meets its contract: each answer is a law of Telling.antt.
use Prim.Native.Nat.{◌≤◌}
use mathlib.Core.Path.{sym, ◌∙◌}
use native.Mathlib.Omega.{arith}
use Rattle.grammar.specs.Edition.{edition as the-edition}
use Rattle.grammar.specs.Kind.{Eof}
use Rattle.grammar.specs.Token.{kind}
use Rattle.expected.specs.Cells.{bar_number}
use Rattle.expected.specs.Steps.{Taken, Bars}
use Rattle.expected.proofs.Leaving.{as_took}
use Rattle.expected.proofs.Telling.{opened_few, nothing_told, unknown_kind, not_taken, not_passed, passed_told, not_over, below_sound, lower, only_deep, barred_deep, other_code, room_inside, barred_told, as_barred, as_over}
use Rattle.expected.proofs.tell.Goals as goal
use Rattle.expected.proofs.tell.Goals.{In-Took, In-Barred, then-code-ne-DEEP-via-then-code-ne-DEEP, then-code-ne-DEEP-via-else-code-ne-DEEP+then-d-most}

-- the kind was taken
module _ (c : In-Took) where
  known_took : kind c.args.tokens.now c.args.at ≤ Eof
  known_took = omega (arith, c.kind_at-kind.ensures, c.if-kind-gt-EOF.false)

  took : Taken (the-edition c.args.edition) (kind c.args.tokens.now c.args.at) c.args.at c.args.top c.args.room.now c.advance.new.room c.in-Took.t c.in-Took.d
  took = as_took c.advance.result c.in-Took.is (rw (c.kind_at-kind.ensures) at c.advance.ensures)

-- or it was barred
module _ (c : In-Barred) where
  known_barred : kind c.args.tokens.now c.args.at ≤ Eof
  known_barred = omega (arith, c.kind_at-kind.ensures, c.if-kind-gt-EOF.false)

  barred : Bars (the-edition c.args.edition) (kind c.args.tokens.now c.args.at) c.args.at c.args.top c.args.room.now c.advance.new.room c.in-Barred.t c.in-Barred.d (bar_number c.in-Barred.bar)
  barred = as_barred c.advance.result c.in-Barred.is (rw (c.kind_at-kind.ensures) at c.advance.ensures)

pub returns-then-kind-gt-EOF : goal.returns-then-kind-gt-EOF
returns-then-kind-gt-EOF c = nothing_told (λ l u m. unknown_kind (omega (arith, c.kind_at-kind.ensures, c.if-kind-gt-EOF.true)) m) c.nothing.ensures

-- the kind is taken
pub returns-then-code-ne-DEEP : goal.returns-then-code-ne-DEEP
returns-then-code-ne-DEEP c =
    let x = (goal.at.returns-then-code-ne-DEEP c).In-Took in
    elim c.then-code-ne-DEEP.branch [
      | then-code-ne-DEEP-via-then-code-ne-DEEP w ↦ nothing_told (λ l u m. not_taken c.requires.asked_of c.requires.reached (known_took x) (took x) w.if-code-ne-DEEP.true m) c.nothing-then-code-ne-DEEP.ensures
      | then-code-ne-DEEP-via-else-code-ne-DEEP+then-d-most w ↦
          nothing_told (λ l u m. not_passed c.requires.asked_of c.requires.reached (known_took x) (took x) w.if-d-most.true w.if-code-ne-DEEP.false m) c.nothing-then-code-ne-DEEP.ensures
    ]

pub open-requires-clause-top_in_bounds : goal.open-requires-clause-top_in_bounds
open-requires-clause-top_in_bounds c = let x = (goal.at.open-requires-clause-top_in_bounds c).In-Took in (took x).fits

pub open-requires-clause-sound : goal.open-requires-clause-sound
open-requires-clause-sound c = let x = (goal.at.open-requires-clause-sound c).In-Took in (took x).sounds

pub returns-else-d-most : goal.returns-else-d-most
returns-else-d-most c = let x = (goal.at.returns-else-d-most c).In-Took in passed_told c.requires.asked_of c.requires.reached (known_took x) (took x) (omega (arith, c.if-d-most.false)) c.if-code-ne-DEEP.false (c.open.ensures) c.fill.ensures

-- it is barred
pub overflow_add-d : goal.overflow_add-d
overflow_add-d c = let x = (goal.at.overflow_add-d c).In-Barred in omega (arith, lower c.requires.asked_of c.requires.reached (known_barred x) (barred x), c.requires.asked_of.least_depth, opened_few (bar_number c.in-Barred.bar), c.opened_by.ensures)

pub returns-then-code-ne-DEEP-2 : goal.returns-then-code-ne-DEEP-2
returns-then-code-ne-DEEP-2 c = let x = (goal.at.returns-then-code-ne-DEEP-2 c).In-Barred in nothing_told (λ l u m. only_deep c.requires.asked_of c.requires.reached (known_barred x) (barred x) (omega (arith, c.if-most-d.true, c.opened_by.ensures)) c.if-code-ne-DEEP-2.true m) c.nothing-then-code-ne-DEEP-2.ensures

pub overflow_add-t : goal.overflow_add-t
overflow_add-t c = let x = (goal.at.overflow_add-t c).In-Barred in omega (arith, (barred x).fits, c.advance.ensures.same_length, c.requires.reached.whole_room)

pub open-requires-then-most-d-clause-top_in_bounds : goal.open-requires-then-most-d-clause-top_in_bounds
open-requires-then-most-d-clause-top_in_bounds c = let x = (goal.at.open-requires-then-most-d-clause-top_in_bounds c).In-Barred in omega (arith, (barred x).fits)

pub open-requires-then-most-d-clause-sound : goal.open-requires-then-most-d-clause-sound
open-requires-then-most-d-clause-sound c = let x = (goal.at.open-requires-then-most-d-clause-sound c).In-Barred in below_sound c.requires.asked_of c.requires.reached (known_barred x) (barred x)

pub returns-then-most-d : goal.returns-then-most-d
returns-then-most-d c = let x = (goal.at.returns-then-most-d c).In-Barred in barred_deep c.requires.asked_of c.requires.reached (known_barred x) (barred x) (omega (arith, c.if-most-d.true, c.opened_by.ensures)) c.if-code-ne-DEEP-2.false (c.open-then-most-d.ensures) c.fill-then-most-d.ensures

pub returns-then-code-code_of : goal.returns-then-code-code_of
returns-then-code-code_of c = let x = (goal.at.returns-then-code-code_of c).In-Barred in nothing_told (λ l u m. other_code c.requires.asked_of c.requires.reached (known_barred x) (barred x) (omega (arith, c.if-most-d.false, c.opened_by.ensures)) (λ e. c.if-code-code_of.true (e ∙ sym c.code_of.ensures)) m) c.nothing-then-code-code_of.ensures

pub overflow_add-t-in-Barred : goal.overflow_add-t-in-Barred
overflow_add-t-in-Barred c = let x = (goal.at.overflow_add-t-in-Barred c).In-Barred in omega (arith, (barred x).fits, c.advance.ensures.same_length, c.requires.reached.whole_room)

pub open-outer-requires-clause-top_in_bounds : goal.open-outer-requires-clause-top_in_bounds
open-outer-requires-clause-top_in_bounds c = let x = (goal.at.open-outer-requires-clause-top_in_bounds c).In-Barred in omega (arith, (barred x).fits)

pub open-outer-requires-clause-sound : goal.open-outer-requires-clause-sound
open-outer-requires-clause-sound c = let x = (goal.at.open-outer-requires-clause-sound c).In-Barred in below_sound c.requires.asked_of c.requires.reached (known_barred x) (barred x)

pub kinds-requires-clause-sound : goal.kinds-requires-clause-sound
kinds-requires-clause-sound c = let x = (goal.at.kinds-requires-clause-sound c).In-Barred in rw (barred x).kept c.requires.reached.sounds

pub inside-requires : goal.inside-requires
inside-requires c = let x = (goal.at.inside-requires c).In-Barred in room_inside c.requires.asked_of c.requires.reached (known_barred x) (barred x) (omega (arith, c.if-most-d.false, c.opened_by.ensures)) (c.open-outer.ensures)

pub returns-else-code-code_of : goal.returns-else-code-code_of
returns-else-code-code_of c = let x = (goal.at.returns-else-code-code_of c).In-Barred in barred_told c.requires.asked_of c.requires.reached (known_barred x) (barred x) (omega (arith, c.if-most-d.false, c.opened_by.ensures)) (c.if-code-code_of.false ∙ c.code_of.ensures) c.kinds.ensures (c.open-outer.ensures) c.inside.ensures c.fill-in-Barred.ensures

-- nothing is left
pub returns-in-Over : goal.returns-in-Over
returns-in-Over c =
    let same = c.kind_at-kind.ensures in
    let known : kind c.args.tokens.now c.args.at ≤ Eof = omega (arith, same, c.if-kind-gt-EOF.false) in
    nothing_told (λ l u m. not_over c.requires.asked_of c.requires.reached known (as_over c.advance.result (λ t d e. cc c.in-Over.is) (λ t d n e. cc c.in-Over.is) (rw same at c.advance.ensures)) m) c.nothing-in-Over.ensures
