-- `all_scripts` meets its contract: 19 where the cuts or the rooms are not right; and else one script after another is answered.
use mathlib.Core.Path.{refl, ◌∙◌}
use Rattle.spelling.proofs.Deciding.{held, failed, said}
use Rattle.scripts.specs.Joined.{AnswersAll}
use Rattle.scripts.proofs.Turns.{start, fits_now, next, all_answered}
use Rattle.scripts.proofs.all_scripts.Goals as goal

pub returns-then-not-right_cuts : goal.returns-then-not-right_cuts
returns-then-not-right_cuts g c = record { answered = AnswersAll.turned_away (λ f. failed (said (rw c.count.ensures at c.right_cuts.ensures) c.if-not-right_cuts.true) f.cuts_right); same_name = refl; same_kept = refl }

pub room_for-requires : goal.room_for-requires
room_for-requires g c = (held (said c.right_cuts.ensures c.if-not-right_cuts.false)).few

pub returns-then-not-room_for : goal.returns-then-not-room_for
returns-then-not-room_for g c = record { answered = AnswersAll.turned_away (λ f. failed (said c.room_for.ensures c.if-not-room_for.true) f.room); same_name = refl; same_kept = refl }

pub loop-i-init : goal.loop-i-init
loop-i-init g c = (start record { cuts_right = held (said (rw c.count.ensures at c.right_cuts.ensures) c.if-not-right_cuts.false); room = held (said c.room_for.ensures c.if-not-room_for.false) }, refl, refl)

pub one_script-requires : goal.one_script-requires
one_script-requires g c = (c.loop-i-test.true, fits_now c.loop-i.invariant.0)

pub loop-i-preserved : goal.loop-i-preserved
loop-i-preserved g c =
    let x = c.one_script.ensures in
    let (t, name, kept) = c.loop-i.invariant in
    (next c.loop-i-test.true t x.step, x.same_name ∙ name, x.same_kept ∙ kept)

pub returns : goal.returns
returns g c = let (t, name, kept) = c.loop-i.invariant in record { answered = all_answered c.loop-i-test.false t; same_name = name; same_kept = kept }
