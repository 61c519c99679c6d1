-- `linked` meets its contract: all links before the one that is looked at keep the rule, and the marks are right (`Walked`).
use mathlib.Core.Path.{refl, ◌∙◌}
use native.Mathlib.Omega.{arith}
use Rattle.checker.specs.Test.{link_keeps}
use Rattle.checker.proofs.Keeping.{walk_begun, walk_on, walk_broken, walk_ended}
use Rattle.checker.proofs.keep.Asked.linked.Goals as goal
use Rattle.checker.proofs.keep.Asked.linked.Lts as lts
use Rattle.checker.proofs.keep.Asked.linked.Tie as tie
use Rattle.checker.proofs.keep.Asked.linked.Reads as reads

abbrev AfterLink : Type 0
AfterLink = lts.After-link tie.the-claims reads.Pre reads.Post goal.the-invariant-loop-at goal.the-decreases-loop-at

abbrev AfterSkip : Type 0
AfterSkip = lts.After-skip tie.the-claims reads.Pre reads.Post goal.the-invariant-loop-at goal.the-decreases-loop-at

abbrev AtLoop : Type 0
AtLoop = lts.At-loop tie.the-claims reads.Pre reads.Post goal.the-invariant-loop-at goal.the-decreases-loop-at

-- from where a link is looked at to the loop, and from there to the first way over marks
abbrev to_loop : AfterLink → AtLoop
to_loop c = c.before.before.before.before.before

abbrev to_skip : AtLoop → AfterSkip
to_skip c = c.before.before.before

pub loop-at-init : goal.loop-at-init
loop-at-init c = let s = c in (walk_begun s.requires refl s.skip-at.auto.marks s.skip-at.ensures, omega arith)

pub shape_of-marks-then-not-link : goal.shape_of-marks-then-not-link
shape_of-marks-then-not-link c = let l = to_loop c.before.before in l.loop-at.invariant.0.size ∙ (to_skip l).skip-at.auto.marks

pub returns-then-not-link : goal.returns-then-not-link
unfolding link_keeps
returns-then-not-link c = walk_broken (to_loop c.before.before).loop-at.invariant.0 (omega arith) (c.if-not-link.true) c.link.ensures

pub loop-at-preserved : goal.loop-at-preserved
unfolding link_keeps
loop-at-preserved c =
    let s = c.before.before.before in
    let m = s.before.before.before.before in
    let d = m.before.before in
    let l = to_loop d.before in
    (walk_on l.loop-at.invariant.0 (omega arith) l.loop-at.invariant.1 (d.if-not-link.false) d.link.ensures m.settle.ensures (s.skip-at-in-loop-at.auto.marks ∙ m.settle.auto.marks) s.skip-at-in-loop-at.ensures, omega arith)

pub shape_of-marks : goal.shape_of-marks
shape_of-marks c = c.loop-at.invariant.0.size ∙ (to_skip c.before.before).skip-at.auto.marks

pub returns : goal.returns
returns c = let s = to_skip c.before.before in walk_ended s.requires refl (omega arith) s.skip-at.ensures c.loop-at.invariant.0
