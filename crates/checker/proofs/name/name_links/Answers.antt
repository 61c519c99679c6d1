-- `name_links` meets its contract: from link to link, whatever is left of the list then decides what all of it does.
use Prim.Native.Nat.{◌+◌}
use native.Mathlib.Omega.{arith}
use mathlib.Core.Path.{refl, ap, ◌∙◌}
use Rattle.checker.proofs.Walking.{Walkable, Walks, marks_inside, walks_self, walks_both, walks_over, walks_link, walks_end}
use Rattle.checker.proofs.name.name_links.Goals as goal
use Rattle.checker.proofs.name.name_links.Lts as lts
use Rattle.checker.proofs.name.name_links.Tie as tie
use Rattle.checker.proofs.name.name_links.Reads as reads

abbrev AfterPlace : Type 0
AfterPlace = lts.After-place tie.the-claims reads.Pre reads.Post goal.the-invariant-loop-at goal.the-decreases-loop-at

abbrev AfterSliceKnown2 : Type 0
AfterSliceKnown2 = lts.After-slice_known2 tie.the-claims reads.Pre reads.Post goal.the-invariant-loop-at goal.the-decreases-loop-at

-- where the marks' place is known, and where the first link is
abbrev Placed : Type 0
Placed = AfterPlace

abbrev Entered : Type 0
Entered = AfterSliceKnown2

walkable : (c : Placed) → (let a = c.args in Walkable a.rows a.row a.two a.links.now (a.rows + c.place.result) (a.from + a.count))
walkable c = let p = c.requires in record { low = p.low; inside = p.inside; place = ap (λ k. c.args.rows + k) c.place.ensures }

entered : (c : Entered) → (let a = c.args in let s = c.skip-at in Walks a.rows a.row a.two a.links.now (a.from + a.count) a.from a.marks.now s.result s.new.marks)
entered c = walks_over (walkable c.before.before.before.before) c.requires.ready c.skip-at.auto.marks c.skip-at.ensures

pub overflow_add-base : goal.overflow_add-base
overflow_add-base c = omega (arith, marks_inside (walkable c.before) c.requires.ready)

pub skip-at-requires : goal.skip-at-requires
skip-at-requires c = marks_inside (walkable c.before.before) c.requires.ready

pub loop-at-init : goal.loop-at-init
loop-at-init c = let w = walkable c.before.before.before.before.before in let r = (entered c.before).ready in (w, walks_self r, marks_inside w r)

pub loop-at-preserved : goal.loop-at-preserved
loop-at-preserved c =
    let n = c.before.before.before.before.before.before.before in
    let m = n.before.before.before.before in
    let k = m in
    let (w, p, q) = k.loop-at.invariant in
    let x = walks_link w k.loop-at-test.true p.ready refl k.other-y.ensures k.mark.ensures m.mark-in-loop-at.ensures n.note.ensures (n.note.auto.marks ∙ m.mark-in-loop-at.auto.marks ∙ k.mark.auto.marks) in
    let y = walks_over w x.ready c.skip-at-in-loop-at.auto.marks c.skip-at-in-loop-at.ensures in
    (w, walks_both p (walks_both x y), marks_inside w y.ready)

pub returns : goal.returns
returns c = let w = walkable c.before.before.before.before.before.before.before in walks_end w _ (walks_both (entered c.before.before.before) c.loop-at.invariant.1) refl c.loop-at-test.false
