-- `judge_tree` meets its contract: the marks of all rows, the root and the lists, and then what is left.
use Rattle.std.proofs.Common.{refl, sym, arith}
use Rattle.std.proofs.lemmas.Result.{err_from_is_err_and}
use Rattle.checker.specs.Verdict.{TreeKept}
use Rattle.checker.proofs.Judging.{all_standing, nameable, judged_once, judged_rooted, judged_follows, judged_left_over, judged_present, judged_clean, judged_told, tree_kept}
use Rattle.checker.proofs.judge_tree.Goals as goal
use Rattle.checker.proofs.judge_tree.Goals.{After-parents-orphans}

-- rules 4 to 6 hold, once the parents are looked at
tree : (c : After-parents-orphans) → (let r = c.args.rows.now in TreeKept r.table.now r.nodes.now r.links.now r.count c.args.symbols c.parents-orphans.result)
tree c =
    let (j, k) = c.requires in
    let o = c.in_ok-once.ensures in
    tree_kept j k c.name.ensures o.before (sym c.if-not-rooted.ensures) c.in_ok-follow.ensures c.if-branch-rows.false c.parents-orphans.ensures

pub name-requires : goal.name-requires
name-requires c = let (j, k) = c.requires in nameable j k refl

pub returns-in_err-once : goal.returns-in_err-once
returns-in_err-once c = let p = err_from_is_err_and c.from_residual.result c.from_residual.ensures.1 in let (j, k) = c.requires in rw (p.1, p.2) (judged_once j k c.name.ensures c.in_err-once.ensures)

pub returns-then-not-rooted : goal.returns-then-not-rooted
returns-then-not-rooted c = let (j, k) = c.requires in let o = c.in_ok-once.ensures in rw c.saturating_sub-end.ensures (judged_rooted j k c.name.ensures o.before (sym c.if-not-rooted.ensures))

pub follow-requires : goal.follow-requires
follow-requires c = let (j, k) = c.requires in all_standing j k.kinds

pub returns-in_err-follow : goal.returns-in_err-follow
returns-in_err-follow c =
    let p = err_from_is_err_and c.from_residual-in_err-follow.result c.from_residual-in_err-follow.ensures.1 in
    let (j, k) = c.requires in
    let o = c.in_ok-once.ensures in
    rw (p.1, p.2) (judged_follows j k c.name.ensures o.before (sym c.if-not-rooted.ensures) c.in_err-follow.ensures)

pub returns-then-branch-rows : goal.returns-then-branch-rows
returns-then-branch-rows c =
    let (j, k) = c.requires in
    let o = c.in_ok-once.ensures in
    rw c.saturating_sub-end.ensures (judged_left_over j k c.name.ensures o.before (sym c.if-not-rooted.ensures) c.in_ok-follow.ensures c.if-branch-rows.true)

pub pass-requires : goal.pass-requires
pass-requires c = let (j, k) = c.requires in (all_standing j k.kinds, j.few, omega (arith, j.room))

pub returns-in_err-pass : goal.returns-in_err-pass
returns-in_err-pass c =
    let p = err_from_is_err_and c.from_residual-in_err-pass.result c.from_residual-in_err-pass.ensures.1 in
    rw (p.1, p.2) (judged_present c.requires.0 (tree (goal.at.returns-in_err-pass c).After-parents-orphans) c.in_err-pass.ensures)

pub pass-requires-2 : goal.pass-requires-2
pass-requires-2 c = let (j, k) = c.requires in (all_standing j k.kinds, j.few, omega (arith, j.room))

pub returns-in_err-pass-2 : goal.returns-in_err-pass-2
returns-in_err-pass-2 c =
    let p = err_from_is_err_and c.from_residual-in_err-pass-2.result c.from_residual-in_err-pass-2.ensures.1 in
    let f = c.in_ok-pass.ensures in
    rw (p.1, p.2) (judged_clean c.requires.0 (tree (goal.at.returns-in_err-pass-2 c).After-parents-orphans) f.before c.in_err-pass-2.ensures)

pub returns : goal.returns
returns c = let f = c.in_ok-pass.ensures in let h = c.in_ok-pass-2.ensures in judged_told c.requires.0 (tree (goal.at.returns c).After-parents-orphans) f.before h.before
