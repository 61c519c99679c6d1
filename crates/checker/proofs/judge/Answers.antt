-- `judge` meets its contract: rules 1 to 3, each by a pass, and then the others.
use Rattle.std.proofs.Common.{arith}
use Rattle.std.proofs.lemmas.Result.{err_from_is_err_and}
use Rattle.checker.proofs.Judging.{all_standing, judged_kinds, judged_ranges, judged_earlier}
use Rattle.checker.proofs.judge.Goals as goal

pub returns-in_err-known : goal.returns-in_err-known
returns-in_err-known c = let p = err_from_is_err_and c.from_residual.result c.from_residual.ensures.1 in rw (p.1, p.2) (judged_kinds c.requires c.in_err-known.ensures)

pub pass-requires : goal.pass-requires
pass-requires c = let j = c.requires in let f = c.in_ok-known.ensures in (all_standing j f.before, j.few, omega (arith, j.room))

pub returns-in_err-pass : goal.returns-in_err-pass
returns-in_err-pass c = let p = err_from_is_err_and c.from_residual-in_err-pass.result c.from_residual-in_err-pass.ensures.1 in let f = c.in_ok-known.ensures in rw (p.1, p.2) (judged_ranges c.requires _ f.before c.in_err-pass.ensures)

pub pass-requires-2 : goal.pass-requires-2
pass-requires-2 c = let j = c.requires in let f = c.in_ok-known.ensures in (all_standing j f.before, j.few, omega (arith, j.room))

pub returns-in_err-pass-2 : goal.returns-in_err-pass-2
returns-in_err-pass-2 c =
    let p = err_from_is_err_and c.from_residual-in_err-pass-2.result c.from_residual-in_err-pass-2.ensures.1 in
    let f = c.in_ok-known.ensures in
    let h = c.in_ok-pass.ensures in
    rw (p.1, p.2) (judged_earlier c.requires _ f.before h.before c.in_err-pass-2.ensures)
