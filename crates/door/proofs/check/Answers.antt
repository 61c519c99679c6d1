-- `check` meets its contract: the first of the checks that finds something wrong gives the answer.
use Prim.Native.Nat.{◌<◌}
use mathlib.Core.Path.{refl, sym}
use native.Mathlib.Omega.{arith}
use Rattle.std.proofs.lemmas.Result.{err_from_is_err_and}
use Rattle.door.proofs.Codes.{some_code, right_so_far, by_code, by_byte, by_list, not_open}
use Rattle.door.proofs.check.Goals as goal
use Rattle.door.proofs.check.Goals.{In-Some}

pub returns-in_err-admit : goal.returns-in_err-admit
returns-in_err-admit c =
    let p = err_from_is_err_and c.from_residual.result c.from_residual.ensures.1 in
    rw (p.1, p.2) (record { entered = by_code c.in_err-admit.ensures.code (some_code c.in_err-admit.field-0.0); known = λ e. absurd (not_open _ (sym e)) })

-- the text is short
place : (c : In-Some) → c.in-Some.high < 65536
place c = let t = right_so_far c.in_ok-admit.ensures.code refl 2 (omega arith) in omega (arith, t, c.in-Some.ensures.place)

pub overflow_cast-result : goal.overflow_cast-result
overflow_cast-result c = omega (arith, place c)

pub overflow_cast-result-in-Some : goal.overflow_cast-result-in-Some
overflow_cast-result-in-Some c = omega (arith, place c)

pub returns-in-Some : goal.returns-in-Some
returns-in-Some c = record { entered = by_byte c.in_ok-admit.ensures.code refl c.in-Some.ensures; known = λ e. absurd (not_open _ (sym e)) }

pub listed-requires : goal.listed-requires
listed-requires c = (right_so_far c.in_ok-admit.ensures.code refl 1 (omega arith), c.in_default.ensures)

pub returns : goal.returns
returns c = record { entered = by_list c.in_ok-admit.ensures.code refl c.in_default.ensures c.listed.ensures; known = λ z. c.in_ok-admit.ensures.known refl }
