-- `admit` meets its contract: the first of its checks that finds something wrong gives the code.
use native.Mathlib.Omega.{arith}
use Rattle.door.specs.Entry.{AdmitsCode}
use Rattle.std.proofs.lemmas.Result.{err_from_is_err_and}
use Rattle.door.proofs.Codes.{some_code}
use Rattle.door.proofs.admit.Goals as goal

pub returns-in_err-lengths : goal.returns-in_err-lengths
returns-in_err-lengths c =
    let p = err_from_is_err_and c.from_residual.result c.from_residual.ensures.1 in
    let some = some_code c.in_err-lengths.field-0.0 in
    rw (p.1, p.2) (record { code = AdmitsCode.lengths c.in_err-lengths.ensures some; known = λ e. absurd (some e) })

pub returns-then-not-right : goal.returns-then-not-right
returns-then-not-right c = record { code = AdmitsCode.names c.in_ok-lengths.ensures (c.right.ensures.wrong c.if-not-right.true); known = λ e. absurd (omega arith) }

pub returns-then-symbols-rows : goal.returns-then-symbols-rows
returns-then-symbols-rows c = record {
  code = AdmitsCode.names_room c.in_ok-lengths.ensures (c.right.ensures.right c.if-not-right.false) (omega (arith, c.if-symbols-rows.true));
  known = λ e. absurd (omega arith);
}

pub returns : goal.returns
returns c =
    let r = c.right.ensures in
    record {
      code = AdmitsCode.right c.in_ok-lengths.ensures (r.right c.if-not-right.false) (omega (arith, c.if-symbols-rows.false));
      known = λ e. r.known c.if-not-right.false;
    }
