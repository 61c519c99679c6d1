-- `lent` meets its contract: what lengths or the built-in names turn away is answered so, and of anything else the profile says what the door would.
use mathlib.Core.Path.{refl, sym}
use Rattle.std.proofs.lemmas.Result.{err_from_is_err_and}
use Rattle.door.specs.Entry.{ListChecked}
use Rattle.door.proofs.Codes.{some_code, by_code, by_list, not_open}
use Rattle.syntax.proofs.lent.Goals as goal

pub returns-in_err-admit : goal.returns-in_err-admit
returns-in_err-admit c =
    let p = err_from_is_err_and c.from_residual.result c.from_residual.ensures.1 in
    rw (p.1, p.2) (record { entered = by_code c.in_err-admit.ensures.code (some_code c.in_err-admit.field-0.0); known = λ e. absurd (not_open _ (sym e)) })

pub returns : goal.returns
returns c =
    let admitted = c.in_ok-admit.ensures in
    let lent = c.requires.1 in
    record { entered = by_list admitted.code refl lent.ascii (ListChecked.lent lent c.within.ensures); known = λ _. admitted.known refl }
