-- `diagnostics::reason::reason` meets its contract: it answers as `message`, or with the text at the place that `which` answers.
use native.Mathlib.Omega.{arith}
use mathlib.Core.Path.{sym, ◌∙◌}
use Rattle.diagnostics.proofs.Reasons.{passed, written}
use Rattle.diagnostics.proofs.reason.reason.Goals as goal

pub returns-then-has_message : goal.returns-then-has_message
returns-then-has_message c =
    let asked = c in
    passed (sym asked.has_message.ensures ∙ asked.if-has_message.true) c.message.ensures

pub returns : goal.returns
returns c =
    let found = c.before.before.before.before.before in
    let other = found in
    written (sym other.has_message.ensures ∙ other.if-has_message.false) (omega arith) found.which.ensures c.put_tabled-length.ensures
