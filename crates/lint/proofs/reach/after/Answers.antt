-- `reach::after` meets its contract: a bracket past the offset counts, by its kind.
use Rattle.lint.proofs.Laws.{after_opening, after_closing, after_other}
use Rattle.lint.proofs.reach.after.Goals as goal

pub returns-in-Some-Opens : goal.returns-in-Some-Opens
returns-in-Some-Opens c = let a = c.args in after_opening a.tokens.now a.offset a.i a.before c.start_at.ensures c.if-start_at-offset.false c.kind_at.ensures (rw c.in-Some-Opens.field-0-is at c.in-Some-Opens.ensures)

pub returns-in-Some-Closes : goal.returns-in-Some-Closes
returns-in-Some-Closes c = let a = c.args in after_closing a.tokens.now a.offset a.i a.before c.start_at.ensures c.if-start_at-offset.false c.kind_at.ensures (rw c.in-Some-Closes.field-0-is at c.in-Some-Closes.ensures) c.saturating_sub.ensures

pub returns-in-None : goal.returns-in-None
returns-in-None c = let a = c.args in after_other a.tokens.now a.offset a.i a.before c.start_at.ensures c.if-start_at-offset.false c.kind_at.ensures c.in-None.ensures
