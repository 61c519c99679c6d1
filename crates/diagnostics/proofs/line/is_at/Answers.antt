-- `diagnostics::line::is_at` meets its contract: the line is asked first, then the column.
use borrow.Author.Tests.{ne_eqb}
use Rattle.diagnostics.proofs.Offsets.{another_line, same_line}
use Rattle.diagnostics.proofs.line.is_at.Goals as goal

pub returns-then-here-line : goal.returns-then-here-line
returns-then-here-line c = same_line c.if-here-line.true

pub returns-else-here-line : goal.returns-else-here-line
returns-else-here-line c = simp (ne_eqb _ _ c.if-here-line.false) (another_line c.if-here-line.false)
