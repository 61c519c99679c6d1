-- `diagnostics::line::is_inner` meets its contract: no return, and no newline.
use mathlib.Core.Path.{refl}
use borrow.Author.Tests.{ne_eqb}
use Rattle.diagnostics.specs.Line.{Return, inner}
use Rattle.diagnostics.proofs.line.is_inner.Goals as goal

pub returns-then-byte-ne-RETURN : goal.returns-then-byte-ne-RETURN
unfolding inner
returns-then-byte-ne-RETURN c = rw (ne_eqb _ Return c.if-byte-ne-RETURN.true) refl

pub returns-else-byte-ne-RETURN : goal.returns-else-byte-ne-RETURN
unfolding inner
returns-else-byte-ne-RETURN c = rw c.if-byte-ne-RETURN.false refl
