-- `wire::input::is_marked` meets its contract: the first byte is asked first, then the second.
use Rattle.wire.proofs.Scanning.{second_decides, other_first}
use borrow.Author.Tests.{ne_eqb}
use Rattle.wire.proofs.input.is_marked.Goals as goal

pub returns-then-input-at-eq75 : goal.returns-then-input-at-eq75
returns-then-input-at-eq75 c = second_decides c.if-input-at-eq75.true

pub returns-else-input-at-eq75 : goal.returns-else-input-at-eq75
returns-else-input-at-eq75 c = rw (ne_eqb _ _ c.if-input-at-eq75.false) (other_first c.if-input-at-eq75.false)
