-- `reach::is_past` meets its contract: the offset is tested first, then the kind.
use Rattle.std.proofs.lemmas.Bool.{lt-leb}
use Rattle.lint.proofs.Laws.{not_past, past_at, other_kind}
use Rattle.lint.proofs.reach.is_past.Goals as goal

pub returns-then-start_at-offset : goal.returns-then-start_at-offset
returns-then-start_at-offset c = let a = c.args in past_at c.start_at.ensures c.if-start_at-offset.true (other_kind a.tokens.now a.k c.kind_at.ensures)

pub returns-else-start_at-offset : goal.returns-else-start_at-offset
returns-else-start_at-offset c = rw (lt-leb _ _ c.if-start_at-offset.false) (not_past c.start_at.ensures c.if-start_at-offset.false)
