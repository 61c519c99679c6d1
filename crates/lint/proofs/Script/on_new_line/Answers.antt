-- `Script::on_new_line` meets its contract: the first token and those past the list have no line before them, and in parentheses a line that ends is none.
use native.Mathlib.Omega.{arith}
use mathlib.Core.Path.{sym, ◌∙◌}
use Rattle.lint.proofs.Laws.{first_token, no_token, in_brackets, between}
use Rattle.lint.proofs.Script.on_new_line.Goals as goal
use Rattle.lint.proofs.Script.on_new_line.Goals.{then-k-eq0-via-then-k-eq0, then-k-eq0-via-else-k-eq0+then-k-self}

pub returns-then-k-eq0 : goal.returns-then-k-eq0
returns-then-k-eq0 c = elim c.then-k-eq0.branch [
  | then-k-eq0-via-then-k-eq0 w ↦ first_token w.if-k-eq0.true
  | then-k-eq0-via-else-k-eq0+then-k-self w ↦ no_token w.if-k-self.true
]

pub returns-then-in_block : goal.returns-then-in_block
returns-then-in_block c = between (omega arith) (omega arith) (sym c.in_block.ensures ∙ c.if-in_block.true) c.end_at.ensures c.start_at.ensures c.breaks.ensures

pub returns-else-in_block : goal.returns-else-in_block
returns-else-in_block c = rw c.if-in_block.false (in_brackets (sym c.in_block.ensures ∙ c.if-in_block.false))
