-- `cut_start` meets its contract: the first script starts at 0, and every other one where the one before it ends.
use native.Mathlib.Omega.{arith}
use mathlib.Core.Path.{sym, ◌∙◌}
use Rattle.scripts.proofs.Cuts.{first_start, later_start}
use Rattle.scripts.proofs.cut_start.Goals as goal

pub returns-then-i-eq0 : goal.returns-then-i-eq0
returns-then-i-eq0 c = sym (first_start c.args.cuts.now c.args.side c.if-i-eq0.true)

pub returns : goal.returns
returns c = let a = c.args in c.cut_end.ensures ∙ sym (later_start a.cuts.now a.side a.i (omega (arith, c.if-i-eq0.false)))
