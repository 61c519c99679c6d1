-- `Script::is_cut_off` meets its contract: a statement that ends at its own `}`, and one token after another.
use Rattle.lint.specs.Rules.{CutAt}
use Rattle.lint.proofs.Laws.{Passed}
use Rattle.lint.proofs.Script.is_cut_off.Given as goal

abbrev pub invariant-loop-k : goal.invariant-loop-k
invariant-loop-k l = Passed (CutAt l.self.tokens.now l.end) 0 l.k
