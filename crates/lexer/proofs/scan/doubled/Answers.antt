-- `scan::doubled` meets its contract: each arm is a spelling, and the last misses none.
use Prim.Native.Nat.{ℕ}
use mathlib.Core.List.{[], ◌∷◌}
use mathlib.Core.Path.{ap}
use borrow.Author.Rules.{rules}
use Rattle.grammar.specs.Symbol.{same}
use Rattle.grammar.specs.Lexeme.{spelling}
use Rattle.lexer.proofs.Signs.{arm, last_arm}
use Rattle.lexer.proofs.scan.doubled.Goals as goal

pub returns-in-33 : goal.returns-in-33
unfolding spelling same
returns-in-33 c = arm _ (61 ∷ []) 7 tt (ap (λ (b : ℕ). b ∷ 61 ∷ []) c.in-33.is)

pub returns-in-60 : goal.returns-in-60
unfolding spelling same
returns-in-60 c = arm _ (61 ∷ []) 10 tt (ap (λ (b : ℕ). b ∷ 61 ∷ []) c.in-60.is)

pub returns-in-61 : goal.returns-in-61
unfolding spelling same
returns-in-61 c = arm _ (61 ∷ []) 8 tt (ap (λ (b : ℕ). b ∷ 61 ∷ []) c.in-61.is)

pub returns-in-62 : goal.returns-in-62
unfolding spelling same
returns-in-62 c = arm _ (61 ∷ []) 9 tt (ap (λ (b : ℕ). b ∷ 61 ∷ []) c.in-62.is)

pub returns-in_default : goal.returns-in_default
unfolding spelling same
returns-in_default c = last_arm _ (61 ∷ []) (62 ∷ 61 ∷ 60 ∷ 33 ∷ []) tt (search rules)
