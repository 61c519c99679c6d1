-- `scan::single` meets its contract: each arm is a spelling, and the last misses none.
use Prim.Native.Nat.{ℕ}
use mathlib.Core.List.{[], ◌∷◌}
use mathlib.Core.Path.{ap}
use borrow.Author.Rules.{rules}
use Rattle.grammar.specs.Symbol.{same}
use Rattle.grammar.specs.Lexeme.{spelling}
use Rattle.lexer.proofs.Signs.{arm, last_arm}
use Rattle.lexer.proofs.scan.single.Goals as goal

pub returns-in-35 : goal.returns-in-35
unfolding spelling same
returns-in-35 c = arm _ ([]) 19 tt (ap (λ (b : ℕ). b ∷ []) c.in-35.is)

pub returns-in-37 : goal.returns-in-37
unfolding spelling same
returns-in-37 c = arm _ ([]) 6 tt (ap (λ (b : ℕ). b ∷ []) c.in-37.is)

pub returns-in-40 : goal.returns-in-40
unfolding spelling same
returns-in-40 c = arm _ ([]) 17 tt (ap (λ (b : ℕ). b ∷ []) c.in-40.is)

pub returns-in-41 : goal.returns-in-41
unfolding spelling same
returns-in-41 c = arm _ ([]) 18 tt (ap (λ (b : ℕ). b ∷ []) c.in-41.is)

pub returns-in-42 : goal.returns-in-42
unfolding spelling same
returns-in-42 c = arm _ ([]) 3 tt (ap (λ (b : ℕ). b ∷ []) c.in-42.is)

pub returns-in-43 : goal.returns-in-43
unfolding spelling same
returns-in-43 c = arm _ ([]) 1 tt (ap (λ (b : ℕ). b ∷ []) c.in-43.is)

pub returns-in-44 : goal.returns-in-44
unfolding spelling same
returns-in-44 c = arm _ ([]) 13 tt (ap (λ (b : ℕ). b ∷ []) c.in-44.is)

pub returns-in-45 : goal.returns-in-45
unfolding spelling same
returns-in-45 c = arm _ ([]) 2 tt (ap (λ (b : ℕ). b ∷ []) c.in-45.is)

pub returns-in-46 : goal.returns-in-46
unfolding spelling same
returns-in-46 c = arm _ ([]) 15 tt (ap (λ (b : ℕ). b ∷ []) c.in-46.is)

pub returns-in-47 : goal.returns-in-47
unfolding spelling same
returns-in-47 c = arm _ ([]) 5 tt (ap (λ (b : ℕ). b ∷ []) c.in-47.is)

pub returns-in-58 : goal.returns-in-58
unfolding spelling same
returns-in-58 c = arm _ ([]) 14 tt (ap (λ (b : ℕ). b ∷ []) c.in-58.is)

pub returns-in-59 : goal.returns-in-59
unfolding spelling same
returns-in-59 c = arm _ ([]) 41 tt (ap (λ (b : ℕ). b ∷ []) c.in-59.is)

pub returns-in-60 : goal.returns-in-60
unfolding spelling same
returns-in-60 c = arm _ ([]) 12 tt (ap (λ (b : ℕ). b ∷ []) c.in-60.is)

pub returns-in-61 : goal.returns-in-61
unfolding spelling same
returns-in-61 c = arm _ ([]) 0 tt (ap (λ (b : ℕ). b ∷ []) c.in-61.is)

pub returns-in-62 : goal.returns-in-62
unfolding spelling same
returns-in-62 c = arm _ ([]) 11 tt (ap (λ (b : ℕ). b ∷ []) c.in-62.is)

pub returns-in-94 : goal.returns-in-94
unfolding spelling same
returns-in-94 c = arm _ ([]) 4 tt (ap (λ (b : ℕ). b ∷ []) c.in-94.is)

pub returns-in-123 : goal.returns-in-123
unfolding spelling same
returns-in-123 c = arm _ ([]) 20 tt (ap (λ (b : ℕ). b ∷ []) c.in-123.is)

pub returns-in-124 : goal.returns-in-124
unfolding spelling same
returns-in-124 c = arm _ ([]) 16 tt (ap (λ (b : ℕ). b ∷ []) c.in-124.is)

pub returns-in-125 : goal.returns-in-125
unfolding spelling same
returns-in-125 c = arm _ ([]) 21 tt (ap (λ (b : ℕ). b ∷ []) c.in-125.is)

pub returns-in_default : goal.returns-in_default
unfolding spelling same
returns-in_default c = last_arm _ ([]) (125 ∷ 124 ∷ 123 ∷ 94 ∷ 62 ∷ 61 ∷ 60 ∷ 59 ∷ 58 ∷ 47 ∷ 46 ∷ 45 ∷ 44 ∷ 43 ∷ 42 ∷ 41 ∷ 40 ∷ 37 ∷ 35 ∷ []) tt (search rules)
