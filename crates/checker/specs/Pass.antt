-- The rules by their numbers in Check.antt, and what a pass of one over the rows answers.
use Rattle.std.specs.Prelude.{ℕ, ◌<◌, Bool, Result, ◌≡◌, MatchResult}
use Rattle.checker.specs.Test.{First}
use Rattle.checker.specs.declared.rule.Broken.{Broken}
use Rattle.checker.specs.declared.rule.Rule.{Rule}
use Rattle.checker.specs.declared.rule.Rule.TheVariants.{Kinds, Ranges, Earlier, Once, Rooted, Follows, Present, Clean, Parents}

abbrev pub number : Rule → ℕ
number Kinds = 1
number Ranges = 2
number Earlier = 3
number Once = 4
number Rooted = 5
number Follows = 6
number Present = 7
number Clean = 8
number Parents = 9

-- all of n rows pass the test of a rule, or the first row that fails it is told of
abbrev pub Passes : Rule → (test : ℕ → Bool) (n : ℕ) → Result (Unit {0}) Broken → Type 0
Passes rule test n r = MatchResult r (λ u. First test n n) (λ b. (b.rule ≡ rule) × (b.row < n) × First test n b.row)
