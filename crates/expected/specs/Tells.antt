-- What is told: a set of kinds as one number, how many they are and the lowest, and a chain. Document 02, L2.
use Rattle.std.specs.Prelude.{ℕ, Bool, List, ◌≡◌}
use Rattle.grammar.specs.Expected.{Opening, Expects, gathered, how_many, lowest_from}
use Rattle.expected.specs.Chains.{Chained}
use Rattle.expected.specs.declared.Told.{Told}

-- the promise of `expected`
pub record Tells (ts : List ℕ) (number limit code place : ℕ) (r : Told) : Type 0 where
  pub could : ℕ → Bool
  pub chain : List Opening
  pub expects : Expects number ts limit code place could chain
  pub kinds_are : r.kinds ≡ gathered could 45
  pub how_many_are : r.count ≡ how_many could 45
  pub lowest_is : r.lowest ≡ lowest_from could 0 45
  pub chained : Chained chain r.chain
