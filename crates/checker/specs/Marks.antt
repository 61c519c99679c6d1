-- Marks on links, so that no link is looked at again once nothing more can be learnt of it: the mark of link k is how far on from it all links are settled, or at most k where
-- it is not settled itself. Lists that overlap then cost no more than those that do not.
use Rattle.std.specs.Prelude.{ℕ, ◌+◌, ◌≤◌, ◌<◌, Bool, true, List, ◌≡◌, get_or}

-- the marks of so many links, which stand from `base` on, are right of a test that settled links pass
pub record Settled (test : ℕ → Bool) (base size : ℕ) (marks : List ℕ) : Type 0 where
  pub right : (k j : ℕ) → k < size → k ≤ j → j < get_or marks (base + k) 0 → test j ≡ true

-- nothing changed but the marks of the links below `end`
pub record Within (base end : ℕ) (before after : List ℕ) : Type 0 where
  pub low : (i : ℕ) → i < base → get_or after i 0 ≡ get_or before i 0
  pub high : (i : ℕ) → base + end ≤ i → get_or after i 0 ≡ get_or before i 0

-- from link `at` on, r is the next to be looked at, or past `end`: all between them are settled, and marks that were right are right, whatever the test
pub record Skips (base at end : ℕ) (before after : List ℕ) (r : ℕ) : Type 0 where
  pub onward : at ≤ r
  pub within : Within base end before after
  pub settled : (test : ℕ → Bool) (size : ℕ) → end ≤ size → Settled test base size before → Settled test base size after
  pub between : (test : ℕ → Bool) (size : ℕ) → end ≤ size → Settled test base size before → (j : ℕ) → at ≤ j → j < r → test j ≡ true
