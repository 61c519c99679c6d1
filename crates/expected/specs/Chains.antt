-- What a chain says.
use Rattle.std.specs.Prelude.{ℕ, ◌≤◌, List, map, ◌≡◌, length, get_or, take}
use Rattle.grammar.specs.Expected.{Opening as Open, opening}
use Rattle.expected.specs.declared.Chain.{Chain}
use Rattle.expected.specs.declared.Opening.{Opening}

abbrev pub nothing : Opening
nothing = record { sort = 0; at = 0 }

abbrev pub told : Opening → Open
told e = opening e.sort e.at

-- these constructs are open: 'Unused chain entries are 0'
pub record Chained (os : List Open) (r : Chain) : Type 0 where
  pub says : map told (take r.count r.entries) ≡ os
  pub unused : (i : ℕ) → r.count ≤ i → get_or r.entries i nothing ≡ nothing
  pub size : length r.entries ≡ 64
  pub fits : r.count ≤ 64
