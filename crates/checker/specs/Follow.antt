-- Lists that follow each other, as the pass of rule 6 has them.
use Rattle.std.specs.Prelude.{ℕ, zero, suc, ◌+◌, ◌≤◌, ◌<◌, Bool, true, cond, ◌&&◌, List, [], ◌∷◌, ◌++◌, ◌≡◌, eqb, Option, Some, None, Result, IfSome, MatchResult}
use Rattle.foreign.specs.Check.{Item, lists, counted}
use Rattle.checker.specs.Slots.{cut_of, held, held_in}
use Rattle.checker.specs.Test.{First}
use Rattle.checker.specs.declared.rule.Broken.{Broken}
use Rattle.checker.specs.declared.rule.Rule.{Rule}
use Rattle.checker.specs.declared.slots.Cut.{Cut}

-- whether lists follow each other from a link on
abbrev pub consecutive : (from : ℕ) → List (ℕ × ℕ) → Bool
consecutive m [] = true
consecutive m (l ∷ ls) = eqb l.0 m && consecutive (m + l.1) ls

-- where they end, if they do
abbrev pub followed : (from : ℕ) → List (ℕ × ℕ) → Option ℕ
followed m ls = cond (consecutive m ls) (Some (m + counted ls)) None

-- so of the lists of items, whatever their links hold
pub record GoesOn (from : ℕ) (items : (links : List ℕ) → List Item) (r : Option ℕ) : Type 0 where
  pub most : IfSome r (λ m. m ≤ 8589934590)
  pub says : (links : List ℕ) → r ≡ followed from (lists (items links))

abbrev pub in_slots : Cut → (links : List ℕ) → List Item
in_slots c ls = held ls c.first ++ (held ls c.second ++ held ls c.third)

-- how many links the lists of the first n rows have, and whether a row's lists follow
unfoldable pub covered_by : (table nodes links : List ℕ) (n : ℕ) → ℕ
covered_by t ns ls zero = 0
covered_by t ns ls (suc n) = covered_by t ns ls n + counted (lists (held_in ns ls n (cut_of t ns n)))

unfoldable pub row_follows : (table nodes links : List ℕ) (row : ℕ) → Bool
row_follows t ns ls i = consecutive (covered_by t ns ls i) (lists (held_in ns ls i (cut_of t ns i)))

-- how many links all rows have, whose lists follow each other, or the first row whose lists do not
pub record AllFollow (table nodes : List ℕ) (count links : ℕ) : Type 0 where
  pub first : (ls : List ℕ) → First (row_follows table nodes ls) count count
  pub covered : (ls : List ℕ) → links ≡ covered_by table nodes ls count

pub record OneStrays (table nodes : List ℕ) (count : ℕ) (b : Broken) : Type 0 where
  pub rule : b.rule ≡ Rule.Follows
  pub place : b.row < count
  pub first : (ls : List ℕ) → First (row_follows table nodes ls) count b.row

abbrev pub FollowsAll : (table nodes : List ℕ) (count : ℕ) → Result ℕ Broken → Type 0
FollowsAll t ns n r = MatchResult r (AllFollow t ns n) (OneStrays t ns n)
