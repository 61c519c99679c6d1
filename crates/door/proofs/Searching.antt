-- Checks that are passed in order; a search for the first place without what is asked, of which two outcomes are equal; and the highest of a list.
use Prim.Native.Nat.{ℕ, ◌+◌, ◌≤◌, ◌<◌}
use mathlib.Core.Path.{◌≡◌, refl, ap}
use Rattle.std.specs.Prelude.{zero, suc, max, List, [], ◌∷◌, length, get_or, Option, Some, None, MatchOption}
use Rattle.std.specs.List.{fold}
use Rattle.std.proofs.Math.Nat.{le-max_left, le-max_right, max-eq_left, max-eq_right}
use Rattle.grammar.proofs.Answers.{one_first as one_place}
use native.Mathlib.Decide.{dec_lt}
use native.Mathlib.Omega.{arith}
use borrow.Author.Count.{below_more}
use Rattle.grammar.specs.Door.{FirstWithout}
use Rattle.door.specs.Entry.{Searched, Highest}

-- every place below i has it
pub record Passed (asked : ℕ → Type 0) (n i : ℕ) : Type 0 where
  pub most : i ≤ n
  pub before : (j : ℕ) → j < i → asked j

module _ {asked : ℕ → Type 0} {n : ℕ} where
  pub passed_none : Passed asked n 0
  passed_none = record { most = omega arith; before = λ j h. absurd (omega arith) }

  pub passed_more : {i : ℕ} → Passed asked n i → i < n → asked i → Passed asked n (i + 1)
  passed_more {i} p h a = record { most = omega arith; before = below_more asked i p.before a }

  pub first_here : {i : ℕ} → Passed asked n i → i < n → (asked i → ⊥) → FirstWithout asked n i
  first_here p h a = record { place = h; lacks = a; before = p.before }

-- two outcomes of a search are equal
pub one_first : (asked : ℕ → Type 0) (n : ℕ) (r s : Option ℕ) → Searched asked n r → Searched asked n s → r ≡ s
one_first asked n None None x y = refl
one_first asked n None (Some i) x y = absurd (y.lacks (x i y.place))
one_first asked n (Some i) None x y = absurd (x.lacks (y i x.place))
one_first asked n (Some i) (Some j) x y = ap Some (one_place asked n x y)

-- what `find` over the places below n tells, of a test that fails where a place has not what is asked
pub searched : (asked : ℕ → Type 0) (n : ℕ) (r : Option ℕ) → MatchOption r ((k : ℕ) → 0 ≤ k → k < n → asked k) (λ i. (0 ≤ i) × (i < n) × (asked i → ⊥) × ((k : ℕ) → 0 ≤ k → k < i → asked k)) → Searched asked n r
searched asked n None h = λ k l. h k (omega arith) l
searched asked n (Some i) h = record { place = h.1; lacks = h.2; before = λ k l. h.3 k (omega arith) l }

-- r is a or over, as high as each number of the list, and where it is over a it is one of them
record Highest_from (a : ℕ) (xs : List ℕ) (r : ℕ) : Type 0 where
  least : a ≤ r
  most : (i : ℕ) → i < length xs → get_or xs i 0 ≤ r
  there : a < r → (i : ℕ) × (i < length xs) × (get_or xs i 0 ≡ r)

-- so is a fold of the higher of two
module _ (a x : ℕ) (xs : List ℕ) {r : ℕ} (h : Highest_from (max a x) xs r) where
  below : (i : ℕ) → i < length (x ∷ xs) → get_or (x ∷ xs) i 0 ≤ r
  below zero l = omega (arith, h.least, le-max_right a x)
  below (suc i) l = h.most i (omega arith)

  same : a < max a x → max a x ≡ x
  same l = elim (dec_lt a x) [ yes z ↦ max-eq_right (omega arith) | no z ↦ absurd (omega (arith, max-eq_left {n = a} {m = x} (omega arith))) ]

  first_or : a < r → (i : ℕ) × (i < length (x ∷ xs)) × (get_or (x ∷ xs) i 0 ≡ r)
  first_or l = elim (dec_lt (max a x) r) [ yes z ↦ let (i, p, e) = h.there z in (suc i, omega arith, e) | no z ↦ let e : max a x ≡ r = omega (arith, h.least) in (0, omega arith, omega (arith, e, same (omega (arith, e)))) ]

  more : Highest_from a (x ∷ xs) r
  more = record { least = omega (arith, h.least, le-max_left a x); most = below; there = first_or }

higher : (xs : List ℕ) (a : ℕ) → Highest_from a xs (fold max a xs)
higher [] a = record { least = omega arith; most = λ i h. absurd (omega arith); there = λ h. absurd (omega arith) }
higher (x ∷ xs) a = more a x xs (higher xs (max a x))

pub highest_of : (text : List ℕ) (r : ℕ) → r ≡ fold max 0 text → Highest text (length text) r
highest_of text r e = let h = higher text 0 in rw e (record { most = h.most; there = h.there })
