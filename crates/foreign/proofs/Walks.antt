-- A walk from the root of rows whose children are earlier, and of which each but the last is named once, meets each row once. How often a row is met is how
-- often those that are met name it, and the root once more; a row has one parent, so it is met as often as that is.
use Prim.Native.Nat.{ℕ, zero, suc, ◌+◌, ◌-◌, ◌≤◌, ◌<◌}
use native.Mathlib.Decide.{dec_lt}
use native.Mathlib.Omega.{arith}
use mathlib.Core.Bool.{Bool, true, false, cond}
use mathlib.Core.List.{List, [], ◌∷◌, ◌++◌}
use mathlib.Core.Logic.{inl, inr}
use mathlib.Core.Path.{◌≡◌, refl, sym, ◌∙◌}
use lib.Dec.{eqb}
use borrow.Author.Tests.{eqb-true, eqb-false, eq-eqb, ne_eqb}
use Rattle.grammar.specs.Edition.{Edition}
use Rattle.grammar.specs.Handle.{absent}
use Rattle.grammar.specs.Naming.{height, named_by, times}
use Rattle.grammar.specs.Parent.{parent}
use Rattle.grammar.specs.Rows.{Rows}
use Rattle.grammar.proofs.Forest.{times_append}
use Rattle.grammar.proofs.Parents.{Found, found}
use Rattle.foreign.specs.Check.{Each, nil, cons, Before, Earlier, Once, Checked}
use Rattle.foreign.specs.Walk.{joined, met}
use Rattle.foreign.proofs.Each.{each_both}

-- a sum over a list
total : (ℕ → ℕ) → List ℕ → ℕ
total f [] = 0
total f (x ∷ xs) = f x + total f xs

total_append : (f : ℕ → ℕ) (xs ys : List ℕ) → total f (xs ++ ys) ≡ total f xs + total f ys
unfolding total
total_append f [] ys = omega arith
total_append f (x ∷ xs) ys = omega (arith, total_append f xs ys)

-- 1 where two are equal
abbrev tick : ℕ → ℕ → ℕ
tick j i = cond (eqb j i) 1 0

total_zero : {f : ℕ → ℕ} {n : ℕ} {xs : List ℕ} → ((i : ℕ) → i < n → f i ≡ 0) → Each (λ i. i < n) xs → total f xs ≡ 0
unfolding total
total_zero h nil = refl
total_zero h (cons {x = x} l e) = omega (arith, h x l, total_zero h e)

total_tick : {f : ℕ → ℕ} {n : ℕ} {xs : List ℕ} (p : ℕ) → ((i : ℕ) → i < n → f i ≡ tick p i) → Each (λ i. i < n) xs → total f xs ≡ times p xs
unfolding total
total_tick p h nil = refl
total_tick p h (cons {x = x} l e) = rw (h x l, total_tick p h e)

-- a name that stands in a list is one of those that are earlier
pub named_earlier : {i j : ℕ} {xs : List ℕ} → Each (Before i) xs → j < absent → 0 < times j xs → j < i
named_earlier nil h t = absurd (omega arith)
named_earlier {i} {j} (cons {x = x} {xs = xs} b e) h t = pick (eqb j x) refl b t (named_earlier e h)
  where
    pick : (c : Bool) → eqb j x ≡ c → Before i x → 0 < cond c 1 0 + times j xs → (0 < times j xs → j < i) → j < i
    pick true q (inl l) k f = omega (arith, eqb-true j x q)
    pick true q (inr l) k f = absurd (omega (arith, eqb-true j x q))
    pick false q b k f = f (omega arith)

-- what holds of the walk from each earlier row holds of the walks from those that a row names
gathered : (P : ℕ → Type 0) (f : ℕ → List ℕ) {i : ℕ} {xs : List ℕ} → ((x : ℕ) → x < i → Each P (f x)) → Each (Before i) xs → Each P (joined f xs)
unfolding joined
gathered P f k nil = nil
gathered P f {i} k (cons {x = x} b e) = each_both (one (eqb x absent) refl b) (gathered P f k e)
  where
    one : (c : Bool) → eqb x absent ≡ c → Before i x → Each P (cond c [] (f x))
    one true q b = nil
    one false q (inl l) = k x l
    one false q (inr l) = absurd (eqb-false x absent q l)

-- how often j is met: once where the walk starts at it, and as often as those that are met name it
module _ (j : ℕ) (small : j < absent) where
  counts : (g : ℕ → ℕ) (f : ℕ → List ℕ) {i : ℕ} {xs : List ℕ} → ((x : ℕ) → x < i → times j (f x) ≡ tick j x + total g (f x)) → Each (Before i) xs → times j (joined f xs) ≡ times j xs + total g (joined f xs)
  unfolding joined total
  counts g f k nil = refl
  counts g f {i} k (cons {x = x} {xs = xs} b e) = one (eqb x absent) refl b (counts g f k e)
    where
      one : (c : Bool) → eqb x absent ≡ c → Before i x → times j (joined f xs) ≡ times j xs + total g (joined f xs) →
          times j (cond c [] (f x) ++ joined f xs) ≡ tick j x + times j xs + total g (cond c [] (f x) ++ joined f xs)
      one true q b r = let z = eqb-true x absent q in rw (ne_eqb j x (λ o. omega arith)) (omega arith)
      one false q (inl l) r = omega (arith, k x l, times_append j (f x) (joined f xs), total_append g (f x) (joined f xs))
      one false q (inr l) r = absurd (eqb-false x absent q l)

  met_counts : (w : Rows) → ((i : ℕ) → i < height w → Earlier w i) → (d i : ℕ) → i < height w → i < d → times j (met w d i) ≡ tick j i + total (λ p. times j (named_by w p)) (met w d i)
  unfolding met total
  met_counts w earlier zero i l m = absurd (omega arith)
  met_counts w earlier (suc d) i l m = omega (arith, counts (λ p. times j (named_by w p)) (met w d) (λ x k. met_counts w earlier d x (omega arith) (omega arith)) (earlier i l))

module _ (w : Rows) (earlier : (i : ℕ) → i < height w → Earlier w i) where
  met_below : (d i : ℕ) → i < height w → Each (λ x. x < height w) (met w d i)
  unfolding met
  met_below zero i l = nil
  met_below (suc d) i l = cons l (gathered (λ x. x < height w) (met w d) (λ x k. met_below d x (omega arith)) (earlier i l))

  module _ (few : height w ≤ absent) (once : (i : ℕ) → i < height w - 1 → Once w i) (d : ℕ) (deep : height w ≤ d) where
    -- the root is named by none, and every other row by its parent alone
    root_once : 0 < height w → times (height w - 1) (met w d (height w - 1)) ≡ 1
    root_once some =
        let r = height w - 1 in
        let e : tick r r ≡ 1 = rw (eq-eqb r r refl) in
        omega (arith, met_counts r (omega arith) w earlier d r (omega arith) (omega arith), total_zero none (met_below d r (omega arith)))
      where
        none : (i : ℕ) → i < height w → times (height w - 1) (named_by w i) ≡ 0
        none i l = elim (dec_lt 0 (times (height w - 1) (named_by w i))) [ yes t ↦ absurd (omega (arith, named_earlier (earlier i l) (omega arith) t)) | no t ↦ omega arith ]

    by_parent : (j : ℕ) → j < height w - 1 → (p : ℕ) × (j < p) × (p < height w) × (times j (met w d (height w - 1)) ≡ times p (met w d (height w - 1)))
    by_parent j l =
        let p = parent w (height w) j in
        let f = found w j (height w) (once j l) in
        let e : tick j (height w - 1) ≡ 0 = rw (ne_eqb j (height w - 1) (λ e. omega arith)) in
        (p, named_earlier (earlier p f.row) (omega arith) (omega (arith, f.names)), f.row, omega (arith, met_counts j (omega arith) w earlier d (height w - 1) (omega arith) (omega arith), total_tick p (λ i k. one i k f (eqb p i) refl) (met_below d (height w - 1) (omega arith))))
      where
        one : (i : ℕ) → i < height w → Found w j (height w) (parent w (height w) j) → (c : Bool) → eqb (parent w (height w) j) i ≡ c → times j (named_by w i) ≡ cond c 1 0
        one i k f true q = rw (← eqb-true (parent w (height w) j) i q) f.names
        one i k f false q = elim (dec_lt 0 (times j (named_by w i))) [ yes t ↦ absurd (eqb-false (parent w (height w) j) i q (sym (f.only i k t))) | no t ↦ omega arith ]

    upward : (k j : ℕ) → j < height w → height w - 1 - j ≤ k → times j (met w d (height w - 1)) ≡ 1
    upward zero j l m = let e : j ≡ height w - 1 = omega arith in rw e (root_once (omega arith))
    upward (suc k) j l m = place (dec_lt j (height w - 1)) (upward k)
      where
        place : Dec (j < height w - 1) → ((i : ℕ) → i < height w → height w - 1 - i ≤ k → times i (met w d (height w - 1)) ≡ 1) → times j (met w d (height w - 1)) ≡ 1
        place (yes i) f = let (p, a, b, e) = by_parent j i in e ∙ f p b (omega arith)
        place (no i) f = let e : j ≡ height w - 1 = omega arith in rw e (root_once (omega arith))

    each_once : (j : ℕ) → j < height w → times j (met w d (height w - 1)) ≡ 1
    each_once j l = upward (height w - 1 - j) j l (omega arith)

-- a walk from the root of rows that pass, however deep it may go, meets each row once, and nothing else
pub record Walked (w : Rows) (deep : ℕ) : Type 0 where
  pub once : (j : ℕ) → j < height w → times j (met w deep (height w - 1)) ≡ 1
  pub only : Each (λ i. i < height w) (met w deep (height w - 1))

pub walk_once : {e : Edition} {s : ℕ} {w : Rows} → Checked e s w → height w ≤ absent → (deep : ℕ) → height w ≤ deep → Walked w deep
walk_once {w = w} c few d deep = record { once = each_once w c.earlier few c.once d deep; only = met_below w c.earlier d (height w - 1) (omega (arith, c.rooted.some)) }
