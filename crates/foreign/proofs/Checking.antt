-- The check has one answer at most: the first failed rule is one, it is broken first at one row, and rows that pass break none.
use Prim.Native.Nat.{ℕ}
use native.Mathlib.Omega.{arith}
use mathlib.Core.Path.{◌≡◌, refl}
use Rattle.grammar.specs.Edition.{Edition}
use Rattle.grammar.specs.Room.{Rooms}
use Rattle.grammar.specs.Rows.{Rows}
use Rattle.grammar.proofs.Answers.{one_first}
use Rattle.foreign.specs.Check.{Checked, Breaks, Fails, Given, Checks}

module _ {e : Edition} {s : ℕ} {w : Rows} where
  -- a rule is broken first at one row
  one_row : {r i j : ℕ} → Breaks e s w r i → Breaks e s w r j → i ≡ j
  one_row (Breaks.kinds x) (Breaks.kinds y) = one_first _ _ x y
  one_row (Breaks.ranges x) (Breaks.ranges y) = one_first _ _ x y
  one_row (Breaks.earlier x) (Breaks.earlier y) = one_first _ _ x y
  one_row (Breaks.once x) (Breaks.once y) = one_first _ _ x y
  one_row (Breaks.rooted x) (Breaks.rooted y) = refl
  one_row (Breaks.follows x) (Breaks.follows y) = one_first _ _ x y
  one_row (Breaks.follows {i = i} x) (Breaks.left_over f n) = absurd (x.lacks (f i x.place))
  one_row (Breaks.left_over f n) (Breaks.follows {i = i} x) = absurd (x.lacks (f i x.place))
  one_row (Breaks.left_over f n) (Breaks.left_over g m) = refl
  one_row (Breaks.present x) (Breaks.present y) = one_first _ _ x y
  one_row (Breaks.clean x) (Breaks.clean y) = one_first _ _ x y
  one_row (Breaks.parents x) (Breaks.parents y) = one_first _ _ x y

  pub checked_unbroken : Checked e s w → {r i : ℕ} → Breaks e s w r i → ⊥
  checked_unbroken c (Breaks.kinds {i = i} x) = x.lacks (c.kinds i x.place)
  checked_unbroken c (Breaks.ranges {i = i} x) = x.lacks (c.ranges i x.place)
  checked_unbroken c (Breaks.earlier {i = i} x) = x.lacks (c.earlier i x.place)
  checked_unbroken c (Breaks.once {i = i} x) = x.lacks (c.once i x.place)
  checked_unbroken c (Breaks.rooted x) = x c.rooted
  checked_unbroken c (Breaks.follows {i = i} x) = x.lacks (c.follows i x.place)
  checked_unbroken c (Breaks.left_over f n) = n c.covering
  checked_unbroken c (Breaks.present {i = i} x) = x.lacks (c.present i x.place)
  checked_unbroken c (Breaks.clean {i = i} x) = x.lacks (c.clean i x.place)
  checked_unbroken c (Breaks.parents {i = i} x) = x.lacks (c.parents i x.place)

  pub one_failure : {r q i j : ℕ} → Fails e s w r i → Fails e s w q j → (r ≡ q) × (i ≡ j)
  one_failure {r} {q} x y =
      let a = x.first y.breaks in
      let b = y.first x.breaks in
      let z : r ≡ q = omega arith in
      (z, one_row (rw z at x.breaks) y.breaks)

-- two answers are equal, rooms included
pub one_check : {g : Given} {c d r s i j : ℕ} {x y : Rooms} → Checks g c r i x → Checks g d s j y → (c ≡ d) × (r ≡ s) × (i ≡ j) × (x ≡ y)
one_check (Checks.past n) (Checks.past m) = (refl, refl, refl, refl)
one_check (Checks.past n) (Checks.no_edition l f) = absurd (n l)
one_check (Checks.past n) (Checks.failed l f x) = absurd (n l)
one_check (Checks.past n) (Checks.passed l f x) = absurd (n l)
one_check (Checks.no_edition l e) (Checks.past n) = absurd (n l)
one_check (Checks.no_edition l e) (Checks.no_edition m f) = (refl, refl, refl, refl)
one_check (Checks.no_edition l e) (Checks.failed m f x) = absurd (e f)
one_check (Checks.no_edition l e) (Checks.passed m f x) = absurd (e f)
one_check (Checks.failed l e x) (Checks.past n) = absurd (n l)
one_check (Checks.failed l e x) (Checks.no_edition m f) = absurd (f e)
one_check (Checks.failed l e x) (Checks.failed m f y) = let (a, b) = one_failure x y in (refl, a, b, refl)
one_check (Checks.failed l e x) (Checks.passed m f y) = absurd (checked_unbroken y x.breaks)
one_check (Checks.passed l e x) (Checks.past n) = absurd (n l)
one_check (Checks.passed l e x) (Checks.no_edition m f) = absurd (f e)
one_check (Checks.passed l e x) (Checks.failed m f y) = absurd (checked_unbroken x y.breaks)
one_check (Checks.passed l e x) (Checks.passed m f y) = (refl, refl, refl, refl)
