-- What it means that all items of a row keep a rule: the tests decide rules 2, 3, 7 and 8 of Check.antt. Rule 2 speaks of every list, and the others leave out what is in range.
use Prim.Native.Nat.{ℕ, ◌+◌}
use mathlib.Core.Bool.{Bool, true, false, ◌||◌}
use mathlib.Core.List.{List, [], ◌∷◌, ◌++◌}
use mathlib.Core.Logic.{inl, inr}
use mathlib.Core.Path.{◌≡◌, refl, ◌∙◌, sym}
use lib.Dec.{eqb, ltb, leb}
use borrow.Author.Tests.{eqb-true, eqb-false, eq-eqb, ne_eqb, ltb-true, lt-ltb, leb-true, le-leb, not-true}
use Rattle.grammar.specs.Handle.{absent}
use Rattle.foreign.specs.Check.{Item, Each, nil, cons, InRange, Before, Allowed, Zero}
use Rattle.checker.specs.Named.{names_in, InRange as InLinks, InLists}
use Rattle.checker.specs.Slots.{cut_of, content_of, contents, held, held_in}
use Rattle.checker.specs.Test.{keep, keep_all, row_keeps}
use Rattle.checker.specs.declared.slots.Content.{Content}
use Rattle.checker.specs.declared.slots.Slot.{Slot}
use Rattle.checker.proofs.Laws.{both_true, true_both, or_true, never}
use Rattle.checker.proofs.Keeping.{many, keep_append}

-- a test of each item that means P, where the items are in range already
module _ (rule i s m : ℕ) (P : Item → Type 0) where
  all_mean : ((x : Item) → keep rule i s m x ≡ true → P x) → (is : List Item) → keep_all rule i s m is ≡ true → Each P is
  all_mean f [] e = nil
  all_mean f (x ∷ is) e = let (a, b) = both_true (keep rule i s m x) (keep_all rule i s m is) e in cons (f x a) (all_mean f is b)

  mean_all : ((x : Item) → P x → InRange s m x → keep rule i s m x ≡ true) → {is : List Item} → Each P is → Each (InRange s m) is → keep_all rule i s m is ≡ true
  mean_all f nil nil = refl
  mean_all f (cons {x = x} p e) (cons q d) = true_both (f x p q) (mean_all f e d)

before_means : (i x : ℕ) → (ltb x i || eqb x absent) ≡ true → Before i x
before_means i x e = pick (ltb x i) refl (eqb x absent) refl e
  where
    pick : (a : Bool) → ltb x i ≡ a → (b : Bool) → eqb x absent ≡ b → (a || b) ≡ true → Before i x
    pick true p b q e = inl (ltb-true x i p)
    pick false p true q e = inr (eqb-true x absent q)
    pick false p false q e = absurd (never e refl)

means_before : (i x : ℕ) → Before i x → (ltb x i || eqb x absent) ≡ true
means_before i x (inl l) = rw (lt-ltb x i l) refl
means_before i x (inr e) = rw (eq-eqb x absent e) (or_true (ltb x i))

module _ (i s m : ℕ) where
  -- rule 2
  range_means : (x : Item) → keep 2 i s m x ≡ true → InRange s m x
  range_means (Item.number l n) e = ltb-true n l e
  range_means (Item.child x) e = tt
  range_means (Item.option x) e = tt
  range_means (Item.symbol x) e = ltb-true x s e
  range_means (Item.list f n) e = leb-true (f + n) m e
  range_means (Item.unused x) e = tt

  means_range : (x : Item) → InRange s m x → InRange s m x → keep 2 i s m x ≡ true
  means_range (Item.number l n) p q = lt-ltb n l p
  means_range (Item.child x) p q = refl
  means_range (Item.option x) p q = refl
  means_range (Item.symbol x) p q = lt-ltb x s p
  means_range (Item.list f n) p q = le-leb (f + n) m p
  means_range (Item.unused x) p q = refl

  pub ranged : (is : List Item) → keep_all 2 i s m is ≡ true → Each (InRange s m) is
  ranged = all_mean 2 i s m (InRange s m) range_means

  pub is_ranged : {is : List Item} → Each (InRange s m) is → keep_all 2 i s m is ≡ true
  is_ranged e = mean_all 2 i s m (InRange s m) means_range e e

  -- rule 3, of what the items name
  pub earlier : (is : List Item) → keep_all 3 i s m is ≡ true → Each (Before i) (names_in is)
  earlier [] e = nil
  earlier (Item.number l n ∷ is) e = earlier is e
  earlier (Item.child x ∷ is) e = let (a, b) = both_true (ltb x i || eqb x absent) (keep_all 3 i s m is) e in cons (before_means i x a) (earlier is b)
  earlier (Item.option x ∷ is) e = let (a, b) = both_true (ltb x i || eqb x absent) (keep_all 3 i s m is) e in cons (before_means i x a) (earlier is b)
  earlier (Item.symbol x ∷ is) e = earlier is e
  earlier (Item.list f n ∷ is) e = earlier is (both_true (leb (f + n) m) (keep_all 3 i s m is) e).1
  earlier (Item.unused x ∷ is) e = earlier is e

  pub is_earlier : (is : List Item) → Each (Before i) (names_in is) → Each (InRange s m) is → keep_all 3 i s m is ≡ true
  is_earlier [] e d = refl
  is_earlier (Item.number l n ∷ is) e (cons q d) = is_earlier is e d
  is_earlier (Item.child x ∷ is) (cons p e) (cons q d) = true_both (means_before i x p) (is_earlier is e d)
  is_earlier (Item.option x ∷ is) (cons p e) (cons q d) = true_both (means_before i x p) (is_earlier is e d)
  is_earlier (Item.symbol x ∷ is) e (cons q d) = is_earlier is e d
  is_earlier (Item.list f n ∷ is) e (cons q d) = true_both (le-leb (f + n) m q) (is_earlier is e d)
  is_earlier (Item.unused x ∷ is) e (cons q d) = is_earlier is e d

  -- rule 7
  allowed_means : (x : Item) → keep 7 i s m x ≡ true → Allowed x
  allowed_means (Item.number l n) e = tt
  allowed_means (Item.child x) e = eqb-false x absent (not-true (eqb x absent) e)
  allowed_means (Item.option x) e = tt
  allowed_means (Item.symbol x) e = tt
  allowed_means (Item.list f n) e = tt
  allowed_means (Item.unused x) e = tt

  means_allowed : (x : Item) → Allowed x → InRange s m x → keep 7 i s m x ≡ true
  means_allowed (Item.number l n) p q = refl
  means_allowed (Item.child x) p q = rw (ne_eqb x absent p) refl
  means_allowed (Item.option x) p q = refl
  means_allowed (Item.symbol x) p q = refl
  means_allowed (Item.list f n) p q = le-leb (f + n) m q
  means_allowed (Item.unused x) p q = refl

  pub allowed : (is : List Item) → keep_all 7 i s m is ≡ true → Each Allowed is
  allowed = all_mean 7 i s m Allowed allowed_means

  pub is_allowed : {is : List Item} → Each Allowed is → Each (InRange s m) is → keep_all 7 i s m is ≡ true
  is_allowed = mean_all 7 i s m Allowed means_allowed

  -- rule 8
  zero_means : (x : Item) → keep 8 i s m x ≡ true → Zero x
  zero_means (Item.number l n) e = tt
  zero_means (Item.child x) e = tt
  zero_means (Item.option x) e = tt
  zero_means (Item.symbol x) e = tt
  zero_means (Item.list f n) e = tt
  zero_means (Item.unused x) e = eqb-true x 0 e

  means_zero : (x : Item) → Zero x → InRange s m x → keep 8 i s m x ≡ true
  means_zero (Item.number l n) p q = refl
  means_zero (Item.child x) p q = refl
  means_zero (Item.option x) p q = refl
  means_zero (Item.symbol x) p q = refl
  means_zero (Item.list f n) p q = le-leb (f + n) m q
  means_zero (Item.unused x) p q = eq-eqb x 0 p

  pub zeroed : (is : List Item) → keep_all 8 i s m is ≡ true → Each Zero is
  zeroed = all_mean 8 i s m Zero zero_means

  pub is_zeroed : {is : List Item} → Each Zero is → Each (InRange s m) is → keep_all 8 i s m is ≡ true
  is_zeroed = mean_all 8 i s m Zero means_zero

-- whatever the rule, lists of a row that keeps it are in range
held_inside : (rule i s : ℕ) (ls : List ℕ) (t : Content) → keep_all rule i s (many ls) (contents ls t) ≡ true → InLinks ls t
held_inside rule i s ls Content.Nothing e = tt
held_inside rule i s ls (Content.Child x) e = tt
held_inside rule i s ls (Content.Option x) e = tt
held_inside rule i s ls (Content.Symbol x) e = tt
held_inside rule i s ls (Content.List o f n) e = leb-true (f + n) (many ls) (both_true _ _ e).0
held_inside rule i s ls (Content.Number l x) e = tt

slot_inside : (rule i s : ℕ) (ls : List ℕ) (t : Slot) → keep_all rule i s (many ls) (held ls t) ≡ true → InLists ls t
slot_inside rule i s ls t e = held_inside rule i s ls (content_of t.code t.x t.y) e

pub lists_inside : (rule s : ℕ) (t ns ls : List ℕ) (i : ℕ) → row_keeps rule s t ns ls i ≡ true → InLists ls (cut_of t ns i).first × InLists ls (cut_of t ns i).second × InLists ls (cut_of t ns i).third
unfolding row_keeps held_in
lists_inside rule s t ns ls i e =
    let (a, r) = parts (cut_of t ns i).first _ e in
    let (b, q) = parts (cut_of t ns i).second _ r in
    let (c, z) = parts (cut_of t ns i).third _ q in
    (slot_inside rule i s ls _ a, slot_inside rule i s ls _ b, slot_inside rule i s ls _ c)
  where
    parts : (u : Slot) (is : List Item) → keep_all rule i s (many ls) (held ls u ++ is) ≡ true → (keep_all rule i s (many ls) (held ls u) ≡ true) × (keep_all rule i s (many ls) is ≡ true)
    parts u is e = both_true _ _ (sym (keep_append rule i s (many ls) (held ls u) is) ∙ e)
