-- What a slot, a row and all rows before one answer, and the marks that they leave. A list chooses the marks of its links by their sort.
use Prim.Native.Nat.{ℕ, zero, suc, ◌+◌, ◌*◌, ◌≤◌}
use native.Mathlib.Omega.{arith}
use mathlib.Core.Bool.{Bool, true, false, cond, ◌||◌, not}
use mathlib.Core.List.{List, [], ◌∷◌, ◌++◌}
use Rattle.std.proofs.Common.{append_assoc}
use mathlib.Core.Path.{◌≡◌, refl, sym, ap, ◌∙◌}
use lib.Dec.{eqb, ltb}
use borrow.Author.Tests.{ltb-true, lt-ltb, le-leb}
use lib.ListN.{length, get_or, drop}
use Rattle.grammar.specs.Handle.{absent}
use Rattle.grammar.specs.Room.{link_width}
use Rattle.foreign.specs.Check.{Item}
use Rattle.checker.specs.Marks.{Settled}
use Rattle.checker.specs.Slots.{link_items, linked_items, contents, spared, cut_of, held_in}
use Rattle.checker.specs.Test.{keep, keep_all, link_keeps, first_sort, of_names, concerns, Linked, Marked, Keeps, row_keeps}
use Rattle.checker.specs.declared.slots.Cut.{Cut}
use Rattle.checker.specs.declared.slots.Content.{Content}
use Rattle.checker.specs.declared.slots.Sort.{Sort}
use Rattle.checker.proofs.Laws.{both_true, true_both, or_true, or_false, never, settled_same}
use Rattle.checker.proofs.Keeping.{many, keep_append, any_many, unconcerned}

-- one list, and then another
module _ {rule i s : ℕ} {ls : List ℕ} {xs : List Item} {b : Bool} {ms : List ℕ} (k : Keeps rule i s ls xs ms b) where
  pub broken_off : (ys : List Item) → b ≡ false → Keeps rule i s ls (xs ++ ys) ms false
  broken_off ys f = record { says = sym (keep_append rule i s (many ls) xs ys ∙ rw (sym k.says ∙ f) refl); marked = λ y. absurd (never y refl) }

  pub kept_then : {ys : List Item} {r : Bool} {ms' : List ℕ} → b ≡ true → Keeps rule i s ls ys ms' r → Keeps rule i s ls (xs ++ ys) ms' r
  kept_then {ys} t l = record { says = l.says ∙ sym (keep_append rule i s (many ls) xs ys ∙ rw (sym k.says ∙ t) refl); marked = l.marked }

  -- what decides alone, and what is then left
  pub stays_broken : (ys : List Item) → b ≡ false → Keeps rule i s ls (xs ++ ys) ms b
  stays_broken ys f = rw f (broken_off ys f)

pub regrouped : {rule i s : ℕ} {ls ms : List ℕ} {r : Bool} (x y z w : List Item) → Keeps rule i s ls (((x ++ y) ++ z) ++ w) ms r → Keeps rule i s ls (x ++ (y ++ (z ++ w))) ms r
regrouped x y z w k = rw (← append_assoc x y (z ++ w), ← append_assoc (x ++ y) z w) k

-- a slot that holds one item, and no list, leaves the marks as they are

-- a list: whether it is in range, and its links
module _ (rule i s : ℕ) (ls : List ℕ) (o : Sort) (f n : ℕ) (ms : List ℕ) where
  abbrev Answers : Bool → Type 0
  Answers r = Keeps rule i s ls (contents ls (Content.List o f n)) ms r

  pub unasked_list : f + n ≤ many ls → concerns rule o ≡ false → Marked rule i s ls ms → Answers true
  unasked_list k e g = record { says = sym (rw (le-leb (f + n) (many ls) k, unconcerned rule i s (many ls) o e n (drop (link_width * f) ls)) refl); marked = λ y. g }

  list_says : {r : Bool} → f + n ≤ many ls → r ≡ keep_all rule i s 0 (linked_items o n (drop (link_width * f) ls)) → r ≡ keep_all rule i s (many ls) (contents ls (Content.List o f n))
  list_says k e = e ∙ any_many rule i s (many ls) o n (drop (link_width * f) ls) ∙ sym (rw (le-leb (f + n) (many ls) k) refl)

-- which marks a list's links have
first_is : (rule : ℕ) (o : Sort) → concerns rule o ≡ true → (o ≡ Sort.Entries → ⊥) → first_sort rule ≡ o
first_is rule o e f = pick (eqb rule 2) o e f
  where
    pick : (d : Bool) (p : Sort) → cond d (of_names p) (not (of_names p)) ≡ true → (p ≡ Sort.Entries → ⊥) → cond d Sort.Names Sort.Nodes ≡ p
    pick true Sort.Nodes e n = absurd (never e refl)
    pick true Sort.Names e n = refl
    pick true Sort.Entries e n = absurd (n refl)
    pick false Sort.Nodes e n = refl
    pick false Sort.Names e n = absurd (never e refl)
    pick false Sort.Entries e n = absurd (n refl)

module _ {rule i s : ℕ} {ls : List ℕ} {ms : List ℕ} (g : Marked rule i s ls ms) (f n : ℕ) (r : f + n ≤ many ls) where
  -- those of keys and values
  pub second_kept : {b : Bool} {ms' : List ℕ} (o : Sort) → o ≡ Sort.Entries → length ms' ≡ length ms → Linked rule i s o ls (many ls) f n ms ms' b → Keeps rule i s ls (contents ls (Content.List o f n)) ms' b
  second_kept {ms' = ms'} o e l k = record {
    says = list_says rule i s ls o f n ms' r k.says;
    marked = λ y. record { few = g.few; room = omega (arith, g.room); first = settled_same (λ j m. (k.within y).low (0 + j) (omega arith)) g.first; second = rw e at (k.settled y) };
  }

  -- the others
  module _ (o : Sort) (c : concerns rule o ≡ true) (other : o ≡ Sort.Entries → ⊥) where
    pub first_kept : {b : Bool} {ms' : List ℕ} → length ms' ≡ length ms → Linked rule i s o ls 0 f n ms ms' b → Keeps rule i s ls (contents ls (Content.List o f n)) ms' b
    first_kept {ms' = ms'} e k = record {
      says = list_says rule i s ls o f n ms' r k.says;
      marked = λ y. record { few = g.few; room = omega (arith, g.room); first = rw (first_is rule o c other) (k.settled y); second = settled_same (λ j m. (k.within y).high (many ls + j) (omega arith)) g.second };
    }

-- numbers that are left over leave the marks as they are, and hold no list
pub spared_kept : (rule i s : ℕ) (ls : List ℕ) (n : ℕ) (xs : List ℕ) {ms : List ℕ} {r : Bool} → r ≡ keep_all rule i s 0 (spared n xs) → Marked rule i s ls ms → Keeps rule i s ls (spared n xs) ms r
unfolding spared
spared_kept rule i s ls n xs e g = record { says = e ∙ any n xs; marked = λ y. g }
  where
    any : (n : ℕ) (xs : List ℕ) → keep_all rule i s 0 (spared n xs) ≡ keep_all rule i s (many ls) (spared n xs)
    any zero xs = refl
    any (suc n) xs = rw (any n (drop 1 xs)) refl

-- what a row answers
pub answers : {rule i s : ℕ} {ls ms : List ℕ} {c : Cut} {r b : Bool} (t ns : List ℕ) → c ≡ cut_of t ns i → Keeps rule i s ls (held_in ns ls i c) ms r → r ≡ b → row_keeps rule s t ns ls i ≡ b
unfolding row_keeps
answers {rule} {i} {s} {ls} t ns e k f = sym (ap (λ (d : Cut). keep_all rule i s (many ls) (held_in ns ls i d)) e) ∙ sym k.says ∙ f

-- marks that are right of a row are right of the next: what is before a row is before the next
before_later : (i : ℕ) (d : Bool) (x : ℕ) (b c : Bool) → cond d (ltb x i || b) c ≡ true → cond d (ltb x (i + 1) || b) c ≡ true
before_later i true x true c e = or_true (ltb x (i + 1))
before_later i true x false c e = rw (lt-ltb x (i + 1) (omega (arith, ltb-true x i (or_false (ltb x i) e)))) refl
before_later i false x b c e = e

module _ (rule i s m : ℕ) where
  keep_later : (x : Item) → keep rule i s m x ≡ true → keep rule (i + 1) s m x ≡ true
  keep_later (Item.number l n) e = e
  keep_later (Item.child x) e = before_later i (eqb rule 3) x (eqb x absent) _ e
  keep_later (Item.option x) e = before_later i (eqb rule 3) x (eqb x absent) _ e
  keep_later (Item.symbol x) e = e
  keep_later (Item.list f n) e = e
  keep_later (Item.unused x) e = e

  all_later : (is : List Item) → keep_all rule i s m is ≡ true → keep_all rule (i + 1) s m is ≡ true
  all_later [] e = refl
  all_later (x ∷ is) e = let (f, g) = both_true (keep rule i s m x) (keep_all rule i s m is) e in true_both (keep_later x f) (all_later is g)

link_later : (rule i s : ℕ) (o : Sort) (ls : List ℕ) (k : ℕ) → link_keeps rule i s o ls k ≡ true → link_keeps rule (i + 1) s o ls k ≡ true
unfolding link_keeps
link_later rule i s o ls k = all_later rule i s 0 (link_items o (get_or ls (link_width * k) 0) (get_or ls (link_width * k + 1) 0) (get_or ls (link_width * k + 2) 0))

settled_later : (rule i s : ℕ) (o : Sort) {base size : ℕ} (ls : List ℕ) {ms : List ℕ} → Settled (link_keeps rule i s o ls) base size ms → Settled (link_keeps rule (i + 1) s o ls) base size ms
settled_later rule i s o ls g = record { right = λ k j h l m. link_later rule i s o ls j (g.right k j h l m) }

pub marked_later : {rule i s : ℕ} {ls ms : List ℕ} → Marked rule i s ls ms → Marked rule (i + 1) s ls ms
marked_later {rule} {i} {s} {ls} g = record { few = g.few; room = g.room; first = settled_later rule i s (first_sort rule) ls g.first; second = settled_later rule i s Sort.Entries ls g.second }

-- marks that are zero
