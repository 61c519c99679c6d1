-- Lists that follow each other: what a slot has of them, one slot after another, and row by row.
use Prim.Native.Nat.{ℕ, zero, suc, ◌+◌, ◌-◌, ◌*◌, ◌≤◌, ◌<◌}
use native.Mathlib.Omega.{arith}
use Rattle.std.specs.Prelude.{Option, Some, None}
use mathlib.Core.Bool.{Bool, true, false, cond, ◌&&◌}
use mathlib.Core.List.{List, [], ◌∷◌, ◌++◌, append-nil}
use mathlib.Core.Path.{◌≡◌, refl, sym, ap, ◌∙◌}
use lib.Dec.{eqb}
use borrow.Author.Tests.{eqb-true, eq-eqb}
use lib.ListN.{drop}
use Rattle.grammar.specs.Room.{node_width, own_width, link_width}
use Rattle.grammar.specs.Edition.{Edition}
use Rattle.foreign.specs.Check.{Item, lists, counted, Consecutive, covered, Follows}
use Rattle.checker.specs.Follow.{consecutive, followed, GoesOn, in_slots, covered_by, row_follows, OneStrays}
use Rattle.checker.specs.Slots.{rows, table, cut_of, linked_items, contents, held, spared, held_in}
use Rattle.checker.specs.Test.{AllStanding}
use Rattle.checker.specs.declared.slots.Cut.{Cut}
use Rattle.checker.specs.declared.slots.Content.{Content}
use Rattle.checker.specs.declared.rule.Rule.{Rule}
use Rattle.checker.specs.declared.slots.Sort.{Sort}
use Rattle.checker.proofs.Items.{cut_items, lists_append, lists_spared}
use Rattle.checker.proofs.Laws.{some_none, some_same, and_assoc, both_true, true_both, Held, held_none, held_more, found}
use Rattle.checker.proofs.Passes.{Tests}

-- links hold none
links_listless : (o : Sort) (n : ℕ) (ls : List ℕ) → lists (linked_items o n ls) ≡ []
unfolding linked_items
links_listless o zero ls = refl
links_listless Sort.Nodes (suc n) ls = links_listless Sort.Nodes n (drop link_width ls)
links_listless Sort.Names (suc n) ls = links_listless Sort.Names n (drop link_width ls)
links_listless Sort.Entries (suc n) ls = links_listless Sort.Entries n (drop link_width ls)

-- after a slot that is no list, and one that is

module _ (o : Sort) (f n from : ℕ) where
  abbrev After : Option ℕ → Type 0
  After r = GoesOn from (λ ls. contents ls (Content.List o f n)) r

  pub goes_list : f ≡ from → f ≤ 4294967295 → n ≤ 4294967295 → After (Some (from + n))
  goes_list e a b = record { most = omega arith; says = λ ls. let z : from + (n + 0) ≡ from + n = omega arith in rw (links_listless o n (drop (link_width * f) ls), eq-eqb f from e, z) refl }

-- one part after another
counted_append : (xs ys : List (ℕ × ℕ)) → counted (xs ++ ys) ≡ counted xs + counted ys
counted_append [] ys = omega arith
counted_append (x ∷ xs) ys = omega (arith, counted_append xs ys)

consecutive_append : (m : ℕ) (xs ys : List (ℕ × ℕ)) → consecutive m (xs ++ ys) ≡ (consecutive m xs && consecutive (m + counted xs) ys)
consecutive_append m [] ys = let e : m + 0 ≡ m = omega arith in rw e refl
consecutive_append m (x ∷ xs) ys = let e : m + x.1 + counted xs ≡ m + (x.1 + counted xs) = omega arith in rw (consecutive_append (m + x.1) xs ys, e) (and_assoc (eqb x.0 m) _ _)

followed_append : (from : ℕ) (xs ys : List Item) → followed from (lists (xs ++ ys)) ≡ cond (consecutive from (lists xs) && consecutive (from + counted (lists xs)) (lists ys)) (Some (from + (counted (lists xs) + counted (lists ys)))) None
followed_append from xs ys = rw (lists_append xs ys, consecutive_append from (lists xs) (lists ys), counted_append (lists xs) (lists ys)) refl

module _ {from : ℕ} {f : List ℕ → List Item} (g : List ℕ → List Item) where
  pub goes_nowhere : GoesOn from f None → GoesOn from (λ ls. f ls ++ g ls) None
  goes_nowhere x = record { most = tt; says = λ ls. sym (followed_append from (f ls) (g ls) ∙ pick ls (consecutive from (lists (f ls))) refl) }
    where
      pick : (ls : List ℕ) (b : Bool) → consecutive from (lists (f ls)) ≡ b → cond (b && consecutive (from + counted (lists (f ls))) (lists (g ls))) (Some (from + (counted (lists (f ls)) + counted (lists (g ls))))) None ≡ None
      pick ls true q = absurd (some_none (sym (rw q at (x.says ls))))
      pick ls false q = refl

  pub goes_further : {m : ℕ} {s : Option ℕ} → GoesOn from f (Some m) → GoesOn m g s → GoesOn from (λ ls. f ls ++ g ls) s
  goes_further {m} {s} x y = record { most = y.most; says = λ ls. sym (followed_append from (f ls) (g ls) ∙ pick ls (consecutive from (lists (f ls))) refl) }
    where
      pick : (ls : List ℕ) (b : Bool) → consecutive from (lists (f ls)) ≡ b → cond (b && consecutive (from + counted (lists (f ls))) (lists (g ls))) (Some (from + (counted (lists (f ls)) + counted (lists (g ls))))) None ≡ s
      pick ls true q =
          let e : m ≡ from + counted (lists (f ls)) = some_same (rw q at (x.says ls)) in
          let a : from + counted (lists (f ls)) + counted (lists (g ls)) ≡ from + (counted (lists (f ls)) + counted (lists (g ls))) = omega arith in
          sym (rw a at (rw e at (y.says ls)))
      pick ls false q = absurd (some_none (rw q at (x.says ls)))

-- a row's lists are those of its slots
row_lists : (ns ls : List ℕ) (i : ℕ) (c : Cut) → lists (held_in ns ls i c) ≡ lists (in_slots c ls)
unfolding held_in
row_lists ns ls i c =
    let a = held ls c.first in
    let b = held ls c.second in
    let d = held ls c.third in
    let z = spared (node_width * i + own_width - c.rest) (drop c.rest ns) in
    let e : lists (d ++ z) ≡ lists d = lists_append d z ∙ rw (lists_spared (node_width * i + own_width - c.rest) (drop c.rest ns)) (append-nil (lists d)) in
    lists_append a (b ++ (d ++ z)) ∙ ap (λ ls. lists a ++ ls) (lists_append b (d ++ z) ∙ ap (λ ls. lists b ++ ls) e ∙ sym (lists_append b d)) ∙ sym (lists_append a (b ++ d))

-- the rows before row i follow, and have so many links
pub record Following (t ns : List ℕ) (i links : ℕ) : Type 0 where
  pub few : links ≤ 8589934590
  pub kept : (ls : List ℕ) → Held (row_follows t ns ls) i
  pub covered : (ls : List ℕ) → links ≡ covered_by t ns ls i

module _ {t ns : List ℕ} where
  pub none_follow : Following t ns 0 0
  unfolding covered_by
  none_follow = record { few = omega arith; kept = λ ls. held_none _; covered = λ ls. refl }

  module _ {i links : ℕ} {next : Option ℕ} {c : Cut} (x : Following t ns i links) (e : c ≡ cut_of t ns i) (y : GoesOn links (in_slots c) next) where
    -- what row i's lists say of it
    at : (ls : List ℕ) → next ≡ cond (row_follows t ns ls i) (Some (covered_by t ns ls (suc i))) None
    unfolding row_follows covered_by
    at ls = y.says ls ∙ rw (← row_lists ns ls i c, e, x.covered ls) refl

    pub goes_wrong : next ≡ None → (ls : List ℕ) → row_follows t ns ls i ≡ false
    goes_wrong z ls = pick (row_follows t ns ls i) (sym z ∙ at ls)
      where
        pick : (b : Bool) → None ≡ cond b (Some (covered_by t ns ls (suc i))) None → b ≡ false
        pick true q = absurd (some_none (sym q))
        pick false q = refl

    pub follow_more : {links' : ℕ} → next ≡ Some links' → Following t ns (i + 1) links'
    follow_more {links'} n = record { few = rw n at y.most; kept = λ ls. held_more (x.kept ls) (pick ls (row_follows t ns ls i) (sym n ∙ at ls)).0; covered = λ ls. let j : i + 1 ≡ suc i = omega arith in rw j (pick ls (row_follows t ns ls i) (sym n ∙ at ls)).1 }
      where
        pick : (ls : List ℕ) (b : Bool) → Some links' ≡ cond b (Some (covered_by t ns ls (suc i))) None → (b ≡ true) × (links' ≡ covered_by t ns ls (suc i))
        pick ls true q = (refl, some_same q)
        pick ls false q = absurd (some_none q)

  pub follow_stopped : {i links n : ℕ} → i < n → Following t ns i links → ((ls : List ℕ) → row_follows t ns ls i ≡ false) → OneStrays t ns n (record { rule = Rule.Follows; row = i })
  follow_stopped h x f = record { rule = refl; place = h; first = λ ls. found h (x.kept ls) (f ls) }

-- what the test of lists means
consecutive_means : (m : ℕ) (ls : List (ℕ × ℕ)) → consecutive m ls ≡ true → Consecutive m ls
consecutive_means m [] e = tt
consecutive_means m (l ∷ ls) e = let (a, b) = both_true (eqb l.0 m) (consecutive (m + l.1) ls) e in (eqb-true l.0 m a, consecutive_means (m + l.1) ls b)

means_consecutive : (m : ℕ) (ls : List (ℕ × ℕ)) → Consecutive m ls → consecutive m ls ≡ true
means_consecutive m [] c = refl
means_consecutive m (l ∷ ls) c = true_both (eq-eqb l.0 m c.0) (means_consecutive (m + l.1) ls c.1)

module _ (e : Edition) {t ns : List ℕ} (ls : List ℕ) {n : ℕ} (q : t ≡ table e) (a : AllStanding t ns n) where
  pub covered_means : (m : ℕ) → m ≤ n → covered_by t ns ls m ≡ covered e (rows ns ls) m
  unfolding covered_by covered
  covered_means zero h = refl
  covered_means (suc m) h = rw (covered_means m (omega arith), cut_items e ns ls m q (a.each m h)) refl

  pub follows_means : Tests (row_follows t ns ls) (Follows e (rows ns ls)) n
  unfolding row_follows
  follows_means = record {
    means = λ j h k. rw (← covered_means j (omega arith), cut_items e ns ls j q (a.each j h)) (consecutive_means (covered_by t ns ls j) (lists (held_in ns ls j (cut_of t ns j))) k);
    holds = λ j h k. means_consecutive (covered_by t ns ls j) (lists (held_in ns ls j (cut_of t ns j))) (rw (← covered_means j (omega arith), cut_items e ns ls j q (a.each j h)) at k);
  }
