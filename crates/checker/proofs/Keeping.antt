-- Items against a rule, one after another, as the loops of keep.rt look at them: links with their marks.
use Prim.Native.Nat.{ℕ, zero, suc, ◌+◌, ◌*◌, ◌/◌, ◌≤◌, ◌<◌}
use native.Mathlib.Decide.{dec_lt, ℕ_discrete}
use native.Mathlib.Omega.{arith}
use mathlib.Core.Bool.{Bool, true, false, cond, ◌&&◌, not}
use mathlib.Core.List.{List, [], ◌∷◌, ◌++◌}
use mathlib.Core.Path.{◌≡◌, refl, sym, ap, ◌∙◌}
use lib.Dec.{eqb}
use borrow.Author.Tests.{ne_eqb, eq-eqb, eqb-true}
use lib.ListN.{length, get_or, take, drop, set}
use lib.Seq.{get_or-drop, get_or-take, length-take-le, drop-drop}
use Rattle.std.specs.Prelude.{◌↔◌, IsTrue, EachIndex}
use Rattle.foreign.specs.Check.{Item}
use Rattle.grammar.specs.Room.{link_width}
use Rattle.checker.specs.Marks.{Settled, Within, Skips}
use Rattle.checker.specs.Pass.{number}
use Rattle.checker.specs.Slots.{link_items, linked_items, spared}
use Rattle.checker.specs.Test.{keep, keep_all, link_keeps, of_names, concerns, Linkable, Linked}
use Rattle.checker.specs.declared.keep.Asked.{Asked}
use Rattle.checker.specs.declared.rule.Rule.{Rule}
use Rattle.checker.specs.declared.slots.Sort.{Sort}
use Rattle.checker.proofs.Laws.{and_false, and_assoc, both_true, true_both, never, wider}
use Rattle.checker.proofs.Skipping.{within_self, within_both, within_one, settled_one}

-- by what is asked
abbrev all : Asked → (m : ℕ) → List Item → Bool
all a m is = keep_all (number a.rule) a.row a.symbols m is

pub keep_append : (rule i s m : ℕ) (xs ys : List Item) → keep_all rule i s m (xs ++ ys) ≡ (keep_all rule i s m xs && keep_all rule i s m ys)
keep_append rule i s m [] ys = refl
keep_append rule i s m (x ∷ xs) ys = ap (λ b. keep rule i s m x && b) (keep_append rule i s m xs ys) ∙ and_assoc (keep rule i s m x) (keep_all rule i s m xs) (keep_all rule i s m ys)

-- numbers that are left over: no rule but 8 asks anything of them, and it asks that they are 0
other_number : (r : Rule) → (r ≡ Rule.Clean → ⊥) → number r ≡ 8 → ⊥
other_number Rule.Kinds n e = omega arith
other_number Rule.Ranges n e = omega arith
other_number Rule.Earlier n e = omega arith
other_number Rule.Once n e = omega arith
other_number Rule.Rooted n e = omega arith
other_number Rule.Follows n e = omega arith
other_number Rule.Present n e = omega arith
other_number Rule.Clean n e = n refl
other_number Rule.Parents n e = omega arith

module _ (i s : ℕ) where
  pub spare_any : (r : Rule) → (r ≡ Rule.Clean → ⊥) → (n : ℕ) (xs : List ℕ) → true ≡ keep_all (number r) i s 0 (spared n xs)
  unfolding spared
  spare_any r h zero xs = refl
  spare_any r h (suc n) xs = rw (ne_eqb (number r) 8 (other_number r h)) (spare_any r h n (drop 1 xs))

  spare_zeros : (n : ℕ) (xs : List ℕ) → ((k : ℕ) → k < n → get_or xs k 0 ≡ 0) → keep_all 8 i s 0 (spared n xs) ≡ true
  unfolding spared
  spare_zeros zero xs f = refl
  spare_zeros (suc n) xs f = true_both (eq-eqb (get_or xs 0 0) 0 (f 0 (omega arith))) (spare_zeros n (drop 1 xs) (λ k h. let z : 1 + k ≡ k + 1 = omega arith in get_or-drop 1 xs k 0 ∙ rw z (f (k + 1) (omega arith))))

  zeros_spare : (n : ℕ) (xs : List ℕ) → keep_all 8 i s 0 (spared n xs) ≡ true → (k : ℕ) → k < n → get_or xs k 0 ≡ 0
  unfolding spared
  zeros_spare zero xs e k h = absurd (omega arith)
  zeros_spare (suc n) xs e zero h = eqb-true (get_or xs 0 0) 0 (both_true _ _ e).0
  zeros_spare (suc n) xs e (suc k) h = let z : 1 + k ≡ suc k = omega arith in rw z at (sym (get_or-drop 1 xs k 0) ∙ zeros_spare n (drop 1 xs) (both_true _ _ e).1 k (omega arith))

  spare_all : (b : Bool) (n : ℕ) (xs : List ℕ) → (b ≡ true → (k : ℕ) → k < n → get_or xs k 0 ≡ 0) → (((k : ℕ) → k < n → get_or xs k 0 ≡ 0) → b ≡ true) → b ≡ keep_all 8 i s 0 (spared n xs)
  spare_all b n xs f g = pick b (keep_all 8 i s 0 (spared n xs)) (λ e. spare_zeros n xs (f e)) (λ e. g (zeros_spare n xs e))
    where
      pick : (x y : Bool) → (x ≡ true → y ≡ true) → (y ≡ true → x ≡ true) → x ≡ y
      pick true y f g = sym (f refl)
      pick false true f g = g refl
      pick false false f g = refl

  pub spare_part : (b : Bool) (n : ℕ) (xs : List ℕ) → n ≤ length xs → IsTrue b ↔ EachIndex (take n xs) (λ k. get_or (take n xs) k 0 ≡ 0) → b ≡ keep_all 8 i s 0 (spared n xs)
  spare_part b n xs l e =
      let z : length (take n xs) ≡ n = length-take-le n xs l in
      spare_all b n xs (λ t k h. sym (get_or-take n xs k 0 h) ∙ e.0 t k (rw z h)) (λ f. e.1 (λ k h. let m : k < n = rw z at h in get_or-take n xs k 0 m ∙ f k m))

abbrev pub many : (links : List ℕ) → ℕ
many ls = length ls / link_width

-- the links of a list, one by one
module _ (a : Asked) (of : Sort) (ls : List ℕ) where
  abbrev passes : ℕ → Bool
  passes = link_keeps (number a.rule) a.row a.symbols of ls

  -- so many links from one on
  abbrev links_pass : (from count : ℕ) → Bool
  links_pass from n = all a 0 (linked_items of n (drop (link_width * from) ls))

  link_step : (from n : ℕ) → links_pass from (suc n) ≡ (passes from && links_pass (suc from) n)
  unfolding linked_items link_keeps
  link_step from n =
      let l = drop (link_width * from) ls in
      let d : link_width * from + link_width ≡ link_width * suc from = omega arith in
      let z : link_width * from + 0 ≡ link_width * from = omega arith in
      keep_append (number a.rule) a.row a.symbols 0 (link_items of (get_or l 0 0) (get_or l 1 0) (get_or l 2 0)) (linked_items of n (drop link_width l)) ∙
      rw (get_or-drop (link_width * from) ls 0 0, z, get_or-drop (link_width * from) ls 1 0, get_or-drop (link_width * from) ls 2 0, drop-drop link_width (link_width * from) ls, d) refl

  links_kept : (from n : ℕ) → ((j : ℕ) → from ≤ j → j < from + n → passes j ≡ true) → links_pass from n ≡ true
  unfolding linked_items
  links_kept from zero f = refl
  links_kept from (suc n) f = link_step from n ∙ true_both (f from (omega arith) (omega arith)) (links_kept (suc from) n (λ j h l. f j (omega arith) (omega arith)))

  link_broken : (from n j : ℕ) → from ≤ j → j < from + n → passes j ≡ false → links_pass from n ≡ false
  link_broken from zero j h l e = absurd (omega arith)
  link_broken from (suc n) j h l e = link_step from n ∙ elim (ℕ_discrete from j) [ yes d ↦ rw (d, e) refl | no d ↦ and_false (passes from) (link_broken (suc from) n j (omega arith) (omega arith) e) ]

  -- from a link on all before another are settled or looked at, and the marks are right
  pub record Walked (base from : ℕ) (before after : List ℕ) (at : ℕ) : Type 0 where
    pub onward : from ≤ at
    pub size : length after ≡ length before
    pub room : base + many ls ≤ length after
    pub within : Within base (many ls) before after
    pub settled : Settled passes base (many ls) after
    pub kept : (j : ℕ) → from ≤ j → j < at → passes j ≡ true

module _ {a : Asked} {of : Sort} {ls : List ℕ} {base from : ℕ} where
  pub walk_begun : {count end at : ℕ} {ms ms' : List ℕ} → Linkable (number a.rule) a.row a.symbols of ls ms base from count → end ≡ from + count → length ms' ≡ length ms → Skips base from end ms ms' at → Walked a of ls base from ms' ms' at
  walk_begun g e l s = record {
    onward = s.onward;
    size = refl;
    room = omega (arith, g.room);
    within = within_self base (many ls) _;
    settled = s.settled _ (many ls) (omega (arith, g.inside)) g.settled;
    kept = s.between _ (many ls) (omega (arith, g.inside)) g.settled;
  }

  -- one link more, and then to the next that is not settled
  pub walk_on : {at end next : ℕ} {r : Bool} {ms₀ ms ms₁ ms₂ : List ℕ} → Walked a of ls base from ms₀ ms at → at < end → end ≤ many ls → r ≡ true → r ≡ passes a of ls at → ms₁ ≡ set ms (base + at) (at + 1) → length ms₂ ≡ length ms → Skips base (at + 1) end ms₁ ms₂ next → Walked a of ls base from ms₀ ms₂ next
  walk_on {at} {end} {ms = ms} {ms₁ = ms₁} w h k t e d l s =
      record {
        onward = omega (arith, w.onward, s.onward);
        size = l ∙ w.size;
        room = omega (arith, w.room);
        within = within_both w.within (within_both (rw d (within_one (at + 1) (omega arith))) (wider k s.within));
        settled = s.settled _ (many ls) k put;
        kept = λ j x y. elim (dec_lt j at) [ yes z ↦ w.kept j x z | no z ↦ elim (ℕ_discrete j at) [ yes q ↦ here j q | no q ↦ s.between _ (many ls) k put j (omega arith) y ] ];
      }
    where
      here : (j : ℕ) → j ≡ at → passes a of ls j ≡ true
      here j q = rw q (sym e ∙ t)

      put : Settled (passes a of ls) base (many ls) ms₁
      put = rw d (settled_one (omega (arith, w.room)) (λ j x y. here j (omega arith)) w.settled)

  pub walk_broken : {at count : ℕ} {r : Bool} {ms₀ ms₁ ms : List ℕ} → Walked a of ls base from ms₁ ms at → at < from + count → r ≡ false → r ≡ passes a of ls at → Linked (number a.rule) a.row a.symbols of ls base from count ms₀ ms false
  walk_broken {at} {count} w h t e = record {
    says = sym (link_broken a of ls from count at w.onward h (sym e ∙ t));
    within = λ y. absurd (never y refl);
    settled = λ y. absurd (never y refl);
  }

  pub walk_ended : {at at₀ count end : ℕ} {ms₀ ms₁ ms : List ℕ} → Linkable (number a.rule) a.row a.symbols of ls ms₀ base from count → end ≡ from + count → end ≤ at → Skips base from end ms₀ ms₁ at₀ → Walked a of ls base from ms₁ ms at → Linked (number a.rule) a.row a.symbols of ls base from count ms₀ ms true
  walk_ended {count = count} g e h s w = record {
    says = sym (links_kept a of ls from count (λ j x y. w.kept j x (omega arith)));
    within = λ y. within_both (wider (omega (arith, g.inside)) s.within) w.within;
    settled = λ y. w.settled;
  }

module _ (rule i s m : ℕ) where
  -- links hold no list, so how many there are does not matter to them
  pub any_many : (o : Sort) (n : ℕ) (ls : List ℕ) → keep_all rule i s 0 (linked_items o n ls) ≡ keep_all rule i s m (linked_items o n ls)
  unfolding linked_items
  any_many o zero ls = refl
  any_many o (suc n) ls =
      let is = link_items o (get_or ls 0 0) (get_or ls 1 0) (get_or ls 2 0) in
      keep_append rule i s 0 is _ ∙ rw (one o, any_many o n (drop link_width ls)) (sym (keep_append rule i s m is _))
    where
      one : (p : Sort) → keep_all rule i s 0 (link_items p (get_or ls 0 0) (get_or ls 1 0) (get_or ls 2 0)) ≡ keep_all rule i s m (link_items p (get_or ls 0 0) (get_or ls 1 0) (get_or ls 2 0))
      one Sort.Nodes = refl
      one Sort.Names = refl
      one Sort.Entries = refl

  -- a rule that has nothing to do with them
  pub unconcerned : (o : Sort) → concerns rule o ≡ false → (n : ℕ) (ls : List ℕ) → keep_all rule i s m (linked_items o n ls) ≡ true
  unfolding linked_items
  unconcerned o e zero ls = refl
  unconcerned o e (suc n) ls = keep_append rule i s m (link_items o (get_or ls 0 0) (get_or ls 1 0) (get_or ls 2 0)) _ ∙ true_both (one (eqb rule 2) refl o e) (unconcerned o e n (drop link_width ls))
    where
      one : (d : Bool) → eqb rule 2 ≡ d → (p : Sort) → cond d (of_names p) (not (of_names p)) ≡ false → keep_all rule i s m (link_items p (get_or ls 0 0) (get_or ls 1 0) (get_or ls 2 0)) ≡ true
      one true q Sort.Nodes f = rw (eqb-true rule 2 q) refl
      one true q Sort.Names f = absurd (never refl f)
      one true q Sort.Entries f = rw (eqb-true rule 2 q) refl
      one false q Sort.Nodes f = absurd (never refl f)
      one false q Sort.Names f = rw q refl
      one false q Sort.Entries f = absurd (never refl f)
