-- A list is gone through from link to link, past those that are settled; then slots, by their codes. What a list names is said of its links and of its items: they name each row
-- as often.
use Prim.Native.Nat.{ℕ, zero, suc, ◌+◌, ◌-◌, ◌*◌, ◌/◌, ◌≤◌, ◌<◌}
use native.Mathlib.Decide.{dec_lt}
use native.Mathlib.Omega.{arith}
use mathlib.Core.Bool.{Bool, true, false, cond, ◌&&◌}
use mathlib.Core.List.{List, [], ◌∷◌, ◌++◌}
use mathlib.Core.Path.{◌≡◌, refl, sym, ap, ◌∙◌}
use lib.Dec.{eqb}
use borrow.Author.Tests.{eqb-true, ne_eqb}
use lib.ListN.{length, get_or, set, drop}
use lib.Seq.{get_or-drop, drop-drop}
use Rattle.grammar.specs.Handle.{absent}
use Rattle.grammar.specs.Naming.{times}
use Rattle.grammar.specs.Room.{link_width}
use Rattle.checker.specs.Marks.{Skips}
use Rattle.checker.specs.Named.{once_more, noted, Names, known, first_of, second_of, link_known, names_from, base_of, Ready, Noted, names_in}
use Rattle.checker.specs.Slots.{linked_items, contents, held}
use Rattle.checker.specs.declared.slots.Content.{Content}
use Rattle.checker.specs.declared.slots.Slot.{Slot}
use Rattle.checker.specs.declared.slots.Sort.{Sort}
use Rattle.checker.proofs.Items.{names_append}
use Rattle.checker.proofs.Laws.{both_true}
use Rattle.checker.proofs.Noting.{once_known, known_marked, noted_none, noted_one, noted_both, noted_alike, noted_over, noted_link}

-- what is left of a list from a link on
abbrev left : (two : Bool) (links : List ℕ) (end at : ℕ) → List ℕ
left two ls end at = names_from two ls at (end - at)

-- links that are settled say nothing more
module _ (n row : ℕ) (two : Bool) (ls ms : List ℕ) (end j : ℕ) (few : j < absent) where
  abbrev SameLeft : ℕ → ℕ → Type 0
  SameLeft at to = once_more row (times j (left two ls end at)) (get_or ms j 0) ≡ once_more row (times j (left two ls end to)) (get_or ms j 0)

  one_over : (at : ℕ) → link_known n two ls ms at ≡ true → SameLeft at (suc at)
  unfolding link_known names_from
  one_over at k = elim (dec_lt at end) [ yes h ↦ inside h | no h ↦ past h ]
    where
      past : (at < end → ⊥) → SameLeft at (suc at)
      past h = let y : end - at ≡ 0 = omega arith in let z : end - suc at ≡ 0 = omega arith in rw (y, z) refl

      inside : at < end → SameLeft at (suc at)
      inside h = let z : end - at ≡ suc (end - suc at) = omega arith in rw z (pick (eqb j x) (eqb j y) refl refl)
        where
          x : ℕ
          x = first_of ls at

          y : ℕ
          y = second_of two ls at

          t : ℕ
          t = times j (left two ls end (suc at))

          marked : (z : ℕ) → known n ms z ≡ true → j ≡ z → (u : ℕ) → once_more row u (get_or ms j 0) ≡ once_more row t (get_or ms j 0)
          marked z e q u = let a = (known_marked n ms j few (rw q e)).1 in rw a (once_known row u ∙ sym (once_known row t))

          pick : (b c : Bool) → eqb j x ≡ b → eqb j y ≡ c → once_more row (cond b 1 0 + (cond c 1 0 + t)) (get_or ms j 0) ≡ once_more row t (get_or ms j 0)
          pick true c e f = marked x (both_true (known n ms x) (known n ms y) k).0 (eqb-true j x e) (1 + (cond c 1 0 + t))
          pick false true e f = marked y (both_true (known n ms x) (known n ms y) k).1 (eqb-true j y f) (0 + (1 + t))
          pick false false e f = let z : 0 + (0 + t) ≡ t = omega arith in rw z refl

  all_over : (d at to : ℕ) → to ≡ at + d → ((k : ℕ) → at ≤ k → k < to → link_known n two ls ms k ≡ true) → SameLeft at to
  all_over zero at to e f = let q : to ≡ at = omega arith in rw q refl
  all_over (suc d) at to e f = one_over at (f at (omega arith) (omega arith)) ∙ all_over d (suc at) to (omega arith) (λ k h l. f k (omega arith) l)

-- a list is gone through from one link on to another: whatever is left of it now, and then becomes of the marks, is so from where it began
pub record Walks (n row : ℕ) (two : Bool) (ls : List ℕ) (end from : ℕ) (before : List ℕ) (at : ℕ) (now : List ℕ) : Type 0 where
  pub ready : Ready n ls now
  pub size : length now ≡ length before
  pub back : (after : List ℕ) → Noted n row ls (left two ls end at) now after → Noted n row ls (left two ls end from) before after

pub walks_self : {n row : ℕ} {two : Bool} {ls : List ℕ} {end at : ℕ} {ms : List ℕ} → Ready n ls ms → Walks n row two ls end at ms at ms
walks_self r = record { ready = r; size = refl; back = λ after m. m }

pub walks_both : {n row : ℕ} {two : Bool} {ls : List ℕ} {end x y z : ℕ} {a b c : List ℕ} → Walks n row two ls end x a y b → Walks n row two ls end y b z c → Walks n row two ls end x a z c
walks_both p q = record { ready = q.ready; size = q.size ∙ p.size; back = λ after m. p.back after (q.back after m) }

-- the list and its marks are there, from `base` on
pub record Walkable (n row : ℕ) (two : Bool) (ls : List ℕ) (base end : ℕ) : Type 0 where
  pub low : row ≤ n
  pub inside : end ≤ length ls / link_width
  pub place : base ≡ base_of n two ls

pub marks_inside : {n row : ℕ} {two : Bool} {ls : List ℕ} {base end : ℕ} {ms : List ℕ} → Walkable n row two ls base end → Ready n ls ms → base + end ≤ length ms
marks_inside {two = true} w r = omega (arith, w.inside, w.place, r.room)
marks_inside {two = false} w r = omega (arith, w.inside, w.place, r.room)

module _ {n row : ℕ} {two : Bool} {ls : List ℕ} {base end : ℕ} (w : Walkable n row two ls base end) where
  -- over links that are settled
  pub walks_over : {at to : ℕ} {before after : List ℕ} → Ready n ls before → length after ≡ length before → Skips base at end before after to → Walks n row two ls end at before to after
  walks_over {at} {to} {before} {after} r e t = record { ready = m.ready; size = e; back = λ z u. record { names = names z u.names; ready = u.ready } }
    where
      s : Skips (base_of n two ls) at end before after to
      s = rw w.place at t

      m : Noted n row ls [] before after
      m = noted_over two w.low r e w.inside s

      names : (z : List ℕ) → Names n row (left two ls end to) after z → Names n row (left two ls end at) before z
      names z u = record {
        earlier = λ j k. u.earlier j k ∙ ap (once_more row (times j (left two ls end to))) (m.names.earlier j k) ∙ sym (all_over n row two ls before end j (omega (arith, r.rows, w.low)) (to - at) at to (omega (arith, s.onward)) (s.between _ _ w.inside (r.settled two)));
        later = λ j k i. u.later j k i ∙ m.names.later j k i;
      }

  -- over a link whose rows are named, and noted
  pub walks_link : {at x y : ℕ} {a b c d : List ℕ} → at < end → Ready n ls a → x ≡ first_of ls at → y ≡ second_of two ls at → b ≡ noted row x a → c ≡ noted row y b → d ≡ cond (known n c x && known n c y) (set c (base + at) (at + 1)) c → length d ≡ length a → Walks n row two ls end at a (at + 1) d
  unfolding names_from
  walks_link {at} {x} {y} {a} {b} {c} {d} h r e f p q s k =
      let j : end - at ≡ suc (end - (at + 1)) = omega arith in
      let o : at + 1 ≡ suc at = omega arith in
      record { ready = u.ready; size = k; back = λ z m. rw (j, ← o, ← e, ← f) (noted_both u m) }
    where
      first : Noted n row ls (x ∷ []) a b
      first = rw p (noted_one x w.low r)

      second : Noted n row ls (y ∷ []) b c
      second = rw q (noted_one y w.low first.ready)

      third : Noted n row ls [] c d
      third = rw (s, w.place, e, f) (noted_link two w.low second.ready (omega (arith, w.inside)))

      u : Noted n row ls (x ∷ y ∷ []) a d
      u = noted_both first (noted_both second third)

  pub walks_end : {from at : ℕ} {before now : List ℕ} (count : ℕ) → Walks n row two ls end from before at now → end ≡ from + count → end ≤ at → Noted n row ls (names_from two ls from count) before now
  unfolding names_from
  walks_end {from} {at} {before} {now} count v e h =
      let y : end - at ≡ 0 = omega arith in
      let z : end - from ≡ count = omega arith in
      rw z at (v.back now (rw y (noted_none w.low v.ready)))

-- links from one on hold the rows that are named from it on, and absent ones; links of names hold none
module _ (ls : List ℕ) where
  at_link : (from : ℕ) → (get_or (drop (link_width * from) ls) 0 0 ≡ first_of ls from) × (get_or (drop (link_width * from) ls) 1 0 ≡ get_or ls (link_width * from + 1) 0) × (drop link_width (drop (link_width * from) ls) ≡ drop (link_width * suc from) ls)
  at_link from =
      let z : link_width * from + 0 ≡ link_width * from = omega arith in
      let y : link_width * from + link_width ≡ link_width * suc from = omega arith in
      (get_or-drop (link_width * from) ls 0 0 ∙ ap (λ i. get_or ls i 0) z, get_or-drop (link_width * from) ls 1 0, drop-drop link_width (link_width * from) ls ∙ ap (λ i. drop i ls) y)

  linked_names : (two : Bool) (j : ℕ) → j < absent → (n from : ℕ) → times j (names_from two ls from n) ≡ times j (names_in (linked_items (cond two Sort.Entries Sort.Nodes) n (drop (link_width * from) ls)))
  unfolding names_from linked_items
  linked_names two j h zero from = refl
  linked_names true j h (suc n) from =
      let (a, b, c) = at_link from in
      rw (a, b, c, linked_names true j h n (suc from)) refl
  linked_names false j h (suc n) from =
      let (a, b, c) = at_link from in
      let z : 0 + times j (names_from false ls (suc from) n) ≡ times j (names_from false ls (suc from) n) = omega arith in
      rw (a, c, ne_eqb j absent (λ e. omega arith), z, linked_names false j h n (suc from)) refl

  linked_none : (n : ℕ) (l : List ℕ) → names_in (linked_items Sort.Names n l) ≡ []
  unfolding linked_items
  linked_none zero l = refl
  linked_none (suc n) l = linked_none n (drop link_width l)

-- so what a list names, its slot does
module _ {n row : ℕ} {ls before after : List ℕ} (f c : ℕ) (l : row ≤ n) where
  pub list_noted : (two : Bool) → Noted n row ls (names_from two ls f c) before after → Noted n row ls (names_in (contents ls (Content.List (cond two Sort.Entries Sort.Nodes) f c))) before after
  list_noted two m = noted_alike l (λ j h. linked_names ls two j h c f) m

  pub names_noted : Noted n row ls [] before after → Noted n row ls (names_in (contents ls (Content.List Sort.Names f c))) before after
  names_noted m = rw (linked_none ls c (drop (link_width * f) ls)) m

-- the three slots of a row
pub slots_noted : {n row : ℕ} {ls a b c d : List ℕ} (x y z : Slot) → Noted n row ls (names_in (held ls x)) a b → Noted n row ls (names_in (held ls y)) b c → Noted n row ls (names_in (held ls z)) c d → Noted n row ls (names_in (held ls x ++ (held ls y ++ held ls z))) a d
slots_noted {ls = ls} x y z p q r = rw (names_append (held ls x), names_append (held ls y)) (noted_both p (noted_both q r))
