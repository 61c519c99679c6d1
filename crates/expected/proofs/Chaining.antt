-- The marks of the cells below, outermost first, as a chain; and one construct more.
use Prim.Native.Nat.{ℕ, zero, suc, ◌+◌, ◌-◌, ◌/◌, ◌%◌, ◌≤◌, ◌<◌}
use mathlib.Core.List.{List, [], ◌∷◌, ◌++◌, map, append_assoc, append-nil}
use mathlib.Core.Path.{◌≡◌, refl, sym, ap, subst, ◌∙◌}
use native.Mathlib.Omega.{arith}
use lib.ListN.{length, get_or, take, drop, replicate, length-set, length-map}
use lib.Seq.{drop-length, drop-cons, drop-drop, take_at, take-suc-set, get_or-set_other, length-take-le}
use borrow.Author.Tests.{lt-ltb, le-ltb}
use Rattle.grammar.specs.Expected.{Opening as Open, opening}
use Rattle.grammar.proofs.Overflow.{opened_append, opened_length}
use Rattle.grammar.proofs.Stopping.{opened}
use Rattle.expected.specs.Cells.{states, cell, decoded}
use Rattle.expected.specs.Chains.{nothing, told, Chained}
use Rattle.expected.specs.Parts.{Extends}
use Rattle.expected.specs.declared.Chain.{Chain}
use Rattle.expected.specs.declared.Opening.{Opening}
use Rattle.expected.proofs.Passing.{state_unmarked}

no_openings : (os : List Open) → length os ≡ 0 → os ≡ []
no_openings [] e = refl
no_openings (o ∷ os) e = absurd (omega (arith, e))

module _ (v : ℕ) (vs : List ℕ) where
  at_state : v < 64 → opened (decoded (v ∷ vs)) ≡ opened (decoded vs)
  unfolding decoded cell
  at_state h = rw (lt-ltb v 64 h) (opened_append (get_or states v []) (decoded vs) ∙ (rw (no_openings (opened (get_or states v [])) (opened_length (get_or states v []) ∙ state_unmarked v h)) (append-nil (opened (decoded vs)))))

  at_mark : 64 ≤ v → opened (decoded (v ∷ vs)) ≡ opened (decoded vs) ++ (opening (v % 4) (v / 4 - 16) ∷ [])
  unfolding decoded cell
  at_mark h = rw (le-ltb v 64 h)

-- what is open lower down comes first
front_in : (n : ℕ) (vs : List ℕ) → (os : List Open) × (opened (decoded vs) ≡ opened (decoded (drop n vs)) ++ os)
unfolding decoded
front_in zero vs = ([], sym (append-nil (opened (decoded vs))))
front_in (suc n) [] = ([], refl)
front_in (suc n) (v ∷ vs) = let (os, e) = front_in n vs in (os ++ opened (cell v), opened_append (cell v) (decoded vs) ∙ ap (λ ps. ps ++ opened (cell v)) e ∙ append_assoc (opened (decoded (drop n vs))) os (opened (cell v)))

front : (top i : ℕ) (room : List ℕ) → top ≤ i → (os : List Open) × (opened (decoded (drop top room)) ≡ opened (decoded (drop i room)) ++ os)
front top i room h =
    let d : top + (i - top) ≡ i = omega arith in
    let (os, e) = front_in (i - top) (drop top room) in
    (os, e ∙ ap (λ vs. opened (decoded vs) ++ os) (drop-drop (i - top) top room ∙ ap (λ n. drop n room) d))

-- one more construct
map_append : (xs ys : List Opening) → map told (xs ++ ys) ≡ map told xs ++ map told ys
map_append [] ys = refl
map_append (x ∷ xs) ys = ap (λ zs. told x ∷ zs) (map_append xs ys)

pub extended : {os : List Open} {c r : Chain} {s a : ℕ} → Chained os c → Extends c s a r → c.count < 64 → Chained (os ++ (opening s a ∷ [])) r
extended {os} {c} {r} {s} {a} k e h = record {
  says = rw (e.entries_are, e.count_is, step, take-suc-set c.entries c.count (record { sort = s; at = a }) (omega (arith, k.size)), map_append (take c.count c.entries) (record { sort = s; at = a } ∷ []), k.says);
  unused = λ i l. rw (e.entries_are, get_or-set_other c.entries c.count i (record { sort = s; at = a }) nothing (λ d. absurd (omega (arith, l, d, e.count_is)))) (k.unused i (omega (arith, l, e.count_is)));
  size = ap length e.entries_are ∙ length-set c.entries c.count _ ∙ k.size;
  fits = omega (arith, e.count_is);
}
  where
    step : c.count + 1 ≡ suc c.count
    step = omega arith

pub count_length : {os : List Open} {c : Chain} → Chained os c → c.count ≡ length os
count_length {os} {c} k = sym (ap length (sym k.says) ∙ length-map (take c.count c.entries) told ∙ length-take-le c.count c.entries (omega (arith, k.size, k.fits)))

-- the cells from i on have been looked at
pub record Walking (top most : ℕ) (room : List ℕ) (c : Chain) (i : ℕ) : Type 0 where
  pub chain : Chained (opened (decoded (drop i room))) c
  pub few : c.count ≤ most
  pub low : top ≤ i
  pub high : i ≤ length room

pub walk_start : {top most : ℕ} {room : List ℕ} {c : Chain} → Chained [] c → top ≤ length room → Walking top most room c (length room)
unfolding decoded
walk_start {room = room} k h = record { chain = rw (drop-length room) k; few = omega (arith, count_length k); low = h; high = omega arith }

module _ {top most : ℕ} {room : List ℕ} {c : Chain} {i : ℕ} (w : Walking top most room c i) where
  module _ (h : top < i) where
    above : drop (i - 1) room ≡ get_or room (i - 1) 0 ∷ drop i room
    above = let e : suc (i - 1) ≡ i = omega arith in drop-cons room (i - 1) 0 (omega (arith, w.high)) ∙ ap (λ n. get_or room (i - 1) 0 ∷ drop n room) e

    pub walk_state : get_or room (i - 1) 0 < 64 → Walking top most room c (i - 1)
    walk_state l = record { chain = rw (above, at_state (get_or room (i - 1) 0) (drop i room) l) w.chain; few = w.few; low = omega arith; high = omega (arith, w.high) }

    pub walk_mark : {r : Chain} → 64 ≤ get_or room (i - 1) 0 → c.count < most → most ≤ 64 → Extends c (get_or room (i - 1) 0 % 4) (get_or room (i - 1) 0 / 4 - 16) r → Walking top most room r (i - 1)
    walk_mark l f m e = record { chain = rw (above, at_mark (get_or room (i - 1) 0) (drop i room) l) (extended w.chain e (omega arith)); few = omega (arith, e.count_is); low = omega arith; high = omega (arith, w.high) }

  -- as many as may be
  pub walked_most : most ≤ c.count → Chained (take most (opened (decoded (drop top room)))) c
  walked_most h =
      let (os, e) = front top i room w.low in
      let n : length (opened (decoded (drop i room))) ≡ most = omega (arith, count_length w.chain, w.few) in
      subst (λ ps. Chained ps c) (sym (ap (take most) e ∙ take_at (opened (decoded (drop i room))) os most n)) w.chain

zeros : (n i : ℕ) → get_or (replicate n nothing) i nothing ≡ nothing
zeros zero i = refl
zeros (suc n) zero = refl
zeros (suc n) (suc i) = zeros n i

pub no_chain : Chained [] (record { entries = replicate 64 nothing; count = 0 })
no_chain = record { says = refl; unused = λ i l. zeros 64 i; size = refl; fits = omega arith }
