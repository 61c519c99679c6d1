-- What a row that names others makes of the marks, step by step: a row that is named, a link that is settled, links that are passed over. What is known of a row stays known,
-- so links that are settled stay so.
use Prim.Native.Nat.{ℕ, zero, suc, ◌+◌, ◌/◌, ◌≤◌, ◌<◌}
use native.Mathlib.Decide.{dec_lt}
use native.Mathlib.Omega.{arith}
use mathlib.Core.Bool.{Bool, true, false, cond, ◌&&◌, ◌||◌}
use mathlib.Core.List.{List, [], ◌∷◌, ◌++◌}
use mathlib.Core.Path.{◌≡◌, refl, sym, ap, ◌∙◌}
use lib.Dec.{eqb, ltb}
use borrow.Author.Tests.{eqb-true, eqb-false, ltb-true, eq-eqb, ne_eqb, lt-ltb}
use lib.ListN.{length, get_or, set, length-set}
use lib.Seq.{get_or-set_same, get_or-set_other}
use Rattle.grammar.specs.Handle.{absent}
use Rattle.grammar.specs.Naming.{times}
use Rattle.grammar.specs.Room.{link_width}
use Rattle.grammar.proofs.Forest.{times_append}
use Rattle.checker.specs.Marks.{Settled, Within, Skips}
use Rattle.checker.specs.Named.{once_more, noted, Names, known, first_of, second_of, link_known, base_of, Ready, Noted}
use Rattle.checker.proofs.Laws.{both_true, true_both, settled_same}
use Rattle.checker.proofs.Skipping.{within_one, settled_one}

-- to be named when nothing is to be learnt; and to be named so often, and then so often again
pub once_known : (row t : ℕ) → once_more row t absent ≡ absent
once_known row zero = refl
once_known row (suc zero) = refl
once_known row (suc (suc t)) = refl

once_sum : (row t u s : ℕ) → 0 < row → once_more row (t + u) s ≡ once_more row u (once_more row t s)
once_sum row zero u s h = let z : 0 + u ≡ u = omega arith in rw z refl
once_sum row (suc t) zero s h = let z : suc t + 0 ≡ suc t = omega arith in rw z refl
once_sum row (suc zero) (suc zero) s h = pick (eqb s 0)
  where
    pick : (c : Bool) → absent ≡ cond (eqb (cond c row absent) 0) row absent
    pick true = rw (ne_eqb row 0 (λ e. omega arith)) refl
    pick false = refl
once_sum row (suc zero) (suc (suc u)) s h = let z : 1 + suc (suc u) ≡ suc (suc (suc u)) = omega arith in rw z refl
once_sum row (suc (suc t)) (suc u) s h = let z : suc (suc t) + suc u ≡ suc (suc (t + suc u)) = omega arith in rw z (sym (once_known row (suc u)))

-- row x is named
module _ (row x : ℕ) (ms : List ℕ) where
  abbrev more : ℕ
  more = once_more row 1 (get_or ms x 0)

  noted_length : length (noted row x ms) ≡ length ms
  noted_length = pick (ltb x row)
    where
      pick : (c : Bool) → length (cond c (set ms x more) ms) ≡ length ms
      pick true = length-set ms x more
      pick false = refl

  noted_later : (j : ℕ) → row ≤ j → get_or (noted row x ms) j 0 ≡ get_or ms j 0
  noted_later j h = pick (ltb x row) refl
    where
      pick : (c : Bool) → ltb x row ≡ c → get_or (cond c (set ms x more) ms) j 0 ≡ get_or ms j 0
      pick true e = get_or-set_other ms x j more 0 (λ q. omega (arith, ltb-true x row e))
      pick false e = refl

  noted_earlier : row ≤ length ms → (j : ℕ) → j < row → get_or (noted row x ms) j 0 ≡ once_more row (cond (eqb j x) 1 0) (get_or ms j 0)
  noted_earlier r j h = pick (eqb j x) refl
    where
      other : (j ≡ x → ⊥) → (c : Bool) → get_or (cond c (set ms x more) ms) j 0 ≡ get_or ms j 0
      other n true = get_or-set_other ms x j more 0 n
      other n false = refl

      pick : (c : Bool) → eqb j x ≡ c → get_or (noted row x ms) j 0 ≡ once_more row (cond c 1 0) (get_or ms j 0)
      pick true e = let z = eqb-true j x e in rw (← z, lt-ltb j row h) (get_or-set_same ms j (once_more row 1 (get_or ms j 0)) 0 (omega arith))
      pick false e = other (eqb-false j x e) (ltb x row)

  names_one : {n : ℕ} → row ≤ length ms → Names n row (x ∷ []) ms (noted row x ms)
  names_one r = record {
    earlier = λ j h. let z : cond (eqb j x) 1 0 + 0 ≡ cond (eqb j x) 1 0 = omega arith in noted_earlier r j h ∙ rw z refl;
    later = λ j h l. noted_later j h;
  }

-- no mark of a row changes; one list and then another
names_none : {n row : ℕ} {before after : List ℕ} → row ≤ n → ((j : ℕ) → j < n → get_or after j 0 ≡ get_or before j 0) → Names n row [] before after
names_none r f = record { earlier = λ j h. f j (omega arith); later = λ j h l. f j l }

names_both : {n row : ℕ} {xs ys a b c : List ℕ} → Names n row xs a b → Names n row ys b c → Names n row (xs ++ ys) a c
names_both {row = row} {xs = xs} {ys = ys} {a = a} p q = record {
  earlier = λ j h. q.earlier j h ∙ ap (once_more row (times j ys)) (p.earlier j h) ∙ sym (ap (λ t. once_more row t (get_or a j 0)) (times_append j xs ys) ∙ once_sum row (times j xs) (times j ys) (get_or a j 0) (omega arith));
  later = λ j h l. q.later j h l ∙ p.later j h l;
}

-- what is known stays known
pub known_marked : (n : ℕ) (ms : List ℕ) (x : ℕ) → x < absent → known n ms x ≡ true → (x < n) × (get_or ms x 0 ≡ absent)
known_marked n ms x h k =
    let (a, b) = both_true (ltb x n) (eqb (get_or ms x 0) absent) (rw (ne_eqb x absent (λ e. omega arith)) at k) in
    (ltb-true x n a, eqb-true (get_or ms x 0) absent b)

module _ {n row : ℕ} {xs before after : List ℕ} (m : Names n row xs before after) where
  mark_on : (j : ℕ) → j < n → get_or before j 0 ≡ absent → get_or after j 0 ≡ absent
  mark_on j h e = elim (dec_lt j row) [ yes k ↦ m.earlier j k ∙ ap (once_more row (times j xs)) e ∙ once_known row (times j xs) | no k ↦ m.later j (omega arith) h ∙ e ]

  known_on : (x : ℕ) → known n before x ≡ true → known n after x ≡ true
  known_on x k = pick (eqb x absent) k
    where
      pick : (c : Bool) → (c || (ltb x n && eqb (get_or before x 0) absent)) ≡ true → (c || (ltb x n && eqb (get_or after x 0) absent)) ≡ true
      pick true e = refl
      pick false e = let (a, b) = both_true (ltb x n) (eqb (get_or before x 0) absent) e in true_both a (eq-eqb (get_or after x 0) absent (mark_on x (ltb-true x n a) (eqb-true (get_or before x 0) absent b)))

  link_known_on : (two : Bool) (ls : List ℕ) (k : ℕ) → link_known n two ls before k ≡ true → link_known n two ls after k ≡ true
  unfolding link_known
  link_known_on two ls k e = let (a, b) = both_true (known n before (first_of ls k)) (known n before (second_of two ls k)) e in true_both (known_on (first_of ls k) a) (known_on (second_of two ls k) b)

-- so where the links' marks are right of what was known, they are right of what is
noted_by : {n row : ℕ} {ls xs before after : List ℕ} → Ready n ls before → length after ≡ length before → Names n row xs before after → ((two : Bool) → Settled (link_known n two ls before) (base_of n two ls) (length ls / link_width) after) → Noted n row ls xs before after
noted_by {ls = ls} r e m s = record {
  names = m;
  ready = record { few = r.few; rows = r.rows; room = omega (arith, r.room); settled = λ two. record { right = λ k j h l u. link_known_on m two ls j ((s two).right k j h l u) } };
}

pub noted_none : {n row : ℕ} {ls ms : List ℕ} → row ≤ n → Ready n ls ms → Noted n row ls [] ms ms
noted_none l r = record { names = names_none l (λ j h. refl); ready = r }

pub noted_one : {n row : ℕ} {ls ms : List ℕ} (x : ℕ) → row ≤ n → Ready n ls ms → Noted n row ls (x ∷ []) ms (noted row x ms)
noted_one {n} {row} {ls} {ms} x l r = noted_by r (noted_length row x ms) (names_one row x ms (omega (arith, r.room))) (λ two. settled_same (λ k h. noted_later row x ms (base_of n two ls + k) (omega arith)) (r.settled two))

pub noted_both : {n row : ℕ} {ls xs ys a b c : List ℕ} → Noted n row ls xs a b → Noted n row ls ys b c → Noted n row ls (xs ++ ys) a c
noted_both p q = record { names = names_both p.names q.names; ready = q.ready }

-- lists that have every row as often as each other
pub noted_alike : {n row : ℕ} {ls xs ys before after : List ℕ} → row ≤ n → ((j : ℕ) → j < absent → times j xs ≡ times j ys) → Noted n row ls xs before after → Noted n row ls ys before after
noted_alike {row = row} {before = before} l f m = record {
  names = record { earlier = λ j h. m.names.earlier j h ∙ ap (λ t. once_more row t (get_or before j 0)) (f j (omega (arith, m.ready.rows))); later = m.names.later };
  ready = m.ready;
}

-- marks of links change, those of one sort of lists, and stay right
module _ {n row : ℕ} (two : Bool) {ls before after : List ℕ} (l : row ≤ n) (r : Ready n ls before) (e : length after ≡ length before) where
  noted_within : {end : ℕ} → end ≤ length ls / link_width → Within (base_of n two ls) end before after → Settled (link_known n two ls before) (base_of n two ls) (length ls / link_width) after → Noted n row ls [] before after
  noted_within h w s = noted_by r e (names_none l (λ j k. w.low j (omega arith))) (λ u. each two u h w s (r.settled u))
    where
      each : (two u : Bool) {end : ℕ} → end ≤ length ls / link_width → Within (base_of n two ls) end before after → Settled (link_known n two ls before) (base_of n two ls) (length ls / link_width) after → Settled (link_known n u ls before) (base_of n u ls) (length ls / link_width) before → Settled (link_known n u ls before) (base_of n u ls) (length ls / link_width) after
      each false false h w s t = s
      each true true h w s t = s
      each false true h w s t = settled_same (λ k i. w.high _ (omega arith)) t
      each true false h w s t = settled_same (λ k i. w.low _ (omega arith)) t

  -- the links that were passed over are settled
  pub noted_over : {at end to : ℕ} → end ≤ length ls / link_width → Skips (base_of n two ls) at end before after to → Noted n row ls [] before after
  noted_over h s = noted_within h s.within (s.settled _ _ h (r.settled two))

-- and so is a link of which nothing is to be learnt
pub noted_link : {n row : ℕ} (two : Bool) {at : ℕ} {ls ms : List ℕ} → row ≤ n → Ready n ls ms → at < length ls / link_width → Noted n row ls [] ms (cond (known n ms (first_of ls at) && known n ms (second_of two ls at)) (set ms (base_of n two ls + at) (at + 1)) ms)
unfolding link_known
noted_link {n} {row} two {at} {ls} {ms} l r h = pick (link_known n two ls ms at) refl
  where
    mark : ℕ
    mark = base_of n two ls + at

    inside : (two : Bool) → base_of n two ls + at < length ms
    inside true = omega (arith, r.room)
    inside false = omega (arith, r.room)

    right : link_known n two ls ms at ≡ true → Settled (link_known n two ls ms) (base_of n two ls) (length ls / link_width) (set ms mark (at + 1))
    right e = settled_one (inside two) (λ j i k. let q : j ≡ at = omega arith in rw q e) (r.settled two)

    pick : (c : Bool) → link_known n two ls ms at ≡ c → Noted n row ls [] ms (cond c (set ms mark (at + 1)) ms)
    pick true e = noted_within two l r (length-set ms mark (at + 1)) (omega arith) (within_one (at + 1) h) (right e)
    pick false e = noted_none l r
