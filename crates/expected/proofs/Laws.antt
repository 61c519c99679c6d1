-- A list of the table put on a stack cell by cell, from its end.
use Prim.Native.Nat.{ℕ, suc, ◌+◌, ◌*◌, ◌-◌, ◌/◌, ◌%◌, ◌≤◌, ◌<◌}
use mathlib.Core.Bool.{Bool, true, false, cond, ◌&&◌, ◌||◌}
use mathlib.Core.List.{List, ◌∷◌, ◌++◌, append_assoc}
use mathlib.Core.Path.{◌≡◌, refl, sym, ap, subst, ◌∙◌}
use native.Mathlib.Omega.{arith}
use lib.Dec.{T, eqb, ltb, leb, leb→le, ltb→lt, eqb→eq}
use lib.ListN.{length, get_or, drop, set, length-set}
use lib.Seq.{slice, slice_empty, slice-cons, drop-cons, drop-set-lt, get_or-set_same}
use borrow.Author.Tests.{lt-ltb, le-ltb}
use Rattle.grammar.proofs.Stopping.{marks}
use Rattle.grammar.proofs.Tests.{both, within}
use Rattle.expected.specs.Cells.{states, state, cell, joined, list, opens_of, decoded, sound, listed, Sound, more, Celled, Pushed}
use Rattle.expected.specs.Tables.{lengths, lists}
use Rattle.expected.proofs.Lent.{every, at_every, lengths_length, lists_length}

-- where a list ends
abbrev pub end_of : ℕ → ℕ
end_of k = 8 * k + get_or lengths k 0

all_short : T (every (λ n. leb n 8) lengths)
unfolding lengths every
all_short = tt

pub short : (k : ℕ) → k < 171 → get_or lengths k 0 ≤ 8
short k h = leb→le (get_or lengths k 0) 8 (at_every (λ n. leb n 8) lengths k all_short (omega (arith, lengths_length)))

-- each number of a list is a state's or a mark's
right_number : ℕ → Bool
right_number v = listed v && ltb v 64

all_right : T (every right_number lists)
unfolding lists every right_number listed
all_right = tt

pub number : (i : ℕ) → i < 1368 → T (listed (get_or lists i 0)) × (get_or lists i 0 < 64)
unfolding right_number
number i h = let (a, b) = both (listed (get_or lists i 0)) (ltb (get_or lists i 0) 64) (at_every right_number lists i all_right (omega (arith, lists_length))) in (a, ltb→lt _ _ b)

-- how many constructs a list opens
pub opens_right : (c k : ℕ) → k < 171 → marks (joined c (list k)) ≡ opens_of k
unfolding states lengths lists state joined list opens_of
opens_right c k h = eqb→eq (marks (joined c (list k))) (opens_of k) (within (λ k. eqb (marks (joined c (list k))) (opens_of k)) 0 171 k tt (omega arith) h)

pub opens_few : (k : ℕ) → opens_of k ≤ 2
unfolding opens_of
opens_few k = go (ltb k 54) (ltb k 144)
  where
    go : (a b : Bool) → cond a 0 (cond b 1 2) ≤ 2
    go true b = omega arith
    go false true = omega arith
    go false false = omega arith

-- the cells of the list from i on are there, and the stack's top is t
pub record Piling (k at top : ℕ) (before after : List ℕ) (i t : ℕ) : Type 0 where
  pub low : 8 * k ≤ i
  pub high : i ≤ end_of k
  pub few : get_or lengths k 0 ≤ 8
  pub listed : k < 171
  pub height : t + (end_of k - i) ≡ top
  pub stack : decoded (drop t after) ≡ joined at (slice i (end_of k) lists) ++ decoded (drop top before)
  pub sounds : Sound (drop top before) → Sound (drop t after)
  pub same_length : length after ≡ length before

pub piling : (k at top : ℕ) (room : List ℕ) → k < 171 → Piling k at top room room (end_of k) top
unfolding joined
piling k at top room h = record {
  low = omega arith;
  high = omega arith;
  few = short k h;
  listed = h;
  height = omega arith;
  stack = rw (slice_empty (end_of k) lists);
  sounds = λ s. s;
  same_length = refl;
}

set_drop : (l : List ℕ) (t r : ℕ) → t < length l → drop t (set l t r) ≡ r ∷ drop (suc t) l
set_drop l t r h = drop-cons (set l t r) t 0 (rw (length-set l t r) h) ∙ (rw (get_or-set_same l t r 0 h, drop-set-lt (suc t) l t r (omega arith)))

piled : {k at top : ℕ} {before after : List ℕ} {i t r : ℕ} → Piling k at top before after (i + 1) (t + 1) → 8 * k ≤ i → t < length after → Celled (get_or lists i 0) at r → Piling k at top before (set after t r) i t
unfolding joined decoded
piled {k} {at} {top} {before} {after} {i} {t} {r} p h l c = record {
  low = h;
  high = omega (arith, p.high);
  few = p.few;
  listed = p.listed;
  height = omega (arith, p.height, p.high);
  stack = rw (set_drop after t r l, c.same, on, p.stack, cut, along) (sym (append_assoc (state at (get_or lists i 0)) (joined at (slice (i + 1) (end_of k) lists)) (decoded (drop top before))));
  sounds = λ s. rw (set_drop after t r l, on) (more (c.sounds (number i (omega (arith, p.few, p.high, p.listed))).0) (p.sounds s));
  same_length = length-set after t r ∙ p.same_length;
}
  where
    on : drop (suc t) after ≡ drop (t + 1) after
    on = let e : suc t ≡ t + 1 = omega arith in ap (λ n. drop n after) e

    along : slice (suc i) (end_of k) lists ≡ slice (i + 1) (end_of k) lists
    along = let e : suc i ≡ i + 1 = omega arith in ap (λ n. slice n (end_of k) lists) e

    cut : slice i (end_of k) lists ≡ get_or lists i 0 ∷ slice (suc i) (end_of k) lists
    cut = slice-cons i (end_of k) lists 0 (omega (arith, p.high)) (omega (arith, p.few, p.listed, lists_length))

pub piled_down : {k at top : ℕ} {before after : List ℕ} (i t : ℕ) {r : ℕ} → Piling k at top before after i t → 8 * k < i → 8 ≤ top → top ≤ length before → Celled (get_or lists (i - 1) 0) at r → Piling k at top before (set after (t - 1) r) (i - 1) (t - 1)
piled_down {k} {at} {top} {before} {after} i t p h n l c =
    let e : i ≡ i - 1 + 1 = omega arith in
    let d : t ≡ t - 1 + 1 = omega (arith, p.height, p.few) in
    piled (subst (λ j. Piling k at top before after (i - 1 + 1) j) d (subst (λ j. Piling k at top before after j t) e p)) (omega arith) (omega (arith, p.height, p.few, p.same_length)) c

pub pushed : {k at top : ℕ} {before after : List ℕ} {i t : ℕ} → i ≤ 8 * k → Piling k at top before after i t → Pushed k at top before after t
unfolding list
pushed {k} {at} {top} {before} {after} {i} {t} h p =
    let e : i ≡ 8 * k = omega (arith, p.low) in
    record { stack = subst (λ j. decoded (drop t after) ≡ joined at (slice j (end_of k) lists) ++ decoded (drop top before)) e p.stack; sounds = p.sounds; fits = omega (arith, p.height); near = omega (arith, p.height, p.few, p.high); same_length = p.same_length }

-- a cell of a number of a list
or_keep : (a b c d : Bool) → b ≡ false → T (a || (b && c)) → T (a || d)
or_keep true b c d e t = tt
or_keep false b c d e t = absurd (rw e at t)

or_true : (a : Bool) → T (a || true)
or_true true = tt
or_true false = tt

pub celled_state : (v at : ℕ) → v < 60 → Celled v at v
unfolding cell state sound listed
celled_state v at h = record { same = rw (lt-ltb v 60 h, lt-ltb v 64 (omega arith)); sounds = λ t. or_keep (ltb v 54) (leb 60 v) (ltb v 64) (leb 64 v) (le-ltb 59 v (omega arith)) t }

pub celled_mark : (v at : ℕ) → 60 ≤ v → v < 64 → Celled v at (at * 4 + v + 4)
unfolding cell state sound listed
celled_mark v at h l =
    let a : (at * 4 + v + 4) % 4 ≡ v - 60 = omega arith in
    let b : (at * 4 + v + 4) / 4 - 16 ≡ at = omega arith in
    record { same = rw (le-ltb v 60 h, le-ltb (at * 4 + v + 4) 64 (omega arith), a, b); sounds = λ t. rw (lt-ltb 63 (at * 4 + v + 4) (omega arith)) (or_true (ltb (at * 4 + v + 4) 54)) }
