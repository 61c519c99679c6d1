-- The marks once all rows are gone through, and what they tell. A row's mark after so many rows is told by how often those name it and by the last that does, `mark_of`: so one
-- row more makes the next marks of them. As rows name earlier ones alone, a row's parent is a later row, so no mark of a row that is named once is 0 or absent, and the last row
-- is named by none.
use Prim.Native.Nat.{ℕ, zero, suc, ◌+◌, ◌-◌, ◌*◌, ◌/◌, ◌≤◌, ◌<◌}
use native.Mathlib.Decide.{dec_lt}
use native.Mathlib.Omega.{arith}
use mathlib.Core.Bool.{Bool, true, false, cond}
use mathlib.Core.List.{List, ◌++◌, append-nil}
use mathlib.Core.Path.{◌≡◌, refl, sym, ap, ◌∙◌}
use lib.Dec.{eqb}
use borrow.Author.Tests.{eqb-true, eq-eqb, ne_eqb}
use lib.ListN.{length, get_or, replicate}
use Rattle.grammar.specs.Handle.{absent}
use Rattle.grammar.specs.Naming.{height, named_by, named_below, times}
use Rattle.grammar.specs.Parent.{parent}
use Rattle.grammar.specs.Room.{link_width}
use Rattle.grammar.specs.Rows.{Rows}
use Rattle.grammar.proofs.Forest.{times_append}
use Rattle.grammar.proofs.Parents.{no_parent, found}
use Rattle.ast.specs.Written.{Written}
use Rattle.ast.proofs.Rooms.{zero_at}
use Rattle.foreign.specs.Check.{Earlier, Once, ParentRight}
use Rattle.foreign.proofs.Walks.{named_earlier}
use Rattle.checker.specs.Named.{once_more, base_of, Ready, Noted, names_in, InLists, mark_by, mark_of, Nameable, AllNamed, is_once, is_parent}
use Rattle.checker.specs.Slots.{rows, cut_of, held, held_in, Standing}
use Rattle.checker.specs.Test.{row_keeps}
use Rattle.checker.specs.declared.slots.Cut.{Cut}
use Rattle.checker.proofs.Deciding.{earlier as earlier-names, lists_inside}
use Rattle.checker.proofs.Items.{cut_items, named_items, names_append, names_spared}
use Rattle.checker.proofs.Laws.{never, settled_none}
use Rattle.checker.proofs.Passes.{Tests}

-- what a row that stands names, by its slots; all of that is earlier or absent, if it keeps rule 3
module _ {t ns : List ℕ} {i : ℕ} (ls : List ℕ) (stands : Standing t ns i) where
  abbrev cut : Cut
  cut = cut_of t ns i

  names_held : named_by (rows ns ls) i ≡ names_in (held_in ns ls i cut)
  names_held = named_items stands.edition (rows ns ls) i ∙ ap names_in (cut_items stands.edition ns ls i stands.same stands)

  row_names : named_by (rows ns ls) i ≡ names_in (held ls cut.first ++ (held ls cut.second ++ held ls cut.third))
  unfolding held_in
  row_names = names_held ∙ rw (names_append (held ls cut.first), names_append (held ls cut.second), names_append (held ls cut.third), names_spared, append-nil) (sym (rw (names_append (held ls cut.first), names_append (held ls cut.second)) refl))

  row_earlier : (s : ℕ) → row_keeps 3 s t ns ls i ≡ true → Earlier (rows ns ls) i
  unfolding row_keeps
  row_earlier s e = rw names_held (earlier-names i s (length ls / link_width) (held_in ns ls i cut) e)

-- a mark that is of t names becomes one of t + u, where the last row among the t is no row 0
mark_step : (i u t p : ℕ) → (t ≡ 1 → 0 < p) → once_more i u (mark_by t p) ≡ mark_by (t + u) (cond (eqb u 0) p i)
mark_step i zero t p h = let z : t + 0 ≡ t = omega arith in rw z refl
mark_step i (suc zero) zero p h = refl
mark_step i (suc zero) (suc zero) p h = rw (ne_eqb p 0 (λ e. omega (arith, h refl))) refl
mark_step i (suc zero) (suc (suc t)) p h = let z : suc (suc t) + 1 ≡ suc (suc (t + 1)) = omega arith in rw z refl
mark_step i (suc (suc u)) t p h = let z : t + suc (suc u) ≡ suc (suc (t + u)) = omega arith in rw z refl

-- n rows that name earlier ones alone
module _ (w : Rows) (n : ℕ) (few : n ≤ absent) (earlier : (i : ℕ) → i < n → Earlier w i) where
  none_by : (i j : ℕ) → i < n → i ≤ j → j < absent → times j (named_by w i) ≡ 0
  none_by i j h l m = elim (dec_lt 0 (times j (named_by w i))) [ yes t ↦ absurd (omega (arith, named_earlier (earlier i h) m t)) | no t ↦ omega arith ]

  none_below : (i j : ℕ) → i ≤ n → i ≤ suc j → j < absent → times j (named_below w i) ≡ 0
  unfolding named_below
  none_below zero j h l m = refl
  none_below (suc i) j h l m = omega (arith, times_append j (named_below w i) (named_by w i), none_below i j (omega arith) (omega arith) m, none_by i j h (omega arith) m)

  parent_later : (i j : ℕ) → i ≤ n → j < absent → times j (named_below w i) ≡ 1 → (j < parent w i j) × (parent w i j < i)
  parent_later i j h m e = let f = found w j i e in (named_earlier (earlier (parent w i j) (omega (arith, f.row))) m (omega (arith, f.names)), f.row)

  mark_next : (i j : ℕ) → i < n → j < absent → mark_of w (suc i) j ≡ once_more i (times j (named_by w i)) (mark_of w i j)
  unfolding named_below parent
  mark_next i j h m = ap (λ t. mark_by t (parent w (suc i) j)) (times_append j (named_below w i) (named_by w i)) ∙ sym (mark_step i (times j (named_by w i)) (times j (named_below w i)) (parent w i j) (λ e. omega (arith, (parent_later i j (omega arith) m e).0)))

-- the first i of n rows are gone through
pub record Naming (w : Rows) (n i : ℕ) (marks : List ℕ) : Type 0 where
  pub ready : Ready n w.links marks
  pub each : (j : ℕ) → j < n → get_or marks j 0 ≡ mark_of w i j

row_more : {w : Rows} {n i : ℕ} {xs marks after : List ℕ} → ((k : ℕ) → k < n → Earlier w k) → i < n → Naming w n i marks → named_by w i ≡ xs → Noted n i w.links xs marks after → Naming w n (i + 1) after
row_more {w} {n} {i} {xs} {marks} {after} earlier h a e m = let z : i + 1 ≡ suc i = omega arith in rw z (record { ready = m.ready; each = each })
  where
    few : n ≤ absent
    few = a.ready.rows

    before : (j : ℕ) → j < i → get_or after j 0 ≡ mark_of w (suc i) j
    before j l = m.names.earlier j l ∙ ap (λ ys. once_more i (times j ys) (get_or marks j 0)) (sym e) ∙ ap (once_more i (times j (named_by w i))) (a.each j (omega arith)) ∙ sym (mark_next w n few earlier i j h (omega arith))

    later : (j : ℕ) → i ≤ j → j < n → get_or after j 0 ≡ mark_of w (suc i) j
    later j l k = m.names.later j l k ∙ a.each j k ∙ sym (mark_next w n few earlier i j h (omega arith) ∙ rw (none_by w n few earlier i j h l (omega arith)) refl)

    each : (j : ℕ) → j < n → get_or after j 0 ≡ mark_of w (suc i) j
    each j k = elim (dec_lt j i) [ yes l ↦ before j l | no l ↦ later j (omega arith) k ]

-- what is asked of them, and the marks while they are gone through
module _ {t ns ls room : List ℕ} {n : ℕ} (asked : Nameable t ns ls n room) where
  all_earlier : (k : ℕ) → k < n → Earlier (rows ns ls) k
  all_earlier k h = row_earlier ls (asked.standing.each k h) asked.symbols (asked.earlier k h)

  pub row_lists : {i : ℕ} {c : Cut} → i < n → c ≡ cut_of t ns i → InLists ls c.first × InLists ls c.second × InLists ls c.third
  row_lists {i} h e = rw e (lists_inside 3 asked.symbols t ns ls i (asked.earlier i h))

  pub naming_none : {marks : List ℕ} → (let all = n + 2 * (length ls / link_width) in Written 0 all (replicate (all - 0) 0) room marks) → Naming (rows ns ls) n 0 marks
  unfolding named_below
  naming_none {marks} z = record { ready = record { few = asked.few; rows = asked.rows; room = omega (arith, z.size, asked.room); settled = λ two. settled_none _ (free two) }; each = λ j h. zeros j (omega arith) }
    where
      zeros : (i : ℕ) → i < n + 2 * (length ls / link_width) → get_or marks i 0 ≡ 0
      zeros i h = zero_at (omega arith) z i (omega arith) h

      free : (two : Bool) (k : ℕ) → k < length ls / link_width → get_or marks (base_of n two ls + k) 0 ≡ 0
      free true k h = zeros _ (omega arith)
      free false k h = zeros _ (omega arith)

  pub naming_more : {i : ℕ} {c : Cut} {marks after : List ℕ} → i < n → c ≡ cut_of t ns i → Naming (rows ns ls) n i marks → Noted n i ls (names_in (held ls c.first ++ (held ls c.second ++ held ls c.third))) marks after → Naming (rows ns ls) n (i + 1) after
  naming_more h e a m = row_more all_earlier h a (rw e (row_names ls (asked.standing.each _ h))) m

-- what the marks of all rows tell
module _ {w : Rows} {n : ℕ} {marks : List ℕ} (few : n ≤ absent) (tall : height w ≡ n) (earlier : (i : ℕ) → i < n → Earlier w i) (a : AllNamed w n marks) where
  -- a row that is named once has its parent as its mark
  marked_once : (j : ℕ) → j < n → Once w j → (get_or marks j 0 ≡ parent w n j) × (0 < get_or marks j 0) × (get_or marks j 0 < absent)
  marked_once j h o =
      let e : times j (named_below w n) ≡ 1 = rw tall at o in
      let q : get_or marks j 0 ≡ parent w n j = a.each j h ∙ ap (λ t. mark_by t (parent w n j)) e in
      let (l, m) = parent_later w n few earlier n j (omega arith) (omega arith) e in
      (q, omega arith, omega arith)

  pub once_means : Tests (is_once marks) (Once w) (n - 1)
  once_means = record {
    means = λ j h e. rw tall (pick j e (times j (named_below w n)) (a.each j (omega arith)));
    holds = λ j h o. let (q, l, m) = marked_once j (omega arith) o in rw (ne_eqb (get_or marks j 0) 0 (λ e. omega arith), ne_eqb (get_or marks j 0) absent (λ e. omega arith)) refl;
  }
    where
      pick : (j : ℕ) → is_once marks j ≡ true → (t : ℕ) → get_or marks j 0 ≡ mark_by t (parent w n j) → t ≡ 1
      pick j e zero q = absurd (never e (rw q refl))
      pick j e (suc zero) q = refl
      pick j e (suc (suc t)) q = absurd (never e (rw q refl))

  -- where all but the last are, the last is named by none
  module _ (once : (j : ℕ) → j < n - 1 → Once w j) where
    right_mark : (j : ℕ) → j < n → cond (eqb (get_or marks j 0) 0) absent (get_or marks j 0) ≡ parent w (height w) j
    right_mark j h = rw tall (elim (dec_lt j (n - 1)) [ yes l ↦ named l | no l ↦ last (omega arith) ])
      where
        named : j < n - 1 → cond (eqb (get_or marks j 0) 0) absent (get_or marks j 0) ≡ parent w n j
        named l = let (q, m, k) = marked_once j h (once j l) in rw (ne_eqb (get_or marks j 0) 0 (λ e. omega arith)) q

        last : n ≤ suc j → cond (eqb (get_or marks j 0) 0) absent (get_or marks j 0) ≡ parent w n j
        last l = let z = none_below w n few earlier n j (omega arith) l (omega arith) in rw (a.each j h, z) (sym (no_parent w j n z))

    pub parent_means : Tests (is_parent w.nodes marks) (ParentRight w) n
    parent_means = record { means = λ j h e. eqb-true _ _ e ∙ right_mark j h; holds = λ j h p. eq-eqb _ _ (p ∙ sym (right_mark j h)) }
