-- A row cut by the table: the table has the slots of each kind, one after another, and they stand in the row.
use Prim.Native.Nat.{ℕ, ◌+◌, ◌-◌, ◌*◌, ◌≤◌, ◌<◌}
use native.Mathlib.Omega.{arith}
use mathlib.Core.Bool.{Bool, ◌&&◌}
use mathlib.Core.List.{List}
use mathlib.Core.Path.{◌≡◌, refl, sym, ap, ◌∙◌}
use lib.Dec.{T, leb, leb→le}
use lib.ListN.{length, get_or, take, drop}
use lib.Seq.{get_or-drop, get_or-take}
use Rattle.grammar.specs.Edition.{Edition}
use Rattle.grammar.specs.Layout.{layout}
use Rattle.grammar.specs.Room.{node_width, own_width}
use Rattle.grammar.specs.Symbol.{same}
use Rattle.grammar.proofs.Tests.{passes, within, both, same_means}
use Rattle.checker.specs.Slots.{line, table, slot_at, cell, cut_of, Standing}
use Rattle.checker.specs.declared.slots.Cut.{Cut}
use Rattle.checker.specs.declared.slots.Slot.{Slot}

-- the table has the line of each kind: three slots at most, each of whose first two numbers stand in the row, and no more than its own numbers
right : Edition → ℕ → Bool
right e k = leb (length (layout e k)) 3 && (leb (get_or (line (layout e k)) 2 0) 8 && (leb (get_or (line (layout e k)) 4 0) 8 && (leb (get_or (line (layout e k)) 5 0) own_width && same (take 6 (drop (6 * (k - 1)) (table e))) (line (layout e k)))))

all_right : (e : Edition) → T (passes (right e) 1 26)
unfolding right layout table same
all_right Edition.first = tt
all_right Edition.second = tt

pub record Tabled (e : Edition) (k : ℕ) : Type 0 where
  pub few : length (layout e k) ≤ 3
  pub second : get_or (line (layout e k)) 2 0 ≤ 8
  pub third : get_or (line (layout e k)) 4 0 ≤ 8
  pub rest : get_or (line (layout e k)) 5 0 ≤ own_width
  pub says : take 6 (drop (6 * (k - 1)) (table e)) ≡ line (layout e k)

tabled : (e : Edition) (k : ℕ) → 1 ≤ k → k ≤ 26 → Tabled e k
unfolding right
tabled e k h l =
    let (a, r₁) = both (leb (length (layout e k)) 3) _ (within (right e) 1 26 k (all_right e) h (omega arith)) in
    let (b, r₂) = both (leb (get_or (line (layout e k)) 2 0) 8) _ r₁ in
    let (c, r₃) = both (leb (get_or (line (layout e k)) 4 0) 8) _ r₂ in
    let (d, f) = both (leb (get_or (line (layout e k)) 5 0) own_width) _ r₃ in
    record { few = leb→le _ 3 a; second = leb→le _ 8 b; third = leb→le _ 8 c; rest = leb→le _ own_width d; says = same_means _ _ f }

-- so a row is cut as the layout of its kind says
abbrev pub cut_by : (nodes : List ℕ) (row : ℕ) (cells : List ℕ) → Cut
cut_by ns row l = record {
  first = slot_at ns (get_or l 0 0) (node_width * row + 3);
  second = slot_at ns (get_or l 1 0) (node_width * row + get_or l 2 0);
  third = slot_at ns (get_or l 3 0) (node_width * row + get_or l 4 0);
  rest = node_width * row + get_or l 5 0;
}

module _ (e : Edition) {t ns : List ℕ} {row : ℕ} (same-table : t ≡ table e) (s : Standing t ns row) where
  abbrev kind : ℕ
  kind = get_or ns (node_width * row) 0

  pub stood : Tabled e kind
  stood = tabled e kind s.least s.most

  cells : (j : ℕ) → j < 6 → cell t ns row j ≡ get_or (line (layout e kind)) j 0
  cells j h = ap (λ (l : List ℕ). get_or l (6 * (kind - 1) + j) 0) same-table ∙ sym (get_or-drop (6 * (kind - 1)) (table e) j 0) ∙ sym (get_or-take 6 (drop (6 * (kind - 1)) (table e)) j 0 h) ∙ ap (λ (l : List ℕ). get_or l j 0) stood.says

  pub cut_is : cut_of t ns row ≡ cut_by ns row (line (layout e kind))
  unfolding cut_of
  cut_is = rw (cells 0 (omega arith), cells 1 (omega arith), cells 2 (omega arith), cells 3 (omega arith), cells 4 (omega arith), cells 5 (omega arith)) refl

-- the table's size, and where the slots of a row that stands are
record Placed (t ns : List ℕ) (row : ℕ) : Type 0 where
  size : length t ≡ 156
  second : cell t ns row 2 ≤ 8
  third : cell t ns row 4 ≤ 8
  rest : cell t ns row 5 ≤ own_width

table_size : (e : Edition) → length (table e) ≡ 156
unfolding table
table_size Edition.first = refl
table_size Edition.second = refl

placed : {t ns : List ℕ} {row : ℕ} → Standing t ns row → Placed t ns row
placed s =
    let e = s.edition in
    let b = stood e s.same s in
    record {
      size = ap length s.same ∙ table_size e;
      second = rw (cells e s.same s 2 (omega arith)) b.second;
      third = rw (cells e s.same s 4 (omega arith)) b.third;
      rest = rw (cells e s.same s 5 (omega arith)) b.rest;
    }

-- so what `cut_row` reads is there, and is the cut
module _ {t ns : List ℕ} {row : ℕ} (s : Standing t ns row) where
  pub in_table : (j : ℕ) → j < 6 → 6 * (get_or ns (node_width * row) 0 - 1) + j < length t
  in_table j h = omega (arith, s.least, s.most, (placed s).size)

  pub at_table : 6 * (get_or ns (node_width * row) 0 - 1) < length t
  at_table = omega (arith, in_table 0 (omega arith))

  pub at_second : {p : ℕ} → p ≡ cell t ns row 2 → node_width * row + p + 1 < length ns
  at_second e = omega (arith, s.room, (placed s).second)

  pub at_third : {p : ℕ} → p ≡ cell t ns row 4 → node_width * row + p + 1 < length ns
  at_third e = omega (arith, s.room, (placed s).third)

  pub rest_inside : {c : Cut} → c ≡ cut_of t ns row → c.rest ≤ node_width * row + own_width
  unfolding cut_of
  rest_inside e = omega (arith, ap (λ (d : Cut). d.rest) e, (placed s).rest)

pub cut_made : (t ns : List ℕ) (row : ℕ) {a b c : Slot} {k l m p q r : ℕ} → k ≡ get_or t (6 * (get_or ns (node_width * row) 0 - 1)) 0 → a ≡ slot_at ns k (node_width * row + 3) →
    l ≡ cell t ns row 1 → p ≡ cell t ns row 2 → b ≡ slot_at ns l (node_width * row + p) → m ≡ cell t ns row 3 → q ≡ cell t ns row 4 → c ≡ slot_at ns m (node_width * row + q) → r ≡ cell t ns row 5 →
    record { first = a; second = b; third = c; rest = node_width * row + r } ≡ cut_of t ns row
unfolding cut_of
cut_made t ns row e₁ e₂ e₃ e₄ e₅ e₆ e₇ e₈ e₉ = let z : 6 * (get_or ns (node_width * row) 0 - 1) + 0 ≡ 6 * (get_or ns (node_width * row) 0 - 1) = omega arith in rw z (cc)
