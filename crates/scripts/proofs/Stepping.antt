-- The single call on a script's parts makes a step: what it leaves stands in them, and outside them nothing has changed.
use Prim.Native.Nat.{ℕ, ◌+◌, ◌*◌, ◌≤◌}
use native.Mathlib.Omega.{arith}
use mathlib.Core.List.{List, ◌++◌}
use mathlib.Core.Path.{◌≡◌, refl, sym, ap, ◌∙◌}
use lib.ListN.{length, drop, drop_of_length-le}
use Rattle.grammar.specs.Builtin.{Builtins}
use Rattle.grammar.specs.Room.{Rooms, node_width, link_width, symbol_width, scratch_width}
use Rattle.syntax.specs.Parsed.{rooms}
use Rattle.syntax.specs.declared.Numbers.{Numbers}
use Rattle.scripts.specs.Joined.{Joined, answer_width, part, row_part, answer_at, listed, Source, Single, lent}
use Rattle.scripts.specs.Steps.{Placed, Outside, OutsideRows, Step}
use Rattle.scripts.specs.declared.Place.{Place}
use Rattle.scripts.proofs.Cuts.{rows_rise, Places}
use Rattle.scripts.proofs.Parts.{anew, part_length, inside, outside}

pub rooms_same : {a b c d a' b' c' d' : List ℕ} → a ≡ a' → b ≡ b' → c ≡ c' → d ≡ d' → rooms a b c d ≡ rooms a' b' c' d'
rooms_same x y z w = rw (x, y, z, w) refl

pub single_same : {s : Source} {names : Builtins} {text text₁ : List ℕ} {edition limit : ℕ} {a : Numbers} {l l₁ m m₁ : List ℕ} {r r₁ t t₁ : Rooms} → text ≡ text₁ → l ≡ l₁ → r ≡ r₁ → m ≡ m₁ → t ≡ t₁ → Single names text edition limit l r s m t a → Single names text₁ edition limit l₁ r₁ s m₁ t₁ a
single_same d e f g h x = rw (d, e, f, g, h) at x

-- script i's part of a room, in the terms of the code, and the room with that part anew
abbrev rows_part : (width : ℕ) → Place → List ℕ → List ℕ
rows_part width q xs = part (width * q.row) (width * q.next) xs

abbrev rows_anew : (width : ℕ) → Place → (xs ys : List ℕ) → List ℕ
rows_anew width q xs ys = anew (width * q.row) (width * q.next) xs ys

abbrev rooms_part : Place → Rooms → Rooms
rooms_part q r = rooms (rows_part node_width q r.nodes) (rows_part link_width q r.links) (rows_part symbol_width q r.symbols) (rows_part scratch_width q r.scratch)

module _ {cuts : List ℕ} {rows i : ℕ} {q : Place} (k : Placed cuts rows i q) where
  -- in the terms of the code, its parts of a room are what they should be
  rows_there : (width : ℕ) (xs : List ℕ) → rows_part width q xs ≡ row_part width rows i xs
  rows_there width xs = rw (k.row_is, k.next_is) refl

  in_rows : (width : ℕ) (xs ys : List ℕ) → width * (rows * (i + 1)) ≤ length xs → length ys ≡ length (rows_part width q xs) → row_part width rows i (rows_anew width q xs ys) ≡ ys
  in_rows width xs ys h n = sym (rows_there width _) ∙ inside (width * q.row) (width * q.next) xs ys (rw (k.row_is, k.next_is) (rows_rise width rows (omega arith))) (rw k.next_is h) n

  out_rows : (width : ℕ) (xs ys : List ℕ) → width * (rows * (i + 1)) ≤ length xs → length ys ≡ length (rows_part width q xs) → OutsideRows width rows i xs (rows_anew width q xs ys)
  out_rows width xs ys h n = rw (sym k.row_is, sym k.next_is) (outside (width * q.row) (width * q.next) xs ys (rw (k.row_is, k.next_is) (rows_rise width rows (omega arith))) (rw k.next_is h) n)

module _ {s : Source} {j : Joined} {i : ℕ} {q : Place} (p : Places j i) (k : Placed j.cuts j.rows i q) where
  -- ns to ss are what the call leaves in its parts of the rooms, list' what stands in the list's part, and zs what stands where its answer is put
  pub stepped : {a : Numbers} {list list' ns ls ys ss zs : List ℕ} → Single j.names (part q.from q.upto j.text) j.edition j.limit (part q.first q.past j.lent.list) (rooms_part q j.lent.rooms) s list' (rooms ns ls ys ss) a →
      Outside q.first q.past j.lent.list list → part q.first q.past list ≡ list' →
      length ns ≡ length (rows_part node_width q j.lent.rooms.nodes) → length ls ≡ length (rows_part link_width q j.lent.rooms.links) → length ys ≡ length (rows_part symbol_width q j.lent.rooms.symbols) → length ss ≡ length (rows_part scratch_width q j.lent.rooms.scratch) →
      length zs ≡ length (answer_at i j.lent) → zs ≡ listed a ++ drop 8 (answer_at i j.lent) →
      Step s j i (lent list (rows_anew node_width q j.lent.rooms.nodes ns) (rows_anew link_width q j.lent.rooms.links ls) (rows_anew symbol_width q j.lent.rooms.symbols ys) (rows_anew scratch_width q j.lent.rooms.scratch ss) (anew (answer_width * i) (answer_width * (i + 1)) j.lent.answers zs))
  stepped {a} {ns = ns} {ls = ls} {ys = ys} {ss = ss} {zs = zs} x o l n₁ n₂ n₃ n₄ n₅ e =
      record {
        answered =
            record {
              answer = a;
              stands = inside (answer_width * i) (answer_width * (i + 1)) j.lent.answers zs (omega arith) p.answers n₅ ∙ e ∙ eight;
              single = single_same (rw (k.from_is, k.upto_is) refl) (rw (k.first_is, k.past_is) refl) (rooms_same (rows_there k node_width _) (rows_there k link_width _) (rows_there k symbol_width _) (rows_there k scratch_width _)) (sym (rw (k.first_is, k.past_is) at l))
                  (sym (rooms_same (in_rows k node_width _ ns p.nodes n₁) (in_rows k link_width _ ls p.links n₂) (in_rows k symbol_width _ ys p.symbols n₃) (in_rows k scratch_width _ ss p.scratch n₄))) x;
            };
        list = rw (k.first_is, k.past_is) at o;
        nodes = out_rows k node_width _ ns p.nodes n₁;
        links = out_rows k link_width _ ls p.links n₂;
        symbols = out_rows k symbol_width _ ys p.symbols n₃;
        scratch = out_rows k scratch_width _ ss p.scratch n₄;
        answers = outside (answer_width * i) (answer_width * (i + 1)) j.lent.answers zs (omega arith) p.answers n₅;
      }
    where
      eight : listed a ++ drop 8 (answer_at i j.lent) ≡ listed a
      eight = ap (λ xs. listed a ++ xs) (drop_of_length-le (answer_at i j.lent) {i = 8} (rw (part_length (answer_width * i) (answer_width * (i + 1)) j.lent.answers (omega arith) p.answers) (omega arith)))
