-- All rows packed in place, one by one: what is packed so far, for every choice that the numbers are of, and a turn of the loop for a row that stays and for
-- one that does not.
use Prim.Native.Nat.{ℕ, suc, ◌+◌, ◌*◌, ◌≤◌, ◌<◌}
use native.Mathlib.Numerals.{add-one}
use native.Mathlib.Omega.{arith}
use mathlib.Core.Bool.{Bool, true, false}
use mathlib.Core.List.{List, append-nil}
use mathlib.Core.Path.{◌≡◌, refl, sym, ap, ◌∙◌}
use lib.ListN.{get_or}
use Rattle.grammar.specs.Handle.{absent}
use Rattle.grammar.specs.Naming.{height}
use Rattle.grammar.specs.Operator.{place}
use Rattle.grammar.specs.Room.{node_width, own_width, link_width}
use Rattle.grammar.specs.Rows.{Rows}
use Rattle.ast.specs.Written.{Written}
use Rattle.ast.proofs.Rooms.{later}
use Rattle.parts.specs.Moved.{row_links}
use Rattle.parts.specs.Packed.{root_row, stays, rows_kept, links_kept, links_before, packed_nodes, packed_links}
use Rattle.parts.proofs.Sizes.{rows_kept_most, links_kept_most, rows_kept_next, rows_kept_same, links_kept_next, links_kept_same, links_before_rises, all_links}
use Rattle.packing.specs.Roles.{lists_moved, lists_size, numbers_moved, StandsRow}
use Rattle.packing.specs.Rows.{Maps, moving, Mapped, MovesLists, MovesRow, PackedUpto, Packable}
use Rattle.packing.proofs.Agreeing.{AsWas, as_was, stands_was, sizes_was, moves_row, moves_lists, row_agrees, links_agree, packing_agrees}
use Rattle.packing.proofs.Slots.{sizes_all, stood}

pub record Packing (w : Rows) (count : ℕ) (words places : List ℕ) (i from to : ℕ) (ns ls : List ℕ) : Type 0 where
  pub each : {c : ℕ → Bool} {left : List ℕ} → Mapped c left w count words places → PackedUpto c left w i ns ls to
  pub from_is : from ≡ links_before w i
  pub most : i ≤ root_row w

pub none_packed : (w : Rows) (count : ℕ) (words places : List ℕ) → Packing w count words places 0 0 0 w.nodes w.links
unfolding rows_kept links_kept links_before packed_nodes packed_links
none_packed w count words places = record {
  each = λ p. record { nodes_are = refl; nodes_left = refl; node_room = refl; links_are = refl; links_left = refl; link_room = refl; reached = refl };
  from_is = refl;
  most = omega arith;
}

-- where rows, lists and symbols go, while row i is packed
abbrev pub maps : (words places : List ℕ) (symbols from to : ℕ) → Maps
maps words places symbols from to = record { words = words; places = places; symbols = symbols; from = from; to = to }

links_next : (w : Rows) (i : ℕ) → links_before w (suc i) ≡ links_before w i + row_links w i
unfolding links_before
links_next w i = refl

module _ {w : Rows} {count root : ℕ} {words places : List ℕ} (p : Packable w count root words places) {i from to : ℕ} {ns ls : List ℕ} (d : Packing w count words places i from to ns ls) (h : i < root) where
  under : i < root_row w
  under = omega (arith, p.last)

  abbrev so_far : PackedUpto p.choice p.left w i ns ls to
  so_far = d.each p.mapped

  was : AsWas w i (links_before w i) ns ls
  was = as_was w i (links_before w i) ns ls so_far.nodes_left so_far.links_left so_far.node_room so_far.link_room

  pub stands : StandsRow ns i
  stands = stands_was was p.good (omega (arith, under))

  size_is : lists_size ns i own_width ≡ row_links w i
  size_is = sizes_was was own_width ∙ sizes_all w i (stood p.good (omega (arith, under)))

  pub low : to ≤ from
  low = omega (arith, so_far.reached, d.from_is, links_kept_most p.choice w i)

  pub fits : from + lists_size ns i own_width ≤ absent
  fits = omega (arith, size_is, d.from_is, links_next w i, links_before_rises w (suc i) (height w) (omega (arith, under)), all_links p.good.checked, p.good.few)

  back : get_or places i 0 ≤ i
  back = omega (arith, p.mapped.rows.each i (omega (arith, under)), rows_kept_most p.choice w i)

  pub lists_ready : MovesLists (maps words places count from to) ns ls i
  lists_ready = moves_lists p.good i under was refl d.from_is low p.room

  pub row_ready : MovesRow (maps words places count from to) ns i (get_or places i 0)
  row_ready = moves_row p.good i under was refl d.from_is low p.room back

  -- a row that stays
  module _ {ns' ls' : List ℕ} (one : Written (node_width * get_or places i 0) (node_width * get_or places i 0 + node_width) (numbers_moved (moving (maps words places count from to)) ns i node_width) ns ns')
      (all : Written (link_width * to) (link_width * (to + lists_size ns i own_width)) (lists_moved (moving (maps words places count from to)) ns ls i own_width) ls ls') where
    row_kept : {c : ℕ → Bool} {left : List ℕ} → Mapped c left w count words places → stays c w i ≡ true → PackedUpto c left w (suc i) ns' ls' (to + lists_size ns i own_width)
    unfolding packed_nodes packed_links
    row_kept {c} {left} m s =
        let q = d.each m in
        let e : get_or places i 0 ≡ rows_kept c w i = m.rows.each i (omega (arith, under)) in
        let a = packing_agrees i m (omega (arith, under)) d.from_is q.reached in
        let f : node_width * rows_kept c w (suc i) ≡ node_width * get_or places i 0 + node_width = omega (arith, e, rows_kept_next c w i s) in
        let g : links_kept c w (suc i) ≡ to + lists_size ns i own_width = omega (arith, q.reached, links_kept_next c w i s, size_is) in
        let t : node_width * get_or places i 0 ≡ node_width * rows_kept c w i = omega (arith, e) in
        let u : link_width * to ≡ link_width * links_kept c w i = omega (arith, q.reached) in
        record {
          nodes_are = rw (f, one.rows, t, q.nodes_are, row_agrees p.good i under was a (λ x. refl), s) refl;
          nodes_left = later ns ns' (node_width * get_or places i 0 + node_width) (node_width * suc i) (omega (arith, back)) one.rest ∙ later w.nodes ns (node_width * i) (node_width * suc i) (omega arith) q.nodes_left;
          node_room = one.size ∙ q.node_room;
          links_are = rw (g, all.rows, u, q.links_are, links_agree p.good i under was a (λ x. refl), s) refl;
          links_left =
              later ls ls' (link_width * (to + lists_size ns i own_width)) (link_width * links_before w (suc i)) (omega (arith, low, d.from_is, size_is, links_next w i)) all.rest
              ∙ later w.links ls (link_width * links_before w i) (link_width * links_before w (suc i)) (omega (arith, links_next w i)) q.links_left;
          link_room = all.size ∙ q.link_room;
          reached = sym g;
        }

  -- one that does not
  row_left : {c : ℕ → Bool} {left : List ℕ} → Mapped c left w count words places → stays c w i ≡ false → PackedUpto c left w (suc i) ns ls to
  unfolding packed_nodes packed_links
  row_left {c} {left} m s =
      let q = d.each m in
      record {
        nodes_are = rw (rows_kept_same c w i s, q.nodes_are, s) (sym (append-nil (packed_nodes c (λ x. place x left) w i)));
        nodes_left = later w.nodes ns (node_width * i) (node_width * suc i) (omega arith) q.nodes_left;
        node_room = q.node_room;
        links_are = rw (links_kept_same c w i s, q.links_are, s) (sym (append-nil (packed_links c (λ x. place x left) w i)));
        links_left = later w.links ls (link_width * links_before w i) (link_width * links_before w (suc i)) (omega (arith, links_next w i)) q.links_left;
        link_room = q.link_room;
        reached = q.reached ∙ sym (links_kept_same c w i s);
      }

  -- the numbers say which it is
  next_place : {c : ℕ → Bool} {left : List ℕ} → Mapped c left w count words places → get_or places (i + 1) 0 ≡ rows_kept c w (suc i)
  next_place m = ap (λ (x : ℕ). get_or places x 0) (add-one i) ∙ m.rows.each (suc i) (omega (arith, under))

  row_stays : {c : ℕ → Bool} {left : List ℕ} → Mapped c left w count words places → (get_or places (i + 1) 0 ≡ get_or places i 0 → ⊥) → stays c w i ≡ true
  row_stays {c} m n = pick (stays c w i) refl
    where
      pick : (t : Bool) → stays c w i ≡ t → t ≡ true
      pick true s = refl
      pick false s = absurd (n (next_place m ∙ rows_kept_same c w i s ∙ sym (m.rows.each i (omega (arith, under)))))

  row_goes : {c : ℕ → Bool} {left : List ℕ} → Mapped c left w count words places → get_or places (i + 1) 0 ≡ get_or places i 0 → stays c w i ≡ false
  row_goes {c} m n = pick (stays c w i) refl
    where
      pick : (t : Bool) → stays c w i ≡ t → t ≡ false
      pick true s = absurd (omega (arith, n, next_place m, rows_kept_next c w i s, m.rows.each i (omega (arith, under))))
      pick false s = refl

  pub turn_kept : {size to' : ℕ} {ns' ls' ns'' ls'' : List ℕ} → (get_or places (i + 1) 0 ≡ get_or places i 0 → ⊥) → size ≡ lists_size ns i own_width →
      Written (link_width * to) (link_width * (to + lists_size ns i own_width)) (lists_moved (moving (maps words places count from to)) ns ls i own_width) ls ls' →
      Written (node_width * get_or places i 0) (node_width * get_or places i 0 + node_width) (numbers_moved (moving (maps words places count from to)) ns i node_width) ns ns' →
      ns'' ≡ ns' → ls'' ≡ ls' → to' ≡ to + size → Packing w count words places (i + 1) (from + size) to' ns'' ls''
  turn_kept n e all one a b t = rw (add-one i, a, b, t, e) record { each = λ m. row_kept one all m (row_stays m n); from_is = omega (arith, d.from_is, size_is, links_next w i); most = omega (arith, under) }

  pub turn_left : {size to' : ℕ} {ns'' ls'' : List ℕ} → get_or places (i + 1) 0 ≡ get_or places i 0 → size ≡ lists_size ns i own_width → ns'' ≡ ns → ls'' ≡ ls → to' ≡ to → Packing w count words places (i + 1) (from + size) to' ns'' ls''
  turn_left n e a b t = rw (add-one i, a, b, t, e) record { each = λ m. row_left m (row_goes m n); from_is = omega (arith, d.from_is, size_is, links_next w i); most = omega (arith, under) }
