-- The root's list and row, after all others are packed: its statements that are kept, and where they went.
use Prim.Native.Nat.{ℕ, zero, suc, ◌+◌, ◌-◌, ◌*◌, ◌≤◌, ◌<◌}
use native.Mathlib.Omega.{arith}
use mathlib.Core.Bool.{Bool, true, false, cond}
use mathlib.Core.List.{List, [], ◌∷◌, ◌++◌}
use mathlib.Core.Path.{◌≡◌, refl, sym, ap, ◌∙◌}
use lib.ListN.{length, get_or, length-append}
use Rattle.grammar.specs.Handle.{absent}
use Rattle.grammar.specs.Label.{Node, number_of}
use Rattle.grammar.specs.Naming.{height}
use Rattle.grammar.specs.Operator.{place}
use Rattle.grammar.specs.Room.{node_width, link_width}
use Rattle.grammar.specs.Rows.{Rows}
use Rattle.foreign.specs.Check.{link_count}
use Rattle.ast.specs.Written.{Written}
use Rattle.parts.specs.Packed.{root_row, root_first, statements, statement, keeps, kept, kept_upto, rows_kept, links_kept, links_before, root_line, root_links, packed_with}
use Rattle.parts.proofs.Sizes.{rows_kept_most, links_kept_most}
use Rattle.parts.proofs.Symbols.{root_list_below}
use Rattle.packing.specs.Good.{Good}
use Rattle.packing.specs.Roles.{role, table, at, role_at, linked}
use Rattle.packing.specs.Rows.{Mapped, PackedUpto, PacksRows, chosen, chosen_count, Listable, Lists, root_numbers, PackedAll, PackableAll, PacksAll}
use Rattle.packing.proofs.Agreeing.{AsWas, as_was}
use Rattle.packing.proofs.Numbers.{nodes_each, row_names, row_ranges}
use Rattle.packing.proofs.Slots.{own_number, front_size, stood}

-- the root's list: it begins where all others end, its links are there, and its rows come before it
block_role : (k : ℕ) → k ≡ number_of Node.Block → role k 3 ≡ 4
unfolding role table
block_role k e = rw e refl

module _ {s : ℕ} {w : Rows} (g : Good s w) where
  root_inside : root_row w < height w
  root_inside = omega (arith, g.checked.rooted.some)

  list_role : role_at w.nodes (root_row w) 3 ≡ 4
  list_role = block_role (at w.nodes (root_row w) 0) (sym (own_number w (root_row w) 0 (omega arith)) ∙ g.checked.rooted.block)

  pub root_begins : root_first w ≡ links_before w (root_row w)
  root_begins = omega (arith, own_number w (root_row w) 3 (omega arith), (row_names g (root_row w) root_inside 3 (omega arith)).begins (omega (arith, list_role)), front_size w (root_row w) (stood g root_inside))

  pub root_ends : root_first w + statements w ≤ link_count w
  root_ends = omega (arith, own_number w (root_row w) 3 (omega arith), own_number w (root_row w) 4 (omega arith), (row_ranges g (root_row w) root_inside 3 (omega arith)).list (omega (arith, list_role)))

  pub statement_below : (j : ℕ) → j < statements w → linked w.links (root_first w + j) 0 < root_row w
  statement_below j h = nodes_each (λ x. x < root_row w) w.links (statements w) (root_first w) (root_list_below g.checked) (root_first w + j) (omega arith) (omega arith)

pub statement_is : (w : Rows) (j : ℕ) → linked w.links (root_first w + j) 0 ≡ statement w j
statement_is w j = let e : link_width * (root_first w + j) + 0 ≡ link_width * (root_first w + j) = omega arith in ap (λ (x : ℕ). get_or w.links x 0) e

count_most : (choice : List ℕ) (n : ℕ) → chosen_count choice n ≤ n
unfolding chosen_count
count_most choice zero = omega arith
count_most choice (suc n) = pick (keeps choice n) (count_most choice n)
  where
    pick : (t : Bool) → chosen_count choice n ≤ n → chosen_count choice n + cond t 1 0 ≤ suc n
    pick true h = omega arith
    pick false h = omega arith

-- as many as are kept
count_kept : (choice : List ℕ) (w : Rows) (n : ℕ) → chosen_count choice n ≡ length (kept_upto (keeps choice) w n)
unfolding chosen_count kept_upto
count_kept choice w zero = refl
count_kept choice w (suc n) = pick (keeps choice n) (count_kept choice w n)
  where
    pick : (t : Bool) → chosen_count choice n ≡ length (kept_upto (keeps choice) w n) → chosen_count choice n + cond t 1 0 ≡ length (kept_upto (keeps choice) w n ++ cond t (statement w n ∷ []) [])
    pick true h = simp length-append (omega arith)
    pick false h = simp length-append (omega arith)

-- and the same links
root_links_append : (c : ℕ → Bool) (ρ : ℕ → ℕ) (w : Rows) (xs ys : List ℕ) → root_links c ρ w (xs ++ ys) ≡ root_links c ρ w xs ++ root_links c ρ w ys
unfolding root_links
root_links_append c ρ w [] ys = refl
root_links_append c ρ w (x ∷ xs) ys = rw (root_links_append c ρ w xs ys) refl

module _ {w : Rows} {count : ℕ} {choice : List ℕ} {first root : ℕ} {words places : List ℕ} (p : PackableAll w count choice first root words places) {ns ls : List ℕ} {to : ℕ} (r : PacksRows w count words places ns ls to) where
  abbrev good : Good (length words) w
  good = p.packable.good

  abbrev so_far : PackedUpto p.packable.choice p.packable.left w (root_row w) ns ls to
  so_far = r.says p.packable.mapped

  was : AsWas w (root_row w) (links_before w (root_row w)) ns ls
  was = as_was w (root_row w) (links_before w (root_row w)) ns ls so_far.nodes_left so_far.links_left so_far.node_room so_far.link_room

  still : (j : ℕ) → linked ls (first + j) 0 ≡ linked w.links (root_first w + j) 0
  still j = was.link (first + j) (omega (arith, p.list, root_begins good)) 0 ∙ ap (λ (x : ℕ). linked w.links (x + j) 0) p.list

  reaches : to ≤ first
  reaches = omega (arith, so_far.reached, links_kept_most p.packable.choice w (root_row w), p.list, root_begins good)

  pub listable : Listable ls places choice first to
  listable = record {
    back = reaches;
    room = omega (arith, root_ends good, p.list, p.all, good.links, so_far.link_room);
    rows = λ j h. rw (still j) (omega (arith, statement_below good j (omega (arith, p.all)), p.packable.room));
  }

  pub place_back : get_or places root 0 ≤ root
  place_back = rw p.packable.last (omega (arith, p.packable.mapped.rows.each (root_row w) (omega arith), rows_kept_most p.packable.choice w (root_row w)))

  pub root_there : node_width * root + node_width ≤ length ns
  root_there = omega (arith, p.packable.last, good.nodes, so_far.node_room, root_inside good)

  pub to_fits : to ≤ absent
  to_fits = omega (arith, reaches, p.list, root_ends good, good.few)

  module _ {ls' : List ℕ} {end : ℕ} (l : Lists ls places choice first to ls' end) where
    pub end_later : to ≤ end
    end_later = omega (arith, l.end)

    pub count_fits : end - to ≤ absent
    count_fits = omega (arith, l.end, count_most choice (length choice), p.all, root_ends good, good.few)

    chosen_kept : {left : List ℕ} → Mapped (keeps choice) left w count words places → (n : ℕ) → n ≤ statements w → chosen ls places choice first n ≡ root_links (keeps choice) (λ x. place x left) w (kept_upto (keeps choice) w n)
    unfolding chosen kept_upto root_links
    chosen_kept m zero h = refl
    chosen_kept {left} m (suc n) h =
        let e : get_or places (linked ls (first + n) 0) 0 ≡ rows_kept (keeps choice) w (statement w n) =
        ap (λ (x : ℕ). get_or places x 0) (still n ∙ statement_is w n) ∙ m.rows.each (statement w n) (omega (arith, statement_below good n h, statement_is w n)) in
        rw (chosen_kept m n (omega arith), e, root_links_append (keeps choice) (λ x. place x left) w (kept_upto (keeps choice) w n) (cond (keeps choice n) (statement w n ∷ []) [])) (pick (keeps choice n))
      where
        pick : (t : Bool) → root_links (keeps choice) (λ x. place x left) w (kept_upto (keeps choice) w n) ++ cond t (rows_kept (keeps choice) w (statement w n) ∷ 0 ∷ 0 ∷ []) []
            ≡ root_links (keeps choice) (λ x. place x left) w (kept_upto (keeps choice) w n) ++ root_links (keeps choice) (λ x. place x left) w (cond t (statement w n ∷ []) [])
        pick true = refl
        pick false = refl

    many : end - to ≡ length (kept (keeps choice) w)
    many = omega (arith, l.end, ap (chosen_count choice) p.all, count_kept choice w (statements w))

    packed_all : {ns' left : List ℕ} → Written (node_width * get_or places root 0) (node_width * get_or places root 0 + node_width) (root_numbers ns root to (end - to)) ns ns' → Mapped (keeps choice) left w count words places → PackedAll (keeps choice) left w ns' ls' end
    unfolding packed_with
    packed_all {left = left} one m =
        let q = r.says m in
        let e : get_or places root 0 ≡ rows_kept (keeps choice) w (root_row w) = ap (λ (x : ℕ). get_or places x 0) p.packable.last ∙ m.rows.each (root_row w) (omega arith) in
        let f : node_width * suc (rows_kept (keeps choice) w (root_row w)) ≡ node_width * get_or places root 0 + node_width = omega (arith, e) in
        let t : node_width * get_or places root 0 ≡ node_width * rows_kept (keeps choice) w (root_row w) = omega (arith, e) in
        let u : link_width * to ≡ link_width * links_kept (keeps choice) w (root_row w) = omega (arith, q.reached) in
        let start = ap (λ (x : ℕ). at ns x 1) p.packable.last ∙ was.number 1 ∙ sym (own_number w (root_row w) 1 (omega arith)) in
        let stop = ap (λ (x : ℕ). at ns x 2) p.packable.last ∙ was.number 2 ∙ sym (own_number w (root_row w) 2 (omega arith)) in
        let line : root_numbers ns root to (end - to) ≡ root_line (keeps choice) (λ x. place x left) w = rw (start, stop, many, q.reached) refl in
        let list : chosen ls places choice first (length choice) ≡ root_links (keeps choice) (λ x. place x left) w (kept (keeps choice) w) = rw p.all (chosen_kept m (statements w) (omega arith)) in
        record {
          nodes_are = rw (f, one.rows, t, q.nodes_are, line) refl;
          node_room = one.size ∙ q.node_room;
          links_are = rw (l.links_are.rows, u, q.links_are, list) refl;
          link_room = l.links_are.size ∙ q.link_room;
          wide = omega (arith, many, end_later, q.reached);
        }

    pub root_packed : {ns' : List ℕ} → Written (node_width * get_or places root 0) (node_width * get_or places root 0 + node_width) (root_numbers ns root to (end - to)) ns ns' → PacksAll w count choice words places ns' ls' end
    root_packed one = record { says = λ m. packed_all one m }
