-- Rows that pass the check of foreign rows still pass it when packed. A row that stays is named by one row, which stays or is the root; so all that it names stays, and new
-- numbers tell rows that stay apart. Each rule of a packed row is then that rule of the row that it was.
use Prim.Native.Nat.{ℕ, zero, suc, ◌+◌, ◌-◌, ◌≤◌, ◌<◌}
use native.Mathlib.Decide.{dec_lt, ℕ_discrete}
use native.Mathlib.Omega.{arith}
use mathlib.Core.Bool.{Bool, true, false, cond}
use mathlib.Core.List.{List, [], ◌∷◌, ◌++◌, map}
use mathlib.Core.Logic.{◌⊎◌, inl, inr}
use mathlib.Core.Path.{◌≡◌, refl, sym, ap, subst, ◌∙◌}
use lib.Dec.{eqb}
use borrow.Author.Tests.{eqb-true, eqb-false, eq-eqb, ne_eqb}
use lib.ListN.{length, get_or, drop, length-append}
use lib.Seq.{get_or-drop}
use Rattle.grammar.specs.Edition.{Edition}
use Rattle.grammar.specs.Handle.{absent}
use Rattle.grammar.specs.Label.{Node, number_of}
use Rattle.grammar.specs.Layout.{layout}
use Rattle.grammar.specs.Naming.{linked_nodes, naming, height, named_by, named_below, times}
use Rattle.grammar.specs.Parent.{parent, own, tenth}
use Rattle.grammar.specs.Pattern.{among}
use Rattle.grammar.specs.Room.{link_width}
use Rattle.grammar.specs.Rows.{Rows}
use Rattle.grammar.proofs.Forest.{times_append}
use Rattle.grammar.proofs.Parents.{no_parent}
use Rattle.foreign.specs.Check.{Item, node_items, items, items_of, kind_of, link_count, Each, nil, cons, KnownKind, InRange, Ranged, Before, Earlier, Once, Rooted, lists, counted, Consecutive, covered, Follows, Covering, Allowed, Present, Zero, Clean, ParentRight, Checked}
use Rattle.foreign.proofs.Each.{each_map, each_both}
use Rattle.foreign.proofs.Walks.{named_earlier}
use Rattle.parts.specs.Moved.{Move, moved_node, list_links, row_links}
use Rattle.parts.specs.Packed.{root_row, statements, statement, kept_upto, kept, stays, rows_kept, links_kept, links_before, packing, root_links, packed_with, left, renumbered, packed}
use Rattle.parts.proofs.Sizes.{rows_kept_most, rows_kept_rises, rows_kept_before, rows_kept_next, rows_kept_same, links_kept_next, links_kept_same, links_kept_most, links_kept_rises, row_counted, covered_before, all_links, named_here, named_once, parent_most, child_stays, statement_stays}
use Rattle.parts.proofs.Symbols.{place_below, times_among, among_times, kept_times, kept_below, root_list, root_names, Symbolic, staying_symbols}
use Rattle.parts.proofs.Access.{moved_item, moved_items, Shifts, shift_here, shift_on, names_in, named_items, packed_nodes_size, packed_height, packed_links_size, packed_link_count, root_own, root_tenth, root_linked, packed_tenth, packed_kind, packing_shifts, packed_items, packed_names, source}

-- laws of lists
each_of : (P : ℕ → Type 0) (xs : List ℕ) → ((x : ℕ) → 0 < times x xs → P x) → Each P xs
each_of P [] h = nil
each_of P (x ∷ xs) h = cons (h x (let z = eq-eqb x x refl in rw z (omega arith))) (each_of P xs (λ y l. h y (omega arith)))

each_two : {A : Type 0} {P Q R : A → Type 0} {xs : List A} → ((x : A) → P x → Q x → R x) → Each P xs → Each Q xs → Each R xs
each_two f nil nil = nil
each_two f (cons {x = x} p d) (cons q e) = cons (f x p q) (each_two f d e)

each_mapped : {A B : Type 0} {P : B → Type 0} (f : A → B) {xs : List A} → Each (λ x. P (f x)) xs → Each P (map f xs)
each_mapped f nil = nil
each_mapped f (cons p e) = cons p (each_mapped f e)

times_mapped : (f : ℕ → ℕ) (j : ℕ) {xs : List ℕ} → Each (λ x. f j ≡ f x → j ≡ x) xs → times (f j) (map f xs) ≡ times j xs
times_mapped f j nil = refl
times_mapped f j (cons {x = x} {xs = xs} h e) = pick (eqb j x) refl (times_mapped f j e)
  where
    pick : (t : Bool) → eqb j x ≡ t → times (f j) (map f xs) ≡ times j xs → cond (eqb (f j) (f x)) 1 0 + times (f j) (map f xs) ≡ cond t 1 0 + times j xs
    pick true z q = rw (eq-eqb (f j) (f x) (ap f (eqb-true j x z))) (omega arith)
    pick false z q = rw (ne_eqb (f j) (f x) (λ y. eqb-false j x z (h y))) (omega arith)

-- what items name
abbrev NamingOne : (ℕ → Type 0) → Item → Type 0
NamingOne P (Item.number l n) = Unit {0}
NamingOne P (Item.child x) = P x
NamingOne P (Item.option x) = P x
NamingOne P (Item.symbol x) = Unit {0}
NamingOne P (Item.list f n) = Unit {0}
NamingOne P (Item.unused x) = Unit {0}

each_named : {P : ℕ → Type 0} (is : List Item) → Each P (names_in is) → Each (NamingOne P) is
each_named [] e = nil
each_named (Item.number l n ∷ is) e = cons tt (each_named is e)
each_named (Item.child x ∷ is) (cons p e) = cons p (each_named is e)
each_named (Item.option x ∷ is) (cons p e) = cons p (each_named is e)
each_named (Item.symbol x ∷ is) e = cons tt (each_named is e)
each_named (Item.list f n ∷ is) e = cons tt (each_named is e)
each_named (Item.unused x ∷ is) e = cons tt (each_named is e)

-- where lists that follow one another lie
abbrev Lying : (from upto : ℕ) → Item → Type 0
Lying a z (Item.number l n) = Unit {0}
Lying a z (Item.child x) = Unit {0}
Lying a z (Item.option x) = Unit {0}
Lying a z (Item.symbol x) = Unit {0}
Lying a z (Item.list f n) = (a ≤ f) × (f + n ≤ z)
Lying a z (Item.unused x) = Unit {0}

lie : (a z from : ℕ) (is : List Item) → a ≤ from → from + counted (lists is) ≤ z → Consecutive from (lists is) → Each (Lying a z) is
lie a z from [] h l c = nil
lie a z from (Item.number k n ∷ is) h l c = cons tt (lie a z from is h l c)
lie a z from (Item.child x ∷ is) h l c = cons tt (lie a z from is h l c)
lie a z from (Item.option x ∷ is) h l c = cons tt (lie a z from is h l c)
lie a z from (Item.symbol x ∷ is) h l c = cons tt (lie a z from is h l c)
lie a z from (Item.list f n ∷ is) h l c = cons {x = Item.list f n} (here, there) (lie a z (from + n) is (omega arith) (omega arith) c.1)
  where
    here : a ≤ f
    here = omega (arith, c.0)

    there : f + n ≤ z
    there = omega (arith, c.0)
lie a z from (Item.unused x ∷ is) h l c = cons tt (lie a z from is h l c)

-- there is no list among statements
statements_alone : (n : ℕ) (ls : List ℕ) (js : List Item) → lists (node_items n ls ++ js) ≡ lists js
unfolding node_items
statements_alone zero ls js = refl
statements_alone (suc n) ls js = statements_alone n (drop link_width ls) js

-- moved lists follow one another where they go, and have as many links
module _ (m : Move) where
  counted_moved : (is : List Item) → counted (lists (moved_items m is)) ≡ counted (lists is)
  counted_moved [] = refl
  counted_moved (Item.number l n ∷ is) = counted_moved is
  counted_moved (Item.child x ∷ is) = counted_moved is
  counted_moved (Item.option x ∷ is) = counted_moved is
  counted_moved (Item.symbol x ∷ is) = counted_moved is
  counted_moved (Item.list f n ∷ is) = rw (counted_moved is)
  counted_moved (Item.unused x ∷ is) = counted_moved is

  following_moved : {from to : ℕ} → Shifts m from to → (is : List Item) → Consecutive from (lists is) → Consecutive to (lists (moved_items m is))
  following_moved h [] c = tt
  following_moved {from = from} h (Item.number l n ∷ is) c = following_moved h is c
  following_moved {from = from} h (Item.child x ∷ is) c = following_moved h is c
  following_moved {from = from} h (Item.option x ∷ is) c = following_moved h is c
  following_moved {from = from} h (Item.symbol x ∷ is) c = following_moved h is c
  following_moved {from = from} h (Item.list f n ∷ is) c = (ap (λ (x : ℕ). m.first x) c.0 ∙ shift_here m h, following_moved {from = from + n} (shift_on m h n) is c.1)
  following_moved {from = from} h (Item.unused x ∷ is) c = following_moved h is c

-- a row that one row names, and no other, is named once, and that row is its parent
module _ (v : Rows) (j : ℕ) where
  unnamed : (n : ℕ) → ((i : ℕ) → i < n → times j (named_by v i) ≡ 0) → times j (named_below v n) ≡ 0
  unfolding named_below
  unnamed zero h = refl
  unnamed (suc n) h = omega (arith, times_append j (named_below v n) (named_by v n), unnamed n (λ i l. h i (omega arith)), h n (omega arith))

  named_by_one : (q n : ℕ) → ((i : ℕ) → i < n → times j (named_by v i) ≡ cond (eqb i q) 1 0) → q < n → (times j (named_below v n) ≡ 1) × (parent v n j ≡ q)
  unfolding named_below parent
  named_by_one q zero h l = absurd (omega arith)
  named_by_one q (suc n) h l = elim (dec_lt q n) [ yes a ↦ before a (named_by_one q n (λ i b. h i (omega arith)) a) | no a ↦ last (omega arith) ]
    where
      before : q < n → (times j (named_below v n) ≡ 1) × (parent v n j ≡ q) → (times j (named_below v n ++ named_by v n) ≡ 1) × (cond (eqb (times j (named_by v n)) 0) (parent v n j) n ≡ q)
      before a r =
          let z : times j (named_by v n) ≡ 0 = h n (omega arith) ∙ rw (ne_eqb n q (λ x. omega arith)) refl in
          (omega (arith, times_append j (named_below v n) (named_by v n), r.0), rw z r.1)

      last : q ≡ n → (times j (named_below v n ++ named_by v n) ≡ 1) × (cond (eqb (times j (named_by v n)) 0) (parent v n j) n ≡ q)
      last a =
          let z : times j (named_by v n) ≡ 1 = h n (omega arith) ∙ rw (eq-eqb n q (sym a)) refl in
          let y = unnamed n (λ i b. h i (omega arith) ∙ rw (ne_eqb i q (λ x. omega arith)) refl) in
          (omega (arith, times_append j (named_below v n) (named_by v n)), rw z (sym a))

module _ {e : Edition} {s : ℕ} {w : Rows} (k : Checked e s w) (few : height w ≤ absent) (c : ℕ → Bool) where
  -- all that a row that stays names stays, and so do the statements that are kept
  named_stays : (i x : ℕ) → i < root_row w → stays c w i ≡ true → 0 < times x (named_by w i) → x < i → stays c w x ≡ true
  named_stays i x h t n l = let z : i ≡ tenth w x = (named_once k few x (omega arith)).only i (omega arith) n in child_stays k few c x (omega arith) (omega arith) ∙ rw (← z) t

  abbrev Staying : (i x : ℕ) → Type 0
  Staying i x = ((x < i) × (stays c w x ≡ true)) ⊎ (x ≡ absent)

  named_staying : (i : ℕ) → i < root_row w → stays c w i ≡ true → Each (Staying i) (named_by w i)
  named_staying i h t = each_two (λ x b n. pick x b n) (k.earlier i (omega arith)) (each_of (λ x. 0 < times x (named_by w i)) (named_by w i) (λ x l. l))
    where
      pick : (x : ℕ) → Before i x → 0 < times x (named_by w i) → Staying i x
      pick x (inl l) n = inl (l, named_stays i x h t n l)
      pick x (inr z) n = inr z

  in_root : (x : ℕ) → times x (kept c w) ≤ times x (named_by w (root_row w))
  in_root x = omega (arith, kept_times c w x, ap (times x) (root_names k), times_append x (root_list w) (absent ∷ []))

  kept_stays : (x : ℕ) → x < root_row w → 0 < times x (kept c w) → stays c w x ≡ true
  kept_stays x h n = let z : root_row w ≡ tenth w x = (named_once k few x h).only (root_row w) (omega arith) (omega (arith, in_root x)) in statement_stays k few c x h (sym z) ∙ times_among (kept c w) x n

  kept_staying : Each (λ x. (x < root_row w) × (stays c w x ≡ true)) (kept c w)
  kept_staying = each_two (λ x l n. (l, kept_stays x l n)) (kept_below k c) (each_of (λ x. 0 < times x (kept c w)) (kept c w) (λ x l. l))

  -- new numbers tell rows that stay apart
  same_row : (i j : ℕ) → stays c w i ≡ true → stays c w j ≡ true → rows_kept c w i ≡ rows_kept c w j → i ≡ j
  same_row i j a b z = elim (dec_lt i j) [ yes l ↦ absurd (omega (arith, rows_kept_before c w i j a l)) | no l ↦ elim (dec_lt j i) [ yes m ↦ absurd (omega (arith, rows_kept_before c w j i b m)) | no m ↦ omega arith ] ]

  -- a parent stays, or is the root
  parent_stays : (j : ℕ) → j < root_row w → stays c w j ≡ true → tenth w j < root_row w → stays c w (tenth w j) ≡ true
  parent_stays j h t l = sym (child_stays k few c j h l) ∙ t

  -- of a row that stays, those rows that stay, and the root, name it that its parent is
  by_row : (i j : ℕ) → i < root_row w → stays c w i ≡ true → j < root_row w → stays c w j ≡ true → times j (named_by w i) ≡ cond (eqb (rows_kept c w i) (rows_kept c w (tenth w j))) 1 0
  by_row i j h t g u = elim (ℕ_discrete i (tenth w j)) [ yes z ↦ here z | no z ↦ elsewhere z ]
    where
      here : i ≡ tenth w j → times j (named_by w i) ≡ cond (eqb (rows_kept c w i) (rows_kept c w (tenth w j))) 1 0
      here z = rw (eq-eqb (rows_kept c w i) (rows_kept c w (tenth w j)) (ap (rows_kept c w) z)) (ap (λ (p : ℕ). times j (named_by w p)) z ∙ (named_once k few j g).names)

      apart : (i ≡ tenth w j → ⊥) → rows_kept c w i ≡ rows_kept c w (tenth w j) → ⊥
      apart z y = elim (dec_lt (tenth w j) (root_row w)) [ yes l ↦ z (same_row i (tenth w j) t (parent_stays j g u l) y) | no l ↦ omega (arith, rows_kept_before c w i (tenth w j) t (omega (arith, parent_most k few j g))) ]

      elsewhere : (i ≡ tenth w j → ⊥) → times j (named_by w i) ≡ cond (eqb (rows_kept c w i) (rows_kept c w (tenth w j))) 1 0
      elsewhere z = rw (ne_eqb (rows_kept c w i) (rows_kept c w (tenth w j)) (apart z)) (elim (dec_lt 0 (times j (named_by w i))) [ yes l ↦ absurd (z ((named_once k few j g).only i (omega arith) l)) | no l ↦ omega arith ])

  by_root : (j : ℕ) → j < root_row w → stays c w j ≡ true → times j (kept c w) ≡ cond (eqb (rows_kept c w (root_row w)) (rows_kept c w (tenth w j))) 1 0
  by_root j g u = elim (dec_lt (tenth w j) (root_row w)) [ yes l ↦ elsewhere l | no l ↦ here (omega (arith, parent_most k few j g)) ]
    where
      here : tenth w j ≡ root_row w → times j (kept c w) ≡ cond (eqb (rows_kept c w (root_row w)) (rows_kept c w (tenth w j))) 1 0
      here z =
          let n : times j (named_by w (root_row w)) ≡ 1 = ap (λ (p : ℕ). times j (named_by w p)) (sym z) ∙ (named_once k few j g).names in
          let a = among_times (kept c w) j (sym (statement_stays k few c j g z) ∙ u) in
          rw (eq-eqb (rows_kept c w (root_row w)) (rows_kept c w (tenth w j)) (ap (rows_kept c w) (sym z))) (omega (arith, in_root j))

      elsewhere : tenth w j < root_row w → times j (kept c w) ≡ cond (eqb (rows_kept c w (root_row w)) (rows_kept c w (tenth w j))) 1 0
      elsewhere l = rw (ne_eqb (rows_kept c w (root_row w)) (rows_kept c w (tenth w j)) (λ y. omega (arith, rows_kept_before c w (tenth w j) (root_row w) (parent_stays j g u l) l))) (elim (dec_lt 0 (times j (kept c w))) [ yes n ↦ absurd (omega (arith, (named_once k few j g).only (root_row w) (omega arith) (omega (arith, in_root j)))) | no n ↦ omega arith ])

  module _ (ρ : ℕ → ℕ) where
    -- the packed rows: what holds of each row that stays, and of the root, holds of all
    every : (P : ℕ → Type 0) → ((i : ℕ) → i < root_row w → stays c w i ≡ true → P (rows_kept c w i)) → P (rows_kept c w (root_row w)) → (j : ℕ) → j < height (packed_with c ρ w) → P j
    every P f g j h = elim (dec_lt j (rows_kept c w (root_row w))) [ yes l ↦ let x = source c w (root_row w) j l in subst P x.place (f x.row x.below x.stay) | no l ↦ subst P (let z : rows_kept c w (root_row w) ≡ j = omega (arith, packed_height c ρ w) in z) g ]

    -- where a row goes
    goes_row : (i x : ℕ) → x < absent → moved_node (packing c ρ w i) x ≡ rows_kept c w x
    unfolding moved_node
    goes_row i x h = rw (ne_eqb x absent (λ z. omega arith))

    goes_absent : (i x : ℕ) → x ≡ absent → moved_node (packing c ρ w i) x ≡ absent
    unfolding moved_node
    goes_absent i x h = rw (eq-eqb x absent h)

    -- the root's row
    linked_root : (is : List ℕ) → linked_nodes (length is) (root_links c ρ w is) ≡ map (rows_kept c w) is
    unfolding linked_nodes root_links
    linked_root [] = refl
    linked_root (i ∷ is) = ap (λ (xs : List ℕ). rows_kept c w i ∷ xs) (linked_root is)

    root_named : named_by (packed_with c ρ w) (rows_kept c w (root_row w)) ≡ map (rows_kept c w) (kept c w) ++ (absent ∷ [])
    unfolding naming layout
    root_named = named_here (packed_with c ρ w) (rows_kept c w (root_row w)) Edition.second ∙ ap (λ (xs : List ℕ). naming (packed_with c ρ w).links (layout Edition.second (get_or xs 0 0)) (drop 3 xs)) (root_own c ρ w) ∙ ap (λ (ls : List ℕ). linked_nodes (length (kept c w)) ls ++ (absent ∷ [])) (root_linked c ρ w) ∙ ap (λ (xs : List ℕ). xs ++ (absent ∷ [])) (linked_root (kept c w))

    root_items : items_of e (packed_with c ρ w) (rows_kept c w (root_row w)) ≡ Item.list (links_kept c w (root_row w)) (length (kept c w)) ∷ node_items (length (kept c w)) (root_links c ρ w (kept c w)) ++ (Item.option absent ∷ Item.unused 0 ∷ Item.unused 0 ∷ Item.unused 0 ∷ [])
    unfolding items_of items layout
    root_items = ap (λ (xs : List ℕ). items (packed_with c ρ w).links (layout e (get_or xs 0 0)) (drop 3 xs)) (root_own c ρ w) ∙ ap (λ (ls : List ℕ). Item.list (links_kept c w (root_row w)) (length (kept c w)) ∷ node_items (length (kept c w)) ls ++ (Item.option absent ∷ Item.unused 0 ∷ Item.unused 0 ∷ Item.unused 0 ∷ [])) (root_linked c ρ w)

    statements_each : {Q : Item → Type 0} → Q (Item.unused 0) → {is : List ℕ} → Each (λ i. Q (Item.child (rows_kept c w i))) is → Each Q (node_items (length is) (root_links c ρ w is))
    unfolding node_items root_links
    statements_each q nil = nil
    statements_each q (cons p h) = cons p (cons q (cons q (statements_each q h)))

    root_each : (Q : Item → Type 0) → Q (Item.list (links_kept c w (root_row w)) (length (kept c w))) → Q (Item.option absent) → Q (Item.unused 0) → Each (λ i. Q (Item.child (rows_kept c w i))) (kept c w) → Each Q (items_of e (packed_with c ρ w) (rows_kept c w (root_row w)))
    root_each Q l o u h = rw root_items (cons l (each_both (statements_each u h) (cons o (cons u (cons u (cons u nil))))))

    -- which rows name the row that comes of j
    tally : (j : ℕ) → j < root_row w → stays c w j ≡ true → (i : ℕ) → i < height (packed_with c ρ w) → times (rows_kept c w j) (named_by (packed_with c ρ w) i) ≡ cond (eqb i (rows_kept c w (tenth w j))) 1 0
    tally j g u = every (λ i. times (rows_kept c w j) (named_by (packed_with c ρ w) i) ≡ cond (eqb i (rows_kept c w (tenth w j))) 1 0) at_row at_root
      where
        apart : (i x : ℕ) → i < root_row w → Staying i x → moved_node (packing c ρ w i) j ≡ moved_node (packing c ρ w i) x → j ≡ x
        apart i x h (inl (l, t)) z = same_row j x u t (sym (goes_row i j (omega arith)) ∙ z ∙ goes_row i x (omega arith))
        apart i x h (inr l) z = absurd (omega (arith, goes_row i j (omega arith), goes_absent i x l, rows_kept_most c w j))

        at_row : (i : ℕ) → i < root_row w → stays c w i ≡ true → times (rows_kept c w j) (named_by (packed_with c ρ w) (rows_kept c w i)) ≡ cond (eqb (rows_kept c w i) (rows_kept c w (tenth w j))) 1 0
        at_row i h t =
            let m = packing c ρ w i in
            ap (times (rows_kept c w j)) (packed_names c ρ w i h t k) ∙ ap (λ (x : ℕ). times x (map (moved_node m) (named_by w i))) (sym (goes_row i j (omega arith))) ∙ times_mapped (moved_node m) j (each_map (λ x y. apart i x h y) (named_staying i h t)) ∙ by_row i j h t g u

        at_root : times (rows_kept c w j) (named_by (packed_with c ρ w) (rows_kept c w (root_row w))) ≡ cond (eqb (rows_kept c w (root_row w)) (rows_kept c w (tenth w j))) 1 0
        at_root =
            let n = times_mapped (rows_kept c w) j (each_map (λ x (y : (x < root_row w) × (stays c w x ≡ true)) z. same_row j x u y.1 z) kept_staying) in
            let o = ne_eqb (rows_kept c w j) absent (λ z. omega (arith, rows_kept_most c w j)) in
            let a : times (rows_kept c w j) (absent ∷ []) ≡ 0 = rw o refl in
            ap (times (rows_kept c w j)) root_named ∙ times_append (rows_kept c w j) (map (rows_kept c w) (kept c w)) (absent ∷ []) ∙ (let y = by_root j g u in omega arith)

    -- its parent
    parent_goes : (j : ℕ) → j < root_row w → rows_kept c w (tenth w j) < suc (rows_kept c w (root_row w))
    parent_goes j g = omega (arith, rows_kept_rises c w (tenth w j) (root_row w) (parent_most k few j g))

    row_once : (j : ℕ) → j < root_row w → stays c w j ≡ true → (times (rows_kept c w j) (named_below (packed_with c ρ w) (height (packed_with c ρ w))) ≡ 1) × (parent (packed_with c ρ w) (height (packed_with c ρ w)) (rows_kept c w j) ≡ rows_kept c w (tenth w j))
    row_once j g u = named_by_one (packed_with c ρ w) (rows_kept c w j) (rows_kept c w (tenth w j)) (height (packed_with c ρ w)) (tally j g u) (omega (arith, packed_height c ρ w, parent_goes j g))

    row_parent : (j : ℕ) → j < root_row w → stays c w j ≡ true → tenth (packed_with c ρ w) (rows_kept c w j) ≡ parent (packed_with c ρ w) (height (packed_with c ρ w)) (rows_kept c w j)
    row_parent j g u = packed_tenth c ρ w j g u ∙ goes_row j (tenth w j) (omega (arith, parent_most k few j g)) ∙ sym (row_once j g u).1

    -- children come before
    row_earlier : (i : ℕ) → i < root_row w → stays c w i ≡ true → Earlier (packed_with c ρ w) (rows_kept c w i)
    row_earlier i h t = rw (packed_names c ρ w i h t k) (each_mapped (moved_node (packing c ρ w i)) (each_map (λ x y. pick x y) (named_staying i h t)))
      where
        pick : (x : ℕ) → Staying i x → Before (rows_kept c w i) (moved_node (packing c ρ w i) x)
        pick x (inl (l, u)) = inl (omega (arith, goes_row i x (omega arith), rows_kept_before c w x i u l))
        pick x (inr z) = inr (goes_absent i x z)

    root_earlier : Earlier (packed_with c ρ w) (rows_kept c w (root_row w))
    root_earlier = rw root_named (each_both (each_mapped (rows_kept c w) (each_map (λ x y. pick x y) kept_staying)) (cons (inr refl) nil))
      where
        pick : (x : ℕ) → (x < root_row w) × (stays c w x ≡ true) → Before (rows_kept c w (root_row w)) (rows_kept c w x)
        pick x (l, u) = inl (rows_kept_before c w x (root_row w) u l)

    all_earlier : (i : ℕ) → i < height (packed_with c ρ w) → Earlier (packed_with c ρ w) i
    all_earlier = every (Earlier (packed_with c ρ w)) row_earlier root_earlier

    -- no row names the root
    root_unnamed : (i : ℕ) → i < height (packed_with c ρ w) → times (rows_kept c w (root_row w)) (named_by (packed_with c ρ w) i) ≡ 0
    root_unnamed i h = elim (dec_lt 0 (times (rows_kept c w (root_row w)) (named_by (packed_with c ρ w) i))) [ yes l ↦ absurd (omega (arith, named_earlier (all_earlier i h) (omega (arith, rows_kept_most c w (root_row w), k.rooted.some)) l, packed_height c ρ w)) | no l ↦ omega arith ]

    root_parent : tenth (packed_with c ρ w) (rows_kept c w (root_row w)) ≡ parent (packed_with c ρ w) (height (packed_with c ρ w)) (rows_kept c w (root_row w))
    root_parent = root_tenth c ρ w ∙ sym (no_parent (packed_with c ρ w) (rows_kept c w (root_row w)) (height (packed_with c ρ w)) (unnamed (packed_with c ρ w) (rows_kept c w (root_row w)) (height (packed_with c ρ w)) root_unnamed))

    -- lists follow one another, and are all links
    covered_kept : (n : ℕ) → n ≤ root_row w → covered e (packed_with c ρ w) (rows_kept c w n) ≡ links_kept c w n
    unfolding rows_kept links_kept covered
    covered_kept zero h = refl
    covered_kept (suc n) h = pick (stays c w n) refl (covered_kept n (omega arith))
      where
        pick : (t : Bool) → stays c w n ≡ t → covered e (packed_with c ρ w) (rows_kept c w n) ≡ links_kept c w n → covered e (packed_with c ρ w) (rows_kept c w (suc n)) ≡ links_kept c w (suc n)
        pick true z f = ap (covered e (packed_with c ρ w)) (rows_kept_next c w n z) ∙ omega (arith, f, links_kept_next c w n z, ap (λ (is : List Item). counted (lists is)) (packed_items c ρ w n h z k), counted_moved (packing c ρ w n) (items_of e w n), row_counted e w n)
        pick false z f = ap (covered e (packed_with c ρ w)) (rows_kept_same c w n z) ∙ f ∙ sym (links_kept_same c w n z)

    row_follows : (i : ℕ) → i < root_row w → stays c w i ≡ true → Follows e (packed_with c ρ w) (rows_kept c w i)
    row_follows i h t = rw (packed_items c ρ w i h t k, covered_kept i (omega arith)) (following_moved (packing c ρ w i) (packing_shifts c ρ w i h t) (items_of e w i) (rw (covered_before e w i) at (k.follows i (omega arith))))

    -- the root's list is its one
    root_lists : lists (items_of e (packed_with c ρ w) (rows_kept c w (root_row w))) ≡ (links_kept c w (root_row w), length (kept c w)) ∷ []
    root_lists = ap (λ (is : List Item). lists is) root_items ∙ ap (λ (ls : List (ℕ × ℕ)). (links_kept c w (root_row w), length (kept c w)) ∷ ls) (statements_alone (length (kept c w)) (root_links c ρ w (kept c w)) (Item.option absent ∷ Item.unused 0 ∷ Item.unused 0 ∷ Item.unused 0 ∷ []))

    root_follows : Follows e (packed_with c ρ w) (rows_kept c w (root_row w))
    root_follows = rw root_lists (sym (covered_kept (root_row w) (omega arith)), tt)

    all_covered : Covering e (packed_with c ρ w)
    unfolding covered
    all_covered = ap (covered e (packed_with c ρ w)) (packed_height c ρ w) ∙ omega (arith, covered_kept (root_row w) (omega arith), ap (λ (ls : List (ℕ × ℕ)). counted ls) root_lists, packed_link_count c ρ w)

    -- kinds stay, absent ones are where they may be, unused ones are 0
    row_kind : (i : ℕ) → i < root_row w → stays c w i ≡ true → KnownKind (packed_with c ρ w) (rows_kept c w i)
    row_kind i h t = let y = k.kinds i (omega arith) in record { least = omega (arith, packed_kind c ρ w i h t, y.least); most = omega (arith, packed_kind c ρ w i h t, y.most) }

    root_kind_is : kind_of (packed_with c ρ w) (rows_kept c w (root_row w)) ≡ number_of Node.Block
    root_kind_is = ap (λ (xs : List ℕ). get_or xs 0 0) (root_own c ρ w)

    root_kind : KnownKind (packed_with c ρ w) (rows_kept c w (root_row w))
    root_kind = record { least = omega (arith, root_kind_is); most = omega (arith, root_kind_is) }

    root_rooted : Rooted (packed_with c ρ w)
    root_rooted =
        let z : height (packed_with c ρ w) - 1 ≡ rows_kept c w (root_row w) = omega (arith, packed_height c ρ w) in
        record { some = omega (arith, packed_height c ρ w); block = rw z root_kind_is; no_tail = rw z (ap (λ (xs : List ℕ). get_or xs 5 0) (root_own c ρ w)) }

    row_present : (i : ℕ) → i < root_row w → stays c w i ≡ true → Present e (packed_with c ρ w) (rows_kept c w i)
    row_present i h t = rw (packed_items c ρ w i h t k) (each_mapped (moved_item (packing c ρ w i)) (each_two (λ x. pick x) (k.present i (omega arith)) (each_named (items_of e w i) (rw (named_items e w i) at (k.earlier i (omega arith))))))
      where
        small : (x : ℕ) → Before i x → (x ≡ absent → ⊥) → moved_node (packing c ρ w i) x ≡ absent → ⊥
        small x (inl l) n z = omega (arith, goes_row i x (omega arith), rows_kept_most c w x)
        small x (inr l) n z = n l

        pick : (x : Item) → Allowed x → NamingOne (Before i) x → Allowed (moved_item (packing c ρ w i) x)
        pick (Item.number l n) a b = tt
        pick (Item.child x) a b = small x b a
        pick (Item.option x) a b = tt
        pick (Item.symbol x) a b = tt
        pick (Item.list f n) a b = tt
        pick (Item.unused x) a b = tt

    root_present : Present e (packed_with c ρ w) (rows_kept c w (root_row w))
    root_present = root_each Allowed tt tt tt (each_map (λ x y z. omega (arith, rows_kept_most c w x)) (kept_below k c))

    row_clean : (i : ℕ) → i < root_row w → stays c w i ≡ true → Clean e (packed_with c ρ w) (rows_kept c w i)
    row_clean i h t = rw (packed_items c ρ w i h t k) (each_mapped (moved_item (packing c ρ w i)) (each_map (λ x. pick x) (k.clean i (omega arith))))
      where
        pick : (x : Item) → Zero x → Zero (moved_item (packing c ρ w i) x)
        pick (Item.number l n) z = tt
        pick (Item.child x) z = tt
        pick (Item.option x) z = tt
        pick (Item.symbol x) z = tt
        pick (Item.list f n) z = tt
        pick (Item.unused x) z = z

    root_clean : Clean e (packed_with c ρ w) (rows_kept c w (root_row w))
    root_clean = root_each Zero tt tt refl (each_map (λ x y. tt) (kept_below k c))

    -- numbers are in range, where new symbols are
    module _ (n : ℕ) (symbols : (i : ℕ) → i < root_row w → stays c w i ≡ true → Each (Symbolic (λ x. ρ x < n)) (items_of e w i)) where
      row_ranged : (i : ℕ) → i < root_row w → stays c w i ≡ true → Ranged e n (packed_with c ρ w) (rows_kept c w i)
      row_ranged i h t =
          rw (packed_items c ρ w i h t k) (each_mapped (moved_item (packing c ρ w i)) (each_two (λ x. pick x) (each_two (λ x a b. (a, b)) (k.ranges i (omega arith)) (symbols i h t)) (lie (links_before w i) (links_before w i + row_links w i) (links_before w i) (items_of e w i) (omega arith) (omega (arith, row_counted e w i)) (rw (covered_before e w i) at (k.follows i (omega arith))))))
        where
          pick : (x : Item) → InRange s (link_count w) x × Symbolic (λ y. ρ y < n) x → Lying (links_before w i) (links_before w i + row_links w i) x → InRange n (link_count (packed_with c ρ w)) (moved_item (packing c ρ w i) x)
          pick (Item.number l y) a b = a.0
          pick (Item.child x) a b = tt
          pick (Item.option x) a b = tt
          pick (Item.symbol x) a b = a.1
          pick (Item.list f y) a b = omega (arith, b.0, b.1, packed_link_count c ρ w, links_kept_next c w i t, links_kept_rises c w (suc i) (root_row w) h)
          pick (Item.unused x) a b = tt

      root_ranged : Ranged e n (packed_with c ρ w) (rows_kept c w (root_row w))
      root_ranged = root_each (InRange n (link_count (packed_with c ρ w))) (omega (arith, packed_link_count c ρ w)) tt tt (each_map (λ x y. tt) (kept_below k c))

      -- the theorem, for any new symbols
      packed_with_checked : Checked e n (packed_with c ρ w)
      packed_with_checked =
          record {
            kinds = every (KnownKind (packed_with c ρ w)) row_kind root_kind;
            ranges = every (Ranged e n (packed_with c ρ w)) row_ranged root_ranged;
            earlier = all_earlier;
            once = λ i h. let x = source c w (root_row w) i (omega (arith, packed_height c ρ w)) in subst (Once (packed_with c ρ w)) x.place (row_once x.row x.below x.stay).0;
            rooted = root_rooted;
            follows = every (Follows e (packed_with c ρ w)) row_follows root_follows;
            covering = all_covered;
            present = every (Present e (packed_with c ρ w)) row_present root_present;
            clean = every (Clean e (packed_with c ρ w)) row_clean root_clean;
            parents = every (ParentRight (packed_with c ρ w)) row_parent root_parent;
          }

-- rows that pass still pass when packed, with the symbols that are left
pub packed_checked : {e : Edition} {s : ℕ} {w : Rows} → Checked e s w → height w ≤ absent → (c : ℕ → Bool) (b : ℕ) → Checked e (length (left c b w)) (packed c b w)
unfolding packed
packed_checked {w = w} k few c b = packed_with_checked k few c (renumbered c b w) (length (left c b w)) (λ i h t. each_map (λ x. pick x) (staying_symbols k few c b i h t))
  where
    pick : (x : Item) → Symbolic (λ y. among (left c b w) y ≡ true) x → Symbolic (λ y. renumbered c b w y < length (left c b w)) x
    pick (Item.number l n) z = tt
    pick (Item.child x) z = tt
    pick (Item.option x) z = tt
    pick (Item.symbol x) z = place_below x (left c b w) z
    pick (Item.list f n) z = tt
    pick (Item.unused x) z = tt

-- no more rows and links than there were
kept_upto_most : (c : ℕ → Bool) (w : Rows) (n : ℕ) → length (kept_upto c w n) ≤ n
unfolding kept_upto
kept_upto_most c w zero = omega arith
kept_upto_most c w (suc n) = pick (c n) (kept_upto_most c w n)
  where
    pick : (t : Bool) → length (kept_upto c w n) ≤ n → length (kept_upto c w n ++ cond t (statement w n ∷ []) []) ≤ suc n
    pick true h = omega (arith, length-append (kept_upto c w n) (statement w n ∷ []))
    pick false h = omega (arith, length-append (kept_upto c w n) [])

block_links : (xs : List ℕ) (kind : ℕ) → kind ≡ number_of Node.Block → list_links (layout Edition.second kind) (drop 3 xs) ≡ get_or xs 4 0
unfolding list_links layout
block_links xs kind h = rw h (omega (arith, get_or-drop 3 xs 1 0))

pub packed_nodes_most : {e : Edition} {s : ℕ} {w : Rows} → Checked e s w → (c : ℕ → Bool) (b : ℕ) → length (packed c b w).nodes ≤ length w.nodes
unfolding packed
packed_nodes_most {w = w} k c b = omega (arith, packed_nodes_size c (renumbered c b w) w, rows_kept_most c w (root_row w), k.rooted.some)

pub packed_links_most : {e : Edition} {s : ℕ} {w : Rows} → Checked e s w → (c : ℕ → Bool) (b : ℕ) → length (packed c b w).links ≤ length w.links
unfolding packed links_before row_links
packed_links_most {w = w} k c b =
    let some = k.rooted.some in
    let z : height w ≡ suc (root_row w) = omega arith in
    let all : links_before w (root_row w) + row_links w (root_row w) ≡ link_count w = sym (ap (links_before w) z) ∙ all_links k in
    omega (arith, packed_links_size c (renumbered c b w) w, links_kept_most c w (root_row w), all, block_links (own w (root_row w)) (kind_of w (root_row w)) k.rooted.block, kept_upto_most c w (statements w))
