-- Row k of packed rows: where k rows that stay are before row i, it has row i's numbers, moved, and its lists have the links of row i's lists, moved. So its items are
-- row i's, moved, and it names what row i names, moved.
use Prim.Native.Nat.{ℕ, zero, suc, ◌+◌, ◌*◌, ◌≤◌, ◌<◌}
use native.Mathlib.Decide.{dec_lt}
use native.Mathlib.Omega.{arith}
use mathlib.Core.Bool.{Bool, true, false, cond}
use mathlib.Core.List.{List, [], ◌∷◌, ◌++◌, append_assoc, append-nil, map}
use mathlib.Core.Path.{◌≡◌, refl, sym, ap, ◌∙◌}
use lib.ListN.{length, get_or, take, drop, length-append}
use lib.Seq.{drop_at, take_at, get_or_at, get_or-drop, drop-drop, drop-append-le}
use Rattle.grammar.specs.Edition.{Edition}
use Rattle.grammar.specs.Handle.{absent}
use Rattle.grammar.specs.Layout.{Slot, layout}
use Rattle.grammar.specs.Naming.{linked_nodes, linked_entries, naming, height, named_by}
use Rattle.grammar.specs.Parent.{own, tenth}
use Rattle.grammar.specs.Room.{node_width, own_width, link_width}
use Rattle.grammar.specs.Rows.{Rows}
use Rattle.grammar.proofs.Decoding.{Whole}
use Rattle.grammar.proofs.Forest.{Begins}
use Rattle.foreign.specs.Check.{Item, node_items, name_items, entry_items, items, items_of, kind_of, link_count, Consecutive, Checked}
use Rattle.parts.specs.Moved.{Move, moved_node, moved_numbers, moved_nodes, moved_names, moved_entries, moved_lists, slots_of, moved_row, moved_links}
use Rattle.parts.specs.Packed.{root_row, kept, stays, rows_kept, links_kept, links_before, packing, packed_nodes, packed_links, root_links, root_line, packed_with}
use Rattle.parts.proofs.Sizes.{moved_fields_length, moved_nodes_length, moved_names_length, moved_entries_length, packed_nodes_length, packed_links_length, root_links_length, rows_kept_most, rows_kept_rises, links_kept_rises, rows_kept_next, rows_kept_same, numbers_alike, lists_alike, spots_alike, list_spots, lists_follow, named_here}

-- an item somewhere else
abbrev pub moved_item : Move → Item → Item
moved_item m (Item.number l n) = Item.number l n
moved_item m (Item.child x) = Item.child (moved_node m x)
moved_item m (Item.option x) = Item.option (moved_node m x)
moved_item m (Item.symbol x) = Item.symbol (m.symbol x)
moved_item m (Item.list f n) = Item.list (m.first f) n
moved_item m (Item.unused x) = Item.unused x

abbrev pub moved_items : Move → List Item → List Item
moved_items m = map (moved_item m)

-- from one place on lists go on from another
pub record Shifts (m : Move) (from to : ℕ) : Type 0 where
  pub same : (d : ℕ) → m.first (from + d) ≡ to + d

module _ (m : Move) where
  moved_append : (is js : List Item) → moved_items m (is ++ js) ≡ moved_items m is ++ moved_items m js
  moved_append [] js = refl
  moved_append (i ∷ is) js = rw (moved_append is js)

  moved_unused : (xs : List ℕ) → map Item.unused xs ≡ moved_items m (map Item.unused xs)
  moved_unused [] = refl
  moved_unused (x ∷ xs) = ap (λ (is : List Item). Item.unused x ∷ is) (moved_unused xs)

  -- the items of moved links
  nodes_moved : (n : ℕ) (us zs : List ℕ) → node_items n (moved_nodes m n us ++ zs) ≡ moved_items m (node_items n us)
  unfolding node_items moved_nodes
  nodes_moved zero us zs = refl
  nodes_moved (suc n) us zs = rw (nodes_moved n (drop link_width us) zs)

  names_moved : (n : ℕ) (us zs : List ℕ) → name_items n (moved_names m n us ++ zs) ≡ moved_items m (name_items n us)
  unfolding name_items moved_names
  names_moved zero us zs = refl
  names_moved (suc n) us zs = rw (names_moved n (drop link_width us) zs)

  entries_moved : (n : ℕ) (us zs : List ℕ) → entry_items n (moved_entries m n us ++ zs) ≡ moved_items m (entry_items n us)
  unfolding entry_items moved_entries
  entries_moved zero us zs = refl
  entries_moved (suc n) us zs = rw (entries_moved n (drop link_width us) zs)

  pub shift_here : {from to : ℕ} → Shifts m from to → m.first from ≡ to
  shift_here {from} {to} h = let a : from + 0 ≡ from = omega arith in let b : to + 0 ≡ to = omega arith in ap (λ (x : ℕ). m.first x) (sym a) ∙ h.same 0 ∙ b

  pub shift_on : {from to : ℕ} → Shifts m from to → (n : ℕ) → Shifts m (from + n) (to + n)
  shift_on {from} {to} h n = record { same = λ d. let a : from + n + d ≡ from + (n + d) = omega arith in let b : to + (n + d) ≡ to + n + d = omega arith in ap (λ (x : ℕ). m.first x) a ∙ h.same (n + d) ∙ b }

  module _ (ls ls' : List ℕ) where
    -- a list's links, and what follows them
    list_here : (to n f : ℕ) (us vs : List ℕ) (g : ℕ → List ℕ → List Item) (is : List Item) → m.first f ≡ to → Begins (us ++ vs) (drop (link_width * to) ls') → ((zs : List ℕ) → g n (us ++ zs) ≡ is) → g n (drop (link_width * m.first f) ls') ≡ is
    list_here to n f us vs g is e b h = ap (λ (x : ℕ). g n (drop (link_width * x) ls')) e ∙ ap (g n) (b.same ∙ append_assoc us vs b.rest) ∙ h (vs ++ b.rest)

    list_past : (to n : ℕ) (us vs : List ℕ) → length us ≡ link_width * n → Begins (us ++ vs) (drop (link_width * to) ls') → Begins vs (drop (link_width * (to + n)) ls')
    list_past to n us vs l b =
        let z : link_width * (to + n) ≡ link_width * to + link_width * n = omega arith in
        record { rest = b.rest; same = ap (λ (x : ℕ). drop x ls') z ∙ sym (drop-drop (link_width * n) (link_width * to) ls') ∙ ap (drop (link_width * n)) (b.same ∙ append_assoc us vs b.rest) ∙ drop_at us (vs ++ b.rest) (link_width * n) l }

    -- the items of a moved row
    pub items_moved : (ss : List Slot) (xs : List ℕ) {from to : ℕ} → Shifts m from to → Consecutive from (list_spots ss xs) → Begins (moved_lists m ls ss xs) (drop (link_width * to) ls') → items ls' ss (moved_numbers m ss xs) ≡ moved_items m (items ls ss xs)
    unfolding items moved_numbers moved_lists list_spots
    items_moved [] xs h c b = moved_unused xs
    items_moved (Slot.below n ∷ ss) xs h c b = rw (items_moved ss (drop 1 xs) h c b)
    items_moved (Slot.child ∷ ss) xs h c b = rw (items_moved ss (drop 1 xs) h c b)
    items_moved (Slot.option ∷ ss) xs h c b = rw (items_moved ss (drop 1 xs) h c b)
    items_moved (Slot.symbol ∷ ss) xs h c b = rw (items_moved ss (drop 1 xs) h c b)
    items_moved (Slot.name ∷ ss) xs h c b = rw (items_moved ss (drop 3 xs) h c b)
    items_moved (Slot.nodes ∷ ss) xs {from} {to} h c b =
        let n = get_or xs 1 0 in let us = drop (link_width * get_or xs 0 0) ls in
        let i = items_moved ss (drop 2 xs) (shift_on h n) c.1 (list_past to n (moved_nodes m n us) (moved_lists m ls ss (drop 2 xs)) (moved_nodes_length m n us) b) in
        let x = list_here to n (get_or xs 0 0) (moved_nodes m n us) (moved_lists m ls ss (drop 2 xs)) node_items (moved_items m (node_items n us)) (ap (λ (f : ℕ). m.first f) c.0 ∙ shift_here h) b (nodes_moved n us) in
        let y = moved_append (node_items n us) (items ls ss (drop 2 xs)) in cc
    items_moved (Slot.names ∷ ss) xs {from} {to} h c b =
        let n = get_or xs 1 0 in let us = drop (link_width * get_or xs 0 0) ls in
        let i = items_moved ss (drop 2 xs) (shift_on h n) c.1 (list_past to n (moved_names m n us) (moved_lists m ls ss (drop 2 xs)) (moved_names_length m n us) b) in
        let x = list_here to n (get_or xs 0 0) (moved_names m n us) (moved_lists m ls ss (drop 2 xs)) name_items (moved_items m (name_items n us)) (ap (λ (f : ℕ). m.first f) c.0 ∙ shift_here h) b (names_moved n us) in
        let y = moved_append (name_items n us) (items ls ss (drop 2 xs)) in cc
    items_moved (Slot.entries ∷ ss) xs {from} {to} h c b =
        let n = get_or xs 1 0 in let us = drop (link_width * get_or xs 0 0) ls in
        let i = items_moved ss (drop 2 xs) (shift_on h n) c.1 (list_past to n (moved_entries m n us) (moved_lists m ls ss (drop 2 xs)) (moved_entries_length m n us) b) in
        let x = list_here to n (get_or xs 0 0) (moved_entries m n us) (moved_lists m ls ss (drop 2 xs)) entry_items (moved_items m (entry_items n us)) (ap (λ (f : ℕ). m.first f) c.0 ∙ shift_here h) b (entries_moved n us) in
        let y = moved_append (entry_items n us) (items ls ss (drop 2 xs)) in cc

-- the rows that items name
abbrev pub names_in : List Item → List ℕ
names_in [] = []
names_in (Item.number l x ∷ is) = names_in is
names_in (Item.child x ∷ is) = x ∷ names_in is
names_in (Item.option x ∷ is) = x ∷ names_in is
names_in (Item.symbol x ∷ is) = names_in is
names_in (Item.list f c ∷ is) = names_in is
names_in (Item.unused x ∷ is) = names_in is

names_append : (xs ys : List Item) → names_in (xs ++ ys) ≡ names_in xs ++ names_in ys
names_append [] ys = refl
names_append (Item.number l n ∷ is) ys = names_append is ys
names_append (Item.child x ∷ is) ys = ap (λ ns. x ∷ ns) (names_append is ys)
names_append (Item.option x ∷ is) ys = ap (λ ns. x ∷ ns) (names_append is ys)
names_append (Item.symbol x ∷ is) ys = names_append is ys
names_append (Item.list f n ∷ is) ys = names_append is ys
names_append (Item.unused x ∷ is) ys = names_append is ys

names_unused : (xs : List ℕ) → names_in (map Item.unused xs) ≡ []
names_unused [] = refl
names_unused (x ∷ xs) = names_unused xs

names_nodes : (n : ℕ) (ls : List ℕ) → names_in (node_items n ls) ≡ linked_nodes n ls
unfolding node_items linked_nodes
names_nodes zero ls = refl
names_nodes (suc n) ls = ap (λ ns. get_or ls 0 0 ∷ ns) (names_nodes n (drop link_width ls))

names_names : (n : ℕ) (ls : List ℕ) → names_in (name_items n ls) ≡ []
unfolding name_items
names_names zero ls = refl
names_names (suc n) ls = names_names n (drop link_width ls)

names_entries : (n : ℕ) (ls : List ℕ) → names_in (entry_items n ls) ≡ linked_entries n ls
unfolding entry_items linked_entries
names_entries zero ls = refl
names_entries (suc n) ls = ap (λ ns. get_or ls 0 0 ∷ get_or ls 1 0 ∷ ns) (names_entries n (drop link_width ls))

naming_items : (ls : List ℕ) (ss : List Slot) (xs : List ℕ) → naming ls ss xs ≡ names_in (items ls ss xs)
unfolding naming items
naming_items ls [] xs = sym (names_unused xs)
naming_items ls (Slot.below n ∷ ss) xs = naming_items ls ss (drop 1 xs)
naming_items ls (Slot.child ∷ ss) xs = ap (λ ns. get_or xs 0 0 ∷ ns) (naming_items ls ss (drop 1 xs))
naming_items ls (Slot.option ∷ ss) xs = ap (λ ns. get_or xs 0 0 ∷ ns) (naming_items ls ss (drop 1 xs))
naming_items ls (Slot.symbol ∷ ss) xs = naming_items ls ss (drop 1 xs)
naming_items ls (Slot.name ∷ ss) xs = naming_items ls ss (drop 3 xs)
naming_items ls (Slot.nodes ∷ ss) xs = rw (naming_items ls ss (drop 2 xs), names_append, names_nodes) refl
naming_items ls (Slot.names ∷ ss) xs = rw (naming_items ls ss (drop 2 xs), names_append, names_names) refl
naming_items ls (Slot.entries ∷ ss) xs = rw (naming_items ls ss (drop 2 xs), names_append, names_entries) refl

pub named_items : (e : Edition) (w : Rows) (i : ℕ) → named_by w i ≡ names_in (items_of e w i)
unfolding items_of
named_items e w i = named_here w i e ∙ naming_items w.links (layout e (kind_of w i)) (drop 3 (own w i))

names_moved_in : (m : Move) (is : List Item) → names_in (moved_items m is) ≡ map (moved_node m) (names_in is)
names_moved_in m [] = refl
names_moved_in m (Item.number l n ∷ is) = names_moved_in m is
names_moved_in m (Item.child x ∷ is) = ap (λ ns. moved_node m x ∷ ns) (names_moved_in m is)
names_moved_in m (Item.option x ∷ is) = ap (λ ns. moved_node m x ∷ ns) (names_moved_in m is)
names_moved_in m (Item.symbol x ∷ is) = names_moved_in m is
names_moved_in m (Item.list f n ∷ is) = names_moved_in m is
names_moved_in m (Item.unused x ∷ is) = names_moved_in m is

-- what begins behind some numbers begins there with more behind
begins_on : (n : ℕ) (xs ys zs : List ℕ) → n ≤ length ys → Begins xs (drop n ys) → Begins xs (drop n (ys ++ zs))
begins_on n xs ys zs h b = record { rest = b.rest ++ zs; same = drop-append-le n ys zs h ∙ ap (λ (us : List ℕ). us ++ zs) b.same ∙ append_assoc xs b.rest zs }

-- a block that stands behind some numbers
begins_behind : (n : ℕ) (xs ys : List ℕ) → length ys ≡ n → Begins xs (drop n (ys ++ xs))
begins_behind n xs ys h = record { rest = []; same = drop_at ys xs n h ∙ sym (append-nil xs) }

module _ (c : ℕ → Bool) (ρ : ℕ → ℕ) (w : Rows) where
  -- the numbers of a row that stays, and the links of its lists
  nodes_at : (n i : ℕ) → n ≤ height w → i < n → stays c w i ≡ true → Begins (moved_row (packing c ρ w i) w i) (drop (node_width * rows_kept c w i) (packed_nodes c ρ w n))
  unfolding packed_nodes
  nodes_at zero i h l s = absurd (omega arith)
  nodes_at (suc n) i h l s = elim (dec_lt i n) [ yes k ↦ begins_on (node_width * rows_kept c w i) (moved_row (packing c ρ w i) w i) (packed_nodes c ρ w n) (cond (stays c w n) (moved_row (packing c ρ w n) w n) []) (omega (arith, packed_nodes_length c w ρ n (omega arith), rows_kept_rises c w i n (omega arith))) (nodes_at n i (omega arith) k s) | no k ↦ let e : i ≡ n = omega arith in last e ]
    where
      last : i ≡ n → Begins (moved_row (packing c ρ w i) w i) (drop (node_width * rows_kept c w i) (packed_nodes c ρ w n ++ cond (stays c w n) (moved_row (packing c ρ w n) w n) []))
      last e = rw e (rw (rw e at s) (begins_behind (node_width * rows_kept c w n) (moved_row (packing c ρ w n) w n) (packed_nodes c ρ w n) (packed_nodes_length c w ρ n (omega arith))))

  links_at : (n i : ℕ) → i < n → stays c w i ≡ true → Begins (moved_links (packing c ρ w i) w i) (drop (link_width * links_kept c w i) (packed_links c ρ w n))
  unfolding packed_links
  links_at zero i l s = absurd (omega arith)
  links_at (suc n) i l s = elim (dec_lt i n) [ yes k ↦ begins_on (link_width * links_kept c w i) (moved_links (packing c ρ w i) w i) (packed_links c ρ w n) (cond (stays c w n) (moved_links (packing c ρ w n) w n) []) (omega (arith, packed_links_length c w ρ n, links_kept_rises c w i n (omega arith))) (links_at n i k s) | no k ↦ let e : i ≡ n = omega arith in last e ]
    where
      last : i ≡ n → Begins (moved_links (packing c ρ w i) w i) (drop (link_width * links_kept c w i) (packed_links c ρ w n ++ cond (stays c w n) (moved_links (packing c ρ w n) w n) []))
      last e = rw e (rw (rw e at s) (begins_behind (link_width * links_kept c w n) (moved_links (packing c ρ w n) w n) (packed_links c ρ w n) (packed_links_length c w ρ n)))

  -- how many there are
  pub packed_nodes_size : length (packed_with c ρ w).nodes ≡ node_width * suc (rows_kept c w (root_row w))
  unfolding packed_with
  packed_nodes_size = simp length-append (omega (arith, packed_nodes_length c w ρ (root_row w) (omega arith)))

  pub packed_height : height (packed_with c ρ w) ≡ suc (rows_kept c w (root_row w))
  packed_height = omega (arith, packed_nodes_size)

  pub packed_links_size : length (packed_with c ρ w).links ≡ link_width * (links_kept c w (root_row w) + length (kept c w))
  unfolding packed_with
  packed_links_size = simp length-append (omega (arith, packed_links_length c w ρ (root_row w), root_links_length c w ρ (kept c w)))

  pub packed_link_count : link_count (packed_with c ρ w) ≡ links_kept c w (root_row w) + length (kept c w)
  packed_link_count = omega (arith, packed_links_size)

  pub packed_whole : Whole (packed_with c ρ w)
  packed_whole = record { nodes = omega (arith, packed_nodes_size); links = omega (arith, packed_links_size) }

  -- the root
  root_nodes : drop (node_width * rows_kept c w (root_row w)) (packed_with c ρ w).nodes ≡ root_line c ρ w
  unfolding packed_with
  root_nodes = drop_at (packed_nodes c ρ w (root_row w)) (root_line c ρ w) (node_width * rows_kept c w (root_row w)) (packed_nodes_length c w ρ (root_row w) (omega arith))

  pub root_own : own (packed_with c ρ w) (rows_kept c w (root_row w)) ≡ take own_width (root_line c ρ w)
  root_own = ap (take own_width) root_nodes

  pub root_tenth : tenth (packed_with c ρ w) (rows_kept c w (root_row w)) ≡ absent
  root_tenth = sym (get_or-drop (node_width * rows_kept c w (root_row w)) (packed_with c ρ w).nodes own_width 0) ∙ ap (λ (xs : List ℕ). get_or xs own_width 0) root_nodes

  pub root_linked : drop (link_width * links_kept c w (root_row w)) (packed_with c ρ w).links ≡ root_links c ρ w (kept c w)
  unfolding packed_with
  root_linked = drop_at (packed_links c ρ w (root_row w)) (root_links c ρ w (kept c w)) (link_width * links_kept c w (root_row w)) (packed_links_length c w ρ (root_row w))

  module _ (i : ℕ) (below : i < root_row w) (s : stays c w i ≡ true) where
    row_nodes : Begins (moved_row (packing c ρ w i) w i) (drop (node_width * rows_kept c w i) (packed_with c ρ w).nodes)
    unfolding packed_with
    row_nodes = begins_on (node_width * rows_kept c w i) (moved_row (packing c ρ w i) w i) (packed_nodes c ρ w (root_row w)) (root_line c ρ w) (omega (arith, packed_nodes_length c w ρ (root_row w) (omega arith), rows_kept_rises c w i (root_row w) (omega arith))) (nodes_at (root_row w) i (omega arith) below s)

    row_linked : Begins (moved_links (packing c ρ w i) w i) (drop (link_width * links_kept c w i) (packed_with c ρ w).links)
    unfolding packed_with
    row_linked = begins_on (link_width * links_kept c w i) (moved_links (packing c ρ w i) w i) (packed_links c ρ w (root_row w)) (root_links c ρ w (kept c w)) (omega (arith, packed_links_length c w ρ (root_row w), links_kept_rises c w i (root_row w) (omega arith))) (links_at (root_row w) i below s)

    -- a row's own numbers as they come out
    abbrev lead : List ℕ
    lead = kind_of w i ∷ get_or (own w i) 1 0 ∷ get_or (own w i) 2 0 ∷ moved_numbers (packing c ρ w i) (slots_of w i) (drop 3 (own w i))

    row_split : drop (node_width * rows_kept c w i) (packed_with c ρ w).nodes ≡ lead ++ (moved_node (packing c ρ w i) (tenth w i) ∷ row_nodes.rest)
    unfolding moved_row
    row_split = row_nodes.same ∙ append_assoc lead (moved_node (packing c ρ w i) (tenth w i) ∷ []) row_nodes.rest

    lead_length : length lead ≡ own_width
    lead_length = omega (arith, moved_fields_length (packing c ρ w i) w i (omega arith))

    pub packed_own : own (packed_with c ρ w) (rows_kept c w i) ≡ kind_of w i ∷ get_or (own w i) 1 0 ∷ get_or (own w i) 2 0 ∷ moved_numbers (packing c ρ w i) (slots_of w i) (drop 3 (own w i))
    packed_own = ap (take own_width) row_split ∙ take_at lead (moved_node (packing c ρ w i) (tenth w i) ∷ row_nodes.rest) own_width lead_length

    pub packed_tenth : tenth (packed_with c ρ w) (rows_kept c w i) ≡ moved_node (packing c ρ w i) (tenth w i)
    packed_tenth = sym (get_or-drop (node_width * rows_kept c w i) (packed_with c ρ w).nodes own_width 0) ∙ ap (λ (xs : List ℕ). get_or xs own_width 0) row_split ∙ get_or_at lead (moved_node (packing c ρ w i) (tenth w i)) row_nodes.rest 0 own_width lead_length

    pub packed_kind : kind_of (packed_with c ρ w) (rows_kept c w i) ≡ kind_of w i
    packed_kind = ap (λ (xs : List ℕ). get_or xs 0 0) packed_own

    pub packing_shifts : Shifts (packing c ρ w i) (links_before w i) (links_kept c w i)
    packing_shifts = record { same = λ d. omega arith }

    module _ {e : Edition} {n : ℕ} (k : Checked e n w) where
      pub packed_items : items_of e (packed_with c ρ w) (rows_kept c w i) ≡ moved_items (packing c ρ w i) (items_of e w i)
      unfolding items_of moved_links
      packed_items =
          let m = packing c ρ w i in
          let x = drop 3 (own w i) in
          ap (λ (xs : List ℕ). items (packed_with c ρ w).links (layout e (get_or xs 0 0)) (drop 3 xs)) packed_own ∙ ap (items (packed_with c ρ w).links (layout e (kind_of w i))) (sym (numbers_alike e (kind_of w i) x m)) ∙ items_moved m w.links (packed_with c ρ w).links (layout e (kind_of w i)) x packing_shifts (rw (spots_alike e (kind_of w i) x) (lists_follow k i (omega arith))) (rw (lists_alike e (kind_of w i) x m w.links) row_linked)

      pub packed_names : named_by (packed_with c ρ w) (rows_kept c w i) ≡ map (moved_node (packing c ρ w i)) (named_by w i)
      packed_names = named_items e (packed_with c ρ w) (rows_kept c w i) ∙ ap names_in packed_items ∙ names_moved_in (packing c ρ w i) (items_of e w i) ∙ ap (map (moved_node (packing c ρ w i))) (sym (named_items e w i))

-- every row but the root is one that stays
pub record Source (c : ℕ → Bool) (w : Rows) (n k : ℕ) : Type 0 where
  pub row : ℕ
  pub below : row < n
  pub stay : stays c w row ≡ true
  pub place : rows_kept c w row ≡ k

pub source : (c : ℕ → Bool) (w : Rows) (n k : ℕ) → k < rows_kept c w n → Source c w n k
source c w zero k h = absurd (omega (arith, rows_kept_most c w 0))
source c w (suc n) k h = pick (stays c w n) refl (source c w n k)
  where
    wider : Source c w n k → Source c w (suc n) k
    wider x = record { row = x.row; below = omega (arith, x.below); stay = x.stay; place = x.place }

    pick : (t : Bool) → stays c w n ≡ t → (k < rows_kept c w n → Source c w n k) → Source c w (suc n) k
    pick true z f = elim (dec_lt k (rows_kept c w n)) [ yes l ↦ wider (f l) | no l ↦ record { row = n; below = omega arith; stay = z; place = omega (arith, rows_kept_next c w n z) } ]
    pick false z f = wider (f (omega (arith, rows_kept_same c w n z)))
