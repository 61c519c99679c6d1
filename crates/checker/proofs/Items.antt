-- A row's items are those of its slots, as the table cuts it. And what items name, and which lists they hold.
use Prim.Native.Nat.{ℕ, zero, suc, ◌+◌, ◌-◌, ◌*◌, ◌≤◌, ◌<◌}
use native.Mathlib.Omega.{arith}
use mathlib.Core.List.{List, [], ◌∷◌, ◌++◌, map}
use mathlib.Core.Path.{◌≡◌, refl, sym, ap, ◌∙◌}
use borrow.Author.Tests.{ne_eqb, lt-ltb, le-ltb}
use lib.ListN.{length, get_or, take, drop, replicate, length-drop, length-take, length-replicate}
use lib.Seq.{get_or-drop, get_or-take, drop-drop, drop_at, take-take}
use Rattle.grammar.specs.Edition.{Edition}
use Rattle.grammar.specs.Layout.{Slot as Form, below, child, option, symbol, name, nodes, names, entries, layout}
use Rattle.grammar.specs.Naming.{linked_nodes, linked_entries, naming, named_by}
use Rattle.grammar.specs.Parent.{own}
use Rattle.grammar.specs.Room.{node_width, own_width, link_width}
use Rattle.grammar.specs.Rows.{Rows}
use Rattle.grammar.proofs.Parents.{named_own}
use Rattle.grammar.proofs.Pieces.{first_on, named_alike}
use Rattle.foreign.specs.Check.{Item, node_items, name_items, entry_items, items, kind_of, items_of, lists}
use Rattle.checker.specs.Named.{names_in}
use Rattle.checker.specs.Slots.{rows, code, width, line, table, sort_of, content_of, slot_at, cut_of, linked_items, held, spared, held_in, Standing}
use Rattle.checker.specs.declared.slots.Content.{Content}
use Rattle.checker.specs.declared.slots.Sort.{Sort}
use Rattle.checker.proofs.Cutting.{cut_by, stood, cut_is}

-- a row's own numbers
pub own_number : (row : ℕ) (ns ls : List ℕ) (k : ℕ) → k < own_width → get_or (own (rows ns ls) row) k 0 ≡ get_or ns (node_width * row + k) 0
own_number row ns ls k h = get_or-take own_width (drop (node_width * row) ns) k 0 h ∙ get_or-drop (node_width * row) ns k 0

pub own_kind : (row : ℕ) (ns ls : List ℕ) → get_or (own (rows ns ls) row) 0 0 ≡ get_or ns (node_width * row) 0
own_kind row ns ls = let z : node_width * row + 0 ≡ node_width * row = omega arith in own_number row ns ls 0 (omega arith) ∙ ap (λ (i : ℕ). get_or ns i 0) z

-- so many of a row's numbers from place p on, and where they stand
record Sees (ns : List ℕ) (base p : ℕ) (xs : List ℕ) : Type 0 where
  size : p + length xs ≡ own_width
  at : (k : ℕ) → p + k < own_width → get_or xs k 0 ≡ get_or ns (base + (p + k)) 0

sees_on : {ns xs : List ℕ} {base p : ℕ} (n : ℕ) → p + n ≤ own_width → Sees ns base p xs → Sees ns base (p + n) (drop n xs)
sees_on {ns} {xs} {base} {p} n h s = record {
  size = simp length-drop (omega (arith, s.size));
  at = λ k l. let f : p + (n + k) ≡ p + n + k = omega arith in get_or-drop n xs k 0 ∙ s.at (n + k) (omega arith) ∙ ap (λ (i : ℕ). get_or ns (base + i) 0) f;
}

-- a number and a symbol, by their codes
pub held_number : (c x y : ℕ) → 8 ≤ c → content_of c x y ≡ Content.Number (c - 8) x
unfolding content_of
held_number c x y h = rw (ne_eqb c 0 (λ e. omega arith), ne_eqb c 1 (λ e. omega arith), ne_eqb c 2 (λ e. omega arith), le-ltb c 5 (omega arith), le-ltb c 8 h) refl

pub held_symbol : (c x y : ℕ) → 3 ≤ c → c < 5 → content_of c x y ≡ Content.Symbol x
unfolding content_of
held_symbol c x y h l = rw (ne_eqb c 0 (λ e. omega arith), ne_eqb c 1 (λ e. omega arith), ne_eqb c 2 (λ e. omega arith), lt-ltb c 5 l) refl

pub held_list : (c x y : ℕ) → 5 ≤ c → c < 8 → content_of c x y ≡ Content.List (sort_of c) x y
unfolding content_of
held_list c x y h l = rw (ne_eqb c 0 (λ e. omega arith), ne_eqb c 1 (λ e. omega arith), ne_eqb c 2 (λ e. omega arith), le-ltb c 5 h, lt-ltb c 8 l) refl

-- links by sort
nodes_linked : (n : ℕ) (ls : List ℕ) → linked_items Sort.Nodes n ls ≡ node_items n ls
unfolding linked_items node_items
nodes_linked zero ls = refl
nodes_linked (suc n) ls = rw (nodes_linked n (drop link_width ls)) refl

names_linked : (n : ℕ) (ls : List ℕ) → linked_items Sort.Names n ls ≡ name_items n ls
unfolding linked_items name_items
names_linked zero ls = refl
names_linked (suc n) ls = rw (names_linked n (drop link_width ls)) refl

entries_linked : (n : ℕ) (ls : List ℕ) → linked_items Sort.Entries n ls ≡ entry_items n ls
unfolding linked_items entry_items
entries_linked zero ls = refl
entries_linked (suc n) ls = rw (entries_linked n (drop link_width ls)) refl

seen : {ns xs : List ℕ} {base p : ℕ} → Sees ns base p xs → p < own_width → get_or xs 0 0 ≡ get_or ns (base + p) 0
seen {ns} {xs} {base} {p} s h = let e : p + 0 ≡ p = omega arith in s.at 0 (omega arith) ∙ ap (λ (i : ℕ). get_or ns (base + i) 0) e

seen_next : {ns xs : List ℕ} {base p : ℕ} → Sees ns base p xs → p + 1 < own_width → get_or xs 1 0 ≡ get_or ns (base + p + 1) 0
seen_next {ns} {xs} {base} {p} s h = let e : base + (p + 1) ≡ base + p + 1 = omega arith in s.at 1 h ∙ ap (λ (i : ℕ). get_or ns i 0) e

module _ (ls ns : List ℕ) (base : ℕ) where
  -- the items of a slot, and then those of the others. Only a list has a second number
  one_slot : {xs : List ℕ} {p : ℕ} (s : Form) (ss : List Form) → Sees ns base p xs → p + width s ≤ own_width → items ls (s ∷ ss) xs ≡ held ls (slot_at ns (code s) (base + p)) ++ items ls ss (drop (width s) xs)
  unfolding items content_of
  one_slot {p = p} (below n) ss e h = let z : 8 + n - 8 ≡ n = omega arith in rw (held_number (8 + n) (get_or ns (base + p) 0) (get_or ns (base + p + 1) 0) (omega arith), z, seen e (omega arith)) refl
  one_slot child ss e h = rw (seen e (omega arith)) refl
  one_slot option ss e h = rw (seen e (omega arith)) refl
  one_slot symbol ss e h = rw (seen e (omega arith)) refl
  one_slot name ss e h = rw (seen e (omega arith)) refl
  one_slot nodes ss e h = rw (seen e (omega arith), seen_next e (omega arith), nodes_linked) refl
  one_slot names ss e h = rw (seen e (omega arith), seen_next e (omega arith), names_linked) refl
  one_slot entries ss e h = rw (seen e (omega arith), seen_next e (omega arith), entries_linked) refl

  -- the numbers that are left
  left_over : (xs : List ℕ) {p : ℕ} → Sees ns base p xs → items ls [] xs ≡ spared (base + own_width - (base + p)) (drop (base + p) ns)
  unfolding items spared
  left_over [] {p} s = let z : base + own_width - (base + p) ≡ 0 = omega (arith, s.size) in rw z refl
  left_over (x ∷ xs) {p} s =
      let n : base + own_width - (base + p) ≡ suc (base + own_width - (base + (p + 1))) = omega (arith, s.size) in
      let f : base + p + 1 ≡ base + (p + 1) = omega arith in
      let z : base + p + 0 ≡ base + p = omega arith in
      rw (n, get_or-drop (base + p) ns 0 0, z, drop-drop 1 (base + p) ns, f, ← seen s (omega (arith, s.size)), left_over xs {p = p + 1} (sees_on 1 (omega (arith, s.size)) s)) refl

-- so all of a row
module _ (ls ns : List ℕ) (row : ℕ) where
  abbrev start : ℕ
  start = node_width * row

  three : {xs : List ℕ} (ss : List Form) → length ss ≤ 3 → get_or (line ss) 5 0 ≤ own_width → Sees ns start 3 xs → items ls ss xs ≡ held_in ns ls row (cut_by ns row (line ss))
  unfolding held_in content_of
  three {xs} [] h l e = left_over ls ns start xs e
  three (a ∷ []) h l e = let f = sees_on (width a) (omega arith) e in one_slot ls ns start a [] e (omega arith) ∙ rw (left_over ls ns start _ f) refl
  three (a ∷ b ∷ []) h l e =
      let f = sees_on (width a) (omega arith) e in
      let g = sees_on (width b) (omega arith) f in
      one_slot ls ns start a (b ∷ []) e (omega arith) ∙ rw (one_slot ls ns start b [] f (omega arith), left_over ls ns start _ g) refl
  three (a ∷ b ∷ c ∷ []) h l e =
      let f = sees_on (width a) (omega arith) e in
      let g = sees_on (width b) (omega arith) f in
      let i = sees_on (width c) (omega arith) g in
      one_slot ls ns start a (b ∷ c ∷ []) e (omega arith) ∙ rw (one_slot ls ns start b (c ∷ []) f (omega arith), one_slot ls ns start c [] g (omega arith), left_over ls ns start _ i) refl
  three (a ∷ b ∷ c ∷ d ∷ ss) h l e = absurd (omega arith)

  own_seen : node_width * row + node_width ≤ length ns → Sees ns start 3 (drop 3 (own (rows ns ls) row))
  own_seen h = record {
    size = simp (length-drop, length-take) (omega arith);
    at = λ k l. get_or-drop 3 (own (rows ns ls) row) k 0 ∙ own_number row ns ls (3 + k) l;
  }

pub cut_items : (e : Edition) (ns ls : List ℕ) (row : ℕ) {t : List ℕ} → t ≡ table e → Standing t ns row → items_of e (rows ns ls) row ≡ held_in ns ls row (cut_of t ns row)
unfolding items_of
cut_items e ns ls row same s =
    let b = stood e same s in
    rw (own_kind row ns ls, cut_is e same s) (three ls ns row (layout e (get_or ns (node_width * row) 0)) b.few b.rest (own_seen ls ns row s.room))

-- what items name, and the lists among them, one after another
pub names_append : (xs ys : List Item) → names_in (xs ++ ys) ≡ names_in xs ++ names_in ys
names_append [] ys = refl
names_append (Item.number l n ∷ is) ys = names_append is ys
names_append (Item.child x ∷ is) ys = ap (λ ns. x ∷ ns) (names_append is ys)
names_append (Item.option x ∷ is) ys = ap (λ ns. x ∷ ns) (names_append is ys)
names_append (Item.symbol x ∷ is) ys = names_append is ys
names_append (Item.list f n ∷ is) ys = names_append is ys
names_append (Item.unused x ∷ is) ys = names_append is ys

pub lists_append : (xs ys : List Item) → lists (xs ++ ys) ≡ lists xs ++ lists ys
lists_append [] ys = refl
lists_append (Item.number l n ∷ is) ys = lists_append is ys
lists_append (Item.child x ∷ is) ys = lists_append is ys
lists_append (Item.option x ∷ is) ys = lists_append is ys
lists_append (Item.symbol x ∷ is) ys = lists_append is ys
lists_append (Item.list f n ∷ is) ys = ap (λ ls. (f, n) ∷ ls) (lists_append is ys)
lists_append (Item.unused x ∷ is) ys = lists_append is ys

pub names_spared : (n : ℕ) (xs : List ℕ) → names_in (spared n xs) ≡ []
unfolding spared
names_spared zero xs = refl
names_spared (suc n) xs = names_spared n (drop 1 xs)

pub lists_spared : (n : ℕ) (xs : List ℕ) → lists (spared n xs) ≡ []
unfolding spared
lists_spared zero xs = refl
lists_spared (suc n) xs = lists_spared n (drop 1 xs)

-- what numbers name by their slots is what their items name
names_unused : (xs : List ℕ) → names_in (map Item.unused xs) ≡ []
names_unused [] = refl
names_unused (x ∷ xs) = names_unused xs

names_nodes : (n : ℕ) (ls : List ℕ) → names_in (node_items n ls) ≡ linked_nodes n ls
unfolding node_items linked_nodes
names_nodes zero ls = refl
names_nodes (suc n) ls = ap (λ ns. get_or ls 0 0 ∷ ns) (names_nodes n (drop link_width ls))

names_names : (n : ℕ) (ls : List ℕ) → names_in (name_items n ls) ≡ []
unfolding name_items
names_names zero ls = refl
names_names (suc n) ls = names_names n (drop link_width ls)

names_entries : (n : ℕ) (ls : List ℕ) → names_in (entry_items n ls) ≡ linked_entries n ls
unfolding entry_items linked_entries
names_entries zero ls = refl
names_entries (suc n) ls = ap (λ ns. get_or ls 0 0 ∷ get_or ls 1 0 ∷ ns) (names_entries n (drop link_width ls))

naming_items : (ls : List ℕ) (ss : List Form) (xs : List ℕ) → naming ls ss xs ≡ names_in (items ls ss xs)
unfolding naming items
naming_items ls [] xs = sym (names_unused xs)
naming_items ls (below n ∷ ss) xs = naming_items ls ss (drop 1 xs)
naming_items ls (child ∷ ss) xs = ap (λ ns. get_or xs 0 0 ∷ ns) (naming_items ls ss (drop 1 xs))
naming_items ls (option ∷ ss) xs = ap (λ ns. get_or xs 0 0 ∷ ns) (naming_items ls ss (drop 1 xs))
naming_items ls (symbol ∷ ss) xs = naming_items ls ss (drop 1 xs)
naming_items ls (name ∷ ss) xs = naming_items ls ss (drop 3 xs)
naming_items ls (nodes ∷ ss) xs = rw (naming_items ls ss (drop 2 xs), names_append, names_nodes) refl
naming_items ls (names ∷ ss) xs = rw (naming_items ls ss (drop 2 xs), names_append, names_names) refl
naming_items ls (entries ∷ ss) xs = rw (naming_items ls ss (drop 2 xs), names_append, names_entries) refl

-- a row by itself, behind as many numbers as stand before it, names what it does among the others
module _ (w : Rows) (i : ℕ) where
  abbrev zeros : List ℕ
  zeros = replicate (node_width * i) 0

  abbrev alone : Rows
  alone = record { nodes = zeros ++ own w i; links = w.links }

  behind : drop (node_width * i) alone.nodes ≡ own w i
  behind = drop_at zeros (own w i) (node_width * i) (length-replicate (node_width * i) 0)

  alone_own : own alone i ≡ own w i
  alone_own = ap (take own_width) behind ∙ take-take own_width own_width (drop (node_width * i) w.nodes) (omega arith)

  alone_names : named_by alone i ≡ naming w.links (layout Edition.second (kind_of w i)) (drop 3 (own w i))
  unfolding named_by
  alone_names =
      let k : get_or alone.nodes (node_width * i) 0 ≡ kind_of w i = sym (first_on alone.nodes (node_width * i)) ∙ ap (λ (xs : List ℕ). get_or xs 0 0) behind in
      let r : drop (node_width * i + 3) alone.nodes ≡ drop 3 (own w i) = sym (drop-drop 3 (node_width * i) alone.nodes) ∙ ap (drop 3) behind in
      rw (k, r) refl

pub named_items : (e : Edition) (w : Rows) (i : ℕ) → named_by w i ≡ names_in (items_of e w i)
unfolding items_of
named_items e w i = sym (named_own (alone w i) w i (alone_own w i) refl) ∙ alone_names w i ∙ sym (named_alike e w.links (kind_of w i) (drop 3 (own w i))) ∙ naming_items w.links (layout e (kind_of w i)) (drop 3 (own w i))
