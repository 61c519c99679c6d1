-- A row that is written elsewhere is the row moved: its own numbers, the links of its lists, and what it names.
use Prim.Native.Nat.{ℕ, suc, ◌+◌, ◌/◌}
use mathlib.Core.List.{List, [], ◌∷◌, ◌++◌, map, append_assoc, append-nil}
use mathlib.Core.Path.{◌≡◌, refl, sym, ap, ◌∙◌}
use native.Mathlib.Omega.{arith}
use lib.ListN.{length, get_or, take, drop, replicate, length-append}
use Rattle.grammar.specs.Edition.{Edition}
use Rattle.grammar.specs.Handle.{Handle, row}
use Rattle.grammar.specs.Layout.{Slot, layout}
use Rattle.grammar.specs.Naming.{height, named_by}
use Rattle.grammar.specs.Parent.{own}
use Rattle.grammar.specs.Room.{own_width, link_width}
use Rattle.grammar.specs.Rows.{Rows, links_of, numbers, write, fill}
use Rattle.grammar.specs.Rule.{Field}
use Rattle.grammar.proofs.Decoding.{Whole, gathered, write_whole, found, added}
use Rattle.grammar.proofs.Forest.{Begins, Later}
use Rattle.grammar.proofs.Growth.{lists, links_length, filled}
use Rattle.grammar.proofs.Order.{Nodes, Entries, Laid, rows_of}
use Rattle.foreign.specs.Check.{kind_of, link_count}
use Rattle.parts.specs.Moved.{Move, moved_node, moved_numbers, moved_nodes, moved_names, moved_entries, moved_lists, list_links, slots_of, moved_links, row_links}
use Rattle.parts.specs.Packed.{links_before}
use Rattle.parts.proofs.Likeness.{sent, moved_all, moved_length, Named, Names, Carry}
use Rattle.parts.proofs.Walking.{own_row}

both_same : {A : Type 0} {x y : A} {xs ys : List A} → x ≡ y → xs ≡ ys → x ∷ xs ≡ y ∷ ys
both_same p q = rw (p, q)

-- a move whose lists go elsewhere
abbrev pub at : Move → (first : ℕ → ℕ) → Move
at m g = record { node = m.node; first = g; span = m.span; symbol = m.symbol }

-- a row's own numbers, moved
abbrev pub moved_own : Move → Rows → (row : ℕ) → List ℕ
moved_own m w i = kind_of w i ∷ m.span (get_or (own w i) 1 0) ∷ m.span (get_or (own w i) 2 0) ∷ moved_numbers m (slots_of w i) (drop 3 (own w i))

-- the links that fields write
unfoldable pub listed : List Field → List ℕ
listed [] = []
listed (Field.number n ∷ fs) = listed fs
listed (Field.child h ∷ fs) = listed fs
listed (Field.named h ∷ fs) = listed fs
listed (Field.list hs ∷ fs) = links_of hs ++ listed fs

fill_listed : (fs : List Field) (xs : List ℕ) (w : Rows) → (fill fs xs w).links ≡ w.links ++ listed fs
unfolding fill listed write
fill_listed [] xs w = sym (append-nil w.links)
fill_listed (Field.number n ∷ fs) xs w = fill_listed fs _ w
fill_listed (Field.child h ∷ fs) xs w = fill_listed fs _ w
fill_listed (Field.named h ∷ fs) xs w = fill_listed fs _ w
fill_listed (Field.list hs ∷ fs) xs w = fill_listed fs (xs ++ numbers (Field.list hs) w) (write (Field.list hs) w) ∙ append_assoc w.links (links_of hs) (listed fs)

-- a row's lists have as many links as its fields write
laid_links : {r : ℕ} {ss : List Slot} {fs : List Field} {is : List ℕ} → Laid r ss fs is → (w : Rows) (zs : List ℕ) → list_links ss (take r (gathered fs w ++ zs)) ≡ lists fs
unfolding list_links gathered numbers write lists
laid_links Laid.done w zs = refl
laid_links (Laid.number l) w zs = laid_links l w zs
laid_links (Laid.child l) w zs = laid_links l w zs
laid_links (Laid.option l) w zs = laid_links l w zs
laid_links (Laid.symbol l) w zs = laid_links l w zs
laid_links (Laid.name {h = Handle.node i s e} l) w zs = laid_links l w zs
laid_links (Laid.name {h = Handle.name x s e} l) w zs = laid_links l w zs
laid_links (Laid.name {h = Handle.entry k v} l) w zs = laid_links l w zs
laid_links (Laid.name {h = Handle.ended i} l) w zs = laid_links l w zs
laid_links (Laid.name {h = Handle.other} l) w zs = laid_links l w zs
laid_links (Laid.nodes {hs = hs} n l) w zs = ap (length hs +◌) (laid_links l (write (Field.list hs) w) zs)
laid_links (Laid.names {hs = hs} l) w zs = ap (length hs +◌) (laid_links l (write (Field.list hs) w) zs)
laid_links (Laid.entries {hs = hs} n l) w zs = ap (length hs +◌) (laid_links l (write (Field.list hs) w) zs)

-- the links before the next row
pub links_next : (k s e : ℕ) {fs : List Field} {is : List ℕ} {w : Rows} → Laid 6 (layout Edition.second k) fs is → Whole w → {U : Rows} → Later (fill fs (k ∷ s ∷ e ∷ []) w) U → link_count w ≡ links_before U (height w) → link_count (fill fs (k ∷ s ∷ e ∷ []) w) ≡ links_before U (height (fill fs (k ∷ s ∷ e ∷ []) w))
unfolding links_before row_links
links_next k s e {fs} {w = w} l h {U} n b =
    let f = filled fs (k ∷ s ∷ e ∷ []) w in
    let z : height (fill fs (k ∷ s ∷ e ∷ []) w) ≡ suc (height w) = omega (arith, f.nodes) in
    rw (z, own_row k s e fs h n, laid_links l w (replicate own_width 0)) (omega (arith, f.links, h.links))

module _ (m : Move) where
  nodes_sent : {hs : List Handle} → Nodes hs → Nodes (moved_all m hs)
  nodes_sent Nodes.nil = Nodes.nil
  nodes_sent (Nodes.node n) = Nodes.node (nodes_sent n)
  nodes_sent (Nodes.ended n) = Nodes.ended (nodes_sent n)

  entries_sent : {hs : List Handle} → Entries hs → Entries (moved_all m hs)
  entries_sent Entries.nil = Entries.nil
  entries_sent (Entries.entry n) = Entries.entry (entries_sent n)

  node_rows : {hs : List Handle} → Nodes hs → (is : List ℕ) → rows_of (moved_all m hs) ++ map (sent m) is ≡ map (sent m) (rows_of hs ++ is)
  node_rows Nodes.nil is = refl
  node_rows (Nodes.node n) is = rw (node_rows n is)
  node_rows (Nodes.ended n) is = rw (node_rows n is)

  entry_rows : {hs : List Handle} → Entries hs → (is : List ℕ) → rows_of (moved_all m hs) ++ map (sent m) is ≡ map (sent m) (rows_of hs ++ is)
  entry_rows Entries.nil is = refl
  entry_rows (Entries.entry n) is = rw (entry_rows n is)

  -- what fields name, and those at the new place
  pub record BothLaid (r : ℕ) (ss : List Slot) (fs gs : List Field) : Type 0 where
    pub named : List ℕ
    pub old : Laid r ss fs named
    pub new : Laid r ss gs (map (sent m) named)

  child_laid : {r : ℕ} {ss : List Slot} {gs : List Field} {g : Handle} {x : ℕ} {is : List ℕ} → row g ≡ x → Laid r ss gs is → Laid (suc r) (Slot.child ∷ ss) (Field.child g ∷ gs) (x ∷ is)
  child_laid q l = rw (← q) (Laid.child l)

  option_laid : {r : ℕ} {ss : List Slot} {gs : List Field} {g : Handle} {x : ℕ} {is : List ℕ} → row g ≡ x → Laid r ss gs is → Laid (suc r) (Slot.option ∷ ss) (Field.child g ∷ gs) (x ∷ is)
  option_laid q l = rw (← q) (Laid.option l)

  nodes_laid : {r : ℕ} {ss : List Slot} {gs : List Field} {hs hs' : List Handle} (is : List ℕ) → hs' ≡ moved_all m hs → Nodes hs → Laid r ss gs (map (sent m) is) → Laid (suc (suc r)) (Slot.nodes ∷ ss) (Field.list hs' ∷ gs) (map (sent m) (rows_of hs ++ is))
  nodes_laid is q n l = rw (q, ← node_rows n is) (Laid.nodes (nodes_sent n) l)

  entries_laid : {r : ℕ} {ss : List Slot} {gs : List Field} {hs hs' : List Handle} (is : List ℕ) → hs' ≡ moved_all m hs → Entries hs → Laid r ss gs (map (sent m) is) → Laid (suc (suc r)) (Slot.entries ∷ ss) (Field.list hs' ∷ gs) (map (sent m) (rows_of hs ++ is))
  entries_laid is q n l = rw (q, ← entry_rows n is) (Laid.entries (entries_sent n) l)

  both_laid : {r : ℕ} {ss : List Slot} {fs gs : List Field} → Carry m r ss fs gs → BothLaid r ss fs gs
  both_laid Carry.done = record { named = []; old = Laid.done; new = Laid.done }
  both_laid (Carry.number q c) = let b = both_laid c in record { named = b.named; old = Laid.number b.old; new = Laid.number b.new }
  both_laid (Carry.child {h = h} q c) = let b = both_laid c in record { named = row h ∷ b.named; old = Laid.child b.old; new = child_laid q b.new }
  both_laid (Carry.option {h = h} q c) = let b = both_laid c in record { named = row h ∷ b.named; old = Laid.option b.old; new = option_laid q b.new }
  both_laid (Carry.symbol q c) = let b = both_laid c in record { named = b.named; old = Laid.symbol b.old; new = Laid.symbol b.new }
  both_laid (Carry.name n c) = let b = both_laid c in record { named = b.named; old = Laid.name b.old; new = Laid.name b.new }
  both_laid (Carry.nodes {hs = hs} q n c) = let b = both_laid c in record { named = rows_of hs ++ b.named; old = Laid.nodes n b.old; new = nodes_laid b.named q n b.new }
  both_laid (Carry.names q n c) = let b = both_laid c in record { named = b.named; old = Laid.names b.old; new = Laid.names b.new }
  both_laid (Carry.entries {hs = hs} q n c) = let b = both_laid c in record { named = rows_of hs ++ b.named; old = Laid.entries n b.old; new = entries_laid b.named q n b.new }

  module _ (g : ℕ → ℕ) where
    -- lists of links, moved
    pub nodes_moved : {hs : List Handle} → Nodes hs → (us : List ℕ) → moved_nodes (at m g) (length hs) (links_of hs ++ us) ≡ links_of (moved_all m hs)
    unfolding moved_nodes links_of moved_node
    nodes_moved Nodes.nil us = refl
    nodes_moved (Nodes.node n) us = rw (nodes_moved n us)
    nodes_moved (Nodes.ended n) us = rw (nodes_moved n us)

    names_moved : {hs : List Handle} → Names hs → (us : List ℕ) → moved_names (at m g) (length hs) (links_of hs ++ us) ≡ links_of (moved_all m hs)
    unfolding moved_names links_of
    names_moved Names.nil us = refl
    names_moved (Names.name n) us = rw (names_moved n us)

    entries_moved : {hs : List Handle} → Entries hs → (us : List ℕ) → moved_entries (at m g) (length hs) (links_of hs ++ us) ≡ links_of (moved_all m hs)
    unfolding moved_entries links_of moved_node
    entries_moved Entries.nil us = refl
    entries_moved (Entries.entry n) us = rw (entries_moved n us)

    lists_moved : {r : ℕ} {ss : List Slot} {fs gs : List Field} → Carry m r ss fs gs → (xs : List ℕ) {w : Rows} → Whole w → {ls : List ℕ} → Begins (fill fs xs w).links ls → (zs : List ℕ) → moved_lists (at m g) ls ss (take r (gathered fs w ++ zs)) ≡ listed gs
    unfolding moved_lists gathered numbers write listed fill
    lists_moved Carry.done xs h b zs = refl
    lists_moved (Carry.number q c) xs h b zs = lists_moved c _ h b zs
    lists_moved (Carry.child q c) xs h b zs = lists_moved c _ h b zs
    lists_moved (Carry.option q c) xs h b zs = lists_moved c _ h b zs
    lists_moved (Carry.symbol q c) xs h b zs = lists_moved c _ h b zs
    lists_moved (Carry.name Named.named c) xs h b zs = lists_moved c _ h b zs
    lists_moved (Carry.nodes {hs = hs} {fs = fs} q n c) xs h b zs = let (us, e) = found hs fs _ h b in rw (e, nodes_moved n us, lists_moved c _ (write_whole (Field.list hs) h) b zs, q)
    lists_moved (Carry.names {hs = hs} {fs = fs} q n c) xs h b zs = let (us, e) = found hs fs _ h b in rw (e, names_moved n us, lists_moved c _ (write_whole (Field.list hs) h) b zs, q)
    lists_moved (Carry.entries {hs = hs} {fs = fs} q n c) xs h b zs = let (us, e) = found hs fs _ h b in rw (e, entries_moved n us, lists_moved c _ (write_whole (Field.list hs) h) b zs, q)

    -- w and v have so many links more than where the row began
    record Since (from to k : ℕ) (w v : Rows) : Type 0 where
      pub old : Whole w
      pub new : Whole v
      pub old_links : link_count w ≡ from + k
      pub new_links : link_count v ≡ to + k

    since_list : {from to k : ℕ} {w v : Rows} (hs hs' : List Handle) → hs' ≡ moved_all m hs → Since from to k w v → Since from to (k + length hs) (write (Field.list hs) w) (write (Field.list hs') v)
    unfolding write
    since_list {w = w} {v = v} hs hs' q s =
        let l : length hs' ≡ length hs = ap length q ∙ moved_length m hs in
        record {
          old = write_whole (Field.list hs) s.old;
          new = write_whole (Field.list hs') s.new;
          old_links = omega (arith, s.old_links, s.old.links, length-append w.links (links_of hs), links_length hs);
          new_links = omega (arith, s.new_links, s.new.links, length-append v.links (links_of hs'), links_length hs');
        }

    module _ {from to : ℕ} (lead : (k : ℕ) → g (from + k) ≡ to + k) where
      first_moved : {k : ℕ} {w v : Rows} → Since from to k w v → g (link_count w) ≡ link_count v
      first_moved {k} s = ap g s.old_links ∙ lead k ∙ sym s.new_links

      numbers_moved : {r : ℕ} {ss : List Slot} {fs gs : List Field} → Carry m r ss fs gs → {k : ℕ} {w v : Rows} → Since from to k w v → (zs : List ℕ) → moved_numbers (at m g) ss (take r (gathered fs w ++ zs)) ≡ take r (gathered gs v ++ zs)
      unfolding moved_numbers moved_node gathered numbers write
      numbers_moved Carry.done s zs = refl
      numbers_moved (Carry.number q c) s zs = both_same (sym q) (numbers_moved c s zs)
      numbers_moved (Carry.child q c) s zs = both_same (sym q) (numbers_moved c s zs)
      numbers_moved (Carry.option q c) s zs = both_same (sym q) (numbers_moved c s zs)
      numbers_moved (Carry.symbol q c) s zs = both_same (sym q) (numbers_moved c s zs)
      numbers_moved (Carry.name Named.named c) s zs = both_same refl (both_same refl (both_same refl (numbers_moved c s zs)))
      numbers_moved (Carry.nodes {hs = hs} {hs' = hs'} q n c) s zs = both_same (first_moved s) (both_same (sym (ap length q ∙ moved_length m hs)) (numbers_moved c (since_list hs hs' q s) zs))
      numbers_moved (Carry.names {hs = hs} {hs' = hs'} q n c) s zs = both_same (first_moved s) (both_same (sym (ap length q ∙ moved_length m hs)) (numbers_moved c (since_list hs hs' q s) zs))
      numbers_moved (Carry.entries {hs = hs} {hs' = hs'} q n c) s zs = both_same (first_moved s) (both_same (sym (ap length q ∙ moved_length m hs)) (numbers_moved c (since_list hs hs' q s) zs))

-- two walks from one script to another. Row i of the old rows goes to row `m.node i`, and P i is all links that go with the rows before it
module _ (m : Move) (first : ℕ → ℕ → ℕ) (P : ℕ → List ℕ) (U U' : Rows) where
  -- how the move goes on from row i to the next
  pub record Step (i : ℕ) : Type 0 where
    pub node_next : m.node (suc i) ≡ suc (m.node i)
    pub links_next : P (suc i) ≡ P i ++ moved_links (at m (first i)) U i
    pub lead : (k : ℕ) → first i (links_before U i + k) ≡ length (P i) / link_width + k

  -- so far, rows w have become rows v
  pub record Place (w v : Rows) : Type 0 where
    pub old : Whole w
    pub new : Whole v
    pub rows : height v ≡ m.node (height w)
    pub before : link_count w ≡ links_before U (height w)
    pub links : v.links ≡ P (height w)

  -- row i, and its like
  pub record RowLike (i : ℕ) : Type 0 where
    pub own_is : own U' (m.node i) ≡ moved_own (at m (first i)) U i
    pub names_are : named_by U' (m.node i) ≡ map (sent m) (named_by U i)

  pub row_alike : (k s e : ℕ) {s' e' : ℕ} {fs gs : List Field} → s' ≡ m.span s → e' ≡ m.span e → Carry m 6 (layout Edition.second k) fs gs → {w v : Rows} → Place w v → Step (height w) → Later (fill fs (k ∷ s ∷ e ∷ []) w) U → Later (fill gs (k ∷ s' ∷ e' ∷ []) v) U' → Place (fill fs (k ∷ s ∷ e ∷ []) w) (fill gs (k ∷ s' ∷ e' ∷ []) v) × RowLike (height w)
  unfolding moved_links
  row_alike k s e {s'} {e'} {fs} {gs} p q c {w} {v} h t l l' =
      let b = both_laid m c in
      let g = first (height w) in
      let here = own_row k s e fs h.old l in
      let there = own_row k s' e' gs h.new l' in
      let a = added k s e b.old h.old in
      let a' = added k s' e' b.new h.new in
      let z : height (fill fs (k ∷ s ∷ e ∷ []) w) ≡ suc (height w) = a.taller in
      let moved : moved_links (at m g) U (height w) ≡ listed gs = ap (λ o. moved_lists (at m g) U.links (layout Edition.second (get_or o 0 0)) (drop 3 o)) here ∙ lists_moved m g c (k ∷ s ∷ e ∷ []) h.old l.links (replicate own_width 0) in
      let since : Since m (first (height w)) (links_before U (height w)) (length (P (height w)) / link_width) 0 w v = record { old = h.old; new = h.new; old_links = omega (arith, h.before); new_links = ap (λ x. length x / link_width) h.links ∙ omega arith } in (
        record {
          old = a.whole;
          new = a'.whole;
          rows = a'.taller ∙ ap suc h.rows ∙ sym t.node_next ∙ ap m.node (sym z);
          before = links_next k s e b.old h.old l h.before;
          links = fill_listed gs (k ∷ s' ∷ e' ∷ []) v ∙ ap (λ x. x ++ listed gs) h.links ∙ ap (λ x. P (height w) ++ x) (sym moved) ∙ sym t.links_next ∙ ap P (sym z);
        },
        record {
          own_is = ap (λ i. own U' i) (sym h.rows) ∙ there ∙ both_same refl (both_same p (both_same q (sym (numbers_moved m g t.lead c since (replicate own_width 0))))) ∙ sym (ap (λ o. get_or o 0 0 ∷ m.span (get_or o 1 0) ∷ m.span (get_or o 2 0) ∷ moved_numbers (at m g) (layout Edition.second (get_or o 0 0)) (drop 3 o)) here);
          names_are = ap (named_by U') (sym h.rows) ∙ a'.names.says l' ∙ ap (map (sent m)) (sym (a.names.says l));
        },
      )
