-- A row that is written keeps the rules of Check.antt that speak of one row, whatever is written later: its items are those of its fields, and its lists' links
-- stand where it says, right after all links before them.
use Prim.Native.Nat.{ℕ, zero, suc, ◌+◌, ◌*◌, ◌/◌, ◌≤◌, ◌<◌}
use native.Mathlib.Decide.{dec_lt}
use native.Mathlib.Omega.{arith}
use mathlib.Core.List.{List, [], ◌∷◌, ◌++◌, append_assoc, map}
use mathlib.Core.Path.{◌≡◌, refl, sym, ap, ◌∙◌}
use lib.ListN.{length, take, drop, replicate, length-append, length-take, length-replicate}
use lib.Seq.{take_at, drop_at}
use Rattle.grammar.specs.Edition.{Edition}
use Rattle.grammar.specs.Handle.{Handle}
use Rattle.grammar.specs.Layout.{Slot, layout}
use Rattle.grammar.specs.Naming.{height}
use Rattle.grammar.specs.Parent.{own}
use Rattle.grammar.specs.Room.{node_width, own_width, link_width}
use Rattle.grammar.specs.Rows.{Rows, links_of, numbers, write, padded, fill}
use Rattle.grammar.specs.Rule.{Field, list}
use Rattle.grammar.proofs.Decoding.{Whole, gathered, write_whole, found, fill_nodes, fill_later}
use Rattle.grammar.proofs.Forest.{Begins, Later, later_both}
use Rattle.grammar.proofs.Growth.{links_length, filled}
use Rattle.grammar.proofs.Sizes.{Sort}
use Rattle.foreign.specs.Check.{Item, node_items, name_items, entry_items, items, items_of, link_count, Each, nil, cons, KnownKind, Before, lists, counted, Consecutive, covered, Follows}
use Rattle.foreign.proofs.Sitting.{Is, Sits}

-- what holds of what stands in row n, where there are so many symbols and links
abbrev pub Fine : (symbols links n : ℕ) → Item → Type 0
Fine s m n (Item.number l x) = x < l
Fine s m n (Item.child x) = x < n
Fine s m n (Item.option x) = Before n x
Fine s m n (Item.symbol x) = x < s
Fine s m n (Item.list f c) = f + c ≤ m
Fine s m n (Item.unused x) = x ≡ 0

-- all that stands in row n, where the links before it end at `from`, and with its own at `upto`
record ReadsWell (s m n from upto : ℕ) (is : List Item) : Type 0 where
  pub fine : Each (Fine s m n) is
  pub follows : Consecutive from (lists is)
  pub sum : from + counted (lists is) ≡ upto

module _ (s m n : ℕ) where
  -- an item that is no list
  plain : {from upto : ℕ} {x : Item} {is : List Item} → Fine s m n x → lists (x ∷ []) ≡ [] → ReadsWell s m n from upto is → ReadsWell s m n from upto (x ∷ is)
  plain {x = Item.number l y} f e r = record { fine = cons f r.fine; follows = r.follows; sum = r.sum }
  plain {x = Item.child y} f e r = record { fine = cons f r.fine; follows = r.follows; sum = r.sum }
  plain {x = Item.option y} f e r = record { fine = cons f r.fine; follows = r.follows; sum = r.sum }
  plain {x = Item.symbol y} f e r = record { fine = cons f r.fine; follows = r.follows; sum = r.sum }
  plain {x = Item.list y c} f e r = absurd (let z : ◌≡◌ {A = ℕ} 0 1 = cc in omega arith)
  plain {x = Item.unused y} f e r = record { fine = cons f r.fine; follows = r.follows; sum = r.sum }

  -- numbers left over
  left : (from r k : ℕ) → r ≤ k → ReadsWell s m n from from (map Item.unused (take r (replicate k 0)))
  left from zero k h = record { fine = nil; follows = tt; sum = omega arith }
  left from (suc r) zero h = absurd (omega arith)
  left from (suc r) (suc k) h = plain refl refl (left from r k (omega arith))

  -- a list and its items
  listed : {from c upto last : ℕ} {is : List Item} → upto ≡ from + c → upto ≤ m → ReadsWell s m n upto last is → ReadsWell s m n from last (Item.list from c ∷ is)
  listed {from} {c} e h r = let l : from + c ≤ m = omega arith in record { fine = cons l r.fine; follows = (refl, rw e at r.follows); sum = omega (arith, r.sum) }

  module _ (us : List ℕ) {from upto : ℕ} {is : List Item} (r : ReadsWell s m n from upto is) where
    -- the items of links that hold these handles
    nodes_well : {hs : List Handle} → Each (Is n s Sort.node) hs → ReadsWell s m n from upto (node_items (length hs) (links_of hs ++ us) ++ is)
    unfolding node_items links_of
    nodes_well nil = r
    nodes_well (cons (Is.node l) e) = plain l refl (plain refl refl (plain refl refl (nodes_well e)))
    nodes_well (cons (Is.ended l) e) = plain l refl (plain refl refl (plain refl refl (nodes_well e)))

    names_well : {hs : List Handle} → Each (Is n s Sort.name) hs → ReadsWell s m n from upto (name_items (length hs) (links_of hs ++ us) ++ is)
    unfolding name_items links_of
    names_well nil = r
    names_well (cons (Is.name l) e) = plain l refl (names_well e)

    entries_well : {hs : List Handle} → Each (Is n s Sort.entry) hs → ReadsWell s m n from upto (entry_items (length hs) (links_of hs ++ us) ++ is)
    unfolding entry_items links_of
    entries_well nil = r
    entries_well (cons (Is.entry k y) e) = plain k refl (plain y refl (plain refl refl (entries_well e)))

-- one list more
longer : (hs : List Handle) {w : Rows} → Whole w → link_count (write (list hs) w) ≡ link_count w + length hs
unfolding write
longer hs {w} h = omega (arith, h.links, length-append w.links (links_of hs), links_length hs)

-- what is written stays
kept_links : (fs : List Field) (xs : List ℕ) (w : Rows) {ls : List ℕ} → Begins (fill fs xs w).links ls → link_count w ≤ length ls / link_width
kept_links fs xs w b = omega (arith, (filled fs xs w).links, ap length b.same, length-append (fill fs xs w).links b.rest)

module _ (ls : List ℕ) {n s : ℕ} where
  well : {r : ℕ} {ss : List Slot} {fs : List Field} → Sits n s r ss fs → r ≤ own_width → (xs : List ℕ) {w : Rows} → Whole w → Begins (fill fs xs w).links ls → ReadsWell s (length ls / link_width) n (link_count w) (link_count (fill fs xs w)) (items ls ss (take r (gathered fs w ++ replicate own_width 0)))
  unfolding items gathered fill numbers write
  well (Sits.done {r = r}) q xs h b = left _ _ _ _ r own_width q
  well (Sits.number l x) q xs h b = plain _ _ _ l refl (well x (omega arith) _ h b)
  well (Sits.child l x) q xs h b = plain _ _ _ l refl (well x (omega arith) _ h b)
  well (Sits.option l x) q xs h b = plain _ _ _ l refl (well x (omega arith) _ h b)
  well (Sits.symbol l x) q xs h b = plain _ _ _ l refl (well x (omega arith) _ h b)
  well (Sits.name (Is.name l) x) q xs h b = plain _ _ _ l refl (well x (omega arith) _ h b)
  well (Sits.nodes {hs = hs} {fs = fs} l x) q xs {w} h b =
      let (us, e) = found hs fs _ h b in
      rw e (listed _ _ _ (longer hs h) (kept_links fs (xs ++ numbers (list hs) w) (write (list hs) w) b) (nodes_well _ _ _ us (well x (omega arith) _ (write_whole (list hs) h) b) l))
  well (Sits.names {hs = hs} {fs = fs} l x) q xs {w} h b =
      let (us, e) = found hs fs _ h b in
      rw e (listed _ _ _ (longer hs h) (kept_links fs (xs ++ numbers (list hs) w) (write (list hs) w) b) (names_well _ _ _ us (well x (omega arith) _ (write_whole (list hs) h) b) l))
  well (Sits.entries {hs = hs} {fs = fs} l x) q xs {w} h b =
      let (us, e) = found hs fs _ h b in
      rw e (listed _ _ _ (longer hs h) (kept_links fs (xs ++ numbers (list hs) w) (write (list hs) w) b) (entries_well _ _ _ us (well x (omega arith) _ (write_whole (list hs) h) b) l))

module _ (e : Edition) (s : ℕ) where
  -- row i of v keeps the rules that speak of one row
  pub record Keeps (v : Rows) (i : ℕ) : Type 0 where
    pub kind : KnownKind v i
    pub fine : Each (Fine s (link_count v) i) (items_of e v i)
    pub follows : Follows e v i

  -- all rows of w do, whatever is written later, and their lists are all links
  pub record Lawful (w : Rows) : Type 0 where
    pub keeps : {v : Rows} → Later w v → (i : ℕ) → i < height w → Keeps v i
    pub cover : {v : Rows} → Later w v → covered e v (height w) ≡ link_count w

module _ (e : Edition) {s : ℕ} (k from upto : ℕ) {fs : List Field} {w : Rows} (x : Sits (height w) s 6 (layout e k) fs) (h : Whole w) where
  abbrev next : Rows
  next = fill fs (k ∷ from ∷ upto ∷ []) w

  own_row : {v : Rows} → Later next v → own v (height w) ≡ k ∷ from ∷ upto ∷ take 6 (gathered fs w ++ replicate own_width 0)
  own_row {v} n =
      let z = padded (k ∷ from ∷ upto ∷ gathered fs w) in
      let r = n.nodes.rest in
      let q : v.nodes ≡ w.nodes ++ (z ++ r) = n.nodes.same ∙ rw (fill_nodes fs (k ∷ from ∷ upto ∷ []) w) (append_assoc w.nodes z r) in
      let l : length (take own_width (k ∷ from ∷ upto ∷ gathered fs w ++ replicate own_width 0)) ≡ own_width = simp (length-take, length-append, length-replicate) (omega arith) in
      ap (λ ns. take own_width (drop (node_width * height w) ns)) q ∙ ap (take own_width) (drop_at w.nodes (z ++ r) (node_width * height w) (sym h.nodes)) ∙ ap (take own_width) (append_assoc (take own_width (k ∷ from ∷ upto ∷ gathered fs w ++ replicate own_width 0)) (0 ∷ []) r) ∙ take_at (take own_width (k ∷ from ∷ upto ∷ gathered fs w ++ replicate own_width 0)) (0 ∷ r) own_width l

  new_row : {v : Rows} → Later next v → ReadsWell s (link_count v) (height w) (link_count w) (link_count next) (items_of e v (height w))
  unfolding items_of
  new_row {v} n = rw (own_row n) (well v.links x (omega arith) (k ∷ from ∷ upto ∷ []) h n.links)

  -- a row more
  pub row_lawful : 1 ≤ k → k ≤ 26 → Lawful e s w → Lawful e s next
  unfolding covered
  row_lawful a b l = record { keeps = keeps; cover = cover }
    where
      tall : height next ≡ suc (height w)
      tall = omega (arith, (filled fs (k ∷ from ∷ upto ∷ []) w).nodes)

      before : {v : Rows} → Later next v → Later w v
      before n = later_both (fill_later fs (k ∷ from ∷ upto ∷ []) w) n

      last : {v : Rows} → Later next v → Keeps e s v (height w)
      last n = record { kind = record { least = rw (own_row n) a; most = rw (own_row n) b }; fine = (new_row n).fine; follows = rw (l.cover (before n)) (new_row n).follows }

      keeps : {v : Rows} → Later next v → (i : ℕ) → i < height next → Keeps e s v i
      keeps n i m = elim (dec_lt i (height w)) [ yes p ↦ l.keeps (before n) i p | no p ↦ let q : i ≡ height w = omega (arith, tall) in rw q (last n) ]

      cover : {v : Rows} → Later next v → covered e v (height next) ≡ link_count next
      cover n = rw tall (omega (arith, l.cover (before n), (new_row n).sum))
