-- Held items become links together with the row of their node; and the row of an If, which has no list.
use Prim.Native.Nat.{ℕ, ◌+◌, ◌-◌, ◌*◌, ◌/◌, ◌≤◌, ◌<◌}
use native.Mathlib.Decide.{dec_le}
use native.Mathlib.Omega.{arith}
use mathlib.Core.Bool.{false}
use mathlib.Core.List.{List, [], ◌∷◌, ◌++◌}
use mathlib.Core.Path.{◌≡◌, refl, ap, ◌∙◌}
use lib.ListN.{length, take, drop, length-append}
use lib.Seq.{length-take-le}
use Rattle.ast.specs.Inserted.{Tried}
use Rattle.ast.specs.declared.Node.{Node}
use Rattle.grammar.specs.Handle.{Handle, absent, row, block_list, block_tail}
use Rattle.grammar.specs.Kaori.{Form, Table, block_items}
use Rattle.grammar.specs.Kind.{Eof}
use Rattle.grammar.specs.Label.{Node as Form-of, Label, number_of}
use Rattle.grammar.specs.Phrase.{empty, token, part, chain, Aim, whole}
use Rattle.grammar.specs.Rows.{links_of, numbers, write, fill, put, make}
use Rattle.grammar.specs.Rule.{rule}
use Rattle.grammar.specs.Space.{has_word}
use Rattle.grammar.specs.Token.{start, end}
use Rattle.names.specs.Resolved.{names_of}
use Rattle.reading.specs.Answers.{node_of, name_of, holding, Listed, Filled, Fills}
use Rattle.reading.specs.Parts.{Makes, MakesList, Gathered}
use Rattle.reading.specs.Reading.{Reading}
use Rattle.reading.specs.State.{State, state, written, held, Lent, Within, Ready}
use Rattle.reading.specs.declared.Cursor.{Cursor}
use Rattle.reading.specs.declared.Read.{Read}
use Rattle.reading.specs.declared.Terms.{Terms}
use Rattle.reading.proofs.Laws.{plain, closed}
use Rattle.reading.proofs.Entering.{link_number, entered, Tries, row_tried, list_tried}
use Rattle.reading.proofs.Listings.{hold_number, held_above, size_held}
use Rattle.reading.proofs.Replies.{Taken}
use Rattle.reading.proofs.Taking.{free, ready_led}

-- n rows are held in ss: so many below, and then those of the items
pub record Kept (base : ℕ) (below : List ℕ) (n : ℕ) (ss : List ℕ) (items : List Handle) : Type 0 where
  pub size : length below ≡ 3 * base
  pub count : n ≡ base + length items
  pub rows : take (3 * n) ss ≡ below ++ links_of items

-- what was learnt of a block's statements, and what is asked of a reader at a cursor, named by what it is read from
module _ {ts : List ℕ} {terms : Terms} {o : ℕ} {s : State} where
  abbrev pub FillTold : {ns ls ss : List ℕ} {r : Read} → Fills ts terms o s ns ls ss r → Node → Cursor → Type 0
  FillTold {ns} {ls} {ss} a n c = Filled ts terms o s n (state ns ls ss c)

  -- the items that are held since s, at a later state
  abbrev pub KeptTold : {g : Aim Table Label} {s₁ s' : State} → Listed ts terms g o s s₁ → ℕ → Within ts s' → Type 0
  KeptTold {s' = s'} l base w = Kept base (held s) s'.cursor.held s'.scratch l.items

  abbrev pub KeptFill : {n : Node} {s₁ s' : State} → Filled ts terms o s n s₁ → ℕ → Within ts s' → Type 0
  KeptFill {s' = s'} l base w = Kept base (held s) s'.cursor.held s'.scratch (block_list l.items)

  abbrev pub ReadyAt : Ready ts terms o s → Cursor → Type 0
  ReadyAt a c = Ready ts terms o (state s.nodes s.links s.scratch c)

abbrev pub WithinAt : {ts : List ℕ} {s : State} → Within ts s → Cursor → Type 0
WithinAt {ts} {s} w c = Within ts (state s.nodes s.links s.scratch c)

-- a token that was taken, with so much held
module _ {ts : List ℕ} {c d : Cursor} {x : ℕ} {n : Node} (k : Taken ts c x n d) where
  module _ {terms : Terms} {o : ℕ} where
    -- a list, and the token that closes it
    pub token_closes : {s : State} {ns ls ss : List ℕ} {base : ℕ} {p : Form} {hs : List Handle} → o ≤ terms.limit → Reading ts terms (whole p) o s hs [] (holding base (state ns ls ss c)) →
        Reading ts terms (whole (part p (token x empty))) o s hs [] (holding base (state ns ls ss d))
    token_closes h r = rw k.after (closed r h k.kind_is)

  pub token_within : {ns ls ss : List ℕ} → (x ≡ Eof → ⊥) → Lent ts → Within ts (state ns ls ss c) → Within ts (state ns ls ss d)
  token_within z l w = let h : Ready ts (record { edition = 0; limit = 0 }) 0 _ = record { lent = l; deep = omega arith; within = w } in (ready_led h k z).within

  pub token_end : end ts (d.at - 1) ≡ n.end
  token_end = let e : c.at + 1 - 1 ≡ c.at = omega arith in rw (k.node_is, k.after, e)

  pub token_held : d.held ≡ c.held
  token_held = rw k.after

-- of a list that is read from s to s₁, where so much was held at s
hold_as : {ts : List ℕ} {terms : Terms} {o k base : ℕ} {g : Aim Table Label} {s : State} {xs ys : List Handle} (s₁ : State) → k ≡ base → Reading ts terms g o s xs ys (holding k s₁) →
    Reading ts terms g o s xs ys (holding base s₁)
hold_as s₁ h r = rw h at r

module _ {ts : List ℕ} {terms : Terms} {o base : ℕ} {g : Aim Table Label} {s s₁ : State} (h : s.cursor.held ≡ base) (l : Listed ts terms g o s s₁) where
  pub list_kept : Within ts s → Kept base (held s) s₁.cursor.held s₁.scratch l.items
  list_kept w = record { size = size_held w h; count = l.count ∙ ap (λ k. k + length l.items) h; rows = l.rows }

  pub list_reading : Reading ts terms g o s l.items [] (holding base s₁)
  list_reading = hold_as s₁ h l.reading

module _ {ts : List ℕ} {terms : Terms} {o base : ℕ} {s s₁ : State} {n : Node} (h : s.cursor.held ≡ base) (l : Filled ts terms o s n s₁) where
  pub fill_kept : Within ts s → Kept base (held s) s₁.cursor.held s₁.scratch (block_list l.items)
  fill_kept w = record { size = size_held w h; count = l.count ∙ ap (λ k. k + length (block_list l.items)) h; rows = l.rows }

  pub fill_reading : Reading ts terms (whole (chain empty block_items)) o s l.items [] (holding base s₁)
  fill_reading = hold_as s₁ h l.reading

module _ {base n : ℕ} {below ss : List ℕ} {items : List Handle} (k : Kept base below n ss items) where
  -- of a number that is the same
  pub kept_as : {m : ℕ} → m ≡ n → Kept base below m ss items
  kept_as e = rw e k

  pub kept_under : base ≤ n
  kept_under = omega (arith, k.count)

  pub kept_count : length items ≡ n - base
  kept_count = omega (arith, k.count)

  -- the items' rows stand together
  kept_length : 3 * n ≤ length ss → length (links_of items) ≡ 3 * (n - base)
  kept_length h = let e : length (take (3 * n) ss) ≡ length below + length (links_of items) = ap length k.rows ∙ length-append below (links_of items) in omega (arith, e, length-take-le (3 * n) ss h, k.size)

  pub kept_links : 3 * n ≤ length ss → take (3 * (n - base)) (drop (3 * base) ss) ≡ links_of items
  kept_links h = held_above base n ss below kept_under h k.size k.rows

-- after another reading
pub kept_on : {ts : List ℕ} {terms : Terms} {o base : ℕ} {g : Aim Table Label} {s s' : State} {below : List ℕ} {items xs ys : List Handle} → Kept base below s.cursor.held s.scratch items →
    Reading ts terms g o s xs ys s' → Kept base below s'.cursor.held s'.scratch items
kept_on k r = record { size = k.size; count = r.holds ∙ k.count; rows = r.same ∙ k.rows }

pub gathered_size : {base : ℕ} {ls ls' ss : List ℕ} {c d : Cursor} → Gathered base c ss ls ls' d → length ls' ≡ length ls
gathered_size {ls = ls} {d = d} g = elim (dec_le (3 * d.links) (length ls)) [ yes h ↦ (g.links h).size | no n ↦ ap length (g.kept (omega (arith, n))) ]

module _ {ts ns ls ss : List ℕ} {c : Cursor} where
  -- what gather asks, and what the row after it does
  pub gather_asks : {base : ℕ} → Lent ts → Within ts (state ns ls ss c) → base ≤ c.held → (base ≤ c.held) × (3 * c.held ≤ length ss) × (c.links + c.held < absent)
  gather_asks l w h = (h, omega (arith, w.links, w.at, w.roomy.scratch), omega (arith, w.links, w.at, l.whole.most))

  pub numbers_fit : Lent ts → Within ts (state ns ls ss c) → (c.links < absent) × (c.held < absent)
  numbers_fit l w = (omega (arith, w.links, w.at, l.whole.most), hold_number w l)

  pub first_link : Within ts (state ns ls ss c) → length (take (3 * c.links) ls) / 3 ≡ c.links
  first_link w = link_number c.links ls w.stands.link_rows

  -- a list's row has a number, and so have its links
  pub gathered_numbers : {base : ℕ} {ls' : List ℕ} {d : Cursor} → Lent ts → Within ts (state ns ls ss c) → Gathered base c ss ls ls' d → (d.nodes < absent) × (d.links < absent)
  gathered_numbers {base} l w g = rw g.cursor (free l w, omega (arith, w.links, w.at, l.whole.most))

  -- the row of a node whose items are gathered
  gathered_tried : {base : ℕ} {ls' : List ℕ} {d : Cursor} {f : Label} {a k st en : ℕ} {xs zs items : List Handle} {ns' below fields : List ℕ} {n : Node} {r : Read} → Within ts (state ns ls ss c) →
      Lent ts → Gathered base c ss ls ls' d → Kept base below c.held ss items → has_word f ≡ false →
      make ts (names_of ts ss) f a c.at (written (state ns ls ss c)) xs zs ≡ entered c ns ls k st en fields (links_of items) → MakesList (length ls') n d r →
      Tried d.nodes k st en fields ns ns' n → Tries ts f a (holding base (state ns ls ss c)) xs zs ns' ls' ss r
  gathered_tried {base} w l g k v e m i =
      let h : 3 * c.held ≤ length ss = omega (arith, w.links, w.at, w.roomy.scratch) in
      list_tried c (c.held - base) w.stands (omega (arith, free l w)) v e (kept_length k h) (rw (g.cursor, kept_links k h) at g.links) (gathered_size g) (rw g.cursor at m) (rw g.cursor at i)

-- the row of an If
module _ {ts ns ns' ls ss : List ℕ} {c : Cursor} {a st : ℕ} {n x y : Node} {r : Read} (w : Within ts (state ns ls ss c)) (l : Lent ts) (p : st ≡ start ts a) (m : Makes n c r) where
  pub if_tried : Tried c.nodes (number_of Form-of.If) st y.end (x.id ∷ y.id ∷ absent ∷ []) ns ns' n →
      Tries ts (Label.Row Form-of.If) a (state ns ls ss c) (node_of x ∷ []) (node_of y ∷ []) ns' ls ss r
  unfolding make put fill numbers write rule has_word
  if_tried i = row_tried w l (λ h z. plain refl h) (rw p) m i

  pub else_tried : {z : Node} → Tried c.nodes (number_of Form-of.If) st z.end (x.id ∷ y.id ∷ z.id ∷ []) ns ns' n →
      Tries ts (Label.Row Form-of.If) a (state ns ls ss c) (node_of x ∷ []) (node_of y ∷ node_of z ∷ []) ns' ls ss r
  unfolding make put fill numbers write rule has_word
  else_tried i = row_tried w l (λ h z. plain refl h) (rw p) m i

-- the nodes that have a list, at a the first of its tokens
module _ {ts ns ns' ls ls' ss below : List ℕ} {c d : Cursor} {base a st : ℕ} {n : Node} {r : Read} (w : Within ts (state ns ls ss c)) (l : Lent ts) (g : Gathered base c ss ls ls' d) (p : st ≡ start ts a)
    (m : MakesList (length ls') n d r) where
  pub map_tried : {en : ℕ} {xs zs : List Handle} → Kept base below c.held ss xs → end ts (c.at - 1) ≡ en →
      Tried d.nodes (number_of Form-of.Map) st en (c.links ∷ (c.held - base) ∷ []) ns ns' n →
      Tries ts (Label.Row Form-of.Map) a (holding base (state ns ls ss c)) xs zs ns' ls' ss r
  unfolding make put fill numbers write rule has_word
  map_tried k q i = gathered_tried w l g k refl (rw (p, q, first_link w, kept_count k)) m i

  pub block_tried : {en : ℕ} {xs zs : List Handle} {tail : ℕ} → Kept base below c.held ss (block_list xs) → end ts (c.at - 1) ≡ en → tail ≡ row (block_tail xs) →
      Tried d.nodes (number_of Form-of.Block) st en (c.links ∷ (c.held - base) ∷ tail ∷ []) ns ns' n →
      Tries ts (Label.Row Form-of.Block) a (holding base (state ns ls ss c)) xs zs ns' ls' ss r
  unfolding make put fill numbers write rule has_word
  block_tried k q z i = gathered_tried w l g k refl (rw (p, q, first_link w, kept_count k, z)) m i

  pub call_tried : {en : ℕ} {zs : List Handle} {v : Node} → Kept base below c.held ss zs → end ts (c.at - 1) ≡ en →
      Tried d.nodes (number_of Form-of.FunctionCall) st en (v.id ∷ c.links ∷ (c.held - base) ∷ []) ns ns' n →
      Tries ts (Label.Row Form-of.FunctionCall) a (holding base (state ns ls ss c)) (node_of v ∷ []) zs ns' ls' ss r
  unfolding make put fill numbers write rule has_word
  call_tried k q i = gathered_tried w l g k refl (rw (p, q, first_link w, kept_count k)) m i

  pub lambda_tried : {xs : List Handle} {body : Node} → Kept base below c.held ss xs → Tried d.nodes (number_of Form-of.Lambda) st body.end (c.links ∷ (c.held - base) ∷ body.id ∷ []) ns
      ns' n → Tries ts (Label.Row Form-of.Lambda) a (holding base (state ns ls ss c)) xs (node_of body ∷ []) ns' ls' ss r
  unfolding make put fill numbers write rule has_word
  lambda_tried k i = gathered_tried w l g k refl (rw (p, first_link w, kept_count k)) m i

  pub function_tried : {xs : List Handle} {v body : Node} → Kept base below c.held ss xs →
      Tried d.nodes (number_of Form-of.Function) st body.end (v.id ∷ v.start ∷ v.end ∷ c.links ∷ (c.held - base) ∷ body.id ∷ []) ns ns' n →
      Tries ts (Label.Row Form-of.Function) a (holding base (state ns ls ss c)) (name_of v ∷ xs) (node_of body ∷ []) ns' ls' ss r
  unfolding make put fill numbers write rule has_word
  function_tried k i = gathered_tried w l g k refl (rw (p, first_link w, kept_count k)) m i
