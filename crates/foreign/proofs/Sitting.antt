-- What a node's row holds, by its slots: operators in range, rows that are written, names that have a symbol. Each rule's fields against its kind's layout, where
-- so many rows are written and there are so many symbols.
use Prim.Native.Nat.{ℕ, suc, ◌<◌}
use native.Mathlib.Omega.{arith}
use mathlib.Core.List.{List, [], ◌∷◌, tail}
use mathlib.Core.Logic.{inl, inr}
use mathlib.Core.Path.{refl}
use lib.Dec.{T, ltb→lt}
use Rattle.grammar.specs.Edition.{Edition}
use Rattle.grammar.specs.Handle.{Handle, row, head, block_list, block_tail}
use Rattle.grammar.specs.Label.{Node, Label, number_of}
use Rattle.grammar.specs.Layout.{Slot, below, layout}
use Rattle.grammar.specs.Rule.{Field, fields, rule, root}
use Rattle.grammar.specs.Space.{has_word}
use Rattle.grammar.specs.Token.{kind}
use Rattle.grammar.proofs.Order.{wants, others}
use Rattle.grammar.proofs.Sizes.{Sort, Size, Fits, sub, fits_sub, one, maybe, any_nodes, any_names, any_entries}
use Rattle.grammar.proofs.Worded.{a_name}
use Rattle.foreign.specs.Check.{Each, nil, cons, Before}
use Rattle.foreign.proofs.Suits.{some, some_made, Suited}

-- a handle of a sort, whose rows and symbol are there
pub data Is (n s : ℕ) : Sort → Handle → Type 0 where
  node : {i a b : ℕ} → i < n → Is n s Sort.node (Handle.node i a b)
  ended : {i : ℕ} → i < n → Is n s Sort.node (Handle.ended i)
  name : {x a b : ℕ} → x < s → Is n s Sort.name (Handle.name x a b)
  entry : {k v : ℕ} → k < n → Before n v → Is n s Sort.entry (Handle.entry k v)

pub data Stands (n s : ℕ) : Handle → Type 0 where
  stands : {c : Sort} {h : Handle} → Is n s c h → Stands n s h

-- handles that stand, and of which there are so many
pub record Holds (n s : ℕ) (z : Size) (hs : List Handle) : Type 0 where
  pub fits : Fits z hs
  pub stand : Each (Stands n s) hs

module _ {n s : ℕ} where
  -- all of one sort
  each_node : {hs : List Handle} → Fits any_nodes hs → Each (Stands n s) hs → Each (Is n s Sort.node) hs
  each_node f nil = nil
  each_node f (cons (Stands.stands (Is.node l)) e) = cons (Is.node l) (each_node (others refl f) e)
  each_node f (cons (Stands.stands (Is.ended l)) e) = cons (Is.ended l) (each_node (others refl f) e)
  each_node f (cons (Stands.stands (Is.name l)) e) = absurd (omega (arith, f.most Sort.name))
  each_node f (cons (Stands.stands (Is.entry k v)) e) = absurd (omega (arith, f.most Sort.entry))

  each_name : {hs : List Handle} → Fits any_names hs → Each (Stands n s) hs → Each (Is n s Sort.name) hs
  each_name f nil = nil
  each_name f (cons (Stands.stands (Is.node l)) e) = absurd (omega (arith, f.most Sort.node))
  each_name f (cons (Stands.stands (Is.ended l)) e) = absurd (omega (arith, f.most Sort.node))
  each_name f (cons (Stands.stands (Is.name l)) e) = cons (Is.name l) (each_name (others refl f) e)
  each_name f (cons (Stands.stands (Is.entry k v)) e) = absurd (omega (arith, f.most Sort.entry))

  each_entry : {hs : List Handle} → Fits any_entries hs → Each (Stands n s) hs → Each (Is n s Sort.entry) hs
  each_entry f nil = nil
  each_entry f (cons (Stands.stands (Is.node l)) e) = absurd (omega (arith, f.most Sort.node))
  each_entry f (cons (Stands.stands (Is.ended l)) e) = absurd (omega (arith, f.most Sort.node))
  each_entry f (cons (Stands.stands (Is.name l)) e) = absurd (omega (arith, f.most Sort.name))
  each_entry f (cons (Stands.stands (Is.entry k v)) e) = cons (Is.entry k v) (each_entry (others refl f) e)

  nodes_of : {z : Size} {hs : List Handle} → T (sub z any_nodes) → Holds n s z hs → Each (Is n s Sort.node) hs
  nodes_of t h = each_node (fits_sub t h.fits) h.stand

  names_of : {hs : List Handle} → Holds n s any_names hs → Each (Is n s Sort.name) hs
  names_of h = each_name h.fits h.stand

  entries_of : {hs : List Handle} → Holds n s any_entries hs → Each (Is n s Sort.entry) hs
  entries_of h = each_entry h.fits h.stand

  -- the first of them, where there is one, and the others
  first_of : {c : Sort} {hs : List Handle} → Each (Is n s c) hs → T (some hs) → Is n s c (head hs)
  first_of nil t = absurd t
  first_of (cons x e) t = x

  rest_of : {c : Sort} {hs : List Handle} → Each (Is n s c) hs → Each (Is n s c) (tail hs)
  rest_of nil = nil
  rest_of (cons x e) = e

  -- the row of the first
  row_below : {h : Handle} → Is n s Sort.node h → row h < n
  row_below (Is.node l) = l
  row_below (Is.ended l) = l

  row_before : {hs : List Handle} → Each (Is n s Sort.node) hs → Before n (row (head hs))
  row_before nil = inr refl
  row_before (cons x e) = inl (row_below x)

  pub one_row : {hs : List Handle} → Holds n s one hs → row (head hs) < n
  unfolding sub
  one_row {hs} h = row_below (first_of (nodes_of tt h) (some_made hs h.fits.least))

  pub maybe_row : {hs : List Handle} → Holds n s maybe hs → Before n (row (head hs))
  unfolding sub
  maybe_row h = row_before (nodes_of tt h)

  -- a block's list, and its tail
  block : {hs : List Handle} → Each (Is n s Sort.node) hs → Each (Is n s Sort.node) (block_list hs) × Before n (row (block_tail hs))
  unfolding block_list block_tail
  block nil = (nil, inr refl)
  block (cons (Is.node l) nil) = (nil, inl l)
  block (cons (Is.ended l) nil) = (cons (Is.ended l) nil, inr refl)
  block (cons x (cons y e)) = let (a, b) = block (cons y e) in (cons x a, b)

-- fields that fill slots, with room for so many numbers
pub data Sits (n s : ℕ) : (room : ℕ) → List Slot → List Field → Type 0 where
  done : {r : ℕ} → Sits n s r [] []
  number : {r k x : ℕ} {ss : List Slot} {fs : List Field} → x < k → Sits n s r ss fs → Sits n s (suc r) (below k ∷ ss) (Field.number x ∷ fs)
  child : {r : ℕ} {h : Handle} {ss : List Slot} {fs : List Field} → row h < n → Sits n s r ss fs → Sits n s (suc r) (Slot.child ∷ ss) (Field.child h ∷ fs)
  option : {r : ℕ} {h : Handle} {ss : List Slot} {fs : List Field} → Before n (row h) → Sits n s r ss fs → Sits n s (suc r) (Slot.option ∷ ss) (Field.child h ∷ fs)
  symbol : {r x : ℕ} {ss : List Slot} {fs : List Field} → x < s → Sits n s r ss fs → Sits n s (suc r) (Slot.symbol ∷ ss) (Field.number x ∷ fs)
  name : {r : ℕ} {h : Handle} {ss : List Slot} {fs : List Field} → Is n s Sort.name h → Sits n s r ss fs → Sits n s (suc (suc (suc r))) (Slot.name ∷ ss) (Field.named h ∷ fs)
  nodes : {r : ℕ} {hs : List Handle} {ss : List Slot} {fs : List Field} → Each (Is n s Sort.node) hs → Sits n s r ss fs → Sits n s (suc (suc r)) (Slot.nodes ∷ ss) (Field.list hs ∷ fs)
  names : {r : ℕ} {hs : List Handle} {ss : List Slot} {fs : List Field} → Each (Is n s Sort.name) hs → Sits n s r ss fs → Sits n s (suc (suc r)) (Slot.names ∷ ss) (Field.list hs ∷ fs)
  entries : {r : ℕ} {hs : List Handle} {ss : List Slot} {fs : List Field} → Each (Is n s Sort.entry) hs → Sits n s r ss fs → Sits n s (suc (suc r)) (Slot.entries ∷ ss) (Field.list hs ∷ fs)

-- a row has room for 6 numbers after its kind and span; `word` is that a word's symbol is there
pub sits : {n s : ℕ} (e : Edition) (ts : List ℕ) (σ : ℕ → ℕ) (k : Node) (a b : ℕ) {xs ys : List Handle} (word : T (a_name (kind ts a)) → σ a < s) → Suited e (kind ts) (Label.Row k) a xs ys → Holds n s (wants k).0 xs → Holds n s (wants k).1 ys → Sits n s 6 (layout e (number_of k)) (fields (rule ts σ k a b xs ys (head xs) (head ys)))
unfolding wants layout rule has_word sub
sits e ts σ Node.Binary a b word t f g = number (ltb→lt _ 11 t.spelt) (child (one_row f) (child (one_row g) done))
sits e ts σ Node.LogicalAnd a b word t f g = child (one_row f) (child (one_row g) done)
sits e ts σ Node.LogicalOr a b word t f g = child (one_row f) (child (one_row g) done)
sits e ts σ (Node.LogicalNot Edition.first) a b word t f g = child (one_row f) done
sits e ts σ (Node.LogicalNot Edition.second) a b word t f g = child (one_row f) done
sits e ts σ Node.Unary a b word t f g = number (ltb→lt _ 2 t.spelt) (child (one_row f) done)
sits e ts σ Node.Assign a b word t f g = child (one_row f) (child (one_row g) done)
sits e ts σ Node.Variable a b word t f g = name (first_of (names_of f) (t.filled.first tt)) (child (one_row g) done)
sits e ts σ Node.Constant a b word t f g = name (first_of (names_of f) (t.filled.first tt)) (child (one_row g) done)
sits e ts σ Node.Ref a b word t f g = name (first_of (names_of f) (t.filled.first tt)) (child (one_row g) done)
sits e ts σ Node.Identifier a b word t f g = name (Is.name (word t.spelt)) done
sits e ts σ Node.String a b word t f g = symbol (word t.spelt) done
sits e ts σ Node.Number a b word t f g = done
sits e ts σ Node.Boolean a b word t f g = number (ltb→lt _ 2 t.spelt) done
sits e ts σ Node.Nil a b word t f g = done
sits e ts σ Node.FunctionCall a b word t f g = child (one_row f) (nodes (nodes_of tt g) done)
sits e ts σ Node.PropertyAccess a b word t f g = child (one_row f) (name (first_of (names_of g) (t.filled.rest tt)) done)
sits e ts σ Node.Map a b word t f g = entries (entries_of f) done
sits e ts σ Node.Function a b word t f g = name (first_of (names_of f) (t.filled.first tt)) (names (rest_of (names_of f)) (child (one_row g) done))
sits e ts σ Node.Lambda a b word t f g = names (names_of f) (child (one_row g) done)
sits e ts σ Node.Block a b word t f g = let (x, y) = block (nodes_of tt f) in nodes x (option y done)
sits e ts σ Node.If a b word t f g = child (one_row f) (child (row_below (first_of (nodes_of tt g) (t.filled.rest tt))) (option (row_before (rest_of (nodes_of tt g))) done))
sits e ts σ Node.WhileLoop a b word t f g = child (one_row f) (child (one_row g) done)
sits Edition.first ts σ Node.Return a b word t f g = child (row_below (first_of (nodes_of tt f) (t.filled.first tt))) done
sits Edition.second ts σ Node.Return a b word t f g = option (maybe_row f) done
sits e ts σ Node.Break a b word t f g = done
sits e ts σ Node.Continue a b word t f g = done
sits e ts σ Node.Import a b word t f g = names (names_of f) (names (names_of g) done)

pub sits_root : {n s : ℕ} (e : Edition) {xs : List Handle} → Holds n s any_nodes xs → Sits n s 6 (layout e (number_of Node.Block)) (fields (root xs))
unfolding layout sub
sits_root e f = nodes (nodes_of tt f) (option (inr refl) done)
