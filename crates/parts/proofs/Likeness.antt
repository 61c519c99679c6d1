-- A node's row and the row of its like elsewhere: each rule's fields against its kind's layout, once with the handles and tokens as they were and once with those at
-- the new place.
use Prim.Native.Nat.{ℕ, suc, ◌-◌}
use mathlib.Core.Bool.{Bool, true, false, cond, not}
use mathlib.Core.List.{List, [], ◌∷◌, ◌++◌, tail}
use mathlib.Core.Path.{◌≡◌, refl, ap, ◌∙◌}
use native.Mathlib.Omega.{arith}
use lib.Dec.{eqb, T}
use lib.ListN.{length}
use Rattle.grammar.specs.Edition.{Edition}
use Rattle.grammar.specs.Handle.{Handle, absent, row, from, upto, head, last, is_tail, block_tail, block_list, entry_of}
use Rattle.grammar.specs.Kind.{False, True}
use Rattle.grammar.specs.Label.{Node, Label, number_of}
use Rattle.grammar.specs.Layout.{Slot, below, layout}
use Rattle.grammar.specs.Operator.{binary_operators, unary_operators, place}
use Rattle.grammar.specs.Rule.{Field, Row, writes, rule, upto_or, word}
use Rattle.grammar.specs.Space.{has_word}
use Rattle.grammar.specs.Symbol.{is_name}
use Rattle.grammar.specs.Token.{kind, end}
use Rattle.grammar.proofs.Order.{Nodes, Entries, wants, others}
use Rattle.grammar.proofs.Sizes.{Sort, Fits, sub, fits_sub, one, maybe, any_nodes, any_names, any_entries}
use Rattle.grammar.proofs.Tests.{as_true}
use Rattle.foreign.specs.Check.{Each}
use Rattle.foreign.proofs.Suits.{some, Suited}
use Rattle.parts.specs.Moved.{Move}
use Rattle.parts.proofs.Kinship.{Kin, is_import}
use Rattle.parts.proofs.Spanned.{is_block, Spans, Spanned}

-- handles of one sort
pub data Names : List Handle → Type 0 where
  nil : Names []
  name : {x s e : ℕ} {hs : List Handle} → Names hs → Names (Handle.name x s e ∷ hs)

only_nodes : {hs : List Handle} → Fits any_nodes hs → Nodes hs
only_nodes {hs = []} f = Nodes.nil
only_nodes {hs = Handle.node i s e ∷ hs} f = Nodes.node (only_nodes (others refl f))
only_nodes {hs = Handle.name x s e ∷ hs} f = absurd (omega (arith, f.most Sort.name))
only_nodes {hs = Handle.entry k v ∷ hs} f = absurd (omega (arith, f.most Sort.entry))
only_nodes {hs = Handle.ended i ∷ hs} f = Nodes.ended (only_nodes (others refl f))
only_nodes {hs = Handle.other ∷ hs} f = absurd (omega (arith, f.most Sort.name))

only_entries : {hs : List Handle} → Fits any_entries hs → Entries hs
only_entries {hs = []} f = Entries.nil
only_entries {hs = Handle.node i s e ∷ hs} f = absurd (omega (arith, f.most Sort.node))
only_entries {hs = Handle.name x s e ∷ hs} f = absurd (omega (arith, f.most Sort.name))
only_entries {hs = Handle.entry k v ∷ hs} f = Entries.entry (only_entries (others refl f))
only_entries {hs = Handle.ended i ∷ hs} f = absurd (omega (arith, f.most Sort.node))
only_entries {hs = Handle.other ∷ hs} f = absurd (omega (arith, f.most Sort.name))

only_names : {hs : List Handle} → Fits any_names hs → Each Spans hs → Names hs
only_names f Each.nil = Names.nil
only_names f (Each.cons Spans.a_node e) = absurd (omega (arith, f.most Sort.node))
only_names f (Each.cons Spans.a_name e) = Names.name (only_names (others refl f) e)
only_names f (Each.cons Spans.an_entry e) = absurd (omega (arith, f.most Sort.entry))

tail_names : {hs : List Handle} → Names hs → Names (tail hs)
tail_names Names.nil = Names.nil
tail_names (Names.name n) = n

nodes_left : {hs : List Handle} → Nodes hs → Nodes (block_list hs)
unfolding block_list
nodes_left Nodes.nil = Nodes.nil
nodes_left (Nodes.node Nodes.nil) = Nodes.nil
nodes_left (Nodes.ended Nodes.nil) = Nodes.ended Nodes.nil
nodes_left (Nodes.node (Nodes.node n)) = Nodes.node (nodes_left (Nodes.node n))
nodes_left (Nodes.node (Nodes.ended n)) = Nodes.node (nodes_left (Nodes.ended n))
nodes_left (Nodes.ended (Nodes.node n)) = Nodes.ended (nodes_left (Nodes.node n))
nodes_left (Nodes.ended (Nodes.ended n)) = Nodes.ended (nodes_left (Nodes.ended n))

module _ (m : Move) where
  -- where a row goes, or absent
  abbrev pub sent : ℕ → ℕ
  sent i = cond (eqb i absent) absent (m.node i)

  abbrev pub moved_handle : Handle → Handle
  moved_handle (Handle.node i s e) = Handle.node (sent i) (m.span s) (m.span e)
  moved_handle (Handle.name x s e) = Handle.name (m.symbol x) (m.span s) (m.span e)
  moved_handle (Handle.entry k v) = Handle.entry (sent k) (sent v)
  moved_handle (Handle.ended i) = Handle.ended (sent i)
  moved_handle Handle.other = Handle.other

  abbrev pub moved_all : List Handle → List Handle
  moved_all [] = []
  moved_all (h ∷ hs) = moved_handle h ∷ moved_all hs

  pub moved_append : (xs ys : List Handle) → moved_all (xs ++ ys) ≡ moved_all xs ++ moved_all ys
  moved_append [] ys = refl
  moved_append (x ∷ xs) ys = rw (moved_append xs ys)

  pub moved_length : (hs : List Handle) → length (moved_all hs) ≡ length hs
  moved_length [] = refl
  moved_length (h ∷ hs) = rw (moved_length hs)

  row_moved : (h : Handle) → row (moved_handle h) ≡ sent (row h)
  row_moved (Handle.node i s e) = refl
  row_moved (Handle.name x s e) = refl
  row_moved (Handle.entry k v) = refl
  row_moved (Handle.ended i) = refl
  row_moved Handle.other = refl

  head_moved : (hs : List Handle) → head (moved_all hs) ≡ moved_handle (head hs)
  head_moved [] = refl
  head_moved (h ∷ hs) = refl

  pub head_row : (hs : List Handle) → row (head (moved_all hs)) ≡ sent (row (head hs))
  head_row hs = ap row (head_moved hs) ∙ row_moved (head hs)

  second_row : (hs : List Handle) → row (head (tail (moved_all hs))) ≡ sent (row (head (tail hs)))
  second_row [] = refl
  second_row (h ∷ hs) = head_row hs

  tail_kept : (h : Handle) → is_tail (moved_handle h) ≡ is_tail h
  tail_kept (Handle.node i s e) = refl
  tail_kept (Handle.name x s e) = refl
  tail_kept (Handle.entry k v) = refl
  tail_kept (Handle.ended i) = refl
  tail_kept Handle.other = refl

  last_moved : (hs : List Handle) → last (moved_all hs) ≡ moved_handle (last hs)
  last_moved [] = refl
  last_moved (h ∷ []) = refl
  last_moved (h ∷ g ∷ hs) = last_moved (g ∷ hs)

  tail_moved : (hs : List Handle) → tail (moved_all hs) ≡ moved_all (tail hs)
  tail_moved [] = refl
  tail_moved (h ∷ hs) = refl

  block_list_moved : (hs : List Handle) → block_list (moved_all hs) ≡ moved_all (block_list hs)
  unfolding block_list
  block_list_moved [] = refl
  block_list_moved (h ∷ []) = rw (tail_kept h) (pick (is_tail h))
    where
      pick : (b : Bool) → cond b [] (moved_handle h ∷ []) ≡ moved_all (cond b [] (h ∷ []))
      pick true = refl
      pick false = refl
  block_list_moved (h ∷ g ∷ hs) = rw (block_list_moved (g ∷ hs))

  block_tail_row : (hs : List Handle) → row (block_tail (moved_all hs)) ≡ sent (row (block_tail hs))
  unfolding block_tail
  block_tail_row hs = rw (last_moved hs, tail_kept (last hs)) (pick (is_tail (last hs)))
    where
      pick : (b : Bool) → row (cond b (moved_handle (last hs)) Handle.other) ≡ sent (row (cond b (last hs) Handle.other))
      pick true = row_moved (last hs)
      pick false = refl

  pub entry_moved : (xs ys : List Handle) → entry_of (moved_all xs) (moved_all ys) ≡ moved_all (entry_of xs ys)
  entry_moved [] ys = refl
  entry_moved (x ∷ xs) ys = rw (row_moved x, head_row ys)

  -- spans of the first, of the last, and of the first if there is one
  record SpanMoved (h g : Handle) : Type 0 where
    pub from_is : from g ≡ m.span (from h)
    pub upto_is : upto g ≡ m.span (upto h)

  head_span : {hs : List Handle} → Fits one hs → Each Spans hs → SpanMoved (head hs) (head (moved_all hs))
  head_span f Each.nil = absurd (omega (arith, f.least))
  head_span f (Each.cons Spans.a_node e) = record { from_is = refl; upto_is = refl }
  head_span f (Each.cons Spans.a_name e) = record { from_is = refl; upto_is = refl }
  head_span f (Each.cons Spans.an_entry e) = absurd (omega (arith, f.most Sort.entry))

  last_span : {hs : List Handle} → Fits any_nodes hs → Each Spans hs → T (some hs) → upto (last (moved_all hs)) ≡ m.span (upto (last hs))
  last_span f Each.nil t = absurd t
  last_span f (Each.cons Spans.a_node Each.nil) t = refl
  last_span f (Each.cons Spans.a_name Each.nil) t = refl
  last_span f (Each.cons Spans.an_entry Each.nil) t = absurd (omega (arith, f.most Sort.entry))
  last_span f (Each.cons x (Each.cons y e)) t = last_span (others refl f) (Each.cons y e) tt

  span_or : {a b : ℕ} {hs : List Handle} → Fits maybe hs → Each Spans hs → a ≡ m.span b → upto_or a (moved_all hs) ≡ m.span (upto_or b hs)
  span_or f Each.nil q = q
  span_or f (Each.cons Spans.a_node e) q = refl
  span_or f (Each.cons Spans.a_name e) q = refl
  span_or f (Each.cons Spans.an_entry e) q = absurd (omega (arith, f.most Sort.entry))

  -- a name and its like
  pub data Named : Handle → Handle → Type 0 where
    named : {x s e : ℕ} → Named (Handle.name x s e) (Handle.name (m.symbol x) (m.span s) (m.span e))

  first_named : {hs : List Handle} → Names hs → T (some hs) → Named (head hs) (head (moved_all hs))
  first_named Names.nil t = absurd t
  first_named (Names.name n) t = Named.named

  named_span : {hs : List Handle} → Names hs → T (some hs) → upto (head (moved_all hs)) ≡ m.span (upto (head hs))
  named_span Names.nil t = absurd t
  named_span (Names.name n) t = refl

  -- fields, and those at the new place, by the slots that they fill
  pub data Carry : (room : ℕ) → List Slot → (fs gs : List Field) → Type 0 where
    done : {r : ℕ} → Carry r [] [] []
    number : {r k n n' : ℕ} {ss : List Slot} {fs gs : List Field} → n' ≡ n → Carry r ss fs gs → Carry (suc r) (below k ∷ ss) (Field.number n ∷ fs) (Field.number n' ∷ gs)
    child : {r : ℕ} {h g : Handle} {ss : List Slot} {fs gs : List Field} → row g ≡ sent (row h) → Carry r ss fs gs → Carry (suc r) (Slot.child ∷ ss) (Field.child h ∷ fs) (Field.child g ∷ gs)
    option : {r : ℕ} {h g : Handle} {ss : List Slot} {fs gs : List Field} → row g ≡ sent (row h) → Carry r ss fs gs → Carry (suc r) (Slot.option ∷ ss) (Field.child h ∷ fs) (Field.child g ∷ gs)
    symbol : {r n n' : ℕ} {ss : List Slot} {fs gs : List Field} → n' ≡ m.symbol n → Carry r ss fs gs → Carry (suc r) (Slot.symbol ∷ ss) (Field.number n ∷ fs) (Field.number n' ∷ gs)
    name : {r : ℕ} {h g : Handle} {ss : List Slot} {fs gs : List Field} → Named h g → Carry r ss fs gs → Carry (suc (suc (suc r))) (Slot.name ∷ ss) (Field.named h ∷ fs) (Field.named g ∷ gs)
    nodes : {r : ℕ} {hs hs' : List Handle} {ss : List Slot} {fs gs : List Field} → hs' ≡ moved_all hs → Nodes hs → Carry r ss fs gs → Carry (suc (suc r)) (Slot.nodes ∷ ss) (Field.list hs ∷ fs) (Field.list hs' ∷ gs)
    names : {r : ℕ} {hs hs' : List Handle} {ss : List Slot} {fs gs : List Field} → hs' ≡ moved_all hs → Names hs → Carry r ss fs gs → Carry (suc (suc r)) (Slot.names ∷ ss) (Field.list hs ∷ fs) (Field.list hs' ∷ gs)
    entries : {r : ℕ} {hs hs' : List Handle} {ss : List Slot} {fs gs : List Field} → hs' ≡ moved_all hs → Entries hs → Carry r ss fs gs → Carry (suc (suc r)) (Slot.entries ∷ ss) (Field.list hs ∷ fs) (Field.list hs' ∷ gs)

  pub data RowCarried (ss : List Slot) : Row → Row → Type 0 where
    carried_row : {s e s' e' : ℕ} {fs gs : List Field} → s' ≡ m.span s → e' ≡ m.span e → Carry 6 ss fs gs → RowCarried ss (writes s e fs) (writes s' e' gs)

module _ (ts ts' : List ℕ) (σ σ' f : ℕ → ℕ) (m : Move) where
  -- the tokens of a node
  pub record Tokens (l : Label) (a b : ℕ) : Type 0 where
    pub first : Kin ts ts' f m.span a
    pub word_is : is_name ts a ≡ true → σ' (f a) ≡ m.symbol (σ a)
    pub close : end ts' (f b - 1) ≡ m.span (end ts (b - 1))
    pub after : T (is_import l) → end ts' (f b) ≡ m.span (end ts b)

  word_named : {a : ℕ} → Kin ts ts' f m.span a → σ' (f a) ≡ m.symbol (σ a) → Named m (word ts σ a) (word ts' σ' (f a))
  word_named k q = rw (q, k.start_is, k.end_is) Named.named

  pub rule_carried : (e : Edition) (n : Node) {a b : ℕ} → Tokens (Label.Row n) a b → {xs ys : List Handle} → Suited e (kind ts) (Label.Row n) a xs ys → Fits (wants n).0 xs → Fits (wants n).1 ys → (T (not (is_block n)) → Spanned xs ys) → RowCarried m (layout Edition.second (number_of n)) (rule ts σ n a b xs ys (head xs) (head ys)) (rule ts' σ' n (f a) (f b) (moved_all m xs) (moved_all m ys) (head (moved_all m xs)) (head (moved_all m ys)))
  unfolding wants layout rule sub has_word
  rule_carried e Node.Binary t {xs} {ys} i p q u = RowCarried.carried_row (head_span m p (u tt).first).from_is (head_span m q (u tt).rest).upto_is (Carry.number (ap (λ x. place x binary_operators) t.first.kind_is) (Carry.child (head_row m xs) (Carry.child (head_row m ys) Carry.done)))
  rule_carried e Node.LogicalAnd t {xs} {ys} i p q u = RowCarried.carried_row (head_span m p (u tt).first).from_is (head_span m q (u tt).rest).upto_is (Carry.child (head_row m xs) (Carry.child (head_row m ys) Carry.done))
  rule_carried e Node.LogicalOr t {xs} {ys} i p q u = RowCarried.carried_row (head_span m p (u tt).first).from_is (head_span m q (u tt).rest).upto_is (Carry.child (head_row m xs) (Carry.child (head_row m ys) Carry.done))
  rule_carried e (Node.LogicalNot Edition.first) t {xs} {ys} i p q u = RowCarried.carried_row t.first.start_is t.first.end_is (Carry.child (head_row m xs) Carry.done)
  rule_carried e (Node.LogicalNot Edition.second) t {xs} {ys} i p q u = RowCarried.carried_row t.first.start_is (head_span m p (u tt).first).upto_is (Carry.child (head_row m xs) Carry.done)
  rule_carried e Node.Unary t {xs} {ys} i p q u = RowCarried.carried_row t.first.start_is (head_span m p (u tt).first).upto_is (Carry.number (ap (λ x. place x unary_operators) t.first.kind_is) (Carry.child (head_row m xs) Carry.done))
  rule_carried e Node.Assign t {xs} {ys} i p q u = RowCarried.carried_row (head_span m p (u tt).first).from_is (head_span m q (u tt).rest).upto_is (Carry.child (head_row m xs) (Carry.child (head_row m ys) Carry.done))
  rule_carried e Node.Variable t {xs} {ys} i p q u = RowCarried.carried_row t.first.start_is (head_span m q (u tt).rest).upto_is (Carry.name (first_named m (only_names p (u tt).first) (i.filled.first tt)) (Carry.child (head_row m ys) Carry.done))
  rule_carried e Node.Constant t {xs} {ys} i p q u = RowCarried.carried_row t.first.start_is (head_span m q (u tt).rest).upto_is (Carry.name (first_named m (only_names p (u tt).first) (i.filled.first tt)) (Carry.child (head_row m ys) Carry.done))
  rule_carried e Node.Ref t {xs} {ys} i p q u = RowCarried.carried_row t.first.start_is (head_span m q (u tt).rest).upto_is (Carry.name (first_named m (only_names p (u tt).first) (i.filled.first tt)) (Carry.child (head_row m ys) Carry.done))
  rule_carried e Node.Identifier t {xs} {ys} i p q u = RowCarried.carried_row t.first.start_is t.first.end_is (Carry.name (word_named t.first (t.word_is (as_true _ i.spelt))) Carry.done)
  rule_carried e Node.String t {xs} {ys} i p q u = RowCarried.carried_row t.first.start_is t.first.end_is (Carry.symbol (t.word_is (as_true _ i.spelt)) Carry.done)
  rule_carried e Node.Number t {xs} {ys} i p q u = RowCarried.carried_row t.first.start_is t.first.end_is Carry.done
  rule_carried e Node.Boolean t {xs} {ys} i p q u = RowCarried.carried_row t.first.start_is t.first.end_is (Carry.number (ap (λ x. place x (False ∷ True ∷ [])) t.first.kind_is) Carry.done)
  rule_carried e Node.Nil t {xs} {ys} i p q u = RowCarried.carried_row t.first.start_is t.first.end_is Carry.done
  rule_carried e Node.FunctionCall t {xs} {ys} i p q u = RowCarried.carried_row t.first.start_is t.close (Carry.child (head_row m xs) (Carry.nodes refl (only_nodes q) Carry.done))
  rule_carried e Node.PropertyAccess t {xs} {ys} i p q u = RowCarried.carried_row t.first.start_is (named_span m (only_names q (u tt).rest) (i.filled.rest tt)) (Carry.child (head_row m xs) (Carry.name (first_named m (only_names q (u tt).rest) (i.filled.rest tt)) Carry.done))
  rule_carried e Node.Map t {xs} {ys} i p q u = RowCarried.carried_row t.first.start_is t.close (Carry.entries refl (only_entries p) Carry.done)
  rule_carried e Node.Function t {xs} {ys} i p q u = RowCarried.carried_row t.first.start_is (head_span m q (u tt).rest).upto_is (Carry.name (first_named m (only_names p (u tt).first) (i.filled.first tt)) (Carry.names (tail_moved m xs) (tail_names (only_names p (u tt).first)) (Carry.child (head_row m ys) Carry.done)))
  rule_carried e Node.Lambda t {xs} {ys} i p q u = RowCarried.carried_row t.first.start_is (head_span m q (u tt).rest).upto_is (Carry.names refl (only_names p (u tt).first) (Carry.child (head_row m ys) Carry.done))
  rule_carried e Node.Block t {xs} {ys} i p q u = RowCarried.carried_row t.first.start_is t.close (Carry.nodes (block_list_moved m xs) (nodes_left (only_nodes p)) (Carry.option (block_tail_row m xs) Carry.done))
  rule_carried e Node.If t {xs} {ys} i p q u = RowCarried.carried_row t.first.start_is (last_span m (fits_sub tt q) (u tt).rest (i.filled.rest tt)) (Carry.child (head_row m xs) (Carry.child (head_row m ys) (Carry.option (second_row m ys) Carry.done)))
  rule_carried e Node.WhileLoop t {xs} {ys} i p q u = RowCarried.carried_row t.first.start_is (head_span m q (u tt).rest).upto_is (Carry.child (head_row m xs) (Carry.child (head_row m ys) Carry.done))
  rule_carried e Node.Return t {xs} {ys} i p q u = RowCarried.carried_row t.first.start_is (span_or m p (u tt).first t.first.end_is) (Carry.option (head_row m xs) Carry.done)
  rule_carried e Node.Break t {xs} {ys} i p q u = RowCarried.carried_row t.first.start_is t.first.end_is Carry.done
  rule_carried e Node.Continue t {xs} {ys} i p q u = RowCarried.carried_row t.first.start_is t.first.end_is Carry.done
  rule_carried e Node.Import t {xs} {ys} i p q u = RowCarried.carried_row t.first.start_is (t.after tt) (Carry.names refl (only_names p (u tt).first) (Carry.names refl (only_names q (u tt).rest) Carry.done))
