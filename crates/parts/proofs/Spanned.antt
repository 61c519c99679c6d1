-- What has a span: a handle that a row takes its span from is a node's or a name's, never that of a statement with its `;`. A test over the tables, computed: what is
-- read for a part of any node but a block takes no `;`.
use Prim.Native.Nat.{ℕ, zero, suc}
use mathlib.Core.Bool.{Bool, true, false, cond, not, ◌&&◌, ◌||◌}
use mathlib.Core.List.{List, [], ◌∷◌, ◌++◌}
use mathlib.Core.Path.{◌≡◌}
use lib.Dec.{T, eqb}
use Rattle.grammar.specs.Edition.{Edition}
use Rattle.grammar.specs.Handle.{Handle, entry_of}
use Rattle.grammar.specs.Kaori.{Table, Form, above, rules, kaori}
use Rattle.grammar.specs.Label.{Node, Label, number_of}
use Rattle.grammar.specs.Phrase.{empty, token, part, nested, node, choice, chain, once, refusal, Tree, Aim, Reads}
use Rattle.grammar.specs.Rows.{Rows, put, make, walk}
use Rattle.grammar.specs.Rule.{Row, writes}
use Rattle.grammar.proofs.Machine.{asked}
use Rattle.grammar.proofs.Shapes.{table, ok, choose}
use Rattle.grammar.proofs.Tables.{each, in_tables}
use Rattle.grammar.proofs.Tests.{both}
use Rattle.foreign.specs.Check.{Each, nil, cons}
use Rattle.foreign.proofs.Each.{each_both}
use Rattle.parts.proofs.Carried.{implied}

-- whether what a table has takes no `;` of its own
abbrev pub flat : Table → Bool
flat Table.statement = false
flat Table.returned = true
flat Table.bindings = true
flat Table.path_name = true
flat Table.otherwise = true
flat Table.branch = true
flat Table.operand = true
flat Table.body = true
flat Table.value = true
flat (Table.comma z) = true
flat Table.script_items = false
flat Table.block_items = false
flat Table.arguments = true
flat Table.entries = true
flat (Table.names z) = true
flat Table.may_end = false
flat Table.must_end = false
flat Table.assigned = true
flat Table.dots = true
flat Table.calls = true
flat (Table.operators n) = true

-- whether a node hands up a handle of its own, and whether it hands up those of its parts
abbrev lone : Label → Bool
lone (Label.Row n) = true
lone Label.Script = true
lone Label.Ended = false
lone Label.Item = false
lone Label.Entry = true
lone Label.Name = true

abbrev passes : Label → Bool
passes (Label.Row n) = false
passes Label.Script = false
passes Label.Ended = false
passes Label.Item = true
passes Label.Entry = false
passes Label.Name = false

-- a form that makes no statement with its `;`
unfoldable pub plain : Form → Bool
plain empty = true
plain (token x p) = plain p
plain (part p q) = plain p && plain q
plain (nested k p) = plain p
plain (node f p) = lone f || (passes f && plain p)
plain (choice n) = flat n
plain (chain p n) = plain p && flat n
plain (once p n) = plain p && flat n
plain (refusal c) = true

abbrev pub is_block : Node → Bool
is_block n = eqb (number_of n) (number_of Node.Block)

-- whether a node may have parts of this form: only a block has statements, and a script stands in no other form
abbrev pub wants_plain : Label → Bool → Bool
wants_plain (Label.Row n) b = is_block n || b
wants_plain Label.Script b = false
wants_plain Label.Ended b = true
wants_plain Label.Item b = true
wants_plain Label.Entry b = true
wants_plain Label.Name b = true

unfoldable pub fine : Form → Bool
fine empty = true
fine (token x p) = fine p
fine (part p q) = fine p && fine q
fine (nested k p) = fine p
fine (node f p) = wants_plain f (plain p) && fine p
fine (choice n) = true
fine (chain p n) = fine p && (not (flat n) || plain p)
fine (once p n) = fine p && (not (flat n) || plain p)
fine (refusal c) = true

fine_link : Table → Form → Bool
fine_link n empty = true
fine_link n (token x p) = false
fine_link n (part p q) = false
fine_link n (nested k p) = false
fine_link n (node f p) = wants_plain f (flat n && plain p) && fine p
fine_link n (choice m) = false
fine_link n (chain p m) = false
fine_link n (once p m) = false
fine_link n (refusal c) = false

fine_entry : Table → Form → Bool
fine_entry n p = (not (flat n) || plain p) && cond (table n).0 (fine p) (fine_link n p)

fine_tables : (e : Edition) (n : Table) → T (each (fine_entry n) (rules e n).0 (rules e n).1)
unfolding rules above table plain fine fine_link fine_entry
fine_tables e Table.statement = tt
fine_tables Edition.first Table.returned = tt
fine_tables Edition.second Table.returned = tt
fine_tables e Table.bindings = tt
fine_tables e Table.path_name = tt
fine_tables e Table.otherwise = tt
fine_tables e Table.branch = tt
fine_tables Edition.first Table.operand = tt
fine_tables Edition.second Table.operand = tt
fine_tables e Table.body = tt
fine_tables e Table.value = tt
fine_tables e (Table.comma z) = tt
fine_tables e Table.script_items = tt
fine_tables e Table.block_items = tt
fine_tables e Table.arguments = tt
fine_tables e Table.entries = tt
fine_tables e (Table.names z) = tt
fine_tables e Table.may_end = tt
fine_tables e Table.must_end = tt
fine_tables e Table.assigned = tt
fine_tables e Table.dots = tt
fine_tables e Table.calls = tt
fine_tables e (Table.operators zero) = tt
fine_tables e (Table.operators (suc zero)) = tt
fine_tables e (Table.operators (suc (suc zero))) = tt
fine_tables e (Table.operators (suc (suc (suc zero)))) = tt
fine_tables e (Table.operators (suc (suc (suc (suc zero))))) = tt
fine_tables e (Table.operators (suc (suc (suc (suc (suc zero)))))) = tt
fine_tables e (Table.operators (suc (suc (suc (suc (suc (suc n))))))) = tt

entry_parts : (e : Edition) (n : Table) (x : ℕ) {p : Form} → kaori e n x ≡ p → T (not (flat n) || plain p) × T (cond (table n).0 (fine p) (fine_link n p))
unfolding fine_entry
entry_parts e n x {p} k = both (not (flat n) || plain p) (cond (table n).0 (fine p) (fine_link n p)) (rw k at (in_tables e fine_entry (fine_tables e) n x))

-- what a choice reads, and what a link is
entry_plain : (e : Edition) (n : Table) (x : ℕ) {p : Form} → kaori e n x ≡ p → T (flat n) → T (plain p)
entry_plain e n x {p} k h = implied (flat n) (plain p) (entry_parts e n x k).0 h

pub choice_fine : (e : Edition) (n : Table) (x : ℕ) {p : Form} → kaori e n x ≡ p → T (ok (choice n)) → T (fine p)
unfolding ok
choice_fine e n x {p} k h = (choose (table n).0 (fine p) (fine_link n p) (entry_parts e n x k).1).0 h

pub link_fine : (e : Edition) (n : Table) (x : ℕ) (f : Label) (q : Form) → kaori e n x ≡ node f q → T (not (table n).0) → T (wants_plain f (flat n && plain q)) × T (fine q)
unfolding fine_link
link_fine e n x f q k h = both (wants_plain f (flat n && plain q)) (fine q) ((choose (table n).0 (fine (node f q)) (fine_link n (node f q)) (entry_parts e n x k).1).1 h)

-- what a chain begins with
pub chain_fine : (n : Table) (p : Form) → T (fine (chain p n)) → T (fine p) × (T (flat n) → T (plain p))
unfolding fine
chain_fine n p h = let (u, v) = both (fine p) (not (flat n) || plain p) h in (u, λ i. implied (flat n) (plain p) v i)

-- a handle that is no statement with its `;`
pub data Spans : Handle → Type 0 where
  a_node : {i s e : ℕ} → Spans (Handle.node i s e)
  a_name : {x s e : ℕ} → Spans (Handle.name x s e)
  an_entry : {k v : ℕ} → Spans (Handle.entry k v)

pub record Spanned (xs ys : List Handle) : Type 0 where
  pub first : Each Spans xs
  pub rest : Each Spans ys

put_spans : (k : ℕ) (r : Row) (w : Rows) → Spanned (put k r w).first (put k r w).rest
unfolding put
put_spans k (writes s e fs) w = record { first = cons Spans.a_node nil; rest = nil }

entry_spans : (xs ys : List Handle) → Each Spans (entry_of xs ys)
entry_spans [] ys = nil
entry_spans (x ∷ xs) ys = cons Spans.an_entry nil

-- what both parts made
pub joined : {xs ys us vs : List Handle} → Spanned xs ys → Spanned us vs → Spanned (xs ++ ys) (us ++ vs)
joined p q = record { first = each_both p.first p.rest; rest = each_both q.first q.rest }

module _ (ts : List ℕ) (σ : ℕ → ℕ) where
  lone_spans : (f : Label) (a b : ℕ) (w : Rows) (xs ys : List Handle) → T (lone f) → Spanned (make ts σ f a b w xs ys).first (make ts σ f a b w xs ys).rest
  unfolding make
  lone_spans (Label.Row n) a b w xs ys h = put_spans _ _ w
  lone_spans Label.Script a b w xs ys h = put_spans _ _ w
  lone_spans Label.Ended a b w xs ys h = absurd h
  lone_spans Label.Item a b w xs ys h = absurd h
  lone_spans Label.Entry a b w xs ys h = record { first = entry_spans xs ys; rest = nil }
  lone_spans Label.Name a b w xs ys h = record { first = cons Spans.a_name nil; rest = nil }

  item_spans : (f : Label) (a b : ℕ) (w : Rows) {xs ys : List Handle} → T (passes f) → Spanned xs ys → Spanned (make ts σ f a b w xs ys).first (make ts σ f a b w xs ys).rest
  unfolding make
  item_spans (Label.Row n) a b w h s = absurd h
  item_spans Label.Script a b w h s = absurd h
  item_spans Label.Ended a b w h s = absurd h
  item_spans Label.Item a b w h s = record { first = each_both s.first s.rest; rest = nil }
  item_spans Label.Entry a b w h s = absurd h
  item_spans Label.Name a b w h s = absurd h

  node_spans : (f : Label) (p : Form) (a b : ℕ) (w : Rows) {xs ys : List Handle} → T (plain (node f p)) → (T (plain p) → Spanned xs ys) → Spanned (make ts σ f a b w xs ys).first (make ts σ f a b w xs ys).rest
  unfolding plain
  node_spans f p a b w {xs} {ys} h s = pick (lone f) (passes f) (plain p) h (lone_spans f a b w xs ys) (item_spans f a b w) s
    where
      pick : (l m q : Bool) → T (l || (m && q)) → (T l → Spanned (make ts σ f a b w xs ys).first (make ts σ f a b w xs ys).rest) → (T m → Spanned xs ys → Spanned (make ts σ f a b w xs ys).first (make ts σ f a b w xs ys).rest) → (T q → Spanned xs ys) → Spanned (make ts σ f a b w xs ys).first (make ts σ f a b w xs ys).rest
      pick true m q h x y z = x tt
      pick false true q h x y z = y tt (z h)
      pick false false q h x y z = absurd h

  -- what a reading makes
  pub spanned : (e : Edition) {k : ℕ → ℕ} {g : Aim Table Label} {a b : ℕ} {t : Tree Label} → Reads (kaori e) k g a b t → T (plain (asked g)) → (w : Rows) → Spanned (walk ts σ t w).first (walk ts σ t w).rest
  unfolding plain walk
  spanned e Reads.nothing h w = record { first = nil; rest = nil }
  spanned e (Reads.taken k x) h w = spanned e x h w
  spanned e (Reads.both {p = p} {q = q} {t = t} x y) h w = let (u, v) = both (plain p) (plain q) h in joined (spanned e x u w) (spanned e y v (walk ts σ t w).rows)
  spanned e (Reads.opened x) h w = spanned e x h w
  spanned e (Reads.labelled {f = f} {p = p} x) h w = node_spans f p _ _ _ h (λ u. spanned e x u w)
  spanned e (Reads.chosen {n = n} k x) h w = spanned e x (entry_plain e n _ k h) w
  spanned e (Reads.first {n = n} {p = p} x) h w = spanned e x (both (plain p) (flat n) h).0 w
  spanned e (Reads.link {n = n} {f = f} {p = p} {q = q} {t = t} x k y) h w = node_spans f q _ _ _ (entry_plain e n _ k (both (plain p) (flat n) h).1) (λ u. joined (spanned e x h w) (spanned e y u (walk ts σ t w).rows))
  spanned e (Reads.ended x k) h w = spanned e x h w
  spanned e (Reads.alone {n = n} {p = p} x k) h w = spanned e x (both (plain p) (flat n) h).0 w
  spanned e (Reads.joined {n = n} {f = f} {p = p} {q = q} {t = t} x k y) h w = let (u, v) = both (plain p) (flat n) h in node_spans f q _ _ _ (entry_plain e n _ k v) (λ o. joined (spanned e x u w) (spanned e y o (walk ts σ t w).rows))
