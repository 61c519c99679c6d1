-- An expression makes one node, and its row is the last that is written. A test over the tables, computed, says that what they have for an operand is a node, one in
-- parentheses or behind a `+`, and that each operator, call and dot makes one.
use Prim.Native.Nat.{ℕ, ◌-◌, ◌<◌}
use mathlib.Core.Bool.{Bool, true, false, cond, ◌&&◌}
use mathlib.Core.List.{List, [], ◌∷◌}
use mathlib.Core.Path.{◌≡◌, refl, ap}
use native.Mathlib.Omega.{arith}
use lib.Dec.{T}
use lib.ListN.{get_or}
use Rattle.grammar.specs.Edition.{Edition}
use Rattle.grammar.specs.Handle.{Handle, node as node-handle}
use Rattle.grammar.specs.Kaori.{Table, Form, above, rules, kaori}
use Rattle.grammar.specs.Label.{Label}
use Rattle.grammar.specs.Naming.{height}
use Rattle.grammar.specs.Operator.{levels}
use Rattle.grammar.specs.Phrase.{empty, token, part, nested, node, choice, chain, once, refusal, Tree, none, more, Aim, whole, Reads}
use Rattle.grammar.specs.Rows.{Rows, Walked, put, make, walk}
use Rattle.grammar.specs.Rule.{Row, writes}
use Rattle.grammar.proofs.Growth.{put_filled}
use Rattle.grammar.proofs.Machine.{asked}
use Rattle.grammar.proofs.Tables.{each, each_mapped, in_tables}
use Rattle.grammar.proofs.Tests.{both}

-- tokens alone
abbrev silent : Form → Bool
silent empty = true
silent (token x p) = silent p
silent (part p q) = false
silent (nested k p) = false
silent (node f p) = false
silent (choice n) = false
silent (chain p n) = false
silent (once p n) = false
silent (refusal e) = false

abbrev is_row : Label → Bool
is_row (Label.Row n) = true
is_row Label.Script = false
is_row Label.Ended = false
is_row Label.Item = false
is_row Label.Entry = false
is_row Label.Name = false

-- whether a table is that of operands, and whether its links are all nodes
abbrev traits : Table → Bool × Bool
traits Table.statement = (false, false)
traits Table.returned = (false, false)
traits Table.bindings = (false, false)
traits Table.path_name = (false, false)
traits Table.otherwise = (false, false)
traits Table.branch = (false, false)
traits Table.operand = (true, false)
traits Table.body = (false, false)
traits Table.value = (false, false)
traits (Table.comma z) = (false, false)
traits Table.script_items = (false, false)
traits Table.block_items = (false, false)
traits Table.arguments = (false, false)
traits Table.entries = (false, false)
traits (Table.names z) = (false, false)
traits Table.may_end = (false, false)
traits Table.must_end = (false, false)
traits Table.assigned = (false, false)
traits Table.dots = (false, false)
traits Table.calls = (false, true)
traits (Table.operators n) = (false, true)

-- a form that makes one node, the last; and a link that does
unfoldable pub tops : Form → Bool
tops empty = false
tops (token x p) = tops p
tops (part p q) = tops p && silent q
tops (nested k p) = tops p
tops (node f p) = is_row f
tops (choice n) = (traits n).0
tops (chain p n) = tops p && (traits n).1
tops (once p n) = false
tops (refusal e) = true

abbrev node_link : Form → Bool
node_link empty = true
node_link (token x p) = false
node_link (part p q) = false
node_link (nested k p) = false
node_link (node f p) = is_row f
node_link (choice n) = false
node_link (chain p n) = false
node_link (once p n) = false
node_link (refusal e) = false

abbrev fit : Table → Form → Bool
fit n p = cond (traits n).0 (tops p) (cond (traits n).1 (node_link p) true)

tables_fit : (e : Edition) (n : Table) → T (each (fit n) (rules e n).0 (rules e n).1)
unfolding rules tops above
tables_fit e Table.statement = tt
tables_fit Edition.first Table.returned = tt
tables_fit Edition.second Table.returned = tt
tables_fit e Table.bindings = tt
tables_fit e Table.path_name = tt
tables_fit e Table.otherwise = tt
tables_fit e Table.branch = tt
tables_fit Edition.first Table.operand = tt
tables_fit Edition.second Table.operand = tt
tables_fit e Table.body = tt
tables_fit e Table.value = tt
tables_fit e (Table.comma z) = tt
tables_fit e Table.script_items = tt
tables_fit e Table.block_items = tt
tables_fit e Table.arguments = tt
tables_fit e Table.entries = tt
tables_fit e (Table.names z) = tt
tables_fit e Table.may_end = tt
tables_fit e Table.must_end = tt
tables_fit e Table.assigned = tt
tables_fit e Table.dots = tt
tables_fit e Table.calls = tt
tables_fit e (Table.operators n) = each_mapped (fit (Table.operators n)) _ (get_or levels n []) empty (λ x. tt) tt

operand_tops : (e : Edition) (n : Table) (x : ℕ) {p : Form} → kaori e n x ≡ p → T (traits n).0 → T (tops p)
operand_tops e n x {p} k h = pick (traits n).0 h (rw k at (in_tables e fit (tables_fit e) n x))
  where
    pick : (b : Bool) → T b → T (cond b (tops p) (cond (traits n).1 (node_link p) true)) → T (tops p)
    pick true h i = i
    pick false h i = absurd h

link_row : (e : Edition) (n : Table) (x : ℕ) {f : Label} {p : Form} → kaori e n x ≡ node f p → T (traits n).1 → T (is_row f)
unfolding tops
link_row e n x {f} {p} k h = pick (traits n).0 (traits n).1 h (rw k at (in_tables e fit (tables_fit e) n x))
  where
    pick : (a b : Bool) → T b → T (cond a (tops (node f p)) (cond b (is_row f) true)) → T (is_row f)
    pick true b h i = i
    pick false true h i = i
    pick false false h i = absurd h

-- one node was made, and it has the last row
pub record Top (r : Walked) : Type 0 where
  pub from : ℕ
  pub upto : ℕ
  pub made : r.first ≡ node-handle (height r.rows - 1) from upto ∷ []
  pub alone : r.rest ≡ []
  pub some : 0 < height r.rows

module _ (ts : List ℕ) (σ : ℕ → ℕ) where
  put_top : (k : ℕ) (x : Row) (w : Rows) → Top (put k x w)
  unfolding put
  put_top k (writes s e fs) w =
      let f = put_filled k (writes s e fs) w in
      record { from = s; upto = e; made = ap (λ i. node-handle i s e ∷ []) (omega (arith, f.nodes)); alone = refl; some = omega (arith, f.nodes) }

  node_top : (f : Label) → T (is_row f) → (a b : ℕ) (w : Rows) (xs ys : List Handle) → Top (make ts σ f a b w xs ys)
  unfolding make
  node_top (Label.Row n) h a b w xs ys = put_top _ _ w
  node_top Label.Script h a b w xs ys = absurd h
  node_top Label.Ended h a b w xs ys = absurd h
  node_top Label.Item h a b w xs ys = absurd h
  node_top Label.Entry h a b w xs ys = absurd h
  node_top Label.Name h a b w xs ys = absurd h

  then_nothing : (t : Tree Label) {u : Tree Label} (w : Rows) → u ≡ none → Top (walk ts σ t w) → Top (walk ts σ (more t u) w)
  unfolding walk
  then_nothing t w e x = rw e (record { from = x.from; upto = x.upto; made = rw (x.made, x.alone) refl; alone = refl; some = x.some })

module _ (e : Edition) (ts : List ℕ) (σ : ℕ → ℕ) {kind : ℕ → ℕ} where
  nothing_made : {p : Form} {a b : ℕ} {t : Tree Label} → Reads (kaori e) kind (whole p) a b t → T (silent p) → t ≡ none
  nothing_made Reads.nothing h = refl
  nothing_made (Reads.taken k x) h = nothing_made x h
  nothing_made (Reads.both x y) h = absurd h
  nothing_made (Reads.opened x) h = absurd h
  nothing_made (Reads.labelled x) h = absurd h
  nothing_made (Reads.chosen k x) h = absurd h
  nothing_made (Reads.ended l k) h = absurd h
  nothing_made (Reads.alone x k) h = absurd h
  nothing_made (Reads.joined x k y) h = absurd h

  pub top : {m : Aim Table Label} {a b : ℕ} {t : Tree Label} → Reads (kaori e) kind m a b t → T (tops (asked m)) → (w : Rows) → Top (walk ts σ t w)
  unfolding tops walk
  top Reads.nothing h w = absurd h
  top (Reads.taken k x) h w = top x h w
  top (Reads.both {p = p} {q = q} {t = t} x y) h w = let (u, v) = both (tops p) (silent q) h in then_nothing ts σ t w (nothing_made y v) (top x u w)
  top (Reads.opened x) h w = top x h w
  top (Reads.labelled {f = f} x) h w = node_top ts σ f h _ _ _ _ _
  top (Reads.chosen {n = n} {a = a} k x) h w = top x (operand_tops e n (kind a) k h) w
  top (Reads.first {n = n} {p = p} x) h w = top x (both (tops p) (traits n).1 h).0 w
  top (Reads.link {n = n} {f = f} {b = b} {p = p} l k x) h w = node_top ts σ f (link_row e n (kind b) k (both (tops p) (traits n).1 h).1) _ _ _ _ _
  top (Reads.ended l k) h w = top l h w
  top (Reads.alone x k) h w = absurd h
  top (Reads.joined x k y) h w = absurd h
