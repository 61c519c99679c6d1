-- The statements of a script's rows: how many the root has, and that the row of each is the last that it wrote.
use Prim.Native.Nat.{ℕ, suc, ◌+◌, ◌-◌, ◌*◌, ◌/◌}
use mathlib.Core.Bool.{Bool, true, false, cond, ◌&&◌}
use mathlib.Core.List.{List, [], ◌∷◌, ◌++◌, append_assoc, append-nil}
use mathlib.Core.Logic.{◌⊎◌, inl, inr, ⊎_elim}
use mathlib.Core.Path.{◌≡◌, refl, sym, ap, ◌∙◌}
use native.Mathlib.Omega.{arith}
use lib.Dec.{T}
use lib.ListN.{length, get_or, take, replicate, length-append}
use lib.Seq.{get_or-append-add}
use Rattle.grammar.specs.Edition.{Edition}
use Rattle.grammar.specs.Handle.{Handle, absent, link, row}
use Rattle.grammar.specs.Kaori.{Table, Form, above, rules, kaori}
use Rattle.grammar.specs.Label.{Node, Label, number_of}
use Rattle.grammar.specs.Naming.{height}
use Rattle.grammar.specs.Operator.{levels}
use Rattle.grammar.specs.Parent.{own, parented, written}
use Rattle.grammar.specs.Phrase.{empty, token, part, nested, node, choice, chain, once, refusal, Tree, none, more, made, whole, Reads}
use Rattle.grammar.specs.Room.{own_width, link_width}
use Rattle.grammar.specs.Rows.{Rows, blank, links_of, numbers, write, padded, fill, Walked, put, make, walk, unparented}
use Rattle.grammar.specs.Rule.{Row, writes}
use Rattle.grammar.proofs.Decoding.{Whole}
use Rattle.grammar.proofs.Forest.{Forest, later_self}
use Rattle.grammar.proofs.Growth.{links_length, padded_length, put_filled}
use Rattle.grammar.proofs.Order.{rows_append}
use Rattle.grammar.proofs.Parents.{parented_own, parented_height, last_own}
use Rattle.grammar.proofs.Shapes.{table, joined, shape, ok}
use Rattle.grammar.proofs.Sizes.{any_nodes, add, sub, fits_add, fits_sub, fits_none, none as no_size}
use Rattle.grammar.proofs.Tables.{each, each_mapped, found, in_tables}
use Rattle.grammar.proofs.Tests.{both}
use Rattle.grammar.proofs.Tops.{tops, Top, top}
use Rattle.grammar.proofs.Trees.{Grows, both_grow, grows}
use Rattle.parts.specs.Dropped.{items}
use Rattle.parts.specs.Packed.{root_row, root_first, statements, statement}
use Rattle.parts.proofs.Kinship.{Items}

-- whether a table ends a statement, and whether it is the one of assignments
abbrev traits : Table → Bool × Bool
traits Table.statement = (false, false)
traits Table.returned = (false, false)
traits Table.bindings = (false, false)
traits Table.path_name = (false, false)
traits Table.otherwise = (false, false)
traits Table.branch = (false, false)
traits Table.operand = (false, false)
traits Table.body = (false, false)
traits Table.value = (false, false)
traits (Table.comma z) = (false, false)
traits Table.script_items = (false, false)
traits Table.block_items = (false, false)
traits Table.arguments = (false, false)
traits Table.entries = (false, false)
traits (Table.names z) = (false, false)
traits Table.may_end = (true, false)
traits Table.must_end = (true, false)
traits Table.assigned = (false, true)
traits Table.dots = (false, false)
traits Table.calls = (false, false)
traits (Table.operators n) = (false, false)

-- a token, and nothing that makes something
abbrev silent : Form → Bool
silent empty = false
silent (token x empty) = true
silent (token x (token y p)) = false
silent (token x (part p q)) = false
silent (token x (nested k p)) = false
silent (token x (node f p)) = false
silent (token x (choice n)) = false
silent (token x (chain p n)) = false
silent (token x (once p n)) = false
silent (token x (refusal e)) = false
silent (part p q) = false
silent (nested k p) = false
silent (node f p) = false
silent (choice n) = false
silent (chain p n) = false
silent (once p n) = false
silent (refusal e) = false

abbrev is_ended : Label → Bool
is_ended (Label.Row n) = false
is_ended Label.Script = false
is_ended Label.Ended = true
is_ended Label.Item = false
is_ended Label.Entry = false
is_ended Label.Name = false

abbrev is_row : Label → Bool
is_row (Label.Row n) = true
is_row Label.Script = false
is_row Label.Ended = false
is_row Label.Item = false
is_row Label.Entry = false
is_row Label.Name = false

-- a `;`, an assignment, or none
abbrev end_link : Form → Bool
end_link empty = true
end_link (token x p) = false
end_link (part p q) = false
end_link (nested k p) = false
end_link (node f p) = is_ended f && silent p
end_link (choice n) = false
end_link (chain p n) = false
end_link (once p n) = false
end_link (refusal e) = false

abbrev row_link : Form → Bool
row_link empty = true
row_link (token x p) = false
row_link (part p q) = false
row_link (nested k p) = false
row_link (node f p) = is_row f
row_link (choice n) = false
row_link (chain p n) = false
row_link (once p n) = false
row_link (refusal e) = false

-- what stands before the `;`: a form that makes one node, the last, or an assignment
abbrev stem : Form → Bool
stem empty = false
stem (token x p) = tops (token x p)
stem (part p q) = tops (part p q)
stem (nested k p) = tops (nested k p)
stem (node f p) = tops (node f p)
stem (choice n) = tops (choice n)
stem (chain p n) = tops (chain p n)
stem (once p n) = tops p && (traits n).1
stem (refusal e) = true

abbrev stated : Form → Bool
stated empty = false
stated (token x p) = false
stated (part p q) = false
stated (nested k p) = false
stated (node f p) = false
stated (choice n) = false
stated (chain p n) = false
stated (once p n) = stem p && (traits n).0
stated (refusal e) = false

abbrev fit : Table → Form → Bool
fit n p = cond (traits n).0 (end_link p) (cond (traits n).1 (row_link p) true)

tables_fit : (e : Edition) (n : Table) → T (each (fit n) (rules e n).0 (rules e n).1)
unfolding rules
tables_fit e Table.statement = tt
tables_fit Edition.first Table.returned = tt
tables_fit Edition.second Table.returned = tt
tables_fit e Table.bindings = tt
tables_fit e Table.path_name = tt
tables_fit e Table.otherwise = tt
tables_fit e Table.branch = tt
tables_fit e Table.operand = tt
tables_fit e Table.body = tt
tables_fit e Table.value = tt
tables_fit e (Table.comma z) = tt
tables_fit e Table.script_items = tt
tables_fit e Table.block_items = tt
tables_fit e Table.arguments = tt
tables_fit e Table.entries = tt
tables_fit e (Table.names z) = tt
tables_fit e Table.may_end = tt
tables_fit e Table.must_end = tt
tables_fit e Table.assigned = tt
tables_fit e Table.dots = tt
tables_fit e Table.calls = tt
tables_fit e (Table.operators n) = each_mapped (fit (Table.operators n)) _ (get_or levels n []) empty (λ x. tt) tt

ended_by : (e : Edition) (n : Table) (x : ℕ) {f : Label} {p : Form} → kaori e n x ≡ node f p → T (traits n).0 → T (is_ended f) × T (silent p)
ended_by e n x {f} {p} k h = both (is_ended f) (silent p) (pick (traits n).0 h (rw k at (in_tables e fit (tables_fit e) n x)))
  where
    pick : (b : Bool) → T b → T (cond b (is_ended f && silent p) (cond (traits n).1 (is_row f) true)) → T (is_ended f && silent p)
    pick true h i = i
    pick false h i = absurd h

assigned_by : (e : Edition) (n : Table) (x : ℕ) {f : Label} {p : Form} → kaori e n x ≡ node f p → T (traits n).1 → T (traits n).0 ⊎ T (is_row f)
assigned_by e n x {f} {p} k h = pick (traits n).0 (traits n).1 h (rw k at (in_tables e fit (tables_fit e) n x))
  where
    pick : (a b : Bool) → T b → T (cond a (is_ended f && silent p) (cond b (is_row f) true)) → T a ⊎ T (is_row f)
    pick true b h i = inl tt
    pick false true h i = inr i
    pick false false h i = absurd h

not_both : (n : Table) → T (traits n).1 → T (traits n).0 → ⊥
not_both Table.statement h i = h
not_both Table.returned h i = h
not_both Table.bindings h i = h
not_both Table.path_name h i = h
not_both Table.otherwise h i = h
not_both Table.branch h i = h
not_both Table.operand h i = h
not_both Table.body h i = h
not_both Table.value h i = h
not_both (Table.comma z) h i = h
not_both Table.script_items h i = h
not_both Table.block_items h i = h
not_both Table.arguments h i = h
not_both Table.entries h i = h
not_both (Table.names z) h i = h
not_both Table.may_end h i = h
not_both Table.must_end h i = h
not_both Table.assigned h i = i
not_both Table.dots h i = h
not_both Table.calls h i = h
not_both (Table.operators n) h i = h

statement_stated : (e : Edition) (x : ℕ) → T (stated (kaori e Table.statement x))
unfolding kaori rules tops above
statement_stated e x = found stated (rules e Table.statement).0 (rules e Table.statement).1 x tt

-- a statement makes one handle, of its last row
pub data IsStatement : Handle → Type 0 where
  a_node : {i s e : ℕ} → IsStatement (Handle.node i s e)
  an_end : {i : ℕ} → IsStatement (Handle.ended i)

pub record Ends (r : Walked) : Type 0 where
  pub handle : Handle
  pub sort : IsStatement handle
  pub made : r.first ≡ handle ∷ []
  pub alone : r.rest ≡ []
  pub tall : height r.rows ≡ suc (row handle)

pub linked : {h : Handle} → IsStatement h → link h ≡ row h ∷ 0 ∷ 0 ∷ []
linked IsStatement.a_node = refl
linked IsStatement.an_end = refl

top_ends : {r : Walked} → Top r → Ends r
top_ends {r} t = record { handle = Handle.node (height r.rows - 1) t.from t.upto; sort = IsStatement.a_node; made = t.made; alone = t.alone; tall = omega (arith, t.some) }

module _ (e : Edition) (ts : List ℕ) (σ : ℕ → ℕ) where
  put_ends : (k : ℕ) (x : Row) (w : Rows) → Ends (put k x w)
  unfolding put
  put_ends k (writes s u fs) w = let f = put_filled k (writes s u fs) w in record { handle = Handle.node (height w) s u; sort = IsStatement.a_node; made = refl; alone = refl; tall = omega (arith, f.nodes) }

  row_ends : (f : Label) → T (is_row f) → (a b : ℕ) (w : Rows) (xs ys : List Handle) → Ends (make ts σ f a b w xs ys)
  unfolding make
  row_ends (Label.Row n) h a b w xs ys = put_ends _ _ w
  row_ends Label.Script h a b w xs ys = absurd h
  row_ends Label.Ended h a b w xs ys = absurd h
  row_ends Label.Item h a b w xs ys = absurd h
  row_ends Label.Entry h a b w xs ys = absurd h
  row_ends Label.Name h a b w xs ys = absurd h

  semicolon_ends : (f : Label) → T (is_ended f) → (a b : ℕ) (t u : Tree Label) (w : Rows) → u ≡ none → Ends (walk ts σ t w) → Ends (walk ts σ (made f a b (more t u)) w)
  unfolding walk make
  semicolon_ends Label.Ended h a b t u w z x = rw z (record { handle = Handle.ended (row x.handle); sort = IsStatement.an_end; made = rw x.made refl; alone = refl; tall = x.tall })
  semicolon_ends (Label.Row n) h a b t u w z x = absurd h
  semicolon_ends Label.Script h a b t u w z x = absurd h
  semicolon_ends Label.Item h a b t u w z x = absurd h
  semicolon_ends Label.Entry h a b t u w z x = absurd h
  semicolon_ends Label.Name h a b t u w z x = absurd h

  module _ {k : ℕ → ℕ} where
    nothing_made : {p : Form} {a b : ℕ} {t : Tree Label} → Reads (kaori e) k (whole p) a b t → T (silent p) → t ≡ none
    nothing_made Reads.nothing h = refl
    nothing_made (Reads.taken j Reads.nothing) h = refl
    nothing_made (Reads.taken j (Reads.taken i x)) h = absurd h
    nothing_made (Reads.taken j (Reads.both x y)) h = absurd h
    nothing_made (Reads.taken j (Reads.opened x)) h = absurd h
    nothing_made (Reads.taken j (Reads.labelled x)) h = absurd h
    nothing_made (Reads.taken j (Reads.chosen i x)) h = absurd h
    nothing_made (Reads.taken j (Reads.ended x i)) h = absurd h
    nothing_made (Reads.taken j (Reads.alone x i)) h = absurd h
    nothing_made (Reads.taken j (Reads.joined x i y)) h = absurd h
    nothing_made (Reads.both x y) h = absurd h
    nothing_made (Reads.opened x) h = absurd h
    nothing_made (Reads.labelled x) h = absurd h
    nothing_made (Reads.chosen j x) h = absurd h
    nothing_made (Reads.ended l j) h = absurd h
    nothing_made (Reads.alone x j) h = absurd h
    nothing_made (Reads.joined x j y) h = absurd h

    stem_ends : {p : Form} {a b : ℕ} {t : Tree Label} → Reads (kaori e) k (whole p) a b t → T (stem p) → (w : Rows) → Ends (walk ts σ t w)
    unfolding walk
    stem_ends Reads.nothing h w = absurd h
    stem_ends (Reads.taken j x) h w = top_ends (top e ts σ (Reads.taken j x) h w)
    stem_ends (Reads.both x y) h w = top_ends (top e ts σ (Reads.both x y) h w)
    stem_ends (Reads.opened {s = s} x) h w = top_ends (top e ts σ (Reads.opened {s = s} x) h w)
    stem_ends (Reads.labelled x) h w = top_ends (top e ts σ (Reads.labelled x) h w)
    stem_ends (Reads.chosen j x) h w = top_ends (top e ts σ (Reads.chosen j x) h w)
    stem_ends (Reads.ended l j) h w = top_ends (top e ts σ (Reads.ended l j) h w)
    stem_ends (Reads.alone {n = n} {p = p} x j) h w = top_ends (top e ts σ x (both (tops p) (traits n).1 h).0 w)
    stem_ends (Reads.joined {n = n} {f = f} {p = p} x j y) h w = let o = (both (tops p) (traits n).1 h).1 in ⊎_elim (λ z. absurd (not_both n o z)) (λ z. row_ends f z _ _ _ _ _) (assigned_by e n _ j o)

    stated_ends : {p : Form} {a b : ℕ} {t : Tree Label} → Reads (kaori e) k (whole p) a b t → T (stated p) → (w : Rows) → Ends (walk ts σ t w)
    stated_ends Reads.nothing h w = absurd h
    stated_ends (Reads.taken j x) h w = absurd h
    stated_ends (Reads.both x y) h w = absurd h
    stated_ends (Reads.opened x) h w = absurd h
    stated_ends (Reads.labelled x) h w = absurd h
    stated_ends (Reads.chosen j x) h w = absurd h
    stated_ends (Reads.ended l j) h w = absurd h
    stated_ends (Reads.alone {n = n} {p = p} x j) h w = stem_ends x (both (stem p) (traits n).0 h).0 w
    stated_ends (Reads.joined {n = n} {f = f} {b = b} {c = c} {p = p} {t = t} {u = u} x j y) h w =
        let (o, i) = both (stem p) (traits n).0 h in
        let (y₁, z) = ended_by e n _ j i in
        semicolon_ends f y₁ b c t u w (nothing_made y z) (stem_ends x o w)

    pub statement_ends : {a b : ℕ} {t : Tree Label} → Reads (kaori e) k (whole (choice Table.statement)) a b t → (w : Rows) → Ends (walk ts σ t w)
    statement_ends {a = a} (Reads.chosen j x) w = stated_ends x (rw j at (statement_stated e (k a))) w

-- t is what t₀ begins with: the same items, or fewer
pub data Initial (t : Tree Label) : Tree Label → Type 0 where
  same : Initial t t
  further : {l : Label} {a b : ℕ} {s u : Tree Label} → Initial t s → Initial t (made l a b (more s u))

pub inner : {l : Label} {a b : ℕ} {t u t₀ : Tree Label} → Initial (made l a b (more t u)) t₀ → Initial t t₀
inner Initial.same = Initial.further Initial.same
inner (Initial.further i) = Initial.further (inner i)

pub initial_items : {e : Edition} {k : ℕ → ℕ} {n : ℕ} {l : Label} {a b : ℕ} {t u t₀ : Tree Label} → Items e k n t₀ → Initial (made l a b (more t u)) t₀ → Items e k a t × Reads (kaori e) k (whole (choice Table.statement)) a b u
initial_items Items.nil j = elim j [ ]
initial_items (Items.next i x) Initial.same = (i, x)
initial_items (Items.next i x) (Initial.further j) = initial_items i j

pub blank_whole : Whole blank
blank_whole = record { nodes = refl; links = refl }

pub links_append : (xs ys : List Handle) → links_of (xs ++ ys) ≡ links_of xs ++ links_of ys
unfolding links_of
links_append [] ys = refl
links_append (x ∷ xs) ys = rw (links_append xs ys) (sym (append_assoc (link x) (links_of xs) (links_of ys)))

module _ {e : Edition} (ts : List ℕ) (σ : ℕ → ℕ) {k : ℕ → ℕ} where
  -- what items write: a forest, whose roots are their rows
  pub items_grow : {n : ℕ} {t : Tree Label} → Items e k n t → Grows (any_nodes, no_size) blank (walk ts σ t blank)
  unfolding walk make ok shape table add sub joined
  items_grow Items.nil = record { later = later_self blank; whole = blank_whole; first = fits_sub tt fits_none; rest = fits_none; forest = Forest.done }
  items_grow (Items.next {t = t} {u = u} i x) =
      let r = walk ts σ t blank in
      let y = walk ts σ u r.rows in
      let g = both_grow (items_grow i) (grows e ts σ x tt (items_grow i).whole) in
      record { later = g.later; whole = g.whole; first = fits_sub tt (fits_add g.first g.rest); rest = fits_none; forest = rw (append-nil, rows_append (r.first ++ r.rest) (y.first ++ y.rest)) g.forest }

  items_rest : {n : ℕ} {t : Tree Label} → Items e k n t → (w : Rows) → (walk ts σ t w).rest ≡ []
  unfolding walk make
  items_rest Items.nil w = refl
  items_rest (Items.next i x) w = refl

  -- one item more makes one handle more
  pub one_more : {a b : ℕ} {t u : Tree Label} → Items e k a t → (x : Reads (kaori e) k (whole (choice Table.statement)) a b u) → (walk ts σ (made Label.Item a b (more t u)) blank).first ≡ (walk ts σ t blank).first ++ ((statement_ends e ts σ x (walk ts σ t blank).rows).handle ∷ [])
  unfolding walk make
  one_more {t = t} i x = let y = statement_ends e ts σ x (walk ts σ t blank).rows in rw (items_rest i blank, append-nil, y.made, y.alone)

  items_many : {n : ℕ} {t : Tree Label} → Items e k n t → length (walk ts σ t blank).first ≡ items t
  unfolding items walk
  items_many Items.nil = refl
  items_many (Items.next {t = t} i x) = ap length (one_more i x) ∙ omega (arith, items_many i, length-append (walk ts σ t blank).first ((statement_ends e ts σ x (walk ts σ t blank).rows).handle ∷ []))

  -- what items begin with made the first handles
  pub initial_handles : {t : Tree Label} {n : ℕ} {t₀ : Tree Label} → Items e k n t₀ → Initial t t₀ → (zs : List Handle) × ((walk ts σ t₀ blank).first ≡ (walk ts σ t blank).first ++ zs)
  initial_handles {t = t} i Initial.same = ([], sym (append-nil (walk ts σ t blank).first))
  initial_handles {t = t} (Items.next {t = s} i x) (Initial.further j) =
      let (zs, q) = initial_handles i j in
      let h = (statement_ends e ts σ x (walk ts σ s blank).rows).handle in
      (zs ++ (h ∷ []), one_more i x ∙ rw (q, append_assoc (walk ts σ t blank).first zs (h ∷ [])))

-- the rows of a script: those of its items, and the root
pub record Rooted (w v : Rows) (hs : List Handle) : Type 0 where
  pub nodes : w.nodes ≡ v.nodes ++ padded (number_of Node.Block ∷ 0 ∷ 0 ∷ length v.links / link_width ∷ length hs ∷ absent ∷ [])
  pub links : w.links ≡ v.links ++ links_of hs

pub script_rooted : (ts : List ℕ) (σ : ℕ → ℕ) (n : ℕ) (t : Tree Label) → Rooted (unparented ts σ (made Label.Script 0 n t)) (walk ts σ t blank).rows (walk ts σ t blank).first
unfolding unparented walk make put fill write numbers
script_rooted ts σ n t = record { nodes = refl; links = refl }

module _ {w v : Rows} {hs : List Handle} (h : Whole v) (r : Rooted w v hs) where
  abbrev line : List ℕ
  line = number_of Node.Block ∷ 0 ∷ 0 ∷ length v.links / link_width ∷ length hs ∷ absent ∷ []

  pub rooted_height : height w ≡ suc (height v)
  rooted_height = omega (arith, ap length r.nodes, length-append v.nodes (padded line), padded_length line, h.nodes)

  pub rooted_whole : Whole w
  rooted_whole = record { nodes = omega (arith, ap length r.nodes, length-append v.nodes (padded line), padded_length line, h.nodes); links = omega (arith, ap length r.links, length-append v.links (links_of hs), links_length hs, h.links) }

  pub root_own : own (parented w) (root_row (parented w)) ≡ take own_width (line ++ replicate own_width 0)
  root_own =
      let g = rooted_whole.nodes in
      rw (parented_height w g) (parented_own w g (height w - 1) (omega (arith, rooted_height)) ∙ last_own w g v.nodes line r.nodes)

  statements_are : statements (parented w) ≡ length hs
  statements_are = rw root_own

  pub first_is : root_first (parented w) ≡ length v.links / link_width
  first_is = rw root_own

  -- a statement's row, by its number
  statement_is : (xs zs : List Handle) (g : Handle) (j : ℕ) → hs ≡ xs ++ (g ∷ zs) → length xs ≡ j → IsStatement g → statement (parented w) j ≡ row g
  unfolding links_of
  statement_is xs zs g j q n s =
      let i : 3 * (root_first (parented w) + j) ≡ length v.links + (length (links_of xs) + 0) = omega (arith, first_is, links_length xs, h.links) in
      rw (i, r.links, q) (get_or-append-add v.links (links_of (xs ++ (g ∷ zs))) (length (links_of xs) + 0) 0 ∙ rw (links_append xs (g ∷ zs)) (get_or-append-add (links_of xs) (link g ++ links_of zs) 0 0 ∙ rw (linked s)))

module _ {e : Edition} (ts : List ℕ) (σ : ℕ → ℕ) {k : ℕ → ℕ} {n : ℕ} {t₀ : Tree Label} (i : Items e k n t₀) (m : ℕ) where
  -- as many as there are items
  pub statements_count : statements (written ts σ (made Label.Script 0 m t₀)) ≡ items t₀
  unfolding written
  statements_count = statements_are (items_grow ts σ i).whole (script_rooted ts σ m t₀) ∙ items_many ts σ i

  -- and each has the last row that it wrote
  pub statement_last : {a b : ℕ} {t u : Tree Label} → Initial (made Label.Item a b (more t u)) t₀ → suc (statement (written ts σ (made Label.Script 0 m t₀)) (items t)) ≡ height (walk ts σ u (walk ts σ t blank).rows).rows
  unfolding written
  statement_last {t = t} {u = u} j =
      let (p, x) = initial_items i j in
      let y = statement_ends e ts σ x (walk ts σ t blank).rows in
      let (zs, q) = initial_handles ts σ i j in
      let g : (walk ts σ t₀ blank).first ≡ (walk ts σ t blank).first ++ (y.handle ∷ zs) = q ∙ rw (one_more ts σ p x) (append_assoc (walk ts σ t blank).first (y.handle ∷ []) zs) in
      ap suc (statement_is (items_grow ts σ i).whole (script_rooted ts σ m t₀) (walk ts σ t blank).first zs y.handle (items t) g (items_many ts σ p) y.sort) ∙ sym y.tall
