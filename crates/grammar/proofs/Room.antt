-- A room with a row for each token is enough: each row and link has a token of its own.
use Prim.Native.Nat.{ℕ, zero, suc, ◌+◌, ◌-◌, ◌*◌, ◌≤◌}
use mathlib.Core.Bool.{Bool, true, false, cond, ◌&&◌}
use mathlib.Core.List.{List, [], ◌∷◌, tail}
use mathlib.Core.Path.{◌≡◌, subst}
use native.Mathlib.Omega.{arith}
use lib.Dec.{leb, T, leb→le, le→leb}
use lib.ListN.{length, get_or, length-append}
use Rattle.grammar.specs.Edition.{Edition}
use Rattle.grammar.specs.Handle.{Handle, head, is_tail, block_list}
use Rattle.grammar.specs.Kaori.{Table, Form, above, rules, kaori, Script}
use Rattle.grammar.specs.Label.{Node, Label}
use Rattle.grammar.specs.Operator.{levels}
use Rattle.grammar.specs.Phrase.{empty, token, part, nested, node, choice, chain, once, refusal, Tree, more, made, Aim, Reads}
use Rattle.grammar.specs.Profile.{Profile, ReadsAll}
use Rattle.grammar.specs.Room.{node_width, link_width}
use Rattle.grammar.specs.Rows.{Rows, blank, Walked, parts, put, make, walk, unparented}
use Rattle.grammar.specs.Rule.{Row, writes, fields, rule}
use Rattle.grammar.proofs.Growth.{lists, put_filled, tree_grows}
pub use Rattle.grammar.proofs.Growth.{links_length}
use Rattle.grammar.proofs.Machine.{asked}
use Rattle.grammar.proofs.Tables.{each, each_mapped, in_tables}
use Rattle.grammar.proofs.Tests.{both, all}

-- tokens that a node takes for what it writes and makes
abbrev pub cost : Label → ℕ
cost (Label.Row f) = 1
cost Label.Script = 1
cost Label.Ended = 1
cost Label.Item = 0
cost Label.Entry = 0
cost Label.Name = 1

-- tokens of a form that no node in it takes
unfoldable pub spare : Form → ℕ
spare empty = 0
spare (token x p) = suc (spare p)
spare (part p q) = spare p + spare q
spare (nested k p) = spare p
spare (node f p) = spare p - cost f
spare (choice n) = 0
spare (chain p n) = spare p
spare (once p n) = spare p
spare (refusal e) = 0

-- each node has the tokens that it takes
unfoldable pub paid : Form → Bool
paid empty = true
paid (token x p) = paid p
paid (part p q) = paid p && paid q
paid (nested k p) = paid p
paid (node f p) = leb (cost f) (spare p) && paid p
paid (choice n) = true
paid (chain p n) = paid p
paid (once p n) = paid p
paid (refusal e) = true

pub paid_above : (n : ℕ) → T (paid (above n))
unfolding above paid
paid_above zero = tt
paid_above (suc n) = paid_above n

pub paid_tables : (e : Edition) (n : Table) → T (each paid (rules e n).0 (rules e n).1)
unfolding rules paid spare above
paid_tables e Table.statement = tt
paid_tables Edition.first Table.returned = tt
paid_tables Edition.second Table.returned = tt
paid_tables e Table.may_end = tt
paid_tables e Table.must_end = tt
paid_tables e Table.bindings = tt
paid_tables e Table.path_name = tt
paid_tables e Table.otherwise = tt
paid_tables e Table.branch = tt
paid_tables Edition.first Table.operand = tt
paid_tables Edition.second Table.operand = tt
paid_tables e Table.body = tt
paid_tables e Table.value = tt
paid_tables e (Table.comma z) = tt
paid_tables e Table.script_items = tt
paid_tables e Table.block_items = tt
paid_tables e Table.arguments = tt
paid_tables e Table.entries = tt
paid_tables e (Table.names z) = tt
paid_tables e Table.assigned = tt
paid_tables e Table.dots = tt
paid_tables e Table.calls = tt
paid_tables e (Table.operators n) = each_mapped paid _ (get_or levels n []) empty (λ x. all (leb 1 (suc (spare (above n)))) (paid (above n)) (le→leb 1 (suc (spare (above n))) (omega arith)) (paid_above n)) tt

pub paid_node : (f : Label) (p : Form) → T (paid (node f p)) → (cost f ≤ spare p) × T (paid p)
unfolding paid
paid_node f p h = let (u, v) = both (leb (cost f) (spare p)) (paid p) h in (leb→le _ _ u, v)

pub paid_entry : (e : Edition) (n : Table) (x : ℕ) {p : Form} → kaori e n x ≡ p → T (paid p)
paid_entry e n x k = rw k at (in_tables e (λ n. paid) (paid_tables e) n x)

abbrev pub handles : Walked → ℕ
handles r = length r.first + length r.rest

-- what r has grown to from the rows w and n handles, with k tokens
pub record Grown (w : Rows) (n k : ℕ) (r : Walked) : Type 0 where
  pub nodes : length r.rows.nodes ≤ length w.nodes + node_width * k
  pub links : length r.rows.links + 3 * handles r ≤ length w.links + 3 * (n + k)

tail_length : (hs : List Handle) → length (tail hs) ≤ length hs
tail_length [] = omega arith
tail_length (h ∷ hs) = omega arith

block_list_length : (hs : List Handle) → length (block_list hs) ≤ length hs
unfolding block_list
block_list_length [] = omega arith
block_list_length (h ∷ []) = either (is_tail h)
  where
    either : (b : Bool) → length (cond b [] (h ∷ [])) ≤ 1
    either true = omega arith
    either false = omega arith
block_list_length (h ∷ g ∷ hs) = omega (arith, block_list_length (g ∷ hs))

put_grown : (k : ℕ) (r : Row) (w : Rows) (n : ℕ) → lists (fields r) ≤ n → Grown w n 1 (put k r w)
unfolding put
put_grown k (writes s e fs) w n h = let z = put_filled k (writes s e fs) w in omega arith

-- a rule links no more than was made
modest : (ts : List ℕ) (symbol : ℕ → ℕ) (f : Node) (a b : ℕ) (xs ys : List Handle) (x y : Handle) → lists (fields (rule ts symbol f a b xs ys x y)) ≤ length xs + length ys
unfolding rule lists
modest ts σ Node.Binary a b xs ys x y = omega arith
modest ts σ Node.LogicalAnd a b xs ys x y = omega arith
modest ts σ Node.LogicalOr a b xs ys x y = omega arith
modest ts σ (Node.LogicalNot Edition.first) a b xs ys x y = omega arith
modest ts σ (Node.LogicalNot Edition.second) a b xs ys x y = omega arith
modest ts σ Node.Unary a b xs ys x y = omega arith
modest ts σ Node.Assign a b xs ys x y = omega arith
modest ts σ Node.Variable a b xs ys x y = omega arith
modest ts σ Node.Constant a b xs ys x y = omega arith
modest ts σ Node.Ref a b xs ys x y = omega arith
modest ts σ Node.Identifier a b xs ys x y = omega arith
modest ts σ Node.String a b xs ys x y = omega arith
modest ts σ Node.Number a b xs ys x y = omega arith
modest ts σ Node.Boolean a b xs ys x y = omega arith
modest ts σ Node.Nil a b xs ys x y = omega arith
modest ts σ Node.FunctionCall a b xs ys x y = omega arith
modest ts σ Node.PropertyAccess a b xs ys x y = omega arith
modest ts σ Node.Map a b xs ys x y = omega arith
modest ts σ Node.Function a b xs ys x y = omega (arith, tail_length xs)
modest ts σ Node.Lambda a b xs ys x y = omega arith
modest ts σ Node.Block a b xs ys x y = omega (arith, block_list_length xs)
modest ts σ Node.If a b xs ys x y = omega arith
modest ts σ Node.WhileLoop a b xs ys x y = omega arith
modest ts σ Node.Return a b xs ys x y = omega arith
modest ts σ Node.Break a b xs ys x y = omega arith
modest ts σ Node.Continue a b xs ys x y = omega arith
modest ts σ Node.Import a b xs ys x y = omega arith

module _ (ts : List ℕ) (symbol : ℕ → ℕ) where
  pub make_grown : (f : Label) (a b : ℕ) (w : Rows) (xs ys : List Handle) → Grown w (length xs + length ys) (cost f) (make ts symbol f a b w xs ys)
  unfolding make lists
  make_grown (Label.Row f) a b w xs ys = put_grown _ _ w _ (modest ts symbol f a b xs ys (head xs) (head ys))
  make_grown Label.Script a b w xs ys = put_grown _ _ w _ (omega arith)
  make_grown Label.Ended a b w xs ys = omega arith
  make_grown Label.Item a b w xs ys = omega (arith, length-append xs ys)
  make_grown Label.Entry a b w [] ys = omega arith
  make_grown Label.Entry a b w (x ∷ xs) ys = omega arith
  make_grown Label.Name a b w xs ys = omega arith

  joined : {w : Rows} {k l : ℕ} {r s : Walked} → Grown w 0 k r → Grown r.rows 0 l s → Grown w 0 (k + l) (parts r s)
  joined {r = r} {s = s} g h = omega (arith, length-append r.first r.rest, length-append s.first s.rest)

  labelled : {w : Rows} {k : ℕ} {r : Walked} (f : Label) (a b : ℕ) → Grown w 0 k r → Grown w 0 (k + cost f) (make ts symbol f a b r.rows r.first r.rest)
  labelled {r = r} f a b g = let h = make_grown f a b r.rows r.first r.rest in omega arith

  -- the tokens from a up to b, but for s of them, pay for what t writes
  pub record Pays (a s b : ℕ) (t : Tree Label) : Type 0 where
    pub pay : (w : Rows) → (k : ℕ) × (a + s + k ≤ b) × Grown w 0 k (walk ts symbol t w)

  less : {a s c z b : ℕ} {t : Tree Label} → Pays a s b t → c + z ≤ a + s → Pays c z b t
  less g h = record { pay = λ w. let (k, i, x) = g.pay w in (k, omega arith, x) }

  pays_both : {a s b z c : ℕ} {t u : Tree Label} → Pays a s b t → Pays b z c u → Pays a (s + z) c (more t u)
  unfolding walk
  pays_both {t = t} g h = record { pay = λ w. let (k, i, x) = g.pay w in let (l, j, y) = h.pay (walk ts symbol t w).rows in (k + l, omega arith, joined x y) }

  pays_node : {a s b : ℕ} {t : Tree Label} (f : Label) (from upto : ℕ) → cost f ≤ s → Pays a s b t → Pays a (s - cost f) b (made f from upto t)
  unfolding walk
  pays_node f from upto c g = record { pay = λ w. let (k, i, x) = g.pay w in (k + cost f, omega arith, labelled f from upto x) }

  pays_link : {a s b z c : ℕ} {f : Label} {t u : Tree Label} → Pays a s b t → Pays b z c u → cost f ≤ z → Pays a s c (made f b c (more t u))
  pays_link {f = f} g h i = less (pays_node f _ _ (omega arith) (pays_both g h)) (omega arith)

  -- and links are never taken back
  pub links_grow : (t : Tree Label) (w : Rows) → length w.links ≤ length (walk ts symbol t w).rows.links
  links_grow t w = (tree_grows ts symbol t w).links

  -- a reading of the tokens from a up to b writes b - a rows at most into each room
  pub record Within (a b : ℕ) (w v : Rows) : Type 0 where
    pub nodes : length v.nodes ≤ length w.nodes + node_width * (b - a)
    pub links : length v.links ≤ length w.links + link_width * (b - a)

  -- these rows fit rooms of n rows
  pub record Room (n : ℕ) (w : Rows) : Type 0 where
    pub nodes : length w.nodes ≤ node_width * n
    pub links : length w.links ≤ link_width * n

module _ (e : Edition) (ts : List ℕ) (symbol : ℕ → ℕ) where
  -- a reading pays for what it writes
  pub pays : {kind : ℕ → ℕ} {m : Aim Table Label} {a b : ℕ} {t : Tree Label} → Reads (kaori e) kind m a b t → T (paid (asked m)) → Pays ts symbol a (spare (asked m)) b t
  unfolding paid spare walk
  pays Reads.nothing h = record { pay = λ w. (0, omega arith, omega arith) }
  pays (Reads.taken k x) h = less ts symbol (pays x h) (omega arith)
  pays (Reads.both {p = p} {q = q} x y) h = let (u, v) = both (paid p) (paid q) h in pays_both ts symbol (pays x u) (pays y v)
  pays (Reads.opened x) h = record { pay = (pays x h).pay }
  pays (Reads.labelled {f = f} {p = p} x) h = let (u, v) = paid_node f p h in pays_node ts symbol f _ _ u (pays x v)
  pays (Reads.chosen {n = n} k x) h = less ts symbol (pays x (paid_entry e n _ k)) (omega arith)
  pays (Reads.first x) h = pays x h
  pays (Reads.link {n = n} {f = f} {q = q} l k x) h = let (u, v) = paid_node f q (paid_entry e n _ k) in pays_link ts symbol (pays l h) (pays x v) u
  pays (Reads.ended l k) h = pays l h
  pays (Reads.alone x k) h = pays x h
  pays (Reads.joined {n = n} {f = f} {q = q} x k y) h = let (u, v) = paid_node f q (paid_entry e n _ k) in pays_link ts symbol (pays x h) (pays y v) u

  pub reading_rows : {kind : ℕ → ℕ} {m : Aim Table Label} {a b : ℕ} {t : Tree Label} → Reads (kaori e) kind m a b t → T (paid (asked m)) → (w : Rows) → Within ts symbol a b w (walk ts symbol t w).rows
  reading_rows x h w = let (k, i, g) = (pays x h).pay w in omega arith

  pub script_room : {kind : ℕ → ℕ} {n : ℕ} {t : Tree Label} → Script e kind n t → Room ts symbol (n + 1) (unparented ts symbol t)
  unfolding unparented walk spare paid
  script_room (Reads.labelled {b = b} x) = let (k, i, g) = (pays x tt).pay blank in let h = labelled ts symbol Label.Script 0 b g in omega arith

  -- so do the rows of a list of n tokens
  pub all_room : (p : Profile) (n : ℕ) {kind : ℕ → ℕ} {t : Tree Label} → ReadsAll p e kind n t → 1 ≤ n → Room ts symbol n (unparented ts symbol t)
  unfolding unparented spare paid above
  all_room Profile.script n {t = t} x h = let same : n - 1 + 1 ≡ n = omega arith in subst (λ m. Room ts symbol m (unparented ts symbol t)) same (script_room x)
  all_room Profile.guard n x h = let r = reading_rows x tt blank in omega (arith, r.nodes, r.links)
