-- What a node's row must have, and the sizes of its parts (Shapes.antt) do not say: it begins with the token of its operator, its Boolean or its word, and it has a
-- name, a block or an expression where it cannot do without. A test of all forms of the tables, and what follows from it.
use Prim.Native.Nat.{ℕ, zero, suc, ◌≤◌}
use native.Mathlib.Omega.{arith}
use mathlib.Core.Bool.{Bool, true, false, cond, not, ◌&&◌, ◌||◌}
use mathlib.Core.List.{List, [], ◌∷◌, ◌++◌}
use mathlib.Core.Path.{◌≡◌}
use lib.Dec.{T, eqb, leb, ltb, leb→le}
use Rattle.grammar.specs.Edition.{Edition}
use Rattle.grammar.specs.Handle.{Handle}
use Rattle.grammar.specs.Kaori.{Table, Form, above, rules, kaori}
use Rattle.grammar.specs.Kind.{False, True}
use Rattle.grammar.specs.Label.{Node, Label, number_of}
use Rattle.grammar.specs.Operator.{binary_operators, unary_operators, place}
use Rattle.grammar.specs.Pattern.{among}
use Rattle.grammar.specs.Phrase.{empty, token, part, nested, node, choice, chain, once, refusal, Tree, whole, Reads}
use Rattle.grammar.specs.Rows.{Rows, put, make, walk}
use Rattle.grammar.specs.Rule.{Row, writes}
use Rattle.grammar.specs.Space.{has_word}
use Rattle.grammar.proofs.Decoding.{Whole}
use Rattle.grammar.proofs.Shapes.{table, gives, joined, shape, ok, choose, choice_ok}
use Rattle.grammar.proofs.Sizes.{Sort, add, count}
use Rattle.grammar.proofs.Tables.{each, found, in_tables}
use Rattle.grammar.proofs.Tests.{both}
use Rattle.grammar.proofs.Trees.{grows}
use Rattle.grammar.proofs.Worded.{a_name}

-- a form whose first token is of such a kind
abbrev begins : (ℕ → Bool) → Form → Bool
begins t empty = false
begins t (token x p) = t x
begins t (part p q) = false
begins t (nested k p) = false
begins t (node f p) = false
begins t (choice n) = false
begins t (chain p n) = false
begins t (once p n) = false
begins t (refusal c) = false

-- the kinds that a node may begin with, as its row says an operator, a Boolean or a word of its first token
abbrev pub spelling : Label → ℕ → Bool
spelling (Label.Row n) x =
    cond (eqb (number_of n) (number_of Node.Binary)) (ltb (place x binary_operators) 11) (
    cond (eqb (number_of n) (number_of Node.Unary)) (ltb (place x unary_operators) 2) (
    cond (eqb (number_of n) (number_of Node.Boolean)) (ltb (place x (False ∷ True ∷ [])) 2) (
    cond (has_word (Label.Row n)) (a_name x) true)))
spelling Label.Script x = true
spelling Label.Ended x = true
spelling Label.Item x = true
spelling Label.Entry x = true
spelling Label.Name x = a_name x

abbrev led : Label → Form → Bool
led (Label.Row n) p = begins (spelling (Label.Row n)) p
led Label.Script p = true
led Label.Ended p = true
led Label.Item p = true
led Label.Entry p = true
led Label.Name p = begins a_name p

-- a row's kind is 1 to 26
abbrev pub known : Label → Bool
known (Label.Row n) = leb 1 (number_of n) && leb (number_of n) 26
known Label.Script = true
known Label.Ended = true
known Label.Item = true
known Label.Entry = true
known Label.Name = true

-- whether a Return always has its child
abbrev returns : Edition → Bool
returns Edition.first = true
returns Edition.second = false

-- whether a node's first part has to make something, and whether the rest has
abbrev pub needs : Edition → Label → Bool × Bool
needs e (Label.Row n) = (among (number_of Node.Variable ∷ number_of Node.Constant ∷ number_of Node.Ref ∷ number_of Node.Function ∷ []) (number_of n) || eqb (number_of n) (number_of Node.Return) && returns e, among (number_of Node.PropertyAccess ∷ number_of Node.If ∷ []) (number_of n))
needs e Label.Script = (false, false)
needs e Label.Ended = (false, false)
needs e Label.Item = (false, false)
needs e Label.Entry = (false, false)
needs e Label.Name = (false, false)

-- whether a node makes something in any case
abbrev given : Label → Bool
given (Label.Row n) = true
given Label.Script = true
given Label.Ended = true
given Label.Item = false
given Label.Entry = false
given Label.Name = true

-- a form that makes a row in any case
sure : Form → Bool
sure p = leb 1 (shape p).0.least

-- whether the first part of a form makes something in any case, and whether the rest does. Chains are not asked
pub fills : Edition → Form → Bool × Bool
fills e empty = (false, false)
fills e (token x p) = fills e p
fills e (part p q) = ((fills e p).0 || (fills e p).1, (fills e q).0 || (fills e q).1)
fills e (nested k p) = fills e p
fills e (node f p) = (given f, false)
fills e (choice n) = (each sure (rules e n).0 (rules e n).1, false)
fills e (chain p n) = (false, false)
fills e (once p n) = (false, false)
fills e (refusal c) = (false, false)

-- a node of a form p has a kind, begins as it has to and has what it needs, where its parts make so much
unfoldable pub suit : Edition → Label → Form → Bool × Bool → Bool
suit e f p z = known f && (led f p && ((not (needs e f).0 || z.0) && (not (needs e f).1 || z.1)))

unfoldable pub suits : Edition → Form → Bool
suits e empty = true
suits e (token x p) = suits e p
suits e (part p q) = suits e p && suits e q
suits e (nested k p) = suits e p
suits e (node f p) = suit e f p (fills e p) && suits e p
suits e (choice n) = true
suits e (chain p n) = suits e p
suits e (once p n) = suits e p
suits e (refusal c) = true

-- of a link what was made so far is the first part, and its own form makes the rest
suit_link : Edition → Form → Bool
suit_link e empty = true
suit_link e (token x p) = false
suit_link e (part p q) = false
suit_link e (nested k p) = false
suit_link e (node f p) = suit e f p (false, (fills e p).0 || (fills e p).1) && suits e p
suit_link e (choice n) = false
suit_link e (chain p n) = false
suit_link e (once p n) = false
suit_link e (refusal c) = false

suit_entry : Edition → Table → Form → Bool
suit_entry e n p = cond (table n).0 (suits e p) (suit_link e p)

suit_tables : (e : Edition) (n : Table) → T (each (suit_entry e n) (rules e n).0 (rules e n).1)
unfolding rules above table gives joined shape add has_word sure fills suit suits suit_link suit_entry
suit_tables Edition.first Table.statement = tt
suit_tables Edition.second Table.statement = tt
suit_tables Edition.first Table.returned = tt
suit_tables Edition.second Table.returned = tt
suit_tables e Table.bindings = tt
suit_tables e Table.path_name = tt
suit_tables e Table.otherwise = tt
suit_tables e Table.branch = tt
suit_tables Edition.first Table.operand = tt
suit_tables Edition.second Table.operand = tt
suit_tables e Table.body = tt
suit_tables e Table.value = tt
suit_tables e (Table.comma z) = tt
suit_tables e Table.script_items = tt
suit_tables e Table.block_items = tt
suit_tables e Table.arguments = tt
suit_tables e Table.entries = tt
suit_tables e (Table.names z) = tt
suit_tables e Table.may_end = tt
suit_tables e Table.must_end = tt
suit_tables e Table.assigned = tt
suit_tables e Table.dots = tt
suit_tables e Table.calls = tt
suit_tables e (Table.operators zero) = tt
suit_tables e (Table.operators (suc zero)) = tt
suit_tables e (Table.operators (suc (suc zero))) = tt
suit_tables e (Table.operators (suc (suc (suc zero)))) = tt
suit_tables e (Table.operators (suc (suc (suc (suc zero))))) = tt
suit_tables e (Table.operators (suc (suc (suc (suc (suc zero)))))) = tt
suit_tables e (Table.operators (suc (suc (suc (suc (suc (suc n))))))) = tt

entry_suits : (e : Edition) (n : Table) (x : ℕ) {p : Form} → kaori e n x ≡ p → T (suit_entry e n p)
entry_suits e n x k = rw k at (in_tables e (suit_entry e) (suit_tables e) n x)

-- what a choice reads, and what a link is
pub choice_suits : (e : Edition) (n : Table) (x : ℕ) {p : Form} → kaori e n x ≡ p → T (ok (choice n)) → T (suits e p)
unfolding ok suit_entry
choice_suits e n x {p} k h = (choose (table n).0 (suits e p) (suit_link e p) (entry_suits e n x k)).0 h

pub link_suits : (e : Edition) (n : Table) (x : ℕ) (f : Label) (q : Form) → kaori e n x ≡ node f q → T (not (table n).0) → T (suit e f q (false, (fills e q).0 || (fills e q).1)) × T (suits e q)
unfolding suit_entry suit_link
link_suits e n x f q k h = both (suit e f q (false, (fills e q).0 || (fills e q).1)) (suits e q) ((choose (table n).0 (suits e (node f q)) (suit_link e (node f q)) (entry_suits e n x k)).1 h)

pub node_suits : (e : Edition) (f : Label) (p : Form) → T (suits e (node f p)) → T (suit e f p (fills e p)) × T (suits e p)
unfolding suits
node_suits e f p h = both (suit e f p (fills e p)) (suits e p) h

-- the token that a node begins with
begun_with : (e : Edition) (t : ℕ → Bool) {kind : ℕ → ℕ} {p : Form} {a b : ℕ} {u : Tree Label} → Reads (kaori e) kind (whole p) a b u → T (begins t p) → T (t (kind a))
begun_with e t Reads.nothing h = absurd h
begun_with e t (Reads.taken k x) h = rw k h
begun_with e t (Reads.both x y) h = absurd h
begun_with e t (Reads.opened x) h = absurd h
begun_with e t (Reads.labelled x) h = absurd h
begun_with e t (Reads.chosen k x) h = absurd h
begun_with e t (Reads.ended x k) h = absurd h
begun_with e t (Reads.alone x k) h = absurd h
begun_with e t (Reads.joined x k y) h = absurd h

spelt : (e : Edition) (f : Label) {kind : ℕ → ℕ} {p : Form} {a b : ℕ} {t : Tree Label} → Reads (kaori e) kind (whole p) a b t → T (led f p) → T (spelling f (kind a))
spelt e (Label.Row n) x h = begun_with e (spelling (Label.Row n)) x h
spelt e Label.Script x h = tt
spelt e Label.Ended x h = tt
spelt e Label.Item x h = tt
spelt e Label.Entry x h = tt
spelt e Label.Name x h = begun_with e a_name x h

-- whether something was made
abbrev pub some : List Handle → Bool
some [] = false
some (h ∷ hs) = true

some_first : (xs ys : List Handle) → T (some xs) → T (some (xs ++ ys))
some_first [] ys h = absurd h
some_first (x ∷ xs) ys h = tt

some_second : (xs ys : List Handle) → T (some ys) → T (some (xs ++ ys))
some_second [] ys h = h
some_second (x ∷ xs) ys h = tt

-- so much as the first part and the rest make in any case
pub record Filled (z : Bool × Bool) (xs ys : List Handle) : Type 0 where
  pub first : T z.0 → T (some xs)
  pub rest : T z.1 → T (some ys)

-- what both parts make
filled_both : {z : Bool × Bool} {xs ys : List Handle} → Filled z xs ys → T (z.0 || z.1) → T (some (xs ++ ys))
filled_both {z} {xs} {ys} f h = pick z.0 z.1 f.first f.rest h
  where
    pick : (a b : Bool) → (T a → T (some xs)) → (T b → T (some ys)) → T (a || b) → T (some (xs ++ ys))
    pick true b i j h = some_first xs ys (i tt)
    pick false b i j h = some_second xs ys (j h)

-- a link's own form makes the rest
pub filled_link : {z : Bool × Bool} {us xs ys : List Handle} → Filled z xs ys → Filled (false, z.0 || z.1) us (xs ++ ys)
filled_link f = record { first = λ z. absurd z; rest = filled_both f }

pub some_made : (hs : List Handle) → 1 ≤ count hs Sort.node → T (some hs)
some_made [] h = absurd (omega arith)
some_made (x ∷ hs) h = tt

put_some : (k : ℕ) (r : Row) (w : Rows) → T (some (put k r w).first)
unfolding put
put_some k (writes s e fs) w = tt

module _ (e : Edition) (ts : List ℕ) (σ : ℕ → ℕ) where
  node_some : (f : Label) (a b : ℕ) (w : Rows) (xs ys : List Handle) → T (given f) → T (some (make ts σ f a b w xs ys).first)
  unfolding make
  node_some (Label.Row n) a b w xs ys h = put_some _ _ w
  node_some Label.Script a b w xs ys h = put_some _ _ w
  node_some Label.Ended a b w xs ys h = tt
  node_some Label.Item a b w xs ys h = absurd h
  node_some Label.Entry a b w xs ys h = absurd h
  node_some Label.Name a b w xs ys h = tt

  pub filled : {kind : ℕ → ℕ} {p : Form} {a b : ℕ} {t : Tree Label} → Reads (kaori e) kind (whole p) a b t → T (ok p) → {w : Rows} → Whole w → Filled (fills e p) (walk ts σ t w).first (walk ts σ t w).rest
  unfolding ok fills walk sure kaori
  filled Reads.nothing h i = record { first = λ z. absurd z; rest = λ z. absurd z }
  filled (Reads.taken k x) h i = filled x h i
  filled (Reads.both {p = p} {q = q} x y) h i =
      let (u, v) = both (ok p) (ok q) h in
      record { first = filled_both (filled x u i); rest = filled_both (filled y v (grows e ts σ x u i).whole) }
  filled (Reads.opened x) h i = filled x h i
  filled (Reads.labelled {f = f} x) h i = record { first = node_some f _ _ _ _ _; rest = λ z. absurd z }
  filled {kind} {a = a} (Reads.chosen {n = n} {p = p} {t = t} k x) h {w} i =
      let g = grows e ts σ x (choice_ok e n _ k h).1 i in
      record { first = λ z. let l : T (sure p) = rw k at (found sure (rules e n).0 (rules e n).1 (kind a) z) in some_made (walk ts σ t w).first (omega (arith, leb→le 1 (shape p).0.least l, g.first.least)); rest = λ z. absurd z }
  filled (Reads.ended x k) h i = record { first = λ z. absurd z; rest = λ z. absurd z }
  filled (Reads.alone x k) h i = record { first = λ z. absurd z; rest = λ z. absurd z }
  filled (Reads.joined x k y) h i = record { first = λ z. absurd z; rest = λ z. absurd z }

-- a node that starts at token a, of what its parts made
pub record Suited (e : Edition) (kind : ℕ → ℕ) (f : Label) (a : ℕ) (xs ys : List Handle) : Type 0 where
  pub kind_known : T (known f)
  pub spelt : T (spelling f (kind a))
  pub filled : Filled (needs e f) xs ys

implied : (a b : Bool) → T (not a || b) → T a → T b
implied true b h i = h
implied false b h i = absurd i

pub suited : (e : Edition) (f : Label) {kind : ℕ → ℕ} {p : Form} {a b : ℕ} {t : Tree Label} {z : Bool × Bool} {xs ys : List Handle} → T (suit e f p z) → Reads (kaori e) kind (whole p) a b t → Filled z xs ys → Suited e kind f a xs ys
unfolding suit
suited e f {p = p} {z = z} h x y =
    let (r, q) = both (known f) _ h in
    let (u, v) = both (led f p) _ q in
    let (i, j) = both (not (needs e f).0 || z.0) (not (needs e f).1 || z.1) v in
    record { kind_known = r; spelt = spelt e f x u; filled = record { first = λ k. y.first (implied (needs e f).0 z.0 i k); rest = λ k. y.rest (implied (needs e f).1 z.1 j k) } }
