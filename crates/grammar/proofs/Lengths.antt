-- How many numbers a tree's rows have: whole rows, as many whatever the symbols are, and as many with the parents put in.
use Prim.Native.Nat.{ℕ}
use mathlib.Core.Bool.{Bool, true, false, cond}
use mathlib.Core.List.{List, [], ◌∷◌, ◌++◌, tail}
use mathlib.Core.Path.{◌≡◌, refl, sym}
use native.Mathlib.Omega.{arith}
use lib.ListN.{length}
use Rattle.grammar.specs.Edition.{Edition}
use Rattle.grammar.specs.Handle.{Handle, is_tail, block_list, entry_of}
use Rattle.grammar.specs.Label.{Node, Label}
use Rattle.grammar.specs.Parent.{written}
use Rattle.grammar.specs.Phrase.{Tree, none, more, deeper, made}
use Rattle.grammar.specs.Rows.{Rows, blank, Walked, put, make, walk, then, unparented}
use Rattle.grammar.specs.Rule.{Row, writes, fields, rule, root}
use Rattle.grammar.specs.Space.{Space, Enough}
use Rattle.grammar.proofs.Decoding.{Whole}
use Rattle.grammar.proofs.Growth.{lists, put_filled}
use Rattle.grammar.proofs.Parents.{parented_length}

-- rows of as many numbers
pub record Alike (w v : Rows) : Type 0 where
  pub nodes : length w.nodes ≡ length v.nodes
  pub links : length w.links ≡ length v.links

pub alike_self : {w : Rows} → Alike w w
alike_self = record { nodes = refl; links = refl }

alike_back : {w v : Rows} → Alike w v → Alike v w
alike_back a = record { nodes = sym a.nodes; links = sym a.links }

enough_alike : {space : Space} {w v : Rows} → Alike w v → Enough space w → Enough space v
enough_alike a h = omega arith

-- lists of as many items, of which the same may be a tail
data Matched : List Handle → List Handle → Type 0 where
  nil : Matched [] []
  next : {g h : Handle} {gs hs : List Handle} → is_tail g ≡ is_tail h → Matched gs hs → Matched (g ∷ gs) (h ∷ hs)

matched_length : {gs hs : List Handle} → Matched gs hs → length gs ≡ length hs
matched_length Matched.nil = refl
matched_length (Matched.next e m) = omega (arith, matched_length m)

matched_both : {gs hs ks ls : List Handle} → Matched gs hs → Matched ks ls → Matched (gs ++ ks) (hs ++ ls)
matched_both Matched.nil n = n
matched_both (Matched.next e m) n = Matched.next e (matched_both m n)

tail_length : {gs hs : List Handle} → Matched gs hs → length (tail gs) ≡ length (tail hs)
tail_length Matched.nil = refl
tail_length (Matched.next e m) = matched_length m

block_length : {gs hs : List Handle} → Matched gs hs → length (block_list gs) ≡ length (block_list hs)
unfolding block_list
block_length Matched.nil = refl
block_length (Matched.next {g = g} {h = h} e Matched.nil) = rw e (either (is_tail h))
  where
    either : (b : Bool) → length (cond b [] (g ∷ [])) ≡ length (cond b [] (h ∷ []))
    either true = refl
    either false = refl
block_length (Matched.next e (Matched.next {g = g} {h = h} f m)) = omega (arith, block_length (Matched.next {g = g} {h = h} f m))

matched_entry : {gs hs : List Handle} (ks ls : List Handle) → Matched gs hs → Matched (entry_of gs ks) (entry_of hs ls)
matched_entry ks ls Matched.nil = Matched.nil
matched_entry ks ls (Matched.next e m) = Matched.next refl Matched.nil

record Walks (r s : Walked) : Type 0 where
  pub rows : Alike r.rows s.rows
  pub first : Matched r.first s.first
  pub rest : Matched r.rest s.rest

put_walks : (k : ℕ) (p q : Row) {w v : Rows} → lists (fields p) ≡ lists (fields q) → Alike w v → Walks (put k p w) (put k q v)
unfolding put
put_walks k (writes s e fs) (writes u d gs) {w} {v} h a =
    let f = put_filled k (writes s e fs) w in
    let g = put_filled k (writes u d gs) v in
    record { rows = omega arith; first = Matched.next refl Matched.nil; rest = Matched.nil }

module _ (ts : List ℕ) (σ τ : ℕ → ℕ) where
  as_many : (n : Node) (a b : ℕ) {xs ys us vs : List Handle} (x y u v : Handle) → Matched xs us → Matched ys vs → lists (fields (rule ts σ n a b xs ys x y)) ≡ lists (fields (rule ts τ n a b us vs u v))
  unfolding rule lists
  as_many Node.Binary a b x y u v m k = refl
  as_many Node.LogicalAnd a b x y u v m k = refl
  as_many Node.LogicalOr a b x y u v m k = refl
  as_many (Node.LogicalNot Edition.first) a b x y u v m k = refl
  as_many (Node.LogicalNot Edition.second) a b x y u v m k = refl
  as_many Node.Unary a b x y u v m k = refl
  as_many Node.Assign a b x y u v m k = refl
  as_many Node.Variable a b x y u v m k = refl
  as_many Node.Constant a b x y u v m k = refl
  as_many Node.Ref a b x y u v m k = refl
  as_many Node.Identifier a b x y u v m k = refl
  as_many Node.String a b x y u v m k = refl
  as_many Node.Number a b x y u v m k = refl
  as_many Node.Boolean a b x y u v m k = refl
  as_many Node.Nil a b x y u v m k = refl
  as_many Node.FunctionCall a b x y u v m k = omega (arith, matched_length k)
  as_many Node.PropertyAccess a b x y u v m k = refl
  as_many Node.Map a b x y u v m k = omega (arith, matched_length m)
  as_many Node.Function a b x y u v m k = omega (arith, tail_length m)
  as_many Node.Lambda a b x y u v m k = omega (arith, matched_length m)
  as_many Node.Block a b x y u v m k = omega (arith, block_length m)
  as_many Node.If a b x y u v m k = refl
  as_many Node.WhileLoop a b x y u v m k = refl
  as_many Node.Return a b x y u v m k = refl
  as_many Node.Break a b x y u v m k = refl
  as_many Node.Continue a b x y u v m k = refl
  as_many Node.Import a b x y u v m k = omega (arith, matched_length m, matched_length k)

  make_walks : (f : Label) (a b : ℕ) {r s : Walked} → Walks r s → Walks (make ts σ f a b r.rows r.first r.rest) (make ts τ f a b s.rows s.first s.rest)
  unfolding make lists
  make_walks (Label.Row n) a b m = put_walks _ _ _ (as_many n a b _ _ _ _ m.first m.rest) m.rows
  make_walks Label.Script a b m = put_walks _ (root _) (root _) (omega (arith, matched_length m.first)) m.rows
  make_walks Label.Ended a b m = record { rows = m.rows; first = Matched.next refl Matched.nil; rest = Matched.nil }
  make_walks Label.Item a b m = record { rows = m.rows; first = matched_both m.first m.rest; rest = Matched.nil }
  make_walks Label.Entry a b m = record { rows = m.rows; first = matched_entry _ _ m.first; rest = Matched.nil }
  make_walks Label.Name a b m = record { rows = m.rows; first = Matched.next refl Matched.nil; rest = Matched.nil }

  walks : (t : Tree Label) {w v : Rows} → Alike w v → Walks (walk ts σ t w) (walk ts τ t v)
  unfolding walk
  walks none a = record { rows = a; first = Matched.nil; rest = Matched.nil }
  walks (more t u) a = let m = walks t a in let k = walks u m.rows in record { rows = k.rows; first = matched_both m.first m.rest; rest = matched_both k.first k.rest }
  walks (deeper t) a = walks t a
  walks (made f x y t) a = make_walks f x y (walks t a)

  -- other symbols, as many rows
  pub then_alike : (t : Tree Label) {w v : Rows} → Alike w v → Alike (then ts σ t w) (then ts τ t v)
  then_alike t a = (walks t a).rows

module _ (ts : List ℕ) (σ : ℕ → ℕ) where
  put_whole : (k : ℕ) (r : Row) (w : Rows) → Whole w → Whole (put k r w).rows
  put_whole k r w h = let f = put_filled k r w in omega arith

  pub tree_whole : (t : Tree Label) {w : Rows} → Whole w → Whole (then ts σ t w)
  unfolding walk make
  tree_whole none h = h
  tree_whole (more t u) h = tree_whole u (tree_whole t h)
  tree_whole (deeper t) h = tree_whole t h
  tree_whole (made (Label.Row n) a b t) {w} h = put_whole _ _ (then ts σ t w) (tree_whole t h)
  tree_whole (made Label.Script a b t) {w} h = put_whole _ _ (then ts σ t w) (tree_whole t h)
  tree_whole (made Label.Ended a b t) h = tree_whole t h
  tree_whole (made Label.Item a b t) h = tree_whole t h
  tree_whole (made Label.Entry a b t) h = tree_whole t h
  tree_whole (made Label.Name a b t) h = tree_whole t h

  -- and the parents make them no more
  pub written_alike : (t : Tree Label) → Alike (written ts σ t) (then ts σ t blank)
  unfolding written unparented
  written_alike t = let w = tree_whole t {w = blank} (record { nodes = refl; links = refl }) in record { nodes = parented_length (unparented ts σ t) w.nodes; links = refl }

-- so rows that fit do so with the parents and without, whatever the symbols are
module _ (ts : List ℕ) (σ τ : ℕ → ℕ) (t : Tree Label) {space : Space} where
  pub enough_written : Enough space (then ts σ t blank) → Enough space (written ts τ t)
  enough_written h = enough_alike (alike_back (written_alike ts τ t)) (enough_alike (then_alike ts σ τ t alike_self) h)

  pub enough_then : Enough space (written ts σ t) → Enough space (then ts τ t blank)
  enough_then h = enough_alike (then_alike ts σ τ t alike_self) (enough_alike (written_alike ts σ t) h)
