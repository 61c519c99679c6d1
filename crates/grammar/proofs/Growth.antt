-- How many rows are written: what a row's fields write, and that nothing is taken back.
use Prim.Native.Nat.{ℕ, ◌+◌, ◌*◌, ◌≤◌}
use mathlib.Core.List.{List, [], ◌∷◌, ◌++◌}
use mathlib.Core.Path.{◌≡◌, refl}
use native.Mathlib.Omega.{arith}
use lib.ListN.{length, length-append, length-take, length-replicate}
use Rattle.grammar.specs.Handle.{Handle, link}
use Rattle.grammar.specs.Label.{Label}
use Rattle.grammar.specs.Phrase.{Tree, none, more, deeper, made}
use Rattle.grammar.specs.Room.{node_width, link_width}
use Rattle.grammar.specs.Rows.{Rows, padded, links_of, numbers, write, fill, put, make, walk, then}
use Rattle.grammar.specs.Rule.{Field, number, child, named, list, Row, writes, fields}
use Rattle.grammar.specs.Space.{Space, Enough}

-- link rows that fields write
unfoldable pub lists : List Field → ℕ
lists [] = 0
lists (number n ∷ fs) = lists fs
lists (child h ∷ fs) = lists fs
lists (named h ∷ fs) = lists fs
lists (list hs ∷ fs) = length hs + lists fs

link_length : (h : Handle) → length (link h) ≡ 3
link_length (Handle.node i s e) = refl
link_length (Handle.name x s e) = refl
link_length (Handle.entry k v) = refl
link_length (Handle.ended i) = refl
link_length Handle.other = refl

pub links_length : (hs : List Handle) → length (links_of hs) ≡ 3 * length hs
unfolding links_of
links_length [] = refl
links_length (h ∷ hs) = simp (length-append, link_length, links_length hs) (omega arith)

-- a row has ten numbers
pub padded_length : (xs : List ℕ) → length (padded xs) ≡ node_width
padded_length xs = simp (length-append, length-take, length-replicate) (omega arith)

-- rows from w to v: one node row, and l link rows
pub record Filled (l : ℕ) (w v : Rows) : Type 0 where
  pub nodes : length v.nodes ≡ length w.nodes + node_width
  pub links : length v.links ≡ length w.links + link_width * l

pub filled : (fs : List Field) (xs : List ℕ) (w : Rows) → Filled (lists fs) w (fill fs xs w)
unfolding fill write lists
filled [] xs w = record { nodes = omega (arith, length-append w.nodes (padded xs), padded_length xs); links = omega arith }
filled (number n ∷ fs) xs w = filled fs _ w
filled (child g ∷ fs) xs w = filled fs _ w
filled (named g ∷ fs) xs w = filled fs _ w
filled (list hs ∷ fs) xs w = let h = filled fs (xs ++ numbers (list hs) w) (write (list hs) w) in omega (arith, length-append w.links (links_of hs), links_length hs)

pub put_filled : (k : ℕ) (r : Row) (w : Rows) → Filled (lists (fields r)) w (put k r w).rows
unfolding put
put_filled k (writes s e fs) w = filled fs (k ∷ s ∷ e ∷ []) w

-- from w to v no row is taken back
pub record Grows (w v : Rows) : Type 0 where
  pub nodes : length w.nodes ≤ length v.nodes
  pub links : length w.links ≤ length v.links

pub grows_on : {u v w : Rows} → Grows u v → Grows v w → Grows u w
grows_on g h = omega arith

-- so where the later rows fit, the earlier ones did
pub enough_before : {space : Space} {w v : Rows} → Grows w v → Enough space v → Enough space w
enough_before g h = omega arith

put_grows : (k : ℕ) (r : Row) (w : Rows) → Grows w (put k r w).rows
put_grows k r w = let f = put_filled k r w in omega arith

module _ (ts : List ℕ) (symbol : ℕ → ℕ) where
  -- what a node writes after its parts, and what a tree does
  pub node_grows : (f : Label) (a b : ℕ) (t : Tree Label) (w : Rows) → Grows (then ts symbol t w) (then ts symbol (made f a b t) w)
  unfolding walk make
  node_grows (Label.Row n) a b t w = put_grows _ _ (then ts symbol t w)
  node_grows Label.Script a b t w = put_grows _ _ (then ts symbol t w)
  node_grows Label.Ended a b t w = omega arith
  node_grows Label.Item a b t w = omega arith
  node_grows Label.Entry a b t w = omega arith
  node_grows Label.Name a b t w = omega arith

  pub tree_grows : (t : Tree Label) (w : Rows) → Grows w (then ts symbol t w)
  unfolding walk
  tree_grows none w = omega arith
  tree_grows (more t u) w = grows_on (tree_grows t w) (tree_grows u (then ts symbol t w))
  tree_grows (deeper t) w = tree_grows t w
  tree_grows (made f a b t) w = grows_on (tree_grows t w) (node_grows f a b t w)

  -- the rows of a part fit where those of the whole do
  pub enough_node : {space : Space} (f : Label) (a b : ℕ) (t : Tree Label) (w : Rows) → Enough space (then ts symbol (made f a b t) w) → Enough space (then ts symbol t w)
  enough_node f a b t w = enough_before (node_grows f a b t w)

  pub enough_first : {space : Space} (t u : Tree Label) (w : Rows) → Enough space (then ts symbol (more t u) w) → Enough space (then ts symbol t w)
  unfolding walk
  enough_first t u w = enough_before (tree_grows u (then ts symbol t w))
