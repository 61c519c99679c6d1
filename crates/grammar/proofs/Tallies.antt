-- How many rows a tree has, from the tree alone: what the walk writes is as much, whatever the tokens and symbols are.
use Prim.Native.Nat.{ℕ, suc, ◌+◌, ◌*◌}
use mathlib.Core.Bool.{Bool, true, false, cond}
use mathlib.Core.List.{List, [], ◌∷◌, ◌++◌, map, tail}
use mathlib.Core.Path.{◌≡◌, refl, ap}
use native.Mathlib.Omega.{arith}
use lib.ListN.{length}
use Rattle.grammar.specs.Edition.{Edition}
use Rattle.grammar.specs.Handle.{Handle, is_tail, block_list, entry_of}
use Rattle.grammar.specs.Label.{Node, Label}
use Rattle.grammar.specs.Phrase.{Tree, none, more, deeper, made}
use Rattle.grammar.specs.Room.{node_width, link_width}
use Rattle.grammar.specs.Rows.{Rows, Walked, put, make, walk}
use Rattle.grammar.specs.Rule.{Row, writes, fields, rule, root}
use Rattle.grammar.proofs.Growth.{lists, put_filled}

-- rows and link rows, and of each thing that the first part made, and of each that the rest made, whether it may be a tail
pub record Tally : Type 0 where
  pub nodes : ℕ
  pub links : ℕ
  pub first : List Bool
  pub rest : List Bool

-- a block's list without its tail
abbrev listed : List Bool → ℕ
listed [] = 0
listed (b ∷ []) = cond b 0 1
listed (b ∷ c ∷ bs) = suc (listed (c ∷ bs))

-- the link rows of a node
abbrev linked : Node → List Bool → List Bool → ℕ
linked Node.Binary xs ys = 0
linked Node.LogicalAnd xs ys = 0
linked Node.LogicalOr xs ys = 0
linked (Node.LogicalNot e) xs ys = 0
linked Node.Unary xs ys = 0
linked Node.Assign xs ys = 0
linked Node.Variable xs ys = 0
linked Node.Constant xs ys = 0
linked Node.Ref xs ys = 0
linked Node.Identifier xs ys = 0
linked Node.String xs ys = 0
linked Node.Number xs ys = 0
linked Node.Boolean xs ys = 0
linked Node.Nil xs ys = 0
linked Node.FunctionCall xs ys = length ys
linked Node.PropertyAccess xs ys = 0
linked Node.Map xs ys = length xs
linked Node.Function xs ys = length (tail xs)
linked Node.Lambda xs ys = length xs
linked Node.Block xs ys = listed xs
linked Node.If xs ys = 0
linked Node.WhileLoop xs ys = 0
linked Node.Return xs ys = 0
linked Node.Break xs ys = 0
linked Node.Continue xs ys = 0
linked Node.Import xs ys = length xs + length ys

abbrev keeps : Tally → List Bool → Tally
keeps t xs = record { nodes = t.nodes; links = t.links; first = xs; rest = [] }

-- one row more, and so many link rows
abbrev pub row_more : Tally → (links : ℕ) → Tally
row_more t l = record { nodes = suc t.nodes; links = t.links + l; first = true ∷ []; rest = [] }

abbrev entry_flags : List Bool → List Bool
entry_flags [] = []
entry_flags (x ∷ xs) = false ∷ []

unfoldable pub counted : Label → Tally → Tally
counted (Label.Row n) t = row_more t (linked n t.first t.rest)
counted Label.Script t = row_more t (length t.first)
counted Label.Ended t = keeps t (false ∷ [])
counted Label.Item t = keeps t (t.first ++ t.rest)
counted Label.Entry t = keeps t (entry_flags t.first)
counted Label.Name t = keeps t (false ∷ [])

abbrev pub together : Tally → Tally → Tally
together t u = record { nodes = t.nodes + u.nodes; links = t.links + u.links; first = t.first ++ t.rest; rest = u.first ++ u.rest }

unfoldable pub tally : Tree Label → Tally
tally none = record { nodes = 0; links = 0; first = []; rest = [] }
tally (more t u) = together (tally t) (tally u)
tally (deeper t) = tally t
tally (made f a b t) = counted f (tally t)

abbrev flags : List Handle → List Bool
flags hs = map is_tail hs

flags_both : (gs hs : List Handle) → flags (gs ++ hs) ≡ flags gs ++ flags hs
flags_both [] hs = refl
flags_both (g ∷ gs) hs = ap (λ x. is_tail g ∷ x) (flags_both gs hs)

flags_length : (hs : List Handle) → length (flags hs) ≡ length hs
flags_length [] = refl
flags_length (h ∷ hs) = omega (arith, flags_length hs)

flags_tail : (hs : List Handle) → length (tail (flags hs)) ≡ length (tail hs)
flags_tail [] = refl
flags_tail (h ∷ hs) = flags_length hs

flags_listed : (hs : List Handle) → listed (flags hs) ≡ length (block_list hs)
unfolding block_list
flags_listed [] = refl
flags_listed (h ∷ []) = either (is_tail h)
  where
    either : (b : Bool) → cond b 0 1 ≡ length (cond b [] (h ∷ []))
    either true = refl
    either false = refl
flags_listed (h ∷ g ∷ hs) = omega (arith, flags_listed (g ∷ hs))

flags_entry : (xs ys : List Handle) → flags (entry_of xs ys) ≡ entry_flags (flags xs)
flags_entry [] ys = refl
flags_entry (x ∷ xs) ys = refl

-- from w on, r has written and made so much
pub record Writes (t : Tally) (w : Rows) (r : Walked) : Type 0 where
  pub nodes : length r.rows.nodes ≡ length w.nodes + node_width * t.nodes
  pub links : length r.rows.links ≡ length w.links + link_width * t.links
  pub first : flags r.first ≡ t.first
  pub rest : flags r.rest ≡ t.rest

module _ (ts : List ℕ) (σ : ℕ → ℕ) where
  as_linked : (n : Node) (a b : ℕ) (xs ys : List Handle) (x y : Handle) → lists (fields (rule ts σ n a b xs ys x y)) ≡ linked n (flags xs) (flags ys)
  unfolding rule lists
  as_linked Node.Binary a b xs ys x y = refl
  as_linked Node.LogicalAnd a b xs ys x y = refl
  as_linked Node.LogicalOr a b xs ys x y = refl
  as_linked (Node.LogicalNot Edition.first) a b xs ys x y = refl
  as_linked (Node.LogicalNot Edition.second) a b xs ys x y = refl
  as_linked Node.Unary a b xs ys x y = refl
  as_linked Node.Assign a b xs ys x y = refl
  as_linked Node.Variable a b xs ys x y = refl
  as_linked Node.Constant a b xs ys x y = refl
  as_linked Node.Ref a b xs ys x y = refl
  as_linked Node.Identifier a b xs ys x y = refl
  as_linked Node.String a b xs ys x y = refl
  as_linked Node.Number a b xs ys x y = refl
  as_linked Node.Boolean a b xs ys x y = refl
  as_linked Node.Nil a b xs ys x y = refl
  as_linked Node.FunctionCall a b xs ys x y = omega (arith, flags_length ys)
  as_linked Node.PropertyAccess a b xs ys x y = refl
  as_linked Node.Map a b xs ys x y = omega (arith, flags_length xs)
  as_linked Node.Function a b xs ys x y = omega (arith, flags_tail xs)
  as_linked Node.Lambda a b xs ys x y = omega (arith, flags_length xs)
  as_linked Node.Block a b xs ys x y = omega (arith, flags_listed xs)
  as_linked Node.If a b xs ys x y = refl
  as_linked Node.WhileLoop a b xs ys x y = refl
  as_linked Node.Return a b xs ys x y = refl
  as_linked Node.Break a b xs ys x y = refl
  as_linked Node.Continue a b xs ys x y = refl
  as_linked Node.Import a b xs ys x y = omega (arith, flags_length xs, flags_length ys)

  put_writes : {t : Tally} {w : Rows} {r : Walked} (k : ℕ) (p : Row) (l : ℕ) → lists (fields p) ≡ l → Writes t w r → Writes (row_more t l) w (put k p r.rows)
  unfolding put
  put_writes {r = r} k (writes s e fs) l h g = let f = put_filled k (writes s e fs) r.rows in record { nodes = omega arith; links = omega arith; first = refl; rest = refl }

  make_writes : {t : Tally} {w : Rows} {r : Walked} (f : Label) (a b : ℕ) → Writes t w r → Writes (counted f t) w (make ts σ f a b r.rows r.first r.rest)
  unfolding make counted lists
  make_writes {r = r} (Label.Row n) a b g = put_writes _ _ _ (rw (← g.first, ← g.rest) (as_linked n a b r.first r.rest _ _)) g
  make_writes {r = r} Label.Script a b g = put_writes _ (root r.first) _ (rw (← g.first) (omega (arith, flags_length r.first))) g
  make_writes Label.Ended a b g = record { nodes = g.nodes; links = g.links; first = refl; rest = refl }
  make_writes {r = r} Label.Item a b g = record { nodes = g.nodes; links = g.links; first = rw (← g.first, ← g.rest) (flags_both r.first r.rest); rest = refl }
  make_writes {r = r} Label.Entry a b g = record { nodes = g.nodes; links = g.links; first = rw (← g.first) (flags_entry r.first r.rest); rest = refl }
  make_writes Label.Name a b g = record { nodes = g.nodes; links = g.links; first = refl; rest = refl }

  pub tree_writes : (t : Tree Label) (w : Rows) → Writes (tally t) w (walk ts σ t w)
  unfolding walk tally
  tree_writes none w = record { nodes = omega arith; links = omega arith; first = refl; rest = refl }
  tree_writes (more t u) w =
      let r = walk ts σ t w in
      let s = walk ts σ u r.rows in
      let g = tree_writes t w in
      let h = tree_writes u r.rows in
      record { nodes = omega arith; links = omega arith; first = rw (← g.first, ← g.rest) (flags_both r.first r.rest); rest = rw (← h.first, ← h.rest) (flags_both s.first s.rest) }
  tree_writes (deeper t) w = tree_writes t w
  tree_writes (made f a b t) w = make_writes f a b (tree_writes t w)
