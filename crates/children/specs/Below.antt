-- What stands below a row: a child, the children that a list's link rows hold, and two more children, each of the three a row or absent. A row's layout (grammar,
-- Layout.antt) says which of its numbers they are. For a row and links that stand in their rooms the children are the rows that the row names: `all_named`, in proofs.
use Rattle.std.specs.Prelude.{ℕ, zero, suc, ◌+◌, ◌*◌, ◌≤◌, ◌<◌, cond, List, [], ◌∷◌, ◌++◌, ◌≡◌, eqb, length, get_or, drop}
use Rattle.grammar.specs.Edition.{Edition}
use Rattle.grammar.specs.Handle.{absent}
use Rattle.grammar.specs.Layout.{Slot, below, child, option, symbol, name, nodes, names, entries, layout}
use Rattle.grammar.specs.Room.{node_width, link_width}
use Rattle.children.specs.declared.Children.{Children}

-- number i of a room, or absent where there is none
pub record Number (room : List ℕ) (i r : ℕ) : Type 0 where
  pub there : i < length room → r ≡ get_or room i 0
  pub past : length room ≤ i → r ≡ absent

-- no list, and these children
abbrev pub three : (first second third : ℕ) → Children
three a b c = record { first = a; from = 0; count = 0; each = 0; second = b; third = c }

abbrev pub nothing : Children
nothing = three absent absent absent

-- one child more, before those of r: before r's list it is the first; where r has none, r's are the second and the third
unfoldable pub one_more : ℕ → Children → Children
one_more x r = cond (eqb r.each 0) (three x r.first r.second) (record { first = x; from = r.from; count = r.count; each = r.each; second = r.second; third = r.third })

-- a list before the children of r: they are the second and the third
unfoldable pub listing : (each from count : ℕ) → Children → Children
listing each from count r = record { first = absent; from = from; count = count; each = each; second = r.first; third = r.second }

-- what stands below a row of these slots whose numbers are xs: names, symbols and numbers of another sort are passed over
unfoldable pub placed : List Slot → (xs : List ℕ) → Children
placed [] xs = nothing
placed (below n ∷ ss) xs = placed ss (drop 1 xs)
placed (child ∷ ss) xs = one_more (get_or xs 0 0) (placed ss (drop 1 xs))
placed (option ∷ ss) xs = one_more (get_or xs 0 0) (placed ss (drop 1 xs))
placed (symbol ∷ ss) xs = placed ss (drop 1 xs)
placed (name ∷ ss) xs = placed ss (drop 3 xs)
placed (nodes ∷ ss) xs = listing 1 (get_or xs 0 0) (get_or xs 1 0) (placed ss (drop 2 xs))
placed (names ∷ ss) xs = placed ss (drop 2 xs)
placed (entries ∷ ss) xs = listing 2 (get_or xs 0 0) (get_or xs 1 0) (placed ss (drop 2 xs))

-- a row that stands wholly in the room has the children of its kind's slots, read off what follows its kind and span; another has none. By the layout of either edition
-- they are the same: a child and one that may be absent are read alike
pub record Below (room : List ℕ) (row : ℕ) (r : Children) : Type 0 where
  pub inside : node_width * row + node_width ≤ length room → r ≡ placed (layout Edition.second (get_or room (node_width * row) 0)) (drop (node_width * row + 3) room)
  pub outside : length room < node_width * row + node_width → r ≡ nothing

-- the children that a link row holds, and that so many do: none, one or two each. A number that is not in the room is absent
abbrev pub of_link : (each one two : ℕ) → List ℕ
of_link zero x y = []
of_link (suc zero) x y = x ∷ []
of_link (suc (suc n)) x y = x ∷ y ∷ []

unfoldable pub held : (each count : ℕ) (links : List ℕ) → List ℕ
held each zero ls = []
held each (suc n) ls = of_link each (get_or ls 0 absent) (get_or ls 1 absent) ++ held each n (drop link_width ls)

-- and how many they are
unfoldable pub many_of : (each count : ℕ) → ℕ
many_of zero n = 0
many_of (suc zero) n = n
many_of (suc (suc k)) n = 2 * n

abbrev pub many : Children → ℕ
many b = many_of b.each b.count

-- what `linked` says: so many, and no more than two for each of 4294967295 links
abbrev pub Linked : Children → ℕ → Type 0
Linked b r = (r ≡ many b) × (r ≤ 8589934590)

-- at each place a child or absent
abbrev pub children : (links : List ℕ) → Children → List ℕ
children ls b = b.first ∷ held b.each b.count (drop (link_width * b.from) ls) ++ b.second ∷ b.third ∷ []

-- what `places` says: those of the links and three more
abbrev pub Places : Children → ℕ → Type 0
Places b r = (r ≡ many b + 3) × (r ≤ 8589934593)

-- the child at a place, or absent past the last
pub record Child (links : List ℕ) (b : Children) (place r : ℕ) : Type 0 where
  pub one : r ≡ get_or (children links b) place absent
