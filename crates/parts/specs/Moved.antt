-- A row somewhere else: its numbers read by its kind's layout (Layout.antt), each moved as its slot says, and a link row as the slot says whose list it is in.
-- Document 02, L12: 'pack the rows to the front'; L13: 'with numbers and spans moved'.
use Rattle.std.specs.Prelude.{ℕ, zero, suc, ◌+◌, ◌*◌, cond, List, [], ◌∷◌, ◌++◌, eqb, get_or, drop}
use Rattle.grammar.specs.Edition.{Edition}
use Rattle.grammar.specs.Handle.{absent}
use Rattle.grammar.specs.Layout.{Slot, below, child, option, symbol, name, nodes, names, entries, layout}
use Rattle.grammar.specs.Parent.{own, tenth}
use Rattle.grammar.specs.Room.{link_width}
use Rattle.grammar.specs.Rows.{Rows}
use Rattle.foreign.specs.Check.{kind_of}

-- where a node row goes, a list's first link row, a place in the text, and a symbol
pub record Move : Type 0 where
  pub node : ℕ → ℕ
  pub first : ℕ → ℕ
  pub span : ℕ → ℕ
  pub symbol : ℕ → ℕ

-- a row, or absent
unfoldable pub moved_node : Move → ℕ → ℕ
moved_node m i = cond (eqb i absent) absent (m.node i)

-- the numbers of a row after its kind and span
unfoldable pub moved_numbers : Move → List Slot → (xs : List ℕ) → List ℕ
moved_numbers m [] xs = xs
moved_numbers m (below n ∷ ss) xs = get_or xs 0 0 ∷ moved_numbers m ss (drop 1 xs)
moved_numbers m (child ∷ ss) xs = moved_node m (get_or xs 0 0) ∷ moved_numbers m ss (drop 1 xs)
moved_numbers m (option ∷ ss) xs = moved_node m (get_or xs 0 0) ∷ moved_numbers m ss (drop 1 xs)
moved_numbers m (symbol ∷ ss) xs = m.symbol (get_or xs 0 0) ∷ moved_numbers m ss (drop 1 xs)
moved_numbers m (name ∷ ss) xs = m.symbol (get_or xs 0 0) ∷ m.span (get_or xs 1 0) ∷ m.span (get_or xs 2 0) ∷ moved_numbers m ss (drop 3 xs)
moved_numbers m (nodes ∷ ss) xs = m.first (get_or xs 0 0) ∷ get_or xs 1 0 ∷ moved_numbers m ss (drop 2 xs)
moved_numbers m (names ∷ ss) xs = m.first (get_or xs 0 0) ∷ get_or xs 1 0 ∷ moved_numbers m ss (drop 2 xs)
moved_numbers m (entries ∷ ss) xs = m.first (get_or xs 0 0) ∷ get_or xs 1 0 ∷ moved_numbers m ss (drop 2 xs)

-- so many link rows: of rows, of names, of keys with values
unfoldable pub moved_nodes : Move → (count : ℕ) (links : List ℕ) → List ℕ
moved_nodes m zero ls = []
moved_nodes m (suc n) ls = moved_node m (get_or ls 0 0) ∷ get_or ls 1 0 ∷ get_or ls 2 0 ∷ moved_nodes m n (drop link_width ls)

unfoldable pub moved_names : Move → (count : ℕ) (links : List ℕ) → List ℕ
moved_names m zero ls = []
moved_names m (suc n) ls = m.symbol (get_or ls 0 0) ∷ m.span (get_or ls 1 0) ∷ m.span (get_or ls 2 0) ∷ moved_names m n (drop link_width ls)

unfoldable pub moved_entries : Move → (count : ℕ) (links : List ℕ) → List ℕ
moved_entries m zero ls = []
moved_entries m (suc n) ls = moved_node m (get_or ls 0 0) ∷ moved_node m (get_or ls 1 0) ∷ get_or ls 2 0 ∷ moved_entries m n (drop link_width ls)

-- the link rows of a row's lists, of its numbers xs after kind and span
unfoldable pub moved_lists : Move → (links : List ℕ) → List Slot → (xs : List ℕ) → List ℕ
moved_lists m ls [] xs = []
moved_lists m ls (below n ∷ ss) xs = moved_lists m ls ss (drop 1 xs)
moved_lists m ls (child ∷ ss) xs = moved_lists m ls ss (drop 1 xs)
moved_lists m ls (option ∷ ss) xs = moved_lists m ls ss (drop 1 xs)
moved_lists m ls (symbol ∷ ss) xs = moved_lists m ls ss (drop 1 xs)
moved_lists m ls (name ∷ ss) xs = moved_lists m ls ss (drop 3 xs)
moved_lists m ls (nodes ∷ ss) xs = moved_nodes m (get_or xs 1 0) (drop (link_width * get_or xs 0 0) ls) ++ moved_lists m ls ss (drop 2 xs)
moved_lists m ls (names ∷ ss) xs = moved_names m (get_or xs 1 0) (drop (link_width * get_or xs 0 0) ls) ++ moved_lists m ls ss (drop 2 xs)
moved_lists m ls (entries ∷ ss) xs = moved_entries m (get_or xs 1 0) (drop (link_width * get_or xs 0 0) ls) ++ moved_lists m ls ss (drop 2 xs)

-- how many they are
unfoldable pub list_links : List Slot → (xs : List ℕ) → ℕ
list_links [] xs = 0
list_links (below n ∷ ss) xs = list_links ss (drop 1 xs)
list_links (child ∷ ss) xs = list_links ss (drop 1 xs)
list_links (option ∷ ss) xs = list_links ss (drop 1 xs)
list_links (symbol ∷ ss) xs = list_links ss (drop 1 xs)
list_links (name ∷ ss) xs = list_links ss (drop 3 xs)
list_links (nodes ∷ ss) xs = get_or xs 1 0 + list_links ss (drop 2 xs)
list_links (names ∷ ss) xs = get_or xs 1 0 + list_links ss (drop 2 xs)
list_links (entries ∷ ss) xs = get_or xs 1 0 + list_links ss (drop 2 xs)

-- the slots of row i. Where editions differ, in what may be absent, a row moves alike
abbrev pub slots_of : Rows → (row : ℕ) → List Slot
slots_of w i = layout Edition.second (kind_of w i)

-- row i, all ten numbers; the link rows of its lists, and how many
unfoldable pub moved_row : Move → Rows → (row : ℕ) → List ℕ
moved_row m w i = kind_of w i ∷ m.span (get_or (own w i) 1 0) ∷ m.span (get_or (own w i) 2 0) ∷ moved_numbers m (slots_of w i) (drop 3 (own w i)) ++ (moved_node m (tenth w i) ∷ [])

unfoldable pub moved_links : Move → Rows → (row : ℕ) → List ℕ
moved_links m w i = moved_lists m w.links (slots_of w i) (drop 3 (own w i))

unfoldable pub row_links : Rows → (row : ℕ) → ℕ
row_links w i = list_links (slots_of w i) (drop 3 (own w i))
