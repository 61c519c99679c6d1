-- Rows without some of the root's statements. Document 02, L12: 'Given which of the root's statements to keep, pack the rows to the front'; 'Rows of a script read
-- with built-ins keep the built-in symbols'. All is said of the rows alone, whoever wrote them. A row goes with the statement that it is below.
use Rattle.std.specs.Prelude.{ℕ, zero, suc, ◌+◌, ◌-◌, ◌*◌, Bool, false, cond, not, List, [], ◌∷◌, ◌++◌, eqb, length, get_or, take}
use Rattle.grammar.specs.Handle.{absent}
use Rattle.grammar.specs.Label.{Node, number_of}
use Rattle.grammar.specs.Naming.{height}
use Rattle.grammar.specs.Operator.{place}
use Rattle.grammar.specs.Parent.{own, tenth}
use Rattle.grammar.specs.Pattern.{among}
use Rattle.grammar.specs.Room.{link_width, symbol_width}
use Rattle.grammar.specs.Rows.{Rows}
use Rattle.parts.specs.Moved.{Move, moved_row, moved_links, row_links}
use Rattle.parts.specs.Spoken.{Word, spoken, heard, first_places}

-- the root is the last row; where its list begins, how many statements are in it, and the row of each
abbrev pub root_row : Rows → ℕ
root_row w = height w - 1

abbrev pub root_first : Rows → ℕ
root_first w = get_or (own w (root_row w)) 3 0

abbrev pub statements : Rows → ℕ
statements w = get_or (own w (root_row w)) 4 0

abbrev pub statement : Rows → (j : ℕ) → ℕ
statement w j = get_or w.links (link_width * (root_first w + j)) 0

-- a choice has a number for each statement: 0 where it is dropped
abbrev pub keeps : (choice : List ℕ) → ℕ → Bool
keeps choice j = not (eqb (get_or choice j 0) 0)

module _ (c : ℕ → Bool) (w : Rows) where
  -- the first n statements that are kept
  unfoldable pub kept_upto : (n : ℕ) → List ℕ
  kept_upto zero = []
  kept_upto (suc j) = kept_upto j ++ cond (c j) (statement w j ∷ []) []

  abbrev pub kept : List ℕ
  kept = kept_upto (statements w)

  -- whether row i stays, which is not the root: as the statement does that it is, or as its parent does. So many steps up are enough as there are rows
  unfoldable pub stays_in : (steps i : ℕ) → Bool
  stays_in zero i = false
  stays_in (suc d) i = cond (eqb (tenth w i) (root_row w)) (among kept i) (stays_in d (tenth w i))

  unfoldable pub stays : ℕ → Bool
  stays i = stays_in (height w) i

  -- how many of the first n rows stay, and how many link rows their lists have
  unfoldable pub rows_kept : (n : ℕ) → ℕ
  rows_kept zero = 0
  rows_kept (suc i) = rows_kept i + cond (stays i) 1 0

  unfoldable pub links_kept : (n : ℕ) → ℕ
  links_kept zero = 0
  links_kept (suc i) = links_kept i + cond (stays i) (row_links w i) 0

-- the link rows that the lists of the first n rows have
unfoldable pub links_before : Rows → (n : ℕ) → ℕ
links_before w zero = 0
links_before w (suc i) = links_before w i + row_links w i

module _ (c : ℕ → Bool) (renumbered : ℕ → ℕ) (w : Rows) where
  -- row i's numbers: each row goes to where so many stay before it, and so do its lists' links; spans are 'as in the old text'
  abbrev pub packing : (row : ℕ) → Move
  packing i = record { node = rows_kept c w; first = λ l. l - links_before w i + links_kept c w i; span = λ x. x; symbol = renumbered }

  -- those of the first n rows that stay, and the links of their lists
  unfoldable pub packed_nodes : (n : ℕ) → List ℕ
  packed_nodes zero = []
  packed_nodes (suc i) = packed_nodes i ++ cond (stays c w i) (moved_row (packing i) w i) []

  unfoldable pub packed_links : (n : ℕ) → List ℕ
  packed_links zero = []
  packed_links (suc i) = packed_links i ++ cond (stays c w i) (moved_links (packing i) w i) []

  -- the root's row and list
  unfoldable pub root_links : (statements : List ℕ) → List ℕ
  root_links [] = []
  root_links (i ∷ is) = rows_kept c w i ∷ 0 ∷ 0 ∷ root_links is

  abbrev pub root_line : List ℕ
  root_line = number_of Node.Block ∷ get_or (own w (root_row w)) 1 0 ∷ get_or (own w (root_row w)) 2 0 ∷ links_kept c w (root_row w) ∷ length (kept c w) ∷ absent ∷ 0 ∷ 0 ∷ 0 ∷ absent ∷ []

  unfoldable pub packed_with : Rows
  packed_with = record { nodes = packed_nodes (root_row w) ++ root_line; links = packed_links (root_row w) ++ root_links (kept c w) }

-- the words of some rows and of all below them
unfoldable pub spoken_all : Rows → (rows : List ℕ) → List Word
spoken_all w [] = []
spoken_all w (i ∷ is) = spoken w (height w) i ++ spoken_all w is

-- the symbols below n
unfoldable pub upto : (n : ℕ) → List ℕ
upto zero = []
upto (suc n) = upto n ++ (n ∷ [])

module _ (c : ℕ → Bool) (builtins : ℕ) (w : Rows) where
  -- the symbols that are left, in their new order: the built-in ones, and the others by first appearance
  unfoldable pub left : List ℕ
  left = heard (spoken_all w (kept c w)) (upto builtins)

  -- a symbol's new number
  abbrev pub renumbered : ℕ → ℕ
  renumbered x = place x left

  unfoldable pub packed : Rows
  packed = packed_with c renumbered w

  -- the symbol rows: those of built-in names as they are, and then first places
  unfoldable pub packed_symbols : (symbols : List ℕ) → List ℕ
  packed_symbols ss = take (symbol_width * builtins) ss ++ first_places (spoken_all w (kept c w)) (upto builtins)
