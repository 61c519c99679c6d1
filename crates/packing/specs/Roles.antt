-- What each of a node row's ten numbers is, by its kind: the slots of Layout.antt laid out number by number, so that one loop over the ten serves every kind. A row's
-- parent is a row too.
use Rattle.std.specs.Prelude.{ℕ, suc, zero, ◌+◌, ◌-◌, ◌*◌, ◌≤◌, cond, List, [], ◌∷◌, ◌++◌, eqb, leb, length, get_or, take, drop, replicate}
use Rattle.grammar.specs.Edition.{Edition}
use Rattle.grammar.specs.Layout.{Slot, below, child, option, symbol, name, nodes, names, entries, layouts}
use Rattle.grammar.specs.Room.{node_width, link_width}
use Rattle.grammar.specs.Rows.{Rows}
use Rattle.parts.specs.Moved.{Move, moved_node}
use Rattle.parts.specs.Spoken.{Word, said, Part, word, row, inside_from, inside_upto}

abbrev pub rows : (nodes links : List ℕ) → Rows
rows ns ls = record { nodes = ns; links = ls }

-- 0: a number that stays. 1: a row, or absent. 2: a string's symbol. 3: a name's symbol, and its place in the two after it. 4, 5, 6: the first link row of a list of rows, of
-- names, of keys with values, and its count in the one after it
abbrev pub roles_of : List Slot → List ℕ
roles_of [] = []
roles_of (below n ∷ ss) = 0 ∷ roles_of ss
roles_of (child ∷ ss) = 1 ∷ roles_of ss
roles_of (option ∷ ss) = 1 ∷ roles_of ss
roles_of (symbol ∷ ss) = 2 ∷ roles_of ss
roles_of (name ∷ ss) = 3 ∷ 0 ∷ 0 ∷ roles_of ss
roles_of (nodes ∷ ss) = 4 ∷ 0 ∷ roles_of ss
roles_of (names ∷ ss) = 5 ∷ 0 ∷ roles_of ss
roles_of (entries ∷ ss) = 6 ∷ 0 ∷ roles_of ss

-- kind and span, six numbers by the slots, and the parent
abbrev pub line : List Slot → List ℕ
line ss = 0 ∷ 0 ∷ 0 ∷ take 6 (roles_of ss ++ replicate 6 0) ++ (1 ∷ [])

abbrev pub lines : List (List Slot) → List ℕ
lines [] = []
lines (ss ∷ sss) = line ss ++ lines sss

-- of each kind, from 1 on; it is the same in both editions
unfoldable pub table : List ℕ
table = lines (drop 1 (layouts Edition.second))

unfoldable pub role : (kind j : ℕ) → ℕ
role k j = get_or table (node_width * (k - 1) + j) 0

-- the ten roles of a kind as one number: an octal digit for each, the first the lowest
unfoldable pub digits : (kind j count : ℕ) → ℕ
digits k j zero = 0
digits k j (suc n) = role k j + 8 * digits k (suc j) n

unfoldable pub all_roles : (kind : ℕ) → ℕ
all_roles k = digits k 0 node_width

-- number j of row i of node rows, and its role
abbrev pub at : (nodes : List ℕ) (row j : ℕ) → ℕ
at ns i j = get_or ns (node_width * i + j) 0

abbrev pub role_at : (nodes : List ℕ) (row j : ℕ) → ℕ
role_at ns i j = role (at ns i 0) j

-- number j of link k
abbrev pub linked : (links : List ℕ) (k j : ℕ) → ℕ
linked ls k j = get_or ls (link_width * k + j) 0

abbrev pub link_word : (links : List ℕ) (k : ℕ) → Word
link_word ls k = said (linked ls k 0) (linked ls k 1) (linked ls k 2)

-- what the link rows of a list hold, one after another
unfoldable pub link_parts : (role : ℕ) (links : List ℕ) (k : ℕ) → List Part
link_parts r ls k = cond (eqb r 5) (word (link_word ls k) ∷ []) (row (linked ls k 0) ∷ cond (eqb r 6) (row (linked ls k 1) ∷ []) [])

unfoldable pub list_parts : (role : ℕ) (links : List ℕ) (from count : ℕ) → List Part
list_parts r ls from zero = []
list_parts r ls from (suc n) = link_parts r ls from ++ list_parts r ls (suc from) n

-- and how they move: the first n from one on
unfoldable pub link_moved : Move → (role : ℕ) (links : List ℕ) (k : ℕ) → List ℕ
link_moved m r ls k = cond (eqb r 5) (m.symbol (linked ls k 0)) (moved_node m (linked ls k 0)) ∷ cond (eqb r 6) (moved_node m (linked ls k 1)) (linked ls k 1) ∷ linked ls k 2 ∷ []

unfoldable pub list_moved : Move → (role : ℕ) (links : List ℕ) (from count : ℕ) → List ℕ
list_moved m r ls from zero = []
list_moved m r ls from (suc n) = list_moved m r ls from n ++ link_moved m r ls (from + n)

-- the words that stand in a row: a name at number j, a string
abbrev pub name_at : (nodes : List ℕ) (row j : ℕ) → Word
name_at ns i j = said (at ns i j) (at ns i (j + 1)) (at ns i (j + 2))

abbrev pub string_at : (nodes : List ℕ) (row j : ℕ) → Word
string_at ns i j = said (at ns i j) (inside_from (at ns i 1)) (inside_upto (at ns i 2))

-- what number j of row i holds, by its role
unfoldable pub number_parts : (nodes links : List ℕ) (row j role : ℕ) → List Part
number_parts ns ls i j r = cond (eqb r 1) (row (at ns i j) ∷ []) (cond (eqb r 2) (word (string_at ns i j) ∷ []) (cond (eqb r 3) (word (name_at ns i j) ∷ []) (cond (leb 4 r) (list_parts r ls (at ns i j) (at ns i (j + 1))) [])))

-- and n numbers from j on
unfoldable pub numbers_parts : (nodes links : List ℕ) (row j n : ℕ) → List Part
numbers_parts ns ls i j zero = []
numbers_parts ns ls i j (suc n) = number_parts ns ls i j (role_at ns i j) ++ numbers_parts ns ls i (suc j) n

-- a number moved, and the first n numbers of a row
unfoldable pub number_moved : Move → (role x : ℕ) → ℕ
number_moved m r x = cond (eqb r 0) x (cond (eqb r 1) (moved_node m x) (cond (leb 4 r) (m.first x) (m.symbol x)))

unfoldable pub numbers_moved : Move → (nodes : List ℕ) (row n : ℕ) → List ℕ
numbers_moved m ns i zero = []
numbers_moved m ns i (suc j) = numbers_moved m ns i j ++ (number_moved m (role_at ns i j) (at ns i j) ∷ [])

-- the links of the lists among the first n numbers of a row, moved, and how many they are
unfoldable pub lists_moved : Move → (nodes links : List ℕ) (row n : ℕ) → List ℕ
lists_moved m ns ls i zero = []
lists_moved m ns ls i (suc j) = lists_moved m ns ls i j ++ cond (leb 4 (role_at ns i j)) (list_moved m (role_at ns i j) ls (at ns i j) (at ns i (j + 1))) []

unfoldable pub lists_size : (nodes : List ℕ) (row n : ℕ) → ℕ
lists_size ns i zero = 0
lists_size ns i (suc j) = lists_size ns i j + cond (leb 4 (role_at ns i j)) (at ns i (j + 1)) 0

-- a row is there, of a known kind
pub record StandsRow (nodes : List ℕ) (row : ℕ) : Type 0 where
  pub room : node_width * row + node_width ≤ length nodes
  pub least : 1 ≤ at nodes row 0
  pub most : at nodes row 0 ≤ 26
