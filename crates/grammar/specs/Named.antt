-- Samples of finished rows: what each row names, its parent, and rows that are not those of one tree or have other parents. All numbers are written out, as in Samples.antt.
use Rattle.std.specs.Prelude.{ℕ, zero, suc, List, [], ◌∷◌, ◌++◌, ◌≡◌, length}
use Rattle.grammar.specs.Edition.{Edition}
use Rattle.grammar.specs.Kind.{False, True}
use Rattle.grammar.specs.Layout.{below, child, option, layout}
use Rattle.grammar.specs.Naming.{height, named_by, OneTree}
use Rattle.grammar.specs.Operator.{binary_operators, unary_operators}
use Rattle.grammar.specs.Parent.{parented, Parents}
use Rattle.grammar.specs.Rows.{Rows}
use Rattle.grammar.specs.Samples.{row}

-- what each of the n rows from row i on names
abbrev pub names_from : Rows → (i n : ℕ) → List (List ℕ)
names_from w i zero = []
names_from w i (suc n) = named_by w i ∷ names_from w (suc i) n

-- import a.b: c; fun f(x, y) { return -x; } let y = 1 + f(2, 3).b; const z = #{a: "s", b}; ref r = |q| not q and true or nil; while a { break; continue } if a {} else { y = z }
abbrev pub all_nodes : List ℕ
all_nodes =
    row 26 0 14 0 2 2 1 0 0 39 ++ row 10 37 38 4 37 38 0 0 0 2 ++ row 5 36 38 0 1 0 0 0 0 3 ++ row 23 29 38 2 0 0 0 0 0 4 ++ row 20 27 41 3 1 4294967295 0 0 0 5 ++
    row 18 15 41 3 19 20 4 2 4 39 ++ row 12 50 51 0 0 0 0 0 0 12 ++ row 10 54 55 3 54 55 0 0 0 10 ++ row 12 56 57 0 0 0 0 0 0 10 ++ row 12 59 60 0 0 0 0 0 0 10 ++
    row 15 55 61 7 6 2 0 0 0 11 ++ row 16 61 63 10 1 62 63 0 0 12 ++ row 1 50 63 0 6 11 0 0 0 13 ++ row 7 42 63 5 46 47 12 0 0 39 ++ row 10 77 78 0 77 78 0 0 0 17 ++
    row 11 80 83 7 0 0 0 0 0 17 ++ row 10 85 86 1 85 86 0 0 0 17 ++ row 17 75 87 8 2 0 0 0 0 18 ++ row 8 65 87 6 71 72 17 0 0 39 ++ row 10 105 106 9 105 106 0 0 0 21 ++
    row 13 111 115 1 0 0 0 0 0 21 ++ row 2 105 115 19 20 0 0 0 0 23 ++ row 14 119 122 0 0 0 0 0 0 23 ++ row 3 105 122 21 22 0 0 0 0 24 ++ row 4 101 104 23 0 0 0 0 0 25 ++
    row 19 97 104 10 1 24 0 0 0 26 ++ row 9 89 104 8 93 94 25 0 0 39 ++ row 10 130 131 0 130 131 0 0 0 31 ++ row 24 134 139 0 0 0 0 0 0 30 ++ row 25 141 149 0 0 0 0 0 0 30 ++
    row 20 132 151 11 1 29 0 0 0 31 ++ row 22 124 151 27 30 0 0 0 0 39 ++ row 10 155 156 0 155 156 0 0 0 38 ++ row 20 157 159 12 0 4294967295 0 0 0 38 ++ row 10 167 168 5 167 168 0 0 0 36 ++
    row 10 171 172 6 171 172 0 0 0 36 ++ row 6 167 172 34 35 0 0 0 0 37 ++ row 20 165 174 12 0 36 0 0 0 38 ++ row 21 152 174 32 33 37 0 0 0 39 ++ row 20 0 0 12 7 4294967295 0 0 0 4294967295

abbrev pub all_links : List ℕ
all_links =
    (0 ∷ 7 ∷ 8 ∷ 1 ∷ 9 ∷ 10 ∷ 2 ∷ 12 ∷ 13 ∷ 3 ∷ 0 ∷ 0 ∷ 4 ∷ 21 ∷ 22 ∷ 5 ∷ 24 ∷ 25 ∷ 8 ∷ 0 ∷ 0 ∷ 9 ∷ 0 ∷ 0 ∷ 14 ∷ 15 ∷ 0 ∷ 16 ∷ 4294967295 ∷ 0 ∷ 9 ∷ 98 ∷ 99 ∷ 28 ∷ 0 ∷ 0 ∷ 0 ∷ 0 ∷ 0 ∷ 5 ∷ 0 ∷ 0 ∷ 13 ∷ 0 ∷ 0 ∷ 18 ∷ 0 ∷ 0 ∷ 26 ∷ 0 ∷ 0 ∷ 31 ∷ 0 ∷ 0 ∷ 38 ∷ 0 ∷ 0 ∷ [])

-- every kind of row
abbrev pub all_kinds : Rows
all_kinds = record { nodes = all_nodes; links = all_links }

-- what they name, row by row
abbrev pub all_names : List (List ℕ)
all_names =
    [] ∷ [] ∷ (1 ∷ []) ∷ (2 ∷ []) ∷ (3 ∷ 4294967295 ∷ []) ∷ (4 ∷ []) ∷ [] ∷ [] ∷
    [] ∷ [] ∷ (7 ∷ 8 ∷ 9 ∷ []) ∷ (10 ∷ []) ∷ (6 ∷ 11 ∷ []) ∷ (12 ∷ []) ∷ [] ∷ [] ∷
    [] ∷ (14 ∷ 15 ∷ 16 ∷ 4294967295 ∷ []) ∷ (17 ∷ []) ∷ [] ∷ [] ∷ (19 ∷ 20 ∷ []) ∷ [] ∷ (21 ∷ 22 ∷ []) ∷
    (23 ∷ []) ∷ (24 ∷ []) ∷ (25 ∷ []) ∷ [] ∷ [] ∷ [] ∷ (28 ∷ 29 ∷ []) ∷ (27 ∷ 30 ∷ []) ∷
    [] ∷ (4294967295 ∷ []) ∷ [] ∷ [] ∷ (34 ∷ 35 ∷ []) ∷ (36 ∷ []) ∷ (32 ∷ 33 ∷ 37 ∷ []) ∷ (0 ∷ 5 ∷ 13 ∷ 18 ∷ 26 ∷ 31 ∷ 38 ∷ 4294967295 ∷ []) ∷
    []

abbrev pub rows : (nodes links : List ℕ) → Rows
rows ns ls = record { nodes = ns; links = ls }

pub record NamingRight : Type 0 where
  pub names : names_from all_kinds 0 (height all_kinds) ≡ all_names
  -- a number that is no row is below the count of what it may say: operators, signs, Booleans; kind 0 and kinds over 26 have no numbers
  pub operators : (e : Edition) → layout e 1 ≡ below (length binary_operators) ∷ child ∷ child ∷ []
  pub signs : (e : Edition) → layout e 5 ≡ below (length unary_operators) ∷ child ∷ []
  pub booleans : (e : Edition) → layout e 13 ≡ below (length (False ∷ True ∷ [])) ∷ []
  pub no_kind : (e : Edition) → (layout e 0 ≡ []) × (layout e 27 ≡ [])
  -- a Return's child is absent in edition 2 alone
  pub returns : (layout Edition.first 23 ≡ child ∷ []) × (layout Edition.second 23 ≡ option ∷ [])
  -- what is not one tree: no row; a row that is not named; one that is named twice; one that names itself; one that an earlier row names; names that fall
  pub no_row : OneTree (rows [] []) → ⊥
  pub unnamed : OneTree (rows (row 10 0 1 0 0 1 0 0 0 4294967295 ++ row 20 0 0 0 0 4294967295 0 0 0 4294967295) []) → ⊥
  pub twice : OneTree (rows (row 10 0 1 0 0 1 0 0 0 1 ++ row 20 0 0 0 2 4294967295 0 0 0 4294967295) (0 ∷ 0 ∷ 0 ∷ 0 ∷ 0 ∷ 0 ∷ [])) → ⊥
  pub itself : OneTree (rows (row 4 0 3 0 0 0 0 0 0 4294967295 ++ row 20 0 0 0 0 4294967295 0 0 0 4294967295) []) → ⊥
  pub earlier : OneTree (rows (row 4 0 3 1 0 0 0 0 0 2 ++ row 10 4 5 0 4 5 0 0 0 4294967295 ++ row 20 0 0 0 1 4294967295 0 0 0 4294967295) (0 ∷ 0 ∷ 0 ∷ [])) → ⊥
  pub falling : OneTree (rows (row 10 0 1 0 0 1 0 0 0 2 ++ row 10 4 5 1 4 5 0 0 0 2 ++ row 6 0 5 1 0 0 0 0 0 3 ++ row 20 0 0 0 1 4294967295 0 0 0 4294967295) (2 ∷ 0 ∷ 0 ∷ [])) → ⊥
  -- each row's parent is the tenth of its numbers above
  pub parents : parented all_kinds ≡ all_kinds
  -- what are no parents: 0 at the root; 0 where it was left so; a row further out
  pub root_zero : Parents (rows (row 20 0 0 0 0 4294967295 0 0 0 0) []) → ⊥
  pub left_zero : Parents (rows (row 10 0 1 0 0 1 0 0 0 0 ++ row 20 0 0 0 1 4294967295 0 0 0 4294967295) (0 ∷ 0 ∷ 0 ∷ [])) → ⊥
  pub further : Parents (rows (row 10 4 5 0 4 5 0 0 0 2 ++ row 4 0 3 0 0 0 0 0 0 2 ++ row 20 0 0 0 1 4294967295 0 0 0 4294967295) (1 ∷ 0 ∷ 0 ∷ [])) → ⊥
