-- Rows and links packed in place, as the numbers of the symbols and of the rows say: two parts of the lent room, `words` and `places`.
use Rattle.std.specs.Prelude.{ℕ, zero, suc, ◌+◌, ◌-◌, ◌*◌, ◌≤◌, ◌<◌, Bool, false, cond, List, [], ◌∷◌, ◌++◌, ◌≡◌, eqb, length, get_or, take, drop}
use Rattle.grammar.specs.Handle.{absent}
use Rattle.grammar.specs.Label.{Node, number_of}
use Rattle.grammar.specs.Naming.{height}
use Rattle.grammar.specs.Operator.{place}
use Rattle.grammar.specs.Room.{node_width, link_width}
use Rattle.grammar.specs.Rows.{Rows}
use Rattle.ast.specs.Written.{Written}
use Rattle.parts.specs.Moved.{Move}
use Rattle.parts.specs.Packed.{root_row, root_first, statements, keeps, kept, rows_kept, links_kept, links_before, packed_nodes, packed_links, packed_with}
use Rattle.packing.specs.Good.{Good}
use Rattle.packing.specs.Kept.{Placed}
use Rattle.packing.specs.Known.{numbered}
use Rattle.packing.specs.Roles.{at, role_at, linked, lists_size, StandsRow}

-- a symbol's new number: those that are not known come after all that are
abbrev pub known_as : (words : List ℕ) (count x : ℕ) → ℕ
known_as ws count x = cond (eqb (get_or ws x 0) 0) count (get_or ws x 0 - 1)

-- the symbols' numbers and the rows', how many symbols are left, and from which link a row's lists go to which
pub record Maps : Type 0 where
  pub words : List ℕ
  pub places : List ℕ
  pub symbols : ℕ
  pub from : ℕ
  pub to : ℕ

-- where rows, lists and symbols go
abbrev pub moving : Maps → Move
moving k = record { node = λ i. get_or k.places i 0; first = λ l. l - k.from + k.to; span = λ x. x; symbol = λ x. known_as k.words k.symbols x }

-- the numbers are those of a choice and of the symbols that are left
pub record Mapped (c : ℕ → Bool) (left : List ℕ) (w : Rows) (count : ℕ) (words places : List ℕ) : Type 0 where
  pub numbers : (x : ℕ) → x < length words → get_or words x 0 ≡ numbered left x
  pub many : count ≡ length left
  pub rows : Placed c w places

-- a number of this role can be moved: a row and a symbol have a number, and a list does not stand before where it comes from
pub record MovesNumber (m : Maps) (role x : ℕ) : Type 0 where
  pub known : role ≤ 6
  pub node : role ≡ 1 → eqb x absent ≡ false → x < length m.places
  pub symbol : 2 ≤ role → role ≤ 3 → x < length m.words
  pub list : 4 ≤ role → m.from ≤ x
  pub fits : 4 ≤ role → x - m.from + m.to ≤ 4294967295

-- and so can the first number of a link of a list
pub record MovesLink (m : Maps) (role x : ℕ) : Type 0 where
  pub name : role ≡ 5 → x < length m.words
  pub node : (role ≡ 5 → ⊥) → eqb x absent ≡ false → x < length m.places

-- a list's links go to a place at or before theirs
pub record MovesList (m : Maps) (role : ℕ) (links : List ℕ) (from to count : ℕ) : Type 0 where
  pub back : to ≤ from
  pub room : link_width * (from + count) ≤ length links
  pub first : (k : ℕ) → from ≤ k → k < from + count → MovesLink m role (linked links k 0)
  pub second : (k : ℕ) → from ≤ k → k < from + count → role ≡ 6 → MovesLink m 6 (linked links k 1)

-- those of each list of a row go where the ones before them end
pub record MovesLists (m : Maps) (nodes links : List ℕ) (row : ℕ) : Type 0 where
  pub stands : StandsRow nodes row
  pub each : (j : ℕ) → j < 9 → 4 ≤ role_at nodes row j → MovesList m (role_at nodes row j) links (at nodes row j) (m.to + lists_size nodes row j) (at nodes row (j + 1))

-- a row goes to its own place or before it
pub record MovesRow (m : Maps) (nodes : List ℕ) (row to : ℕ) : Type 0 where
  pub stands : StandsRow nodes row
  pub back : to ≤ row
  pub each : (j : ℕ) → j < node_width → MovesNumber m (role_at nodes row j) (at nodes row j)

-- the first n rows are packed; those from n on, and their lists' links, are as they were
pub record PackedUpto (c : ℕ → Bool) (left : List ℕ) (w : Rows) (n : ℕ) (nodes links : List ℕ) (to : ℕ) : Type 0 where
  pub nodes_are : take (node_width * rows_kept c w n) nodes ≡ packed_nodes c (λ x. place x left) w n
  pub nodes_left : drop (node_width * n) nodes ≡ drop (node_width * n) w.nodes
  pub node_room : length nodes ≡ length w.nodes
  pub links_are : take (link_width * links_kept c w n) links ≡ packed_links c (λ x. place x left) w n
  pub links_left : drop (link_width * links_before w n) links ≡ drop (link_width * links_before w n) w.links
  pub link_room : length links ≡ length w.links
  pub reached : to ≡ links_kept c w n

-- what is asked of all rows: they keep the rules, and the numbers are those of some choice
pub record Packable (w : Rows) (count root : ℕ) (words places : List ℕ) : Type 0 where
  pub good : Good (length words) w
  pub last : root ≡ root_row w
  pub room : height w ≤ length places
  pub choice : ℕ → Bool
  pub left : List ℕ
  pub mapped : Mapped choice left w count words places

-- whatever the choice was
pub record PacksRows (w : Rows) (count : ℕ) (words places nodes links : List ℕ) (to : ℕ) : Type 0 where
  pub says : {c : ℕ → Bool} {left : List ℕ} → Mapped c left w count words places → PackedUpto c left w (root_row w) nodes links to

-- the root's list, of the first n statements: those that are kept
unfoldable pub chosen : (links places choice : List ℕ) (first n : ℕ) → List ℕ
chosen ls ps choice first zero = []
chosen ls ps choice first (suc j) = chosen ls ps choice first j ++ cond (keeps choice j) (get_or ps (linked ls (first + j) 0) 0 ∷ 0 ∷ 0 ∷ []) []

unfoldable pub chosen_count : (choice : List ℕ) (n : ℕ) → ℕ
chosen_count choice zero = 0
chosen_count choice (suc j) = chosen_count choice j + cond (keeps choice j) 1 0

pub record Listable (links places choice : List ℕ) (first to : ℕ) : Type 0 where
  pub back : to ≤ first
  pub room : link_width * (first + length choice) ≤ length links
  pub rows : (j : ℕ) → j < length choice → linked links (first + j) 0 < length places

pub record Lists (links places choice : List ℕ) (first to : ℕ) (after : List ℕ) (r : ℕ) : Type 0 where
  pub end : r ≡ to + chosen_count choice (length choice)
  pub links_are : Written (link_width * to) (link_width * r) (chosen links places choice first (length choice)) links after

-- the root's row at its new place
abbrev pub root_numbers : (nodes : List ℕ) (root first count : ℕ) → List ℕ
root_numbers ns root first count = number_of Node.Block ∷ at ns root 1 ∷ at ns root 2 ∷ first ∷ count ∷ absent ∷ 0 ∷ 0 ∷ 0 ∷ absent ∷ []

-- all rows are packed: so many links
pub record PackedAll (c : ℕ → Bool) (left : List ℕ) (w : Rows) (nodes links : List ℕ) (long : ℕ) : Type 0 where
  pub nodes_are : take (node_width * suc (rows_kept c w (root_row w))) nodes ≡ (packed_with c (λ x. place x left) w).nodes
  pub node_room : length nodes ≡ length w.nodes
  pub links_are : take (link_width * long) links ≡ (packed_with c (λ x. place x left) w).links
  pub link_room : length links ≡ length w.links
  pub wide : long ≡ links_kept c w (root_row w) + length (kept c w)

-- what is asked, with a choice for each statement
pub record PackableAll (w : Rows) (count : ℕ) (choice : List ℕ) (first root : ℕ) (words places : List ℕ) : Type 0 where
  pub packable : Packable w count root words places
  pub list : first ≡ root_first w
  pub all : length choice ≡ statements w

pub record PacksAll (w : Rows) (count : ℕ) (choice words places nodes links : List ℕ) (long : ℕ) : Type 0 where
  pub says : {left : List ℕ} → Mapped (keeps choice) left w count words places → PackedAll (keeps choice) left w nodes links long
