-- A row by its slots, as the table has them: three at most, and then numbers that are unused. Document 01, Rows; the slots of each kind are Layout.antt's.
use Rattle.std.specs.Prelude.{ℕ, zero, suc, ◌+◌, ◌-◌, ◌*◌, ◌≤◌, cond, List, [], ◌∷◌, ◌++◌, ◌≡◌, eqb, ltb, length, get_or, drop}
use Rattle.grammar.specs.Edition.{Edition}
use Rattle.grammar.specs.Layout.{Slot as Form, below, child, option, symbol, name, nodes, names, entries, layouts}
use Rattle.grammar.specs.Room.{node_width, own_width, link_width}
use Rattle.grammar.specs.Rows.{Rows}
use Rattle.foreign.specs.Check.{Item}
use Rattle.checker.specs.declared.slots.Content.{Content}
use Rattle.checker.specs.declared.slots.Slot.{Slot}
use Rattle.checker.specs.declared.slots.Sort.{Sort}
use Rattle.checker.specs.declared.slots.Cut.{Cut}

abbrev pub rows : (nodes links : List ℕ) → Rows
rows ns ls = record { nodes = ns; links = ls }

-- slots by number, and how many numbers each takes
abbrev pub code : Form → ℕ
code (below n) = 8 + n
code child = 1
code option = 2
code symbol = 3
code name = 4
code nodes = 5
code names = 6
code entries = 7

abbrev pub width : Form → ℕ
width (below n) = 1
width child = 1
width option = 1
width symbol = 1
width name = 3
width nodes = 2
width names = 2
width entries = 2

-- six numbers: the first code, the second and its place, the third and its place, and the place of what is unused
abbrev pub line : List Form → List ℕ
line [] = 0 ∷ 0 ∷ 3 ∷ 0 ∷ 3 ∷ 3 ∷ []
line (a ∷ []) = code a ∷ 0 ∷ (3 + width a) ∷ 0 ∷ (3 + width a) ∷ (3 + width a) ∷ []
line (a ∷ b ∷ []) = code a ∷ code b ∷ (3 + width a) ∷ 0 ∷ (3 + width a + width b) ∷ (3 + width a + width b) ∷ []
line (a ∷ b ∷ c ∷ ss) = code a ∷ code b ∷ (3 + width a) ∷ code c ∷ (3 + width a + width b) ∷ (3 + width a + width b + width c) ∷ []

abbrev pub lines : List (List Form) → List ℕ
lines [] = []
lines (ss ∷ sss) = line ss ++ lines sss

-- of each kind, from 1 on
unfoldable pub table : Edition → List ℕ
table e = lines (drop 1 (layouts e))

-- the sort of a list, by its code
abbrev pub sort_of : (code : ℕ) → Sort
sort_of c = cond (eqb c 5) Sort.Nodes (cond (eqb c 6) Sort.Names Sort.Entries)

-- what a slot of a code holds, of two numbers: the second is a list's alone
unfoldable pub content_of : (code x y : ℕ) → Content
content_of c x y = cond (eqb c 0) Content.Nothing (cond (eqb c 1) (Content.Child x) (cond (eqb c 2) (Content.Option x) (cond (ltb c 5) (Content.Symbol x)
    (cond (ltb c 8) (Content.List (sort_of c) x y) (Content.Number (c - 8) x)))))

-- the slot of a code whose first number stands at a place
abbrev pub slot_at : (nodes : List ℕ) (code at : ℕ) → Slot
slot_at ns c i = record { code = c; x = get_or ns i 0; y = get_or ns (i + 1) 0 }

-- number j of a row's line in the table
abbrev pub cell : (table nodes : List ℕ) (row j : ℕ) → ℕ
cell t ns row j = get_or t (6 * (get_or ns (node_width * row) 0 - 1) + j) 0

unfoldable pub cut_of : (table nodes : List ℕ) (row : ℕ) → Cut
cut_of t ns row = record {
  first = slot_at ns (cell t ns row 0) (node_width * row + 3);
  second = slot_at ns (cell t ns row 1) (node_width * row + cell t ns row 2);
  third = slot_at ns (cell t ns row 3) (node_width * row + cell t ns row 4);
  rest = node_width * row + cell t ns row 5;
}

-- what link rows of a list of this sort hold: one, and so many
abbrev pub link_items : Sort → (x y z : ℕ) → List Item
link_items Sort.Nodes x y z = Item.child x ∷ Item.unused y ∷ Item.unused z ∷ []
link_items Sort.Names x y z = Item.symbol x ∷ []
link_items Sort.Entries x y z = Item.child x ∷ Item.option y ∷ Item.unused z ∷ []

unfoldable pub linked_items : Sort → (count : ℕ) (links : List ℕ) → List Item
linked_items o zero ls = []
linked_items o (suc n) ls = link_items o (get_or ls 0 0) (get_or ls 1 0) (get_or ls 2 0) ++ linked_items o n (drop link_width ls)

-- what a slot holds, with its links
abbrev pub contents : (links : List ℕ) → Content → List Item
contents ls Content.Nothing = []
contents ls (Content.Child x) = Item.child x ∷ []
contents ls (Content.Option x) = Item.option x ∷ []
contents ls (Content.Symbol x) = Item.symbol x ∷ []
contents ls (Content.List o f n) = Item.list f n ∷ linked_items o n (drop (link_width * f) ls)
contents ls (Content.Number l x) = Item.number l x ∷ []

abbrev pub held : (links : List ℕ) → Slot → List Item
held ls s = contents ls (content_of s.code s.x s.y)

-- so many unused numbers
unfoldable pub spared : (count : ℕ) (xs : List ℕ) → List Item
spared zero xs = []
spared (suc n) xs = Item.unused (get_or xs 0 0) ∷ spared n (drop 1 xs)

-- all that a row holds: its three slots, and what is left up to its ninth number
unfoldable pub held_in : (nodes links : List ℕ) (row : ℕ) → Cut → List Item
held_in ns ls row c = held ls c.first ++ (held ls c.second ++ (held ls c.third ++ spared (node_width * row + own_width - c.rest) (drop c.rest ns)))

-- the table is lent, and the row is there and of a known kind
pub record Standing (lent nodes : List ℕ) (row : ℕ) : Type 0 where
  pub edition : Edition
  pub same : lent ≡ table edition
  pub room : node_width * row + node_width ≤ length nodes
  pub least : 1 ≤ get_or nodes (node_width * row) 0
  pub most : get_or nodes (node_width * row) 0 ≤ 26
