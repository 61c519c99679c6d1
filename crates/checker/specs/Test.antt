-- The rules of Check.antt that speak of one row's items, as tests.
use Rattle.std.specs.Prelude.{ℕ, ◌+◌, ◌-◌, ◌*◌, ◌/◌, ◌≤◌, ◌<◌, Bool, true, false, cond, ◌&&◌, ◌||◌, not, List, [], ◌∷◌, ◌≡◌, eqb, ltb, leb, length, get_or, drop}
use Rattle.grammar.specs.Handle.{absent}
use Rattle.grammar.specs.Label.{Node, number_of}
use Rattle.grammar.specs.Room.{node_width, link_width}
use Rattle.foreign.specs.Check.{Item}
use Rattle.checker.specs.Marks.{Settled, Within}
use Rattle.checker.specs.Slots.{cut_of, link_items, linked_items, held_in, Standing}
use Rattle.checker.specs.declared.slots.Sort.{Sort}

-- whether an item keeps a rule in row i, where there are s symbols and m links; a list that is not in range keeps none
abbrev pub keep : (rule i s m : ℕ) → Item → Bool
keep rule i s m (Item.number l x) = cond (eqb rule 2) (ltb x l) true
keep rule i s m (Item.child x) = cond (eqb rule 3) (ltb x i || eqb x absent) (cond (eqb rule 7) (not (eqb x absent)) true)
keep rule i s m (Item.option x) = cond (eqb rule 3) (ltb x i || eqb x absent) true
keep rule i s m (Item.symbol x) = cond (eqb rule 2) (ltb x s) true
keep rule i s m (Item.list f n) = leb (f + n) m
keep rule i s m (Item.unused x) = cond (eqb rule 8) (eqb x 0) true

abbrev pub keep_all : (rule i s m : ℕ) → List Item → Bool
keep_all rule i s m [] = true
keep_all rule i s m (x ∷ xs) = keep rule i s m x && keep_all rule i s m xs

-- link k of a list of this sort keeps a rule in row i
unfoldable pub link_keeps : (rule i s : ℕ) → Sort → (links : List ℕ) (k : ℕ) → Bool
link_keeps rule i s o ls k = keep_all rule i s 0 (link_items o (get_or ls (link_width * k) 0) (get_or ls (link_width * k + 1) 0) (get_or ls (link_width * k + 2) 0))

-- of the three sorts of lists, the one that has the first marks: in rule 2 lists of names are looked at, and in the others lists of rows; keys with values have the second marks
abbrev pub first_sort : (rule : ℕ) → Sort
first_sort rule = cond (eqb rule 2) Sort.Names Sort.Nodes

abbrev pub of_names : Sort → Bool
of_names Sort.Nodes = false
of_names Sort.Names = true
of_names Sort.Entries = false

-- whether a rule has to do with links of a sort
abbrev pub concerns : (rule : ℕ) → Sort → Bool
concerns rule o = cond (eqb rule 2) (of_names o) (not (of_names o))

-- the link rows are there, and so are their marks, which are right of them
pub record Linkable (rule i s : ℕ) (of : Sort) (links marks : List ℕ) (base from count : ℕ) : Type 0 where
  pub few : length links / link_width ≤ absent
  pub inside : from + count ≤ length links / link_width
  pub room : base + length links / link_width ≤ length marks
  pub settled : Settled (link_keeps rule i s of links) base (length links / link_width) marks

-- what a list's link rows answer: whether all keep the rule; if so the marks are right of them
pub record Linked (rule i s : ℕ) (of : Sort) (links : List ℕ) (base from count : ℕ) (before after : List ℕ) (r : Bool) : Type 0 where
  pub says : r ≡ keep_all rule i s 0 (linked_items of count (drop (link_width * from) links))
  pub within : r ≡ true → Within base (length links / link_width) before after
  pub settled : r ≡ true → Settled (link_keeps rule i s of links) base (length links / link_width) after

-- two marks a link, which are right of row i
pub record Marked (rule i s : ℕ) (links marks : List ℕ) : Type 0 where
  pub few : length links / link_width ≤ absent
  pub room : 2 * (length links / link_width) ≤ length marks
  pub first : Settled (link_keeps rule i s (first_sort rule) links) 0 (length links / link_width) marks
  pub second : Settled (link_keeps rule i s Sort.Entries links) (length links / link_width) (length links / link_width) marks

-- what a slot or a row answers: whether all that it holds keeps the rule; if so the marks are right
pub record Keeps (rule i s : ℕ) (links : List ℕ) (items : List Item) (after : List ℕ) (r : Bool) : Type 0 where
  pub says : r ≡ keep_all rule i s (length links / link_width) items
  pub marked : r ≡ true → Marked rule i s links after

-- each of the first rows is there and of a known kind
pub record AllStanding (lent nodes : List ℕ) (count : ℕ) : Type 0 where
  pub each : (i : ℕ) → i < count → Standing lent nodes i

-- the first of n rows that fails a test, or n
pub record First (test : ℕ → Bool) (n r : ℕ) : Type 0 where
  pub most : r ≤ n
  pub before : (j : ℕ) → j < r → test j ≡ true
  pub fails : r < n → test r ≡ false

-- rule 1 of a row, rule 5 of all, and the rules of a row's items
unfoldable pub known_kind : (nodes : List ℕ) (row : ℕ) → Bool
known_kind ns i = leb 1 (get_or ns (node_width * i) 0) && leb (get_or ns (node_width * i) 0) 26

unfoldable pub is_rooted : (nodes : List ℕ) (count : ℕ) → Bool
is_rooted ns n = ltb 0 n && (eqb (get_or ns (node_width * (n - 1)) 0) (number_of Node.Block) && eqb (get_or ns (node_width * (n - 1) + 5) 0) absent)

unfoldable pub row_keeps : (rule symbols : ℕ) (table nodes links : List ℕ) (row : ℕ) → Bool
row_keeps rule s t ns ls i = keep_all rule i s (length ls / link_width) (held_in ns ls i (cut_of t ns i))
