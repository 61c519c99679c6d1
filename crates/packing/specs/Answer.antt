-- What `drop` answers, and what it leaves in the rooms. Document 02, L12: 'pack the rows to the front and zero the freed ones, so that they can be lent again';
-- 'Refusals: 15 and 22 first, as in L8, then 20 when the choice's length isn't the statement count; all rooms unchanged'. As in L8, 21 stands between 15 and 22, and the
-- scratch room, once it was used, is zero throughout.
use Rattle.std.specs.Prelude.{ℕ, ◌+◌, ◌-◌, ◌*◌, ◌/◌, ◌≤◌, List, ◌++◌, ◌≡◌, length, get_or, drop, replicate, take}
use Rattle.grammar.specs.Door.{RightEdition}
use Rattle.grammar.specs.Edition.{edition}
use Rattle.grammar.specs.Naming.{height}
use Rattle.grammar.specs.Room.{Rooms, node_width, link_width, symbol_width, cleared, filled}
use Rattle.grammar.specs.Rows.{Rows}
use Rattle.foreign.specs.Check.{Checked, Fails, Given, Lends, used, link_count, scratch_cleared}
use Rattle.parts.specs.Packed.{statements, keeps, packed, packed_symbols}
use Rattle.packing.specs.Good.{Good}
use Rattle.packing.specs.declared.Packed.{Packed}

-- what is handed over: rows as L8 takes them, how many of the symbols are built-in names, and the choice, a number for each statement that is 0 where it is dropped
pub record Asked : Type 0 where
  pub given : Given
  pub builtins : ℕ
  pub choice : List ℕ

-- the counts are not past what was lent, as in L8; the built-in names are some of the symbols; and scratch has two numbers for each node and link row and one for each symbol
pub record Lent (a : Asked) : Type 0 where
  pub rows : Lends a.given
  pub builtins : a.builtins ≤ a.given.symbols
  pub scratch : 2 * a.given.nodes + 2 * a.given.links + a.given.symbols ≤ length a.given.rooms.scratch

-- the rows, the choice, and the symbol rows that the count tells of
abbrev pub rows_of : Asked → Rows
rows_of a = used a.given

abbrev pub symbols_of : Asked → List ℕ
symbols_of a = take (symbol_width * a.given.symbols) a.given.rooms.symbols

abbrev pub left_rows : Asked → Rows
left_rows a = packed (keeps a.choice) a.builtins (rows_of a)

abbrev pub left_symbols : Asked → List ℕ
left_symbols a = packed_symbols (keeps a.choice) a.builtins (rows_of a) (symbols_of a)

-- a room of which so many numbers were used, with these in front: the freed ones are zero, and those past what was used stay
abbrev pub refilled : (numbers : List ℕ) (used : ℕ) (before : List ℕ) → List ℕ
refilled xs n before = xs ++ (replicate (n - length xs) 0 ++ drop n before)

abbrev pub rooms_packed : Asked → Rooms
rooms_packed a = record {
  nodes = refilled (left_rows a).nodes (node_width * a.given.nodes) a.given.rooms.nodes;
  links = refilled (left_rows a).links (link_width * a.given.links) a.given.rooms.links;
  symbols = refilled (left_symbols a) (symbol_width * a.given.symbols) a.given.rooms.symbols;
  scratch = cleared a.given.rooms.scratch;
}

-- an answer without counts
abbrev pub turned : (code rule row : ℕ) → Packed
turned code rule row = record { code = code; nodes = 0; links = 0; symbols = 0; rule = rule; row = row }

abbrev pub done : Asked → Packed
done a = record { code = 0; nodes = height (left_rows a); links = link_count (left_rows a); symbols = length (left_symbols a) / symbol_width; rule = 0; row = 0 }

-- one answer and no other (`one-packing`)
pub data Packs (a : Asked) : Packed → Rooms → Type 0 where
  past : (Lent a → ⊥) → Packs a (turned 15 0 0) a.given.rooms
  no_edition : Lent a → (RightEdition a.given.edition → ⊥) → Packs a (turned 21 0 0) a.given.rooms
  failed : {rule row : ℕ} → Lent a → RightEdition a.given.edition → Fails (edition a.given.edition) a.given.symbols (rows_of a) rule row → Packs a (turned 22 rule row) (scratch_cleared a.given.rooms)
  miscounted : Lent a → RightEdition a.given.edition → Checked (edition a.given.edition) a.given.symbols (rows_of a) → (length a.choice ≡ statements (rows_of a) → ⊥) → Packs a (turned 20 0 0) (scratch_cleared a.given.rooms)
  passed : Lent a → RightEdition a.given.edition → Checked (edition a.given.edition) a.given.symbols (rows_of a) → length a.choice ≡ statements (rows_of a) → Packs a (done a) (rooms_packed a)

pub record Tells (a : Asked) (after : Rooms) (r : Packed) : Type 0 where
  pub says : Packs a r after

abbrev pub rooms : (nodes links symbols scratch : List ℕ) → Rooms
rooms ns ls ss sc = record { nodes = ns; links = ls; symbols = ss; scratch = sc }

abbrev pub asked : (n m s builtins edition : ℕ) (choice : List ℕ) → Rooms → Asked
asked n m s b e choice r = record { given = record { edition = e; nodes = n; links = m; symbols = s; rooms = r }; builtins = b; choice = choice }

-- what is asked once rows have passed the check and the choice fits, of rooms that hold nothing else; scratch is zero
pub record Settleable (w : Rows) (symbols : List ℕ) (n s b : ℕ) (choice scratch : List ℕ) : Type 0 where
  pub good : Good s w
  pub tall : n ≡ height w
  pub builtins : b ≤ s
  pub few : s ≤ 4294967295
  pub room : length symbols ≡ symbol_width * s
  pub all : length choice ≡ statements w
  pub lent : 2 * height w + 2 * link_count w + s ≤ length scratch
  pub zeros : (x : ℕ) → get_or scratch x 0 ≡ 0

-- the rooms then, and the answer
pub record Settled (w : Rows) (ss : List ℕ) (b : ℕ) (choice nodes links symbols : List ℕ) (r : Packed) : Type 0 where
  pub nodes_are : nodes ≡ filled (packed (keeps choice) b w).nodes w.nodes
  pub links_are : links ≡ filled (packed (keeps choice) b w).links w.links
  pub symbols_are : symbols ≡ filled (packed_symbols (keeps choice) b w ss) ss
  pub answer : r ≡ record { code = 0; nodes = height (packed (keeps choice) b w); links = link_count (packed (keeps choice) b w); symbols = length (packed_symbols (keeps choice) b w ss) / symbol_width; rule = 0; row = 0 }
