-- Where a reading is: the rooms and the cursor, and what of the rooms is used. What a room holds beyond does not matter.
use Rattle.std.specs.Prelude.{ℕ, ◌+◌, ◌*◌, ◌≤◌, ◌<◌, List, ◌≡◌, length, take}
use Rattle.grammar.specs.Door.{Whole, Closed}
use Rattle.grammar.specs.Room.{node_width, link_width, scratch_width}
use Rattle.grammar.specs.Rows.{Rows}
use Rattle.grammar.specs.Space.{Space}
use Rattle.grammar.specs.Token.{count}
use Rattle.reading.specs.declared.Cursor.{Cursor}
use Rattle.reading.specs.declared.Terms.{Terms}

pub record State : Type 0 where
  pub nodes : List ℕ
  pub links : List ℕ
  pub scratch : List ℕ
  pub cursor : Cursor

abbrev pub state : (nodes links scratch : List ℕ) → Cursor → State
state ns ls ss c = record { nodes = ns; links = ls; scratch = ss; cursor = c }

-- the rows written so far
abbrev pub written : State → Rows
written s = record { nodes = take (node_width * s.cursor.nodes) s.nodes; links = take (link_width * s.cursor.links) s.links }

-- the items of the lists that are open
abbrev pub held : State → List ℕ
held s = take (scratch_width * s.cursor.held) s.scratch

-- what the door gives of a token list, whatever the text
pub record Lent (ts : List ℕ) : Type 0 where
  pub whole : Whole ts
  pub closed : (i : ℕ) → i < count ts → Closed ts i

-- the scratch room has a row for each token
pub record Roomy (ts : List ℕ) (s : State) : Type 0 where
  pub scratch : scratch_width * count ts ≤ length s.scratch

-- how much the other rooms hold
abbrev pub space : State → Space
space s = record { nodes = length s.nodes; links = length s.links }

-- so many rows stand in rooms of this size; and those that a cursor counts
pub record Stands (z : Space) (nodes links : ℕ) : Type 0 where
  pub node_rows : node_width * nodes ≤ z.nodes
  pub link_rows : link_width * links ≤ z.links

abbrev pub Standing : State → Type 0
Standing s = Stands (space s) s.cursor.nodes s.cursor.links

-- there is a token to look at, the rows stand in their rooms, no room has more rows than tokens are passed, and the items that are held stay below the symbols in the
-- top third of the scratch room
pub record Within (ts : List ℕ) (s : State) : Type 0 where
  pub roomy : Roomy ts s
  pub stands : Standing s
  pub at : s.cursor.at < count ts
  pub rows : s.cursor.nodes ≤ s.cursor.at
  pub links : s.cursor.links + s.cursor.held ≤ s.cursor.at
  pub stack : 2 * s.cursor.held ≤ s.cursor.at + 1

-- what a reader asks, with o openings taken
pub record Ready (ts : List ℕ) (terms : Terms) (o : ℕ) (s : State) : Type 0 where
  pub lent : Lent ts
  pub deep : o ≤ terms.limit
  pub within : Within ts s

-- and a reader of a list, whose opener has paid for one item more
pub record Opened (ts : List ℕ) (terms : Terms) (o : ℕ) (s : State) : Type 0 where
  pub ready : Ready ts terms o s
  pub spare : 2 * s.cursor.held ≤ s.cursor.at

-- the rooms are as long as they were, and where the rows stood in them they do
pub record Rooms (s s' : State) : Type 0 where
  pub nodes : length s'.nodes ≡ length s.nodes
  pub links : length s'.links ≡ length s.links
  pub scratch : length s'.scratch ≡ length s.scratch
  pub stands : Standing s → Standing s'
