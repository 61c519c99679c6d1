-- What the parts that print lines ask of their callers (the rows are there, and there is room for the lines) and answer.
use Rattle.std.specs.Prelude.{ℕ, ◌+◌, ◌*◌, ◌^◌, ◌≤◌, ◌<◌, List, length}
use Rattle.grammar.specs.Room.{node_width, link_width, symbol_width}
use Rattle.spelling.specs.Display.{Put}

-- these bytes were written into a room from a place on, and no more than so many
pub record PutWithin (bound : ℕ) (part : List ℕ) (at : ℕ) (before after : List ℕ) (next : ℕ) : Type 0 where
  pub put : Put part at before after next
  pub most : next ≤ at + bound

-- no line is longer
abbrev pub line_size : ℕ
line_size = 128

-- row i of a room of rows, in a line that starts at a place
pub record Line (lead : List ℕ) (width : ℕ) (source : List ℕ) (i : ℕ) (room : List ℕ) (at : ℕ) : Type 0 where
  pub short : length lead ≤ 5
  pub narrow : width ≤ node_width
  pub few : i < 2 ^ 32
  pub there : width * i + width ≤ length source
  pub fits : at + line_size ≤ length room

-- its first n rows
pub record Lines (lead : List ℕ) (width : ℕ) (source : List ℕ) (n : ℕ) (room : List ℕ) (at : ℕ) : Type 0 where
  pub short : length lead ≤ 5
  pub narrow : width ≤ node_width
  pub few : n ≤ 512
  pub there : width * n ≤ length source
  pub fits : at + line_size * n ≤ length room

-- a success with these counts, at most 512 rows each
pub record Listing (n l s : ℕ) (nodes links symbols room : List ℕ) : Type 0 where
  pub few_nodes : n ≤ 512
  pub few_links : l ≤ 512
  pub few_symbols : s ≤ 512
  pub nodes_there : node_width * n ≤ length nodes
  pub links_there : link_width * l ≤ length links
  pub symbols_there : symbol_width * s ≤ length symbols
  pub fits : 262144 ≤ length room
