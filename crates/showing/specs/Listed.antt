-- What the lines of a listing ask of their caller: the rows are there.
use Rattle.std.specs.Prelude.{ℕ, ◌*◌, ◌^◌, ◌≤◌, List, length}
use Rattle.grammar.specs.Room.{node_width}

-- the first n rows of a room of rows, and a lead for their lines
pub record Some (lead : List ℕ) (width : ℕ) (source : List ℕ) (n : ℕ) : Type 0 where
  pub short : length lead ≤ 5
  pub narrow : width ≤ node_width
  pub few : n ≤ 2 ^ 32
  pub there : width * n ≤ length source
