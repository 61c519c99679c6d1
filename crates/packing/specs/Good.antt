-- Rows that passed the check, as the passes take them: there, and keeping L8's rules.
use Rattle.std.specs.Prelude.{ℕ, ◌*◌, ◌≤◌, ◌<◌, ◌≡◌, length}
use Rattle.grammar.specs.Edition.{Edition}
use Rattle.grammar.specs.Handle.{absent}
use Rattle.grammar.specs.Naming.{height}
use Rattle.grammar.specs.Room.{node_width, link_width}
use Rattle.grammar.specs.Rows.{Rows}
use Rattle.foreign.specs.Check.{Checked, link_count}

pub record Good (symbols : ℕ) (w : Rows) : Type 0 where
  pub edition : Edition
  pub checked : Checked edition symbols w
  pub nodes : node_width * height w ≡ length w.nodes
  pub links : link_width * link_count w ≡ length w.links
  pub short : height w ≤ absent
  pub few : link_count w ≤ absent

-- with some number of symbols
pub record Sound (w : Rows) : Type 0 where
  pub symbols : ℕ
  pub good : Good symbols w

-- row i is one of them
abbrev pub In : Rows → (row : ℕ) → Type 0
In w i = i < height w
