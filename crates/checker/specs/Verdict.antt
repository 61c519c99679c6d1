-- What the check answers; and what its passes do of rows that are there, one after another.
use Rattle.std.specs.Prelude.{ℕ, ◌+◌, ◌-◌, ◌*◌, ◌/◌, ◌≤◌, ◌<◌, true, List, ◌≡◌, length, Result, Ok, Err}
use Rattle.grammar.specs.Edition.{Edition}
use Rattle.grammar.specs.Handle.{absent}
use Rattle.grammar.specs.Room.{Rooms, node_width, link_width}
use Rattle.grammar.specs.Rows.{Rows}
use Rattle.foreign.specs.Check.{Checked, Fails, Given, Checks}
use Rattle.checker.specs.Follow.{covered_by, row_follows}
use Rattle.checker.specs.Named.{is_once, is_parent, AllNamed}
use Rattle.checker.specs.Slots.{table, rows}
use Rattle.checker.specs.Pass.{number, Passes}
use Rattle.checker.specs.Test.{known_kind, is_rooted, row_keeps}
use Rattle.checker.specs.declared.Verdict.{Verdict}
use Rattle.checker.specs.declared.rule.Broken.{Broken}
use Rattle.checker.specs.declared.rule.Rule.{Rule}

abbrev pub rooms : (nodes links symbols scratch : List ℕ) → Rooms
rooms ns ls ss sc = record { nodes = ns; links = ls; symbols = ss; scratch = sc }

abbrev pub given : (edition nodes links symbols : ℕ) → Rooms → Given
given e n m s r = record { edition = e; nodes = n; links = m; symbols = s; rooms = r }

-- the answer, and the rooms afterwards
pub record Tells (g : Given) (after : Rooms) (r : Verdict) : Type 0 where
  pub says : Checks g r.code r.rule r.row after

-- the rows are there, with the table of an edition, and room for marks
pub record Judgeable (lent nodes links : List ℕ) (count marks : ℕ) : Type 0 where
  pub edition : Edition
  pub same : lent ≡ table edition
  pub node_rows : node_width * count ≡ length nodes
  pub link_rows : link_width * (length links / link_width) ≡ length links
  pub few : length links / link_width ≤ absent
  pub short : count ≤ absent
  pub room : count + 2 * (length links / link_width) ≤ marks

-- all rows keep rules 1 to 3
pub record EarlierKept (lent nodes links : List ℕ) (count symbols : ℕ) : Type 0 where
  pub kinds : (i : ℕ) → i < count → known_kind nodes i ≡ true
  pub ranges : (i : ℕ) → i < count → row_keeps 2 symbols lent nodes links i ≡ true
  pub earlier : (i : ℕ) → i < count → row_keeps 3 symbols lent nodes links i ≡ true

-- and 4 to 6; and the pass of rule 9 answers so
pub record TreeKept (lent nodes links : List ℕ) (count symbols : ℕ) (orphans : Result (Unit {0}) Broken) : Type 0 where
  pub kept : EarlierKept lent nodes links count symbols
  pub marks : List ℕ
  pub named : AllNamed (rows nodes links) count marks
  pub once : (i : ℕ) → i < count - 1 → is_once marks i ≡ true
  pub rooted : is_rooted nodes count ≡ true
  pub follows : (i : ℕ) → i < count → row_follows lent nodes links i ≡ true
  pub covered : covered_by lent nodes links count ≡ length links / link_width
  pub told : Passes Rule.Parents (is_parent nodes marks) count orphans

-- the first failed rule, with the first row that breaks it, or that all rules hold
pub data Judges (e : Edition) (s : ℕ) (w : Rows) : Result (Unit {0}) Broken → Type 0 where
  failed : {b : Broken} → Fails e s w (number b.rule) b.row → Judges e s w (Err b)
  passed : Checked e s w → Judges e s w (Ok tt)

pub record Judged (lent : List ℕ) (symbols : ℕ) (w : Rows) (r : Result (Unit {0}) Broken) : Type 0 where
  pub says : (e : Edition) → lent ≡ table e → Judges e symbols w r
