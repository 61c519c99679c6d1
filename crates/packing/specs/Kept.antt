-- Which rows stay, and where each goes: a number for each node row. In the lent room they stand behind those of the symbols.
use Rattle.std.specs.Prelude.{ℕ, ◌≤◌, ◌<◌, Bool, cond, List, ◌≡◌, length, get_or}
use Rattle.grammar.specs.Naming.{height}
use Rattle.grammar.specs.Pattern.{among}
use Rattle.grammar.specs.Rows.{Rows}
use Rattle.parts.specs.Packed.{root_row, root_first, statements, keeps, kept_upto, stays, rows_kept}
use Rattle.packing.specs.Good.{Sound}

abbrev pub one : Bool → ℕ
one b = cond b 1 0

-- nothing below `base` changed
pub record Low (base : ℕ) (before after : List ℕ) : Type 0 where
  pub same : (i : ℕ) → i < base → get_or after i 0 ≡ get_or before i 0

-- 1 at the rows of the first n statements that are kept, and 0 at others
pub record Marked (c : ℕ → Bool) (w : Rows) (n rows : ℕ) (marks : List ℕ) : Type 0 where
  pub each : (i : ℕ) → i < rows → get_or marks i 0 ≡ one (among (kept_upto c w n) i)

-- 1 at each row but the root that stays, from one on
pub record Staying (c : ℕ → Bool) (w : Rows) (from : ℕ) (marks : List ℕ) : Type 0 where
  pub each : (i : ℕ) → from ≤ i → i < root_row w → get_or marks i 0 ≡ one (stays c w i)

-- where each row goes
pub record Placed (c : ℕ → Bool) (w : Rows) (marks : List ℕ) : Type 0 where
  pub each : (i : ℕ) → i ≤ root_row w → get_or marks i 0 ≡ rows_kept c w i

-- what is asked: rows that keep the rules, with a choice for each statement, and a number for each row
pub record Markable (w : Rows) (choice : List ℕ) (first numbers : ℕ) : Type 0 where
  pub sound : Sound w
  pub all : length choice ≡ statements w
  pub list : first ≡ root_first w
  pub rows : numbers ≡ height w

-- marks are spread from the statements to what is below them, whatever the choice was
pub record Spreads (w : Rows) (before after : List ℕ) : Type 0 where
  pub says : {choice : List ℕ} {first : ℕ} → Markable w choice first (length before) → Marked (keeps choice) w (length choice) (length before) before → Staying (keeps choice) w 0 after

-- what is asked of marks that are counted: they are those of some rows and some choice
pub record Countable (marks : List ℕ) : Type 0 where
  pub lines : Rows
  pub choice : ℕ → Bool
  pub sound : Sound lines
  pub many : length marks ≡ height lines
  pub staying : Staying choice lines 0 marks

-- where each row goes, whatever the rows and the choice were
pub record Counted (before after : List ℕ) : Type 0 where
  pub says : {c : ℕ → Bool} {w : Rows} → length before ≡ height w → Staying c w 0 before → Placed c w after
