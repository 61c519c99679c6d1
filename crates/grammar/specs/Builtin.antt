-- Built-in names, which are lent beside a script. Document 02, L10: 'Lend a text and rows of up to 64 built-in names; they are symbols 0 onward, and script names
-- follow'.
use Rattle.std.specs.Prelude.{ℕ, ◌*◌, ◌/◌, ◌≤◌, List, [], length, take}
use Rattle.grammar.specs.Kind.{Identifier}
use Rattle.grammar.specs.Lexeme.{Fits}
use Rattle.grammar.specs.Room.{symbol_width}
use Rattle.grammar.specs.Table.{Row, Table, word}

-- their text, and for each name where it starts and ends there
pub record Builtins : Type 0 where
  pub text : List ℕ
  pub rows : List ℕ

abbrev pub builtins : (text rows : List ℕ) → Builtins
builtins text rows = record { text = text; rows = rows }

abbrev pub none : Builtins
none = builtins [] []

-- how many there are: whole rows, and a number left over is not used
abbrev pub built : Builtins → ℕ
built names = length names.rows / symbol_width

-- their symbol rows
abbrev pub built_rows : Builtins → List ℕ
built_rows names = take (symbol_width * built names) names.rows

-- none of what refusal 18 is for: 'a built-in text over 65,536 bytes, over 64 names, a bad span, a name that isn't an identifier, or the same name twice'
pub record RightNames (names : Builtins) : Type 0 where
  pub short : length names.text ≤ 65536
  pub few : built names ≤ 64
  pub table : Table names.text names.rows  -- spans are good, and names differ
  pub identifiers : (i : ℕ) → Row names.rows i → Fits Identifier (word names.text names.rows i)
