-- Rows that name parts of a text, two numbers a row: where the part starts and ends. Such are the symbol rows, document 01, Rows: 'the row is the first place'.
use Rattle.std.specs.Prelude.{ℕ, ◌+◌, ◌*◌, ◌≤◌, ◌<◌, List, ◌≡◌, length, get_or}
use Rattle.grammar.specs.Room.{symbol_width}
use Rattle.grammar.specs.Token.{lexeme}

-- from s up to e is a part of the text
pub record Part (text : List ℕ) (s e : ℕ) : Type 0 where
  pub ordered : s ≤ e
  pub inside : e ≤ length text

-- where row i starts and ends, and its bytes
abbrev pub start_of : (table : List ℕ) → ℕ → ℕ
start_of table i = get_or table (symbol_width * i) 0

abbrev pub end_of : (table : List ℕ) → ℕ → ℕ
end_of table i = get_or table (symbol_width * i + 1) 0

abbrev pub word : (text table : List ℕ) → ℕ → List ℕ
word text table i = lexeme text (start_of table i) (end_of table i)

-- the table has a row i
abbrev pub Row : (table : List ℕ) → ℕ → Type 0
Row table i = symbol_width * (i + 1) ≤ length table

-- and its bytes are these
pub record Holds (text bytes table : List ℕ) (i : ℕ) : Type 0 where
  pub row : Row table i
  pub bytes_are : word text table i ≡ bytes

-- each row is a part of the text, and two different rows have different bytes
pub record Table (text table : List ℕ) : Type 0 where
  pub parts : (i : ℕ) → Row table i → Part text (start_of table i) (end_of table i)
  pub different : (i j : ℕ) → i < j → Row table j → word text table i ≡ word text table j → ⊥
