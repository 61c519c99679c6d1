-- What the program `rows` prints for an answer and the rooms. Document 01, Samples: 'Counts of node, link and symbol rows; row number and nine numbers; link
-- row and three; symbol row, start, end. A refusal prints `refused`, code, at, start, end, expected; then a line with the message, perhaps empty.' Document 02, L11:
-- a node row has ten numbers, and the listing follows.
use Rattle.std.specs.Prelude.{ℕ, zero, suc, ◌*◌, cond, List, [], ◌∷◌, ◌++◌, eqb, take, drop}
use Rattle.diagnostics.specs.Message.{text_of}
use Rattle.grammar.specs.Answer.{Answer}
use Rattle.grammar.specs.Pattern.{bytes}
use Rattle.grammar.specs.Room.{Rooms, node_width, link_width, symbol_width}
use Rattle.grammar.specs.Token.{kind}
use Rattle.wire.specs.Number.{decimal}

abbrev pub newline : List ℕ
newline = 10 ∷ []

-- each number after a blank
unfoldable pub fields : List ℕ → List ℕ
fields [] = []
fields (n ∷ ns) = (32 ∷ decimal n) ++ fields ns

-- a line: its lead, and numbers
unfoldable pub line : (lead values : List ℕ) → List ℕ
line lead values = lead ++ (fields values ++ newline)

-- the line of row i of a room: its lead, its number, and its numbers
unfoldable pub row : (lead : List ℕ) (width : ℕ) (room : List ℕ) (i : ℕ) → List ℕ
row lead width room i = lead ++ line (decimal i) (take width (drop (width * i) room))

-- the lines of its first n rows
unfoldable pub rows : (lead : List ℕ) (width : ℕ) (room : List ℕ) (n : ℕ) → List ℕ
rows lead width room zero = []
rows lead width room (suc n) = rows lead width room n ++ row lead width room n

-- success
unfoldable pub listed : (nodes links symbols : ℕ) → (node-room link-room symbol-room : List ℕ) → List ℕ
listed n l s ns ls ss =
    line (bytes "ok") (n ∷ l ∷ s ∷ []) ++ (rows [] node_width ns n ++ (rows (bytes "link ") link_width ls l ++ rows (bytes "sym ") symbol_width ss s))

-- a refusal, where this kind of token was found
unfoldable pub refused : (code at start end expected found : ℕ) → List ℕ
refused code at start end expected found = line (bytes "refused") (code ∷ at ∷ start ∷ end ∷ expected ∷ []) ++ (text_of code expected found ++ newline)

-- code 0 is success; the kind that is found is that of the token at the refusal's place
unfoldable pub printed : (ts : List ℕ) → Answer → Rooms → List ℕ
printed ts a r =
    cond (eqb a.code 0) (listed a.nodes a.links a.symbols r.nodes r.links r.symbols)
    (refused a.code a.at a.start a.end a.expected (kind ts a.at))
