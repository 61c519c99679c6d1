-- What the token maker answers, and what it leaves in the list room. Request L1: 'The list room holds zeros after the last token. Refusals: 2, then 5, both leaving the list room
-- unchanged; then 16 at the first byte where no token starts (numbers as for 5), then 1 for too many tokens or too little list room, both leaving it all zeros.'
use Rattle.std.specs.Prelude.{ℕ, ◌+◌, ◌/◌, ◌≤◌, ◌<◌, List, length, get_or}
use Rattle.grammar.specs.Door.{Ascii, FirstWithout}
use Rattle.grammar.specs.Room.{cleared, filled}
use Rattle.grammar.specs.Token.{count}
use Rattle.lexer.specs.Reads.{TextReads, Stops}
use Rattle.lexer.specs.declared.Lexed.{Lexed}

-- code 0 and how many tokens; or a code with its numbers, and no tokens
abbrev pub success : (tokens : ℕ) → Lexed
success tokens = record { code = 0; count = tokens; at = 0; start = 0; end = 0; expected = 255 }

abbrev pub refuse : (code from upto : ℕ) → Lexed
refuse code from upto = record { code = code; count = 0; at = 0; start = from; end = upto; expected = 255 }

-- what codes 2 and 5 let through
pub record Readable (text : List ℕ) : Type 0 where
  pub short : length text ≤ 65536
  pub ascii : Ascii text

-- so many tokens, Eof among them, and a whole row of the room for each
pub record ListFits (tokens : ℕ) (room : List ℕ) : Type 0 where
  pub most : tokens ≤ 4096
  pub rows : tokens ≤ length room / 3

-- a text and a list room may be answered so, and the room be left so: in one way and no other (`one_answer`)
pub data Lexes (text room : List ℕ) : Lexed → List ℕ → Type 0 where
  long : 65536 < length text → Lexes text room (refuse 2 0 0) room
  high : {i : ℕ} → length text ≤ 65536 → FirstWithout (λ j. get_or text j 0 ≤ 127) (length text) i → Lexes text room (refuse 5 i (i + 1)) room
  no_token : {i : ℕ} → Readable text → Stops text 0 i → Lexes text room (refuse 16 i (i + 1)) (cleared room)
  too_many : {ts : List ℕ} → Readable text → TextReads text 0 ts → (ListFits (count ts) room → ⊥) → Lexes text room (refuse 1 0 0) (cleared room)
  made : {ts : List ℕ} → Readable text → TextReads text 0 ts → ListFits (count ts) room → Lexes text room (success (count ts)) (filled ts room)
