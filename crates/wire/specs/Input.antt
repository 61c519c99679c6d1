-- What the program `rows` reads. Document 01, Samples: 'mark 4B 53, text length (4 bytes, little-endian), text; then per token mark 4B 54, kind byte, start,
-- end (4 bytes each). At most 8,192 text bytes and 512 tokens'.
use Rattle.std.specs.Prelude.{ℕ, ◌+◌, ◌*◌, ◌≤◌, ◌<◌, List, ◌≡◌, length, get_or}
use Rattle.grammar.specs.Token.{count, kind, start, end, lexeme}
use Rattle.wire.specs.Number.{number}

-- the two bytes of a mark stand at a place
pub record Marked (input : List ℕ) (at second : ℕ) : Type 0 where
  pub first : get_or input at 0 ≡ 0x4B
  pub next : get_or input (at + 1) 0 ≡ second

-- the text's record before its text, and a token's record, in bytes
abbrev pub head_size : ℕ
head_size = 6

abbrev pub token_size : ℕ
token_size = 11

-- the record at a place is that of token i
pub record TokenRecord (input ts : List ℕ) (at i : ℕ) : Type 0 where
  pub marked : Marked input at 0x54
  pub kind_is : kind ts i ≡ get_or input (at + 2) 0
  pub start_is : start ts i ≡ number input (at + 3)
  pub end_is : end ts i ≡ number input (at + 7)

-- the input is the record of this text, and then those of these tokens, and no more
pub record InputHolds (input text ts : List ℕ) : Type 0 where
  pub marked : Marked input 0 0x53
  pub size : number input 2 ≡ length text
  pub text_is : lexeme input head_size (head_size + length text) ≡ text
  pub most_bytes : length text ≤ 8192
  pub whole : length ts ≡ 3 * count ts
  pub most_tokens : count ts ≤ 512
  pub ends : length input ≡ head_size + length text + token_size * count ts
  pub tokens_are : (i : ℕ) → i < count ts → TokenRecord input ts (head_size + length text + token_size * i) i

-- 'A broken record or more input'
pub record Broken (input : List ℕ) : Type 0 where
  pub holds_none : (text ts : List ℕ) → InputHolds input text ts → ⊥
