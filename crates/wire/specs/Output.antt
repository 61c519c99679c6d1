-- The program `rows` as one definition: for every input its output. Document 01, Samples: 'limit 64. A broken record or more input prints `bad input`.'
use Rattle.std.specs.Prelude.{ℕ, ◌*◌, List, ◌≡◌, length, get_or, replicate}
use Rattle.grammar.specs.Answer.{Answer, Answers}
use Rattle.grammar.specs.Builtin.{none}
use Rattle.grammar.specs.Call.{Call}
use Rattle.grammar.specs.Pattern.{bytes}
use Rattle.grammar.specs.Profile.{Profile}
use Rattle.grammar.specs.Room.{Rooms, node_width, link_width, symbol_width, scratch_width}
use Rattle.spelling.specs.Display.{Put}
use Rattle.wire.specs.Input.{InputHolds, Broken}
use Rattle.wire.specs.Printed.{printed}

-- rooms of 512 rows, zero throughout
abbrev pub blank_rooms : Rooms
blank_rooms = record {
  nodes = replicate (node_width * 512) 0;
  links = replicate (link_width * 512) 0;
  symbols = replicate (symbol_width * 512) 0;
  scratch = replicate (scratch_width * 512) 0;
}

abbrev pub call : (text ts : List ℕ) → Call
call text ts = record { profile = Profile.script; names = none; text = text; tokens = ts; edition = 1; limit = 64; rooms = blank_rooms }

-- for an input this may be printed: one output and no other (`one-output`)
pub data Outputs (input : List ℕ) : List ℕ → Type 0 where
  bad : Broken input → Outputs input (bytes "bad input\n")
  answered : {text ts : List ℕ} {a : Answer} {r : Rooms} → InputHolds input text ts → Answers (call text ts) a r → Outputs input (printed ts a r)

-- n zeros
pub record Zeros (n : ℕ) (r : List ℕ) : Type 0 where
  pub size : n ≡ length r
  pub zeros : (i : ℕ) → get_or r i 0 ≡ 0

-- the output is written at the start of a room, the rest of the room stays, and n is the output's length
pub record OutputGiven (input before after : List ℕ) (n : ℕ) : Type 0 where
  pub output : List ℕ
  pub right : Outputs input output
  pub put : Put output 0 before after n
