-- What a call with a text answers, and what it leaves in the list room and the four rooms: the token maker's refusal, or the answer of a call with the list that it made.
-- Request L1: 'Scriptwriters save text, not tokens'.
use Rattle.std.specs.Prelude.{ℕ, ◌*◌, List, ◌≡◌, take}
use Rattle.grammar.specs.Answer.{Answer, refuse, Answers}
use Rattle.grammar.specs.Builtin.{Builtins}
use Rattle.grammar.specs.Profile.{Profile}
use Rattle.grammar.specs.Room.{Rooms}
use Rattle.lexer.specs.Lexes.{Lexes}
use Rattle.lexer.specs.declared.Lexed.{Lexed}
use Rattle.syntax.specs.Parsed.{numbers, call}
use Rattle.syntax.specs.declared.Numbers.{Numbers}

-- the numbers of the token maker's refusal
abbrev pub lexed_numbers : Lexed → Answer
lexed_numbers l = refuse l.code l.at l.start l.end l.expected

-- the tokens of a list room, where the maker says how many they are
abbrev pub made_list : Lexed → List ℕ → List ℕ
made_list l room = take (3 * l.count) room

pub data AnswersText (p : Profile) (names : Builtins) (text : List ℕ) (edition limit : ℕ) (list : List ℕ) (before : Rooms) : Answer → List ℕ → Rooms → Type 0 where
  unmade : {l : Lexed} {room : List ℕ} → Lexes text list l room → (l.code ≡ 0 → ⊥) → AnswersText p names text edition limit list before (lexed_numbers l) room before
  made : {l : Lexed} {room : List ℕ} {a : Answer} {after : Rooms} → Lexes text list l room → l.code ≡ 0 → Answers (call p names text (made_list l room) edition limit before) a after → AnswersText p names text edition limit list before a room after

pub record Read (p : Profile) (names : Builtins) (text : List ℕ) (edition limit : ℕ) (list room : List ℕ) (before after : Rooms) (r : Numbers) : Type 0 where
  pub answers : AnswersText p names text edition limit list before (numbers r) room after
