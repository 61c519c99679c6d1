-- What the exported functions answer: what `parse_as`, `read_as`, `message`, `reason`, `expected`, the two `place`, `check`, `drop` and, of what stands below a row, `child` and `places` answer. C gets an answer of more than one number at the start of a lent room, the
-- numbers in document 01's order, and its code once more as the value of the call. Where that room is too short the code is 13, and nothing else is done. Of what could have stood at a token the
-- value of the call is the set of kinds, which stands in no room and is answered in any. What `parse_scripts` and `read_scripts` answer is a code and rooms already: the two exports have their contract.
use Rattle.std.specs.Prelude.{ℕ, ◌≤◌, ◌<◌, List, [], ◌∷◌, ◌++◌, length, drop}
use Rattle.children.specs.Below.{Below, Child, Places as Places-below}
use Rattle.children.specs.declared.Children.{Children}
use Rattle.diagnostics.specs.Line.{Placed}
use Rattle.diagnostics.specs.Message.{MessageGiven}
use Rattle.diagnostics.specs.Reason.{ReasonGiven}
use Rattle.diagnostics.specs.declared.Message.{Message}
use Rattle.diagnostics.specs.declared.Place.{Place}
use Rattle.expected.specs.Tells.{Tells}
use Rattle.expected.specs.declared.Opening.{Opening}
use Rattle.expected.specs.declared.Told.{Told}
use Rattle.foreign.specs.Check.{Given, Checks}
use Rattle.grammar.specs.Builtin.{Builtins}
use Rattle.grammar.specs.Profile.{Profile}
use Rattle.grammar.specs.Room.{Rooms}
use Rattle.naming.specs.Name.{PlaceTold}
use Rattle.naming.specs.declared.PlaceAnswer.{PlaceAnswer}
use Rattle.packing.specs.Answer.{Asked, Packs}
use Rattle.packing.specs.declared.Packed.{Packed}
use Rattle.reader.specs.Answered.{Read}
use Rattle.scripts.specs.Joined.{listed}
use Rattle.syntax.specs.Parsed.{Parsed}
use Rattle.syntax.specs.declared.Numbers.{Numbers}

abbrev pub placed : Place → List ℕ
placed p = p.code ∷ p.line ∷ p.column ∷ []

-- the numbers at the start of a room, the rest as it was
abbrev pub put : (numbers room : List ℕ) → List ℕ
put numbers room = numbers ++ drop (length numbers) room

-- room: for the answer, before the call; then the four rooms, the room for the answer, and the code after it
pub data Parses (p : Profile) (names : Builtins) (text ts : List ℕ) (edition limit : ℕ) (before : Rooms) (room : List ℕ) : Rooms → List ℕ → ℕ → Type 0 where
  short : length room < 8 → Parses p names text ts edition limit before room before room 13
  parsed : {after : Rooms} {a : Numbers} → 8 ≤ length room → Parsed p names text ts edition limit before after a → Parses p names text ts edition limit before room after (put (listed a) room) a.code

pub data ReadsText (p : Profile) (names : Builtins) (text : List ℕ) (edition limit : ℕ) (list : List ℕ) (before : Rooms) (room : List ℕ) : List ℕ → Rooms → List ℕ → ℕ → Type 0 where
  short : length room < 8 → ReadsText p names text edition limit list before room list before room 13
  read : {tokens : List ℕ} {after : Rooms} {a : Numbers} → 8 ≤ length room → Read p names text edition limit list tokens before after a → ReadsText p names text edition limit list before room tokens after (put (listed a) room) a.code

pub data Places (text : List ℕ) (offset : ℕ) (room : List ℕ) : List ℕ → ℕ → Type 0 where
  short : length room < 3 → Places text offset room room 13
  place : {p : Place} → 3 ≤ length room → Placed text offset p → Places text offset room (put (placed p) room) p.code

-- the length alone: it is 0 where the text's room has under 52 bytes
pub data Writes (code expected found : ℕ) (before after : List ℕ) : ℕ → Type 0 where
  written : {m : Message} → MessageGiven code expected found before after m → Writes code expected found before after m.length

pub data WritesReason (text : List ℕ) (code start expected found : ℕ) (before after : List ℕ) : ℕ → Type 0 where
  written : {m : Message} → ReasonGiven text code start expected found before after m → WritesReason text code start expected found before after m.length

-- of a name's place
abbrev pub name_placed : PlaceAnswer → List ℕ
name_placed p = p.code ∷ p.start ∷ p.end ∷ []

pub data NamesPlace (names text symbols : List ℕ) (count built symbol : ℕ) (room : List ℕ) : List ℕ → ℕ → Type 0 where
  short : length room < 3 → NamesPlace names text symbols count built symbol room room 13
  place : {p : PlaceAnswer} → 3 ≤ length room → PlaceTold names text symbols count built symbol p → NamesPlace names text symbols count built symbol room (put (name_placed p) room) p.code

-- of the open constructs, each its sort and its opening token
unfoldable pub pairs : List Opening → List ℕ
pairs [] = []
pairs (e ∷ es) = e.sort ∷ e.at ∷ pairs es

-- 'how many kinds could have stood there, and the lowest numbered one'; and the chain: how many are open, and then each entry
abbrev pub told : Told → List ℕ
told t = t.count ∷ t.lowest ∷ t.chain.count ∷ pairs t.chain.entries

-- the set is answered in both cases
pub data TellsExpected (ts : List ℕ) (edition limit code at : ℕ) (room : List ℕ) : List ℕ → ℕ → Type 0 where
  short : {t : Told} → length room < 131 → Tells ts edition limit code at t → TellsExpected ts edition limit code at room room t.kinds
  whole : {t : Told} → 131 ≤ length room → Tells ts edition limit code at t → TellsExpected ts edition limit code at room (put (told t) room) t.kinds

-- a row's children, of which the place has one or is absent; and how many places they have
pub data HasChild (nodes links : List ℕ) (row place r : ℕ) : Type 0 where
  child : {b : Children} → Below nodes row b → Child links b place r → HasChild nodes links row place r

pub data HasPlaces (nodes : List ℕ) (row r : ℕ) : Type 0 where
  places : {b : Children} → Below nodes row b → Places-below b r → HasPlaces nodes row r

-- of rows that another build wrote: the rooms and the room for the answer, and the code
pub data ChecksRows (g : Given) (room : List ℕ) : Rooms → List ℕ → ℕ → Type 0 where
  short : length room < 3 → ChecksRows g room g.rooms room 13
  checked : {code rule row : ℕ} {after : Rooms} → 3 ≤ length room → Checks g code rule row after → ChecksRows g room after (put (code ∷ rule ∷ row ∷ []) room) code

-- of rows without some statements: what is left, or for 22 the rule and the row
abbrev pub packed : Packed → List ℕ
packed p = p.code ∷ p.nodes ∷ p.links ∷ p.symbols ∷ p.rule ∷ p.row ∷ []

pub data Drops (a : Asked) (room : List ℕ) : Rooms → List ℕ → ℕ → Type 0 where
  short : length room < 6 → Drops a room a.given.rooms room 13
  dropped : {p : Packed} {after : Rooms} → 6 ≤ length room → Packs a p after → Drops a room after (put (packed p) room) p.code
