-- What the door answers, in terms of the grammar's Door.antt. Document 01, Refusal numbers, in order of checking; document 02, L14: '21, after 3'; L9: '17, after 7'.
use Rattle.std.specs.Prelude.{ℕ, ◌*◌, ◌/◌, ◌≤◌, ◌<◌, cond, List, ◌≡◌, eqb, length, get_or, Option, MatchOption, Result, Ok, Err}
use Rattle.builtins.specs.Known.{Known}
use Rattle.grammar.specs.Answer.{Answer, refuse}
use Rattle.grammar.specs.Builtin.{Builtins, built, RightNames}
use Rattle.grammar.specs.Call.{Call}
use Rattle.grammar.specs.Door.{RightList, RightScratch, RightSymbols, RightEdition, Sound, Closed, Inside, Lent, Admitted, FirstWithout, TurnedAway}
use Rattle.grammar.specs.Profile.{Profile}
use Rattle.grammar.specs.Room.{Rooms, symbol_width}
use Rattle.grammar.specs.Token.{count, start, end}
use Rattle.door.specs.declared.Refusal.{Refusal}
use Rattle.door.specs.declared.wrong.Wrong.{Wrong}

-- a call is let in, or turned away
abbrev pub Entry : Type 0
Entry = Result (Unit {0}) Refusal

abbrev pub open_entry : Entry
open_entry = Ok tt

-- the code of what is wrong, and of a check: 0 where it finds nothing wrong
abbrev pub number_of : Wrong → ℕ
number_of Wrong.List = 1
number_of Wrong.Text = 2
number_of Wrong.Limit = 3
number_of Wrong.Room = 4
number_of Wrong.Byte = 5
number_of Wrong.Token = 6
number_of Wrong.Eof = 7
number_of Wrong.Outside = 17
number_of Wrong.Names = 18
number_of Wrong.Edition = 21

abbrev pub code_of : Result (Unit {0}) Wrong → ℕ
code_of (Ok u) = 0
code_of (Err w) = number_of w

-- the first place of n without what is asked of each, or none if each has it
abbrev pub Searched : (asked : ℕ → Type 0) (n : ℕ) → Option ℕ → Type 0
Searched asked n r = MatchOption r ((i : ℕ) → i < n → asked i) (λ i. FirstWithout asked n i)

-- r is the highest of the first n bytes of a text, or 0 where there is none
pub record Highest (text : List ℕ) (n r : ℕ) : Type 0 where
  pub most : (i : ℕ) → i < n → get_or text i 0 ≤ r
  pub there : 0 < r → (i : ℕ) × (i < n) × (get_or text i 0 ≡ r)

-- what the check whose turn it is asks of lengths, the edition and the limit alone
abbrev pub AsksLengths : (list text edition limit scratch turn : ℕ) → Type 0
AsksLengths list text edition limit scratch k =
    cond (eqb k 1) (RightList list)
    (cond (eqb k 2) (text ≤ 65536)
    (cond (eqb k 3) ((1 ≤ limit) × (limit ≤ 64))
    (cond (eqb k 4) (RightEdition edition)
    (cond (eqb k 5) (RightScratch (list / 3) scratch)
    (Unit {0})))))

-- the code of each of these checks: 1, 2, 3, 21, 4
abbrev pub lengths_code : (turn : ℕ) → ℕ
lengths_code k = cond (eqb k 4) 21 (cond (eqb k 5) 4 k)

-- the code of the first of these checks without what it asks, or 0 where there is none
pub data LengthsChecked (list text edition limit scratch : ℕ) : ℕ → Type 0 where
  wrong : {turn k : ℕ} → FirstWithout (AsksLengths list text edition limit scratch) 6 turn → k ≡ lengths_code turn → LengthsChecked list text edition limit scratch k
  right : ((turn : ℕ) → turn < 6 → AsksLengths list text edition limit scratch turn) → LengthsChecked list text edition limit scratch 0

-- the code of these, of 18 and of the 4 after it, whichever is first, or 0 where there is nothing wrong
pub data AdmitsCode (names : Builtins) (list text edition limit symbols scratch : ℕ) : ℕ → Type 0 where
  lengths : {k : ℕ} → LengthsChecked list text edition limit scratch k → (k ≡ 0 → ⊥) → AdmitsCode names list text edition limit symbols scratch k
  names : LengthsChecked list text edition limit scratch 0 → (RightNames names → ⊥) → AdmitsCode names list text edition limit symbols scratch 18
  names_room : LengthsChecked list text edition limit scratch 0 → RightNames names → symbols < symbol_width * built names → AdmitsCode names list text edition limit symbols scratch 4
  right : LengthsChecked list text edition limit scratch 0 → RightNames names → RightSymbols names symbols → AdmitsCode names list text edition limit symbols scratch 0

-- and the names' index, where there is nothing wrong
pub record Admits (names : Builtins) (list text edition limit symbols scratch : ℕ) (index : List ℕ) (r : ℕ) : Type 0 where
  pub code : AdmitsCode names list text edition limit symbols scratch r
  pub known : r ≡ 0 → Known names index

-- a refusal without a place, and one at token i
abbrev pub outright : (code : ℕ) → Refusal
outright code = record { code = code; at = 0; start = 0; end = 0 }

abbrev pub turned_at : (code : ℕ) (ts : List ℕ) → ℕ → Refusal
turned_at code ts i = record { code = code; at = i; start = start ts i; end = end ts i }

abbrev pub at_token : (code : ℕ) (ts : List ℕ) → ℕ → Entry
at_token code ts i = Err (turned_at code ts i)

-- check 17: the first token outside the profile, or none is
pub data ProfileChecked (p : Profile) (ts : List ℕ) : Entry → Type 0 where
  outside : {i : ℕ} → FirstWithout (Inside p ts) (count ts) i → ProfileChecked p ts (at_token 17 ts i)
  inside : ((i : ℕ) → i < count ts → Inside p ts i) → ProfileChecked p ts open_entry

-- checks 6, 7 and 17: the first token that is not sound, or then the first that is not closed, or all that is asked of text and list, and then of the profile
pub data ListChecked (p : Profile) (text ts : List ℕ) : Entry → Type 0 where
  unsound : {i : ℕ} → FirstWithout (Sound text ts) (count ts) i → ListChecked p text ts (at_token 6 ts i)
  unclosed : {i : ℕ} → ((j : ℕ) → j < count ts → Sound text ts j) → FirstWithout (Closed ts) (count ts) i → ListChecked p text ts (at_token 7 ts i)
  lent : {r : Entry} → Lent text ts → ProfileChecked p ts r → ListChecked p text ts r

-- the eight numbers of each case
abbrev pub entry_numbers : Entry → Answer
entry_numbers (Ok u) = refuse 0 0 0 0 255
entry_numbers (Err q) = refuse q.code q.at q.start q.end 255

-- a call is let in or turned away with these numbers
pub data Enters (c : Call) : Answer → Type 0 where
  let_in : Admitted c → Enters c (refuse 0 0 0 0 255)
  turned : {code at from upto : ℕ} → TurnedAway c code at from upto → Enters c (refuse code at from upto 255)

-- a refusal's code is never 0
abbrev pub Told : Entry → Type 0
Told (Ok u) = Unit {0}
Told (Err q) = 1 ≤ q.code

-- a call of this profile with these names, this text, list, edition and limit, and with symbol and scratch rooms of these lengths, enters so
pub record Entered (p : Profile) (names : Builtins) (text ts : List ℕ) (edition limit symbols scratch : ℕ) (r : Entry) : Type 0 where
  pub told : Told r
  pub says : (rooms : Rooms) → length rooms.symbols ≡ symbols → length rooms.scratch ≡ scratch → Enters (record { profile = p; names = names; text = text; tokens = ts; edition = edition; limit = limit; rooms = rooms }) (entry_numbers r)

-- and the names have their index, where it is let in
pub record Checked (p : Profile) (names : Builtins) (text ts : List ℕ) (edition limit symbols scratch : ℕ) (index : List ℕ) (r : Entry) : Type 0 where
  pub entered : Entered p names text ts edition limit symbols scratch r
  pub known : r ≡ open_entry → Known names index
