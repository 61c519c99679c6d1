-- A station's scripts in one call. Document 02, L7: 'Take them together, as one joined text and one joined token list with a list of cuts (each script's end in the text and
-- in the list's numbers; the first starts at 0), spans counted within each script, the rooms cut into equal parts of a stated number of rows each, and give one answer each.
-- Answer and part equal those of the single call on that script with that part, also where a neighbour is refused.'
use Rattle.std.specs.Prelude.{ℕ, zero, suc, ◌+◌, ◌-◌, ◌*◌, ◌/◌, ◌≤◌, ◌<◌, List, [], ◌∷◌, ◌≡◌, length, get_or, take, drop}
use Rattle.grammar.specs.Builtin.{Builtins}
use Rattle.grammar.specs.Profile.{script}
use Rattle.grammar.specs.Room.{Rooms, node_width, link_width, symbol_width, scratch_width}
use Rattle.reader.specs.Answered.{Read}
use Rattle.syntax.specs.Parsed.{rooms, Parsed}
use Rattle.syntax.specs.declared.Numbers.{Numbers}

-- what a call may write to: the joined token list, which is a room where the token maker makes the lists; the four rooms; and the room for the answers
pub record Lent : Type 0 where
  pub list : List ℕ
  pub rooms : Rooms
  pub answers : List ℕ

-- what comes in: `rows` is how many rows a part of each room has
pub record Joined : Type 0 where
  pub names : Builtins
  pub text : List ℕ
  pub cuts : List ℕ
  pub edition : ℕ
  pub limit : ℕ
  pub rows : ℕ
  pub lent : Lent

-- a script has two cuts: where it ends in the text, and where in the list's numbers
abbrev pub of_text : ℕ
of_text = 0

abbrev pub of_list : ℕ
of_list = 1

-- 'each script's end in the text and in the list's numbers; the first starts at 0', and every other one where the one before it ends
abbrev pub cut_end : (cuts : List ℕ) (side i : ℕ) → ℕ
cut_end cuts side i = get_or cuts (2 * i + side) 0

unfoldable pub cut_start : (cuts : List ℕ) (side i : ℕ) → ℕ
cut_start cuts side zero = 0
cut_start cuts side (suc i) = cut_end cuts side i

-- how many scripts there are
abbrev pub scripts : (cuts : List ℕ) → ℕ
scripts cuts = length cuts / 2

-- the numbers of an answer
abbrev pub answer_width : ℕ
answer_width = 8

-- no cut of a side goes back, or past the end of a text or a list of this length
pub record Forward (cuts : List ℕ) (side long : ℕ) : Type 0 where
  pub forth : {i : ℕ} → i < scripts cuts → cut_start cuts side i ≤ cut_end cuts side i
  pub within : {i : ℕ} → i < scripts cuts → cut_end cuts side i ≤ long

pub record RightCuts (cuts : List ℕ) (text list : ℕ) : Type 0 where
  pub some : 1 ≤ scripts cuts
  pub few : scripts cuts ≤ 32
  pub even : length cuts ≡ 2 * scripts cuts
  pub text_cuts : Forward cuts of_text text
  pub list_cuts : Forward cuts of_list list

-- n parts of so many rows fit rooms of these lengths, and n answers theirs
pub record RoomFor (n rows nodes links symbols scratch answers : ℕ) : Type 0 where
  pub nodes_fit : node_width * (rows * n) ≤ nodes
  pub links_fit : link_width * (rows * n) ≤ links
  pub symbols_fit : symbol_width * (rows * n) ≤ symbols
  pub scratch_fit : scratch_width * (rows * n) ≤ scratch
  pub answers_fit : answer_width * n ≤ answers

-- none of '0 or more than 32 scripts, an odd list of cuts, a cut that goes back or past an end, or rooms smaller than the parts need'
pub record Fits (j : Joined) : Type 0 where
  pub cuts_right : RightCuts j.cuts (length j.text) (length j.lent.list)
  pub room : RoomFor (scripts j.cuts) j.rows (length j.lent.rooms.nodes) (length j.lent.rooms.links) (length j.lent.rooms.symbols) (length j.lent.rooms.scratch) (length j.lent.answers)

-- the numbers from place s up to place e
abbrev pub part : (s e : ℕ) → List ℕ → List ℕ
part s e xs = take (e - s) (drop s xs)

-- of script i: its text, its list or the room for it, and its part of each room
abbrev pub cut_part : (cuts : List ℕ) (side i : ℕ) → List ℕ → List ℕ
cut_part cuts side i xs = part (cut_start cuts side i) (cut_end cuts side i) xs

abbrev pub row_part : (width rows i : ℕ) → List ℕ → List ℕ
row_part width rows i xs = part (width * (rows * i)) (width * (rows * (i + 1))) xs

abbrev pub text_of : Joined → (i : ℕ) → List ℕ
text_of j i = cut_part j.cuts of_text i j.text

abbrev pub list_of : Joined → (i : ℕ) → Lent → List ℕ
list_of j i l = cut_part j.cuts of_list i l.list

abbrev pub rooms_of : Joined → (i : ℕ) → Lent → Rooms
rooms_of j i l = rooms (row_part node_width j.rows i l.rooms.nodes) (row_part link_width j.rows i l.rooms.links) (row_part symbol_width j.rows i l.rooms.symbols) (row_part scratch_width j.rows i l.rooms.scratch)

-- where its answer stands
abbrev pub answer_at : (i : ℕ) → Lent → List ℕ
answer_at i l = part (answer_width * i) (answer_width * (i + 1)) l.answers

-- 'code, three row counts, at, start, end, expected'
abbrev pub listed : Numbers → List ℕ
listed a = a.code ∷ a.nodes ∷ a.links ∷ a.symbols ∷ a.at ∷ a.start ∷ a.end ∷ a.expected ∷ []

-- the token lists are given, or the token maker makes them
pub data Source : Type 0 where
  given : Source
  made : Source

-- the single call on a text, with a list or a room for it, and rooms: what it leaves in these, and its answer
pub data Single (names : Builtins) (text : List ℕ) (edition limit : ℕ) (list : List ℕ) (before : Rooms) : Source → List ℕ → Rooms → Numbers → Type 0 where
  parsed : {after : Rooms} {a : Numbers} → Parsed script names text list edition limit before after a → Single names text edition limit list before Source.given list after a
  read : {list' : List ℕ} {after : Rooms} {a : Numbers} → Read script names text edition limit list list' before after a → Single names text edition limit list before Source.made list' after a

-- 'Answer and part equal those of the single call on that script with that part'
pub record Answered (s : Source) (j : Joined) (i : ℕ) (after : Lent) : Type 0 where
  pub answer : Numbers
  pub stands : answer_at i after ≡ listed answer
  pub single : Single j.names (text_of j i) j.edition j.limit (list_of j i j.lent) (rooms_of j i j.lent) s (list_of j i after) (rooms_of j i after) answer

-- 'Numbers past the parts stay': from place k on a room is as it was
pub record Kept (k : ℕ) (before after : List ℕ) : Type 0 where
  pub same : drop k after ≡ drop k before

-- of the parts of n scripts
pub record Past (cuts : List ℕ) (rows n : ℕ) (before after : Lent) : Type 0 where
  pub list : Kept (cut_start cuts of_list n) before.list after.list
  pub nodes : Kept (node_width * (rows * n)) before.rooms.nodes after.rooms.nodes
  pub links : Kept (link_width * (rows * n)) before.rooms.links after.rooms.links
  pub symbols : Kept (symbol_width * (rows * n)) before.rooms.symbols after.rooms.symbols
  pub scratch : Kept (scratch_width * (rows * n)) before.rooms.scratch after.rooms.scratch
  pub answers : Kept (answer_width * n) before.answers after.answers

-- the first n scripts are answered, and past their parts everything is as it was
pub record First (s : Source) (j : Joined) (n : ℕ) (after : Lent) : Type 0 where
  pub each : {i : ℕ} → i < n → Answered s j i after
  pub past : Past j.cuts j.rows n j.lent after

-- the code of a call, and what it leaves: 19 'before all', and 'nothing is changed then'
pub data AnswersAll (s : Source) (j : Joined) : (code : ℕ) → Lent → Type 0 where
  turned_away : (Fits j → ⊥) → AnswersAll s j 19 j.lent
  answered : {after : Lent} → Fits j → First s j (scripts j.cuts) after → AnswersAll s j 0 after

-- as the code has them
abbrev pub lent : (list nodes links symbols scratch answers : List ℕ) → Lent
lent list ns ls ys ss answers = record { list = list; rooms = rooms ns ls ys ss; answers = answers }

abbrev pub joined : Builtins → (text cuts : List ℕ) (edition limit rows : ℕ) → Lent → Joined
joined names text cuts edition limit rows l = record { names = names; text = text; cuts = cuts; edition = edition; limit = limit; rows = rows; lent = l }
