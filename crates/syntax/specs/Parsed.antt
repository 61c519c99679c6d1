-- What a call answers, and what it leaves in the four rooms: the answer of a call, as the grammar's Answer.antt has it. Document 01, What comes in, what goes out.
use Rattle.std.specs.Prelude.{ℕ, ◌+◌, ◌*◌, ◌≤◌, ◌<◌, List, ◌≡◌, length, take}
use Rattle.builtins.specs.Known.{Known}
use Rattle.grammar.specs.Answer.{Answer, success, refuse, rooms_cleared, rooms_filled, Answers}
use Rattle.grammar.specs.Builtin.{Builtins}
use Rattle.grammar.specs.Call.{Call}
use Rattle.grammar.specs.Door.{Admitted}
use Rattle.grammar.specs.Edition.{edition as named-edition}
use Rattle.grammar.specs.Label.{Label}
use Rattle.grammar.specs.Naming.{OneTree}
use Rattle.grammar.specs.Parent.{parented}
use Rattle.grammar.specs.Phrase.{Tree, depth}
use Rattle.grammar.specs.Profile.{Profile, form, ReadsAll}
use Rattle.grammar.specs.Room.{Rooms, node_width, link_width, symbol_width}
use Rattle.grammar.specs.Rows.{Rows, unparented}
use Rattle.grammar.specs.Space.{Named}
use Rattle.grammar.specs.Token.{kind, count, start, end}
use Rattle.names.specs.Resolved.{names_of}
use Rattle.reading.specs.Clauses.{Slices, Lent}
use Rattle.reading.specs.Reading.{refusal, Refusing}
use Rattle.reading.specs.State.{State, state, written, Standing, Rooms as Same-rooms}
use Rattle.reading.specs.declared.Cursor.{Cursor}
use Rattle.reading.specs.declared.Read.{Read}
use Rattle.reading.specs.declared.Refusal.{Refusal}
use Rattle.reading.specs.declared.Terms.{Terms}
use Rattle.syntax.specs.declared.Numbers.{Numbers}

-- 'code, three row counts, at, start, end, expected'
abbrev pub numbers : Numbers → Answer
numbers r = record { code = r.code; nodes = r.nodes; links = r.links; symbols = r.symbols; at = r.at; start = r.start; end = r.end; expected = r.expected }

abbrev pub rooms : (nodes links symbols scratch : List ℕ) → Rooms
rooms ns ls ys ss = record { nodes = ns; links = ls; symbols = ys; scratch = ss }

abbrev pub call : Profile → (names : Builtins) (text ts : List ℕ) (edition limit : ℕ) → Rooms → Call
call p names text ts edition limit r = record { profile = p; names = names; text = text; tokens = ts; edition = edition; limit = limit; rooms = r }

-- the call of this profile with these names and rooms is answered so, and leaves the rooms so
pub record Parsed (p : Profile) (names : Builtins) (text ts : List ℕ) (edition limit : ℕ) (before after : Rooms) (r : Numbers) : Type 0 where
  pub answers : Answers (call p names text ts edition limit before) (numbers r) after

-- the call is let in, and its names have their index
pub record LetIn (p : Profile) (names : Builtins) (index text ts : List ℕ) (edition limit : ℕ) (before : Rooms) : Type 0 where
  pub admitted : Admitted (call p names text ts edition limit before)
  pub known : Known names index

-- the numbers of a refusal in reading
abbrev pub refused_numbers : (ts : List ℕ) → Refusal → Answer
refused_numbers ts q = refuse q.code q.at (start ts q.at) (end ts q.at) q.expected

-- a reading is refused: all rooms are zero throughout
pub record Cut (ts : List ℕ) (q : Refusal) (before after : Rooms) (r : Numbers) : Type 0 where
  pub numbers_are : numbers r ≡ refused_numbers ts q
  pub rooms_are : after ≡ rooms_cleared before

-- where reading begins: at the first token, and with no rows
abbrev pub begin : Cursor
begin = record { at = 0; nodes = 0; links = 0; held = 0 }

-- the whole list was read from there, from s to s': its rows stand in the rooms, but for their parents. The symbols are the numbers in the top third of the scratch room
pub record Completed (p : Profile) (ts : List ℕ) (terms : Terms) (s s' : State) : Type 0 where
  pub tree : Tree Label
  pub reads : ReadsAll p (named-edition terms.edition) (kind ts) (count ts) tree
  pub fits : depth tree ≤ terms.limit
  pub named : Named (names_of ts s.scratch) tree
  pub rows : unparented ts (names_of ts s.scratch) tree ≡ written s'
  pub rooms : Same-rooms s s'
  pub stands : Standing s'

unfoldable pub CompleteCase : Profile → (ts : List ℕ) (terms : Terms) → State → (nodes links scratch : List ℕ) → Read → Type 0
CompleteCase p ts terms s ns ls ss (Read.Node n c) = Completed p ts terms s (state ns ls ss c)
CompleteCase p ts terms s ns ls ss (Read.Refused q) = Refusing ts terms (form p) 0 s (refusal q)

pub record Completes (p : Profile) (ts : List ℕ) (terms : Terms) (s : State) (ns ls ss : List ℕ) (r : Read) : Type 0 where
  pub says : CompleteCase p ts terms s ns ls ss r

abbrev pub completes : Profile → (tokens : Slices) (nodes links scratch : Lent) (terms : Terms) → Read → Type 0
completes p ts ns ls ss terms r = Completes p ts.entry.now terms (state ns.entry.now ls.entry.now ss.entry.now begin) ns.exit.now ls.exit.now ss.exit.now r

-- the rows that a cursor counts, and the symbol rows, where so many are known
abbrev pub counted_rows : Cursor → Rooms → Rows
counted_rows c r = record { nodes = take (node_width * c.nodes) r.nodes; links = take (link_width * c.links) r.links }

abbrev pub known_rows : (known : ℕ) → Rooms → List ℕ
known_rows known r = take (symbol_width * known) r.symbols

-- they stand in the rooms, and are those of one tree
pub record AllThere (c : Cursor) (known : ℕ) (r : Rooms) : Type 0 where
  pub nodes : node_width * c.nodes ≤ length r.nodes
  pub links : link_width * c.links ≤ length r.links
  pub symbols : symbol_width * known ≤ length r.symbols
  pub few : c.nodes + c.links + known < 65536
  pub tree : OneTree (counted_rows c r)

-- the numbers of a reading that is whole, and its rows with their parents, then zeros to the end of each room
pub record Finished (c : Cursor) (known : ℕ) (before after : Rooms) (r : Numbers) : Type 0 where
  pub numbers_are : numbers r ≡ success (parented (counted_rows c before)) (known_rows known before)
  pub rooms_are : after ≡ rooms_filled (parented (counted_rows c before)) (known_rows known before) before
