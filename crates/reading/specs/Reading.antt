-- What was read: from one state to another the tokens read as a phrase says, no deeper than the limit, and the rooms have just the rows of that reading. The
-- symbols are the numbers in the top third of the scratch room, which stay; where one is absent, its row has no room.
use Rattle.std.specs.Prelude.{ℕ, ◌+◌, ◌≤◌, List, [], ◌≡◌}
use Rattle.grammar.specs.Edition.{edition}
use Rattle.grammar.specs.Handle.{Handle}
use Rattle.grammar.specs.Kaori.{Form, Table, kaori}
use Rattle.grammar.specs.Label.{Label}
use Rattle.grammar.specs.Phrase.{chain, Grammar, Tree, Aim, whole, begun, Reads, depth}
use Rattle.grammar.specs.Refusal.{Refused, refused, Refuses}
use Rattle.grammar.specs.Rows.{walk}
use Rattle.grammar.specs.Space.{Named}
use Rattle.grammar.specs.Token.{kind}
use Rattle.names.specs.Resolved.{names_of}
use Rattle.reading.specs.State.{State, written, held, space, Within, Rooms}
use Rattle.reading.specs.declared.Refusal.{Refusal}
use Rattle.reading.specs.declared.Terms.{Terms}

-- the refusals of an aim are those of its phrase
abbrev pub form : Aim Table Label → Form
form (whole p) = p
form (begun p n) = chain p n

abbrev pub refusal : Refusal → Refused
refusal q = refused q.code q.at q.expected

-- the tables of the edition that is named
abbrev pub tables : Terms → Grammar Table Label
tables terms = kaori (edition terms.edition)

module _ (ts : List ℕ) (terms : Terms) where
  -- from s to s', with o openings taken before: the first part made xs, and the rest ys
  pub record Reading (g : Aim Table Label) (o : ℕ) (s : State) (xs ys : List Handle) (s' : State) : Type 0 where
    pub tree : Tree Label
    pub reads : Reads (tables terms) (kind ts) g s.cursor.at s'.cursor.at tree
    pub fits : o + depth tree ≤ terms.limit
    pub named : Named (names_of ts s.scratch) tree
    pub rows : walk ts (names_of ts s.scratch) tree (written s) ≡ record { rows = written s'; first = xs; rest = ys }
    pub holds : s'.cursor.held ≡ s.cursor.held
    pub same : held s' ≡ held s
    pub rooms : Rooms s s'
    pub kept : names_of ts s'.scratch ≡ names_of ts s.scratch

  -- and what the next reader may count on
  pub record Success (g : Aim Table Label) (o : ℕ) (s : State) (hs : List Handle) (s' : State) : Type 0 where
    pub reading : Reading g o s hs [] s'
    pub within : Within ts s'
    pub past : s.cursor.at ≤ s'.cursor.at

  -- the phrase is refused from s on, with o openings taken before
  pub record Refusing (p : Form) (o : ℕ) (s : State) (q : Refused) : Type 0 where
    pub refuses : Refuses ts (names_of ts s.scratch) terms.limit (space s) (tables terms) (kind ts) p o s.cursor.at (written s) q
