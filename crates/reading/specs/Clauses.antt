-- The readers' contracts, by the names of their parameters: a lent room is one thing at entry and another at exit.
use Rattle.std.specs.Prelude.{ℕ, List}
use Rattle.std.specs.Borrow.{Bor, MutBor}
use denote.Triple.Both.{Both}
use Rattle.ast.specs.declared.Node.{Node}
use Rattle.grammar.specs.Handle.{Handle}
use Rattle.grammar.specs.Kaori.{Form, Table, calls}
use Rattle.grammar.specs.Label.{Label}
use Rattle.grammar.specs.Phrase.{chain, Aim, whole, begun}
use Rattle.reading.specs.Answers.{Answered, Lists, Fills, States}
use Rattle.reading.specs.Chains.{Onward}
use Rattle.reading.specs.State.{State, state, Ready, Opened}
use Rattle.reading.specs.declared.Cursor.{Cursor}
use Rattle.reading.specs.declared.Read.{Read}
use Rattle.reading.specs.declared.Terms.{Terms}

-- a list of numbers that is lent to be read, and one that is lent to be written; and each of them as it was and as it is left
abbrev pub Slice : Type 0
Slice = Bor (List ℕ)

abbrev pub Room : Type 0
Room = MutBor (List ℕ)

abbrev pub Slices : Type 0
Slices = Both Slice Slice

abbrev pub Lent : Type 0
Lent = Both Room Room

-- what a reader asks, and a reader of a list
abbrev pub ready : (tokens : Slice) (nodes links scratch : Room) (terms : Terms) (depth : ℕ) (cur : Cursor) → Type 0
ready ts ns ls ss terms depth cur = Ready ts.now terms depth (state ns.now ls.now ss.now cur)

abbrev pub opened : (tokens : Slice) (nodes links scratch : Room) (terms : Terms) (depth : ℕ) (cur : Cursor) → Type 0
opened ts ns ls ss terms depth cur = Opened ts.now terms depth (state ns.now ls.now ss.now cur)

-- where it began
abbrev pub entry : (nodes links scratch : Lent) → Cursor → State
entry ns ls ss cur = state ns.entry.now ls.entry.now ss.entry.now cur

-- calls and dots after a form, as far as they are read, and all of them
abbrev pub called : Form → Aim Table Label
called p = begun p calls

abbrev pub all_called : Form → Aim Table Label
all_called p = whole (chain p calls)

-- what it answers: a node, a name or an entry; a list; a block's statements; a statement; calls and dots after a node, whatever its form, as far as a token
abbrev pub answered : (Node → Handle) → Aim Table Label → (tokens : Slices) (nodes links scratch : Lent) (terms : Terms) (depth : ℕ) (cur : Cursor) → Read → Type 0
answered h g ts ns ls ss terms depth cur r = Answered ts.entry.now terms h g depth (entry ns ls ss cur) ns.exit.now ls.exit.now ss.exit.now r

abbrev pub lists : Aim Table Label → (tokens : Slices) (nodes links scratch : Lent) (terms : Terms) (depth : ℕ) (cur : Cursor) → Read → Type 0
lists g ts ns ls ss terms depth cur r = Lists ts.entry.now terms g depth (entry ns ls ss cur) ns.exit.now ls.exit.now ss.exit.now r

abbrev pub fills : (tokens : Slices) (nodes links scratch : Lent) (terms : Terms) (depth : ℕ) (cur : Cursor) → Read → Type 0
fills ts ns ls ss terms depth cur r = Fills ts.entry.now terms depth (entry ns ls ss cur) ns.exit.now ls.exit.now ss.exit.now r

abbrev pub states : (tokens : Slices) (nodes links scratch : Lent) (terms : Terms) (depth : ℕ) (cur : Cursor) → Read → Type 0
states ts ns ls ss terms depth cur r = States ts.entry.now terms depth (entry ns ls ss cur) ns.exit.now ls.exit.now ss.exit.now r

abbrev pub onward : (Form → Aim Table Label) → (from : Node) (upto : ℕ) → (tokens : Slices) (nodes links scratch : Lent) (terms : Terms) (depth : ℕ) (cur : Cursor) → Read → Type 0
onward g n a ts ns ls ss terms depth cur r = (p : Form) → Onward ts.entry.now terms p calls (g p) depth (entry ns ls ss cur) n a ns.exit.now ls.exit.now ss.exit.now r
