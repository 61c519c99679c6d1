-- What the readers answer.
use Rattle.std.specs.Prelude.{ℕ, ◌+◌, ◌≤◌, cond, List, [], ◌∷◌, ◌++◌, ◌≡◌, length}
use Rattle.ast.specs.declared.Node.{Node}
use Rattle.grammar.specs.Handle.{Handle, row, is_tail, block_tail, block_list}
use Rattle.grammar.specs.Kaori.{Table, statement, block_items}
use Rattle.grammar.specs.Label.{Label}
use Rattle.grammar.specs.Phrase.{empty, choice, chain, Aim, whole}
use Rattle.grammar.specs.Rows.{links_of}
use Rattle.grammar.specs.Token.{kind, start, end}
use Rattle.reading.specs.Reading.{form, refusal, Reading, Success, Refusing}
use Rattle.reading.specs.State.{State, state, held, Within}
use Rattle.reading.specs.declared.Cursor.{Cursor}
use Rattle.reading.specs.declared.Read.{Read}
use Rattle.reading.specs.declared.Terms.{Terms}

-- one token further
abbrev pub next : Cursor → Cursor
next c = record { at = c.at + 1; nodes = c.nodes; links = c.links; held = c.held }

-- what a reader's node stands for
abbrev pub node_of : Node → Handle
node_of n = Handle.node n.id n.start n.end

abbrev pub name_of : Node → Handle
name_of n = Handle.name n.id n.start n.end

abbrev pub entry_of : Node → Handle
entry_of n = Handle.entry n.id n.start

-- the node of a list, whose items are held: it says nothing
abbrev pub blank : Node
blank = record { id = 0; start = 0; end = 0 }

-- a handle if it is a tail
abbrev pub tail_of : Handle → Handle
tail_of h = cond (is_tail h) h Handle.other

-- a state with so much held
abbrev pub holding : ℕ → State → State
holding k s = state s.nodes s.links s.scratch (record { at = s.cursor.at; nodes = s.cursor.nodes; links = s.cursor.links; held = k })

-- a token of a certain kind was taken, or it was missing
unfoldable pub Took : List ℕ → Cursor → ℕ → Read → Type 0
Took ts c x (Read.Node n d) = (kind ts c.at ≡ x) × (n ≡ record { id = 0; start = start ts c.at; end = end ts c.at }) × (d ≡ next c)
Took ts c x (Read.Refused q) = (kind ts c.at ≡ x → ⊥) × (q ≡ record { code = 8; at = c.at; expected = x })

pub record Consumed (ts : List ℕ) (c : Cursor) (x : ℕ) (r : Read) : Type 0 where
  pub says : Took ts c x r

module _ (ts : List ℕ) (terms : Terms) where
  unfoldable pub AnswerCase : (Node → Handle) → Aim Table Label → ℕ → State → (nodes links scratch : List ℕ) → Read → Type 0
  AnswerCase h g o s ns ls ss (Read.Node n c) = Success ts terms g o s (h n ∷ []) (state ns ls ss c)
  AnswerCase h g o s ns ls ss (Read.Refused q) = Refusing ts terms (form g) o s (refusal q)

  -- from s, with o openings taken, the aim is answered by r, and the rooms are these then
  pub record Answered (h : Node → Handle) (g : Aim Table Label) (o : ℕ) (s : State) (ns ls ss : List ℕ) (r : Read) : Type 0 where
    pub says : AnswerCase h g o s ns ls ss r

  -- items were read, and are held
  pub record Listed (g : Aim Table Label) (o : ℕ) (s s₁ : State) : Type 0 where
    pub items : List Handle
    pub reading : Reading ts terms g o s items [] (holding s.cursor.held s₁)
    pub count : s₁.cursor.held ≡ s.cursor.held + length items
    pub rows : held s₁ ≡ held s ++ links_of items
    pub within : Within ts s₁
    pub past : s.cursor.at ≤ s₁.cursor.at

  unfoldable pub ListCase : Aim Table Label → ℕ → State → (nodes links scratch : List ℕ) → Read → Type 0
  ListCase g o s ns ls ss (Read.Node n c) = (n ≡ blank) × Listed g o s (state ns ls ss c)
  ListCase g o s ns ls ss (Read.Refused q) = Refusing ts terms (form g) o s (refusal q)

  pub record Lists (g : Aim Table Label) (o : ℕ) (s : State) (ns ls ss : List ℕ) (r : Read) : Type 0 where
    pub says : ListCase g o s ns ls ss r

  -- a block's statements were read: n has the tail's row, or absent, and the others are held
  pub record Filled (o : ℕ) (s : State) (n : Node) (s₁ : State) : Type 0 where
    pub items : List Handle
    pub reading : Reading ts terms (whole (chain empty block_items)) o s items [] (holding s.cursor.held s₁)
    pub tail : n.id ≡ row (block_tail items)
    pub start_is : n.start ≡ 0
    pub end_is : n.end ≡ 0
    pub count : s₁.cursor.held ≡ s.cursor.held + length (block_list items)
    pub rows : held s₁ ≡ held s ++ links_of (block_list items)
    pub within : Within ts s₁
    pub past : s.cursor.at ≤ s₁.cursor.at

  unfoldable pub FillCase : ℕ → State → (nodes links scratch : List ℕ) → Read → Type 0
  FillCase o s ns ls ss (Read.Node n c) = Filled o s n (state ns ls ss c)
  FillCase o s ns ls ss (Read.Refused q) = Refusing ts terms (chain empty block_items) o s (refusal q)

  pub record Fills (o : ℕ) (s : State) (ns ls ss : List ℕ) (r : Read) : Type 0 where
    pub says : FillCase o s ns ls ss r

  -- a statement was read: n has its row, and at its end the row once more if it may be a tail
  pub record Stated (o : ℕ) (s : State) (n : Node) (s' : State) : Type 0 where
    pub handle : Handle
    pub row_is : row handle ≡ n.id
    pub start_is : n.start ≡ 0
    pub tail_is : row (tail_of handle) ≡ n.end
    pub success : Success ts terms (whole (choice statement)) o s (handle ∷ []) s'

  unfoldable pub StateCase : ℕ → State → (nodes links scratch : List ℕ) → Read → Type 0
  StateCase o s ns ls ss (Read.Node n c) = Stated o s n (state ns ls ss c)
  StateCase o s ns ls ss (Read.Refused q) = Refusing ts terms (choice statement) o s (refusal q)

  pub record States (o : ℕ) (s : State) (ns ls ss : List ℕ) (r : Read) : Type 0 where
    pub says : StateCase o s ns ls ss r
