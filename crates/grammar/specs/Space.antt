-- Whether rows fit the rooms that are lent for them, and at which token a node's do not. Document 02, L6: 'Node, link and symbol rooms may be of any size'.
use Rattle.std.specs.Prelude.{ℕ, ◌≤◌, ◌<◌, Bool, true, false, ◌||◌, ◌≡◌, eqb, length}
use Rattle.grammar.specs.Handle.{absent}
use Rattle.grammar.specs.Label.{Node, Label, number_of}
use Rattle.grammar.specs.Phrase.{Tree, none, more, deeper, made}
use Rattle.grammar.specs.Room.{Rooms}
use Rattle.grammar.specs.Rows.{Rows}

-- how many numbers the node and link rooms hold. Rows are written whole, so numbers left over at a room's end are never used
pub record Space : Type 0 where
  pub nodes : ℕ
  pub links : ℕ

abbrev pub space_of : Rooms → Space
space_of r = record { nodes = length r.nodes; links = length r.links }

-- these rows fit
pub record Enough (space : Space) (w : Rows) : Type 0 where
  pub nodes : length w.nodes ≤ space.nodes
  pub links : length w.links ≤ space.links

-- a name, an identifier and a string have a word: it is their one token's
unfoldable pub has_word : Label → Bool
has_word (Label.Row n) = eqb (number_of n) (number_of Node.Identifier) || eqb (number_of n) (number_of Node.String)
has_word Label.Script = false
has_word Label.Ended = false
has_word Label.Item = false
has_word Label.Entry = false
has_word Label.Name = true

-- `symbol i` is the symbol of token i's word, or absent where its row does not fit
module _ (symbol : ℕ → ℕ) where
  -- a node that starts at token a and has a word has its symbol; and so has every node of a tree
  abbrev pub Worded : Label → (a : ℕ) → Type 0
  Worded f a = has_word f ≡ true → symbol a ≡ absent → ⊥

  unfoldable pub Named : Tree Label → Type 0
  Named none = Unit {0}
  Named (more t u) = Named t × Named u
  Named (deeper t) = Named t
  Named (made f a b t) = Named t × Worded f a

  -- a node of the tokens from a up to b, after which the rows are w, does not fit, and this is met at the last number's token:
  -- 'a symbol row at its name or string token, a node's link rows and then its own row at the token after the node's last one'
  pub data Lacks (space : Space) (f : Label) (a b : ℕ) (w : Rows) : ℕ → Type 0 where
    word : has_word f ≡ true → symbol a ≡ absent → Lacks space f a b w a
    link : Worded f a → space.links < length w.links → Lacks space f a b w b
    row : Worded f a → length w.links ≤ space.links → space.nodes < length w.nodes → Lacks space f a b w b
