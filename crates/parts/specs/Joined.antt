-- Two scripts as one. Document 02, L13: 'if two token lists are each accepted, and their joined texts and tokens, with one Eof, are within the limits and rooms at the same
-- depth limit, the joined list is accepted. Its rows are the first's without root, then the second's without root, with numbers and spans moved, then a root holding both
-- lists and the parent of their statements; link rows follow likewise, the two root lists last. Symbols are renumbered by first appearance, shared built-ins kept.'
use Rattle.std.specs.Prelude.{ℕ, zero, suc, ◌+◌, ◌-◌, ◌*◌, ◌≤◌, cond, List, [], ◌∷◌, ◌++◌, eqb, leb, length, take, drop}
use Rattle.grammar.specs.Builtin.{Builtins, built}
use Rattle.grammar.specs.Call.{Call}
use Rattle.grammar.specs.Door.{Roomy}
use Rattle.grammar.specs.Handle.{absent}
use Rattle.grammar.specs.Label.{Node, number_of}
use Rattle.grammar.specs.Naming.{height}
use Rattle.grammar.specs.Parent.{own, tenth}
use Rattle.grammar.specs.Room.{Rooms, node_width, link_width, symbol_width}
use Rattle.grammar.specs.Rows.{Rows}
use Rattle.grammar.specs.Symbol.{look_up, interned}
use Rattle.grammar.specs.Table.{word}
use Rattle.grammar.specs.Token.{count}
use Rattle.foreign.specs.Check.{link_count}
use Rattle.parts.specs.Moved.{Move, moved_nodes, moved_row, moved_links}
use Rattle.parts.specs.Packed.{root_row, root_first, statements}

-- tokens whose places are d further on in the text
unfoldable pub moved_tokens : (d : ℕ) → List ℕ → List ℕ
moved_tokens d [] = []
moved_tokens d (k ∷ []) = []
moved_tokens d (k ∷ s ∷ []) = []
moved_tokens d (k ∷ s ∷ e ∷ ts) = k ∷ (s + d) ∷ (e + d) ∷ moved_tokens d ts

-- the tokens of a list before its Eof
abbrev pub before_eof : List ℕ → List ℕ
before_eof ts = take (3 * (count ts - 1)) ts

-- both lists 'with one Eof', the second's; the first text has d bytes
unfoldable pub joined_tokens : (d : ℕ) (ts₁ ts₂ : List ℕ) → List ℕ
joined_tokens d ts₁ ts₂ = before_eof ts₁ ++ moved_tokens d ts₂

-- both scripts in one call: the texts one behind the other with nothing between, and all else as of the first
abbrev pub joined : (k₁ k₂ : Call) → Rooms → Call
joined k₁ k₂ rooms = record { profile = k₁.profile; names = k₁.names; text = k₁.text ++ k₂.text; tokens = joined_tokens (length k₁.text) k₁.tokens k₂.tokens; edition = k₁.edition; limit = k₁.limit; rooms = rooms }

-- places of a text, d further on
unfoldable pub moved_places : (d : ℕ) → List ℕ → List ℕ
moved_places d [] = []
moved_places d (x ∷ xs) = (x + d) ∷ moved_places d xs

-- symbol rows once each of these places has its word's: in their order, and none for a word that has one
unfoldable pub gathered : Builtins → (text places symbols : List ℕ) → List ℕ
gathered names text [] ss = ss
gathered names text (s ∷ []) ss = ss
gathered names text (s ∷ e ∷ ps) ss = gathered names text ps (interned names text s e ss)

-- of two texts with their symbol rows
module _ (names : Builtins) (text₁ text₂ ss₁ ss₂ : List ℕ) where
  -- the first's rows, built-in ones first, and then those of the second's own words that the first has not
  unfoldable pub joined_symbols : List ℕ
  joined_symbols = gathered names (text₁ ++ text₂) (moved_places (length text₁) (drop (symbol_width * built names) ss₂)) ss₁

  -- the new number of a symbol of the second: a built-in one's is its own, and any other has its word's
  unfoldable pub joined_symbol : ℕ → ℕ
  joined_symbol x = cond (leb (suc x) (built names)) x (look_up names (text₁ ++ text₂) (word text₂ ss₂ x) joined_symbols)

-- the first n rows of a script with their numbers moved, and the links of their lists
module _ (m : Move) (w : Rows) where
  unfoldable pub moved_upto : (n : ℕ) → List ℕ
  moved_upto zero = []
  moved_upto (suc i) = moved_upto i ++ moved_row m w i

  unfoldable pub moved_links_upto : (n : ℕ) → List ℕ
  moved_links_upto zero = []
  moved_links_upto (suc i) = moved_links_upto i ++ moved_links m w i

module _ (w₁ w₂ : Rows) where
  -- the joined root's row: behind both
  abbrev pub joined_root : ℕ
  joined_root = root_row w₁ + root_row w₂

  -- the first's rows stay as they are, but that the joined root is 'the parent of their statements'
  unfoldable pub front_rows : (n : ℕ) → List ℕ
  front_rows zero = []
  front_rows (suc i) = front_rows i ++ (own w₁ i ++ cond (eqb (tenth w₁ i) (root_row w₁)) joined_root (tenth w₁ i) ∷ [])

  -- the second's go where the first's root stood, their links where its list did, and their places d further on. So its root would go where the joined one is
  abbrev pub behind : (d : ℕ) (renamed : ℕ → ℕ) → Move
  behind d r = record { node = λ i. i + root_row w₁; first = λ l. l + root_first w₁; span = λ x. x + d; symbol = r }

  unfoldable pub joined_rows : (d : ℕ) (renamed : ℕ → ℕ) → Rows
  joined_rows d r = record {
    nodes = front_rows (root_row w₁) ++ (moved_upto (behind d r) w₂ (root_row w₂) ++ (number_of Node.Block ∷ 0 ∷ 0 ∷ (root_first w₁ + root_first w₂) ∷ (statements w₁ + statements w₂) ∷ absent ∷ 0 ∷ 0 ∷ 0 ∷ absent ∷ []));
    links = take (link_width * root_first w₁) w₁.links ++ (moved_links_upto (behind d r) w₂ (root_row w₂) ++ (drop (link_width * root_first w₁) w₁.links ++ moved_nodes (behind d r) (statements w₂) (drop (link_width * root_first w₂) w₂.links)));
  }

-- 'within the limits and rooms': the joined text and list, and the rows, one root less than of both, in each room
pub record Suffices (k : Call) (w₁ w₂ : Rows) (symbols : List ℕ) : Type 0 where
  pub few : count k.tokens ≤ 4096
  pub short : length k.text ≤ 65536
  pub roomy : Roomy k
  pub nodes : node_width * (height w₁ + height w₂ - 1) ≤ length k.rooms.nodes
  pub links : link_width * (link_count w₁ + link_count w₂) ≤ length k.rooms.links
  pub symbols_fit : length symbols ≤ length k.rooms.symbols
