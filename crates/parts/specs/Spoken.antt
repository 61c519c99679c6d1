-- What rows say, with no text at hand: the names and strings of a row and of all that it names, in the order of its slots, which is the order of the text.
-- Document 01, Rows: symbols are 'numbered by first appearance'; so L12 finds first appearances.
use Rattle.std.specs.Prelude.{ℕ, zero, suc, ◌+◌, ◌-◌, ◌*◌, min, cond, List, [], ◌∷◌, ◌++◌, eqb, get_or, drop}
use Rattle.grammar.specs.Handle.{absent}
use Rattle.grammar.specs.Layout.{Slot, below, child, option, symbol, name, nodes, names, entries}
use Rattle.grammar.specs.Parent.{own}
use Rattle.grammar.specs.Pattern.{among}
use Rattle.grammar.specs.Room.{link_width}
use Rattle.grammar.specs.Rows.{Rows}
use Rattle.parts.specs.Moved.{slots_of}

-- a symbol, and where it stands in the text
pub record Word : Type 0 where
  pub symbol : ℕ
  pub from : ℕ
  pub upto : ℕ

abbrev pub said : (symbol from upto : ℕ) → Word
said x s e = record { symbol = x; from = s; upto = e }

-- what a row holds: a word, or a row, which may be absent
pub data Part : Type 0 where
  word : Word → Part
  row : ℕ → Part

-- of so many link rows: (node, 0, 0), (N) or (key, value, 0)
unfoldable pub node_parts : (count : ℕ) (links : List ℕ) → List Part
node_parts zero ls = []
node_parts (suc n) ls = row (get_or ls 0 0) ∷ node_parts n (drop link_width ls)

unfoldable pub name_parts : (count : ℕ) (links : List ℕ) → List Part
name_parts zero ls = []
name_parts (suc n) ls = word (said (get_or ls 0 0) (get_or ls 1 0) (get_or ls 2 0)) ∷ name_parts n (drop link_width ls)

unfoldable pub entry_parts : (count : ℕ) (links : List ℕ) → List Part
entry_parts zero ls = []
entry_parts (suc n) ls = row (get_or ls 0 0) ∷ row (get_or ls 1 0) ∷ entry_parts n (drop link_width ls)

-- where a string's inside starts and ends: its span without the quotes. A foreign row's span may have no room for them: then it stays within what a number can be
abbrev pub inside_from : (from : ℕ) → ℕ
inside_from s = min (s + 1) 4294967295

abbrev pub inside_upto : (upto : ℕ) → ℕ
inside_upto e = e - 1

-- of a row with the span s, e and these numbers after it
unfoldable pub parts : (links : List ℕ) → List Slot → (s e : ℕ) (xs : List ℕ) → List Part
parts ls [] s e xs = []
parts ls (below n ∷ ss) s e xs = parts ls ss s e (drop 1 xs)
parts ls (child ∷ ss) s e xs = row (get_or xs 0 0) ∷ parts ls ss s e (drop 1 xs)
parts ls (option ∷ ss) s e xs = row (get_or xs 0 0) ∷ parts ls ss s e (drop 1 xs)
parts ls (symbol ∷ ss) s e xs = word (said (get_or xs 0 0) (inside_from s) (inside_upto e)) ∷ parts ls ss s e (drop 1 xs)
parts ls (name ∷ ss) s e xs = word (said (get_or xs 0 0) (get_or xs 1 0) (get_or xs 2 0)) ∷ parts ls ss s e (drop 3 xs)
parts ls (nodes ∷ ss) s e xs = node_parts (get_or xs 1 0) (drop (link_width * get_or xs 0 0) ls) ++ parts ls ss s e (drop 2 xs)
parts ls (names ∷ ss) s e xs = name_parts (get_or xs 1 0) (drop (link_width * get_or xs 0 0) ls) ++ parts ls ss s e (drop 2 xs)
parts ls (entries ∷ ss) s e xs = entry_parts (get_or xs 1 0) (drop (link_width * get_or xs 0 0) ls) ++ parts ls ss s e (drop 2 xs)

unfoldable pub parts_of : Rows → (row : ℕ) → List Part
parts_of w i = parts w.links (slots_of w i) (get_or (own w i) 1 0) (get_or (own w i) 2 0) (drop 3 (own w i))

-- the words of parts, where a row has these
unfoldable pub words : (ℕ → List Word) → List Part → List Word
words f [] = []
words f (word x ∷ ps) = x ∷ words f ps
words f (row i ∷ ps) = cond (eqb i absent) [] (f i) ++ words f ps

-- the words of row i and of all below it, going so deep
unfoldable pub spoken : Rows → (deep i : ℕ) → List Word
spoken w zero i = []
spoken w (suc d) i = words (spoken w d) (parts_of w i)

-- symbols in the order in which they are first said, after those that are known; and the first places of those that are not
unfoldable pub heard : List Word → (known : List ℕ) → List ℕ
heard [] ks = ks
heard (x ∷ xs) ks = heard xs (cond (among ks x.symbol) ks (ks ++ (x.symbol ∷ [])))

unfoldable pub first_places : List Word → (known : List ℕ) → List ℕ
first_places [] ks = []
first_places (x ∷ xs) ks = cond (among ks x.symbol) (first_places xs ks) (x.from ∷ x.upto ∷ first_places xs (ks ++ (x.symbol ∷ [])))
