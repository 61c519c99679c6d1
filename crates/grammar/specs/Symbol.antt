-- The symbols of a token list, from its tokens, the text and the built-in names alone: no reading is needed. Document 01, Rows: 'Symbols: numbered by first
-- appearance, from 0; an identifier and a string's inside share one table; the row is the first place'. Document 02, L10: built-in names 'are symbols 0 onward, and
-- script names follow', as of 'an interner given the built-ins first'.
use Rattle.std.specs.Prelude.{ℕ, zero, suc, ◌+◌, ◌-◌, ◌*◌, ◌/◌, Bool, true, false, cond, not, ◌&&◌, ◌||◌, List, [], ◌∷◌, ◌++◌, eqb, leb, length, drop}
use Rattle.grammar.specs.Builtin.{Builtins, built, built_rows}
use Rattle.grammar.specs.Handle.{absent}
use Rattle.grammar.specs.Kind.{StringLiteral, Identifier}
use Rattle.grammar.specs.Room.{symbol_width}
use Rattle.grammar.specs.Token.{kind, start, end, lexeme}

unfoldable pub same : List ℕ → List ℕ → Bool
same [] [] = true
same [] (y ∷ ys) = false
same (x ∷ xs) [] = false
same (x ∷ xs) (y ∷ ys) = eqb x y && same xs ys

-- which of these rows has this word, or how many they are: how many stand before it
unfoldable pub seek : (text word rows : List ℕ) → ℕ
seek text x [] = 0
seek text x (s ∷ []) = 0
seek text x (s ∷ e ∷ ss) = cond (same x (lexeme text s e)) 0 (suc (seek text x ss))

module _ (names : Builtins) (text : List ℕ) where
  -- the symbol of a word, or the number of all of them: the built-in names are looked through first, and then the rows behind theirs, which are the script's
  unfoldable pub look_up : (word symbols : List ℕ) → ℕ
  look_up x ss =
      let i = seek names.text x names.rows in
      cond (eqb i (built names)) (built names + seek text x (drop (symbol_width * built names) ss)) i

  -- the symbol rows once this part of the text has one: its first place
  unfoldable pub interned : (s e : ℕ) (symbols : List ℕ) → List ℕ
  interned s e ss = cond (eqb (look_up (lexeme text s e) ss) (length ss / symbol_width)) (ss ++ (s ∷ e ∷ [])) ss

module _ (ts : List ℕ) where
  -- an identifier and a string have a word
  abbrev pub is_name : ℕ → Bool
  is_name i = eqb (kind ts i) Identifier || eqb (kind ts i) StringLiteral

  -- where the word starts and ends: a string's is its inside, between the quotes
  abbrev pub quote : ℕ → ℕ
  quote i = cond (eqb (kind ts i) StringLiteral) 1 0

  abbrev pub word_start : ℕ → ℕ
  word_start i = start ts i + quote i

  abbrev pub word_end : ℕ → ℕ
  word_end i = end ts i - quote i

module _ (names : Builtins) (text ts : List ℕ) where
  -- the symbol rows of the built-in names and of the words of the first n tokens
  unfoldable pub symbol_rows : ℕ → List ℕ
  symbol_rows zero = built_rows names
  symbol_rows (suc n) = cond (is_name ts n) (interned names text (word_start ts n) (word_end ts n) (symbol_rows n)) (symbol_rows n)

  -- the symbol of token i's word: its row among those of the tokens before it, or the next. A token that has no word has 0
  unfoldable pub symbol : ℕ → ℕ
  symbol i = cond (is_name ts i) (look_up names text (lexeme text (word_start ts i) (word_end ts i)) (symbol_rows i)) 0

  -- and in a room of so many numbers: absent from the first word on whose row does not fit
  unfoldable pub symbol_in : (room : ℕ) → ℕ → ℕ
  symbol_in room i = cond (is_name ts i && not (leb (length (symbol_rows (suc i))) room)) absent (symbol i)
