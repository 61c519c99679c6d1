-- What is asked of the pass over the tokens that finds the symbols, and what it leaves. Document 01, Rows: 'Symbols: numbered by first appearance, from 0'; document
-- 02, L10: built-in names 'are symbols 0 onward, and script names follow'.
use Rattle.std.specs.Prelude.{ℕ, suc, ◌+◌, ◌*◌, ◌≤◌, ◌<◌, cond, List, ◌++◌, ◌≡◌, length, get_or, take, drop, Option, IfSome}
use Rattle.builtins.specs.Known.{Known}
use Rattle.grammar.specs.Builtin.{Builtins, built, built_rows}
use Rattle.grammar.specs.Door.{Whole, Sound, RightSymbols}
use Rattle.grammar.specs.Handle.{absent}
use Rattle.grammar.specs.Room.{symbol_width, scratch_width}
use Rattle.grammar.specs.Symbol.{look_up, interned, is_name, symbol_rows, symbol_in}
use Rattle.grammar.specs.Token.{count, lexeme}
use Rattle.interner.specs.Interns.{used, symbol_of, count_of, Indexed, Ready}
use Rattle.interner.specs.declared.Interned.{Interned}

-- what the door gives: of the built-in names with their index, of the text and the tokens, and of the scratch room
pub record Open (names : Builtins) (index text ts scratch : List ℕ) : Type 0 where
  pub built_in : Known names index
  pub whole : Whole ts
  pub sound : (i : ℕ) → i < count ts → Sound text ts i
  pub scratch_room : scratch_width * count ts ≤ length scratch

-- and the built-in rows fit the symbol room
pub record Fitting (names : Builtins) (index text ts symbols scratch : List ℕ) : Type 0 where
  pub opened : Open names index text ts scratch
  pub names_fit : RightSymbols names (length symbols)

-- the rows in use, where `own` is the symbol room behind the built-in rows: these, and the script's own
abbrev pub rows_of : (names : Builtins) (known : ℕ) (own : List ℕ) → List ℕ
rows_of names known own = built_rows names ++ used known own

-- how many numbers the whole room has
abbrev pub room_of : (names : Builtins) (own : List ℕ) → ℕ
room_of names own = symbol_width * built names + length own

-- what is asked of a word's place
pub record Free (names : Builtins) (built-count : ℕ) (index text : List ℕ) (start end size known : ℕ) (own scratch : List ℕ) : Type 0 where
  pub built_is : built-count ≡ built names
  pub built_in : Known names index
  pub ready : Ready text start end built-count size known own scratch

-- a word has its symbol, absent where its row does not fit, and then it is None; where it fits, it has a row. The rows have their index; what is beyond it in the scratch room is as it
-- was, and the rooms are as long as they were
pub record LookedUp (names : Builtins) (text : List ℕ) (start end size known : ℕ) (own₀ own scratch₀ scratch : List ℕ) (r : Option Interned) : Type 0 where
  pub number : length (interned names text start end (rows_of names known own₀)) ≤ room_of names own₀ → symbol_of r ≡ look_up names text (lexeme text start end) (rows_of names known own₀)
  pub missing : room_of names own₀ < length (interned names text start end (rows_of names known own₀)) → symbol_of r ≡ absent
  pub there : IfSome r (λ w. w.symbol < absent)
  pub rows : length (interned names text start end (rows_of names known own₀)) ≤ room_of names own₀ → rows_of names (count_of known r) own ≡ interned names text start end (rows_of names known own₀)
  pub indexed : Indexed text size (count_of known r) own scratch
  pub beyond : (i : ℕ) → 2 * size ≤ i → get_or scratch i 0 ≡ get_or scratch₀ i 0
  pub own_size : length own ≡ length own₀
  pub scratch_size : length scratch ≡ length scratch₀

-- the symbol of token i, in the top third of the scratch room
abbrev pub number_at : (ts scratch : List ℕ) → ℕ → ℕ
number_at ts scratch i = get_or scratch (2 * count ts + i) 0

-- there is a token, it is sound, and the words before it have their rows, with their index in the lower two thirds of the scratch room
pub record Before (names : Builtins) (built-count : ℕ) (index text ts : List ℕ) (size n known : ℕ) (own scratch : List ℕ) : Type 0 where
  pub built_is : built-count ≡ built names
  pub built_in : Known names index
  pub size_is : size ≡ count ts
  pub inside : n < count ts
  pub few : count ts ≤ 4096
  pub sound : Sound text ts n
  pub rows : rows_of names known own ≡ symbol_rows names text ts n
  pub indexed : Indexed text size known own scratch
  pub scratch_room : scratch_width * count ts ≤ length scratch

-- the token has its symbol, absent where its row does not fit, and then it is None; where it fits, its word has a row. The rows have their index; the top third of the scratch room is as
-- it was, and the rooms are as long as they were
pub record Named (names : Builtins) (text ts : List ℕ) (size n known : ℕ) (own₀ own scratch₀ scratch : List ℕ) (r : Option Interned) : Type 0 where
  pub number : symbol_of r ≡ symbol_in names text ts (room_of names own₀) n
  pub there : IfSome r (λ w. w.symbol < absent)
  pub rows : length (symbol_rows names text ts (suc n)) ≤ room_of names own₀ → rows_of names (count_of known r) own ≡ symbol_rows names text ts (suc n)
  pub indexed : Indexed text size (count_of known r) own scratch
  pub numbers : (i : ℕ) → number_at ts scratch i ≡ number_at ts scratch₀ i
  pub own_size : length own ≡ length own₀
  pub scratch_size : length scratch ≡ length scratch₀

-- what a token has where no row fits: absent if it has a word, and else 0
unfoldable pub rowless : (ts : List ℕ) → ℕ → ℕ
rowless ts i = cond (is_name ts i) absent 0

-- the tokens from `from` up to `upto` have that, those before what they had, and the scratch room is as long as it was
pub record LeftOut (ts : List ℕ) (from upto : ℕ) (scratch₀ scratch : List ℕ) : Type 0 where
  pub numbers : (i : ℕ) → from ≤ i → i < upto → number_at ts scratch i ≡ rowless ts i
  pub kept : (i : ℕ) → i < from → number_at ts scratch i ≡ number_at ts scratch₀ i
  pub size : length scratch ≡ length scratch₀

-- what the readers take for the symbols of the tokens: the numbers of the top third
unfoldable pub names_of : (ts scratch : List ℕ) → ℕ → ℕ
names_of ts scratch i = get_or (take (count ts) (drop (2 * count ts) scratch)) i 0

-- behind the built-in rows: where all rows fit, the words have theirs; each token has its symbol, absent where its row does not fit; the rooms are as long as they were
pub record Owned (names : Builtins) (text ts own₀ scratch₀ own scratch : List ℕ) (known : ℕ) : Type 0 where
  pub rows : length (symbol_rows names text ts (count ts)) ≤ room_of names own₀ → rows_of names known own ≡ symbol_rows names text ts (count ts)
  pub stands : symbol_width * known ≤ length own
  pub numbers : (i : ℕ) → i < count ts → number_at ts scratch i ≡ symbol_in names text ts (room_of names own₀) i
  pub own_size : length own ≡ length own₀
  pub scratch_size : length scratch ≡ length scratch₀

-- and in the whole room, `known` rows with the built-in ones. The rest of the rooms is left as it comes
pub record Resolved (names : Builtins) (text ts symbols₀ scratch₀ symbols scratch : List ℕ) (known : ℕ) : Type 0 where
  pub rows : length (symbol_rows names text ts (count ts)) ≤ length symbols₀ → take (symbol_width * known) symbols ≡ symbol_rows names text ts (count ts)
  pub stands : symbol_width * known ≤ length symbols
  pub numbers : (i : ℕ) → i < count ts → number_at ts scratch i ≡ symbol_in names text ts (length symbols₀) i
  pub symbol_size : length symbols ≡ length symbols₀
  pub scratch_size : length scratch ≡ length scratch₀
