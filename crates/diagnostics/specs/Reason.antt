-- The text of every refusal, for those who call the reader: document 01's message for codes 8 to 11, and for each other code that they can meet a text of its own. What
-- the command prints of 1, 2, 5 and 16 is the same.
use Rattle.std.specs.Prelude.{ℕ, zero, suc, ◌≤◌, ◌<◌, cond, List, [], ◌∷◌, ◌++◌, ◌≡◌, eqb, length, get_or, drop}
use Prim.Native.String.{String}
use Rattle.grammar.specs.Pattern.{bytes, from_to}
use Rattle.diagnostics.specs.Message.{text_of}
use Rattle.diagnostics.specs.declared.Message.{Message}

-- by code, from 0; none for 8 to 11, which have their message, for 16, which has two texts, and for 12, which no caller meets
abbrev pub texts : List String
texts =
    "" ∷
    "too many tokens: a script has at most 4,095" ∷
    "file too large: a script has at most 65,536 bytes" ∷
    "the depth limit is not from 1 to 64" ∷
    "too little room for the rows" ∷
    "a byte that is not ASCII" ∷
    "a token whose kind, place or text is wrong" ∷
    "the end of the file is not the last token alone" ∷
    "" ∷ "" ∷ "" ∷ "" ∷ "" ∷
    "too little room for the answer" ∷
    "a place past the end of the text" ∷
    "no such row or name" ∷
    "" ∷
    "a guard has no {, if, | or #" ∷
    "the built-in names are wrong" ∷
    "the scripts' count, cuts or rooms are wrong" ∷
    "the choice's length is not the statement count" ∷
    "the edition is neither 1 nor 2" ∷
    "the rows are not those of a tree" ∷ []

-- 16: no token starts at a byte, which may be the quote of a string that goes on to the text's end
abbrev pub Quote : ℕ
Quote = 34

abbrev pub no_token : List ℕ
no_token = bytes "no token starts here"

abbrev pub unclosed : List ℕ
unclosed = bytes "a string that is not closed"

-- the text of a code that has no message; past the last code there is none
unfoldable pub own : (text : List ℕ) (code start : ℕ) → List ℕ
own text code start = cond (eqb code 16) (cond (eqb (get_or text start 0) Quote) unclosed no_token) (bytes (get_or texts code ""))

-- the text of any code
unfoldable pub reason_of : (text : List ℕ) (code start expected found : ℕ) → List ℕ
reason_of text code start expected found = cond (from_to 8 11 code) (text_of code expected found) (own text code start)

-- as `MessageGiven` has it: under 52 bytes of room refusal 13, length 0, nothing written; else the text stands first in the room, and the bytes past it stay
pub record ReasonGiven (text : List ℕ) (code start expected found : ℕ) (before after : List ℕ) (r : Message) : Type 0 where
  pub refused : length before < 52 → r ≡ record { code = 13; length = 0 }
  pub untouched : length before < 52 → after ≡ before
  pub answer : 52 ≤ length before → r ≡ record { code = 0; length = length (reason_of text code start expected found) }
  pub room : 52 ≤ length before → after ≡ reason_of text code start expected found ++ drop (length (reason_of text code start expected found)) before

-- the texts at the places of the code's table: by code, at 16 that of a byte, and at 23 that of a string
abbrev pub last : ℕ
last = 23

unfoldable pub tabled : ℕ → List ℕ
tabled i = cond (eqb i last) unclosed (cond (eqb i 16) no_token (bytes (get_or texts i "")))

-- the table: the texts of n places from i on, one after the other; all of them; and where the text at a place starts
abbrev pub one_by_one : (i n : ℕ) → List ℕ
one_by_one i zero = []
one_by_one i (suc n) = tabled i ++ one_by_one (suc i) n

unfoldable pub table : List ℕ
table = one_by_one 0 (suc last)

unfoldable pub begins : ℕ → ℕ
begins i = length (one_by_one 0 i)

-- a place of the table that has a code's text
pub record PlacedAt (text : List ℕ) (code start i : ℕ) : Type 0 where
  pub inside : i ≤ last
  pub has : tabled i ≡ own text code start
