-- Line and column of an offset, and the offset of a line and a column. Document 01, Small services: 'from 1; .. columns count bytes. Text over 65,536: 2. Offset past
-- the text: 14 (the offset equal to the length is answered). Line and column are then 0.' Document 02, L3: 'a line ends at 10, at 13 10 together, or at 13 alone; the
-- offset of the 10 in a pair is still on the old line'.
use Rattle.std.specs.Prelude.{ℕ, zero, suc, ◌+◌, ◌≤◌, ◌<◌, Bool, true, false, not, ◌&&◌, ◌||◌, List, ◌≡◌, eqb, length, get_or}
use Rattle.diagnostics.specs.declared.Place.{Place}

abbrev pub Newline : ℕ
Newline = 10

abbrev pub Return : ℕ
Return = 13

abbrev pub at : (line column : ℕ) → Place
at line column = record { code = 0; line = line; column = column }

abbrev pub refusal : (code : ℕ) → Place
refusal code = record { code = code; line = 0; column = 0 }

-- whether a line ends with the byte at i: it is a 10, or a 13 that no 10 follows. With the 13 of a pair the line goes on, and a 13 at the text's end is alone
unfoldable pub ends : (text : List ℕ) (i : ℕ) → Bool
ends text i = eqb (get_or text i 0) Newline || (eqb (get_or text i 0) Return && not (eqb (get_or text (suc i) 0) Newline))

-- after a byte with which a line ends the next line starts, after any other byte stands the next column
abbrev pub next : (ended : Bool) → Place → Place
next true s = at (s.line + 1) 1
next false s = at s.line (s.column + 1)

-- a text starts at line 1, column 1
unfoldable pub line_of : (text : List ℕ) (offset : ℕ) → Place
line_of text zero = at 1 1
line_of text (suc i) = next (ends text i) (line_of text i)

pub record Placed (text : List ℕ) (offset : ℕ) (r : Place) : Type 0 where
  pub long : 65536 < length text → r ≡ refusal 2
  pub past : length text ≤ 65536 → length text < offset → r ≡ refusal 14
  pub placed : length text ≤ 65536 → offset ≤ length text → r ≡ line_of text offset

-- the place of byte i of a text that is not too long
pub record BytePlaced (text : List ℕ) (i : ℕ) (here : Place) : Type 0 where
  pub short : length text ≤ 65536
  pub inside : i < length text
  pub there : here ≡ line_of text i

-- a place with this line and this column, and an offset up to the text's length that has such a place
pub record IsAt (line column : ℕ) (here : Place) : Type 0 where
  pub on_line : here.line ≡ line
  pub in_column : here.column ≡ column

pub record HasPlace (text : List ℕ) (line column i : ℕ) : Type 0 where
  pub inside : i ≤ length text
  pub there : IsAt line column (line_of text i)

-- the converse of a place: such an offset where there is one, and where there is none, or the text is too long, its length and one
pub record OffsetGiven (text : List ℕ) (line column r : ℕ) : Type 0 where
  pub long : 65536 < length text → r ≡ length text + 1
  pub found : length text ≤ 65536 → (i : ℕ) → HasPlace text line column i → HasPlace text line column r
  pub none : length text ≤ 65536 → ((i : ℕ) → HasPlace text line column i → ⊥) → r ≡ length text + 1

-- a byte of what is written on a line: part of no line's end
unfoldable pub inner : ℕ → Bool
inner x = not (eqb x Return || eqb x Newline)
