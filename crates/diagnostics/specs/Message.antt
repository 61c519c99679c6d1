-- The text of a refusal. Document 01, Small services, Message: 'document 000's text with document 002's `Display` names' for codes 8 and 9; 'added: `for is not
-- supported` (10), `nested too deep` (11)'. Document 02, L5: '12 goes and its number is not used again; a message for 12 has length 0'.
use Rattle.std.specs.Prelude.{ℕ, ◌≤◌, ◌<◌, cond, List, [], ◌++◌, ◌≡◌, eqb, leb, length, drop}
use Rattle.grammar.specs.Kind.{Eof}
use Rattle.grammar.specs.Pattern.{bytes}
use Rattle.spelling.specs.Display.{display}
use Rattle.diagnostics.specs.declared.Message.{Message}

-- a text that names a kind; 'a kind over 44 that the text needs': none
abbrev pub naming : ℕ → List ℕ → List ℕ
naming kind text = cond (leb kind Eof) text []

-- the text of a code, and none for any other code
unfoldable pub text_of : (code expected found : ℕ) → List ℕ
text_of code expected found =
    cond (eqb code 8) (naming expected (naming found (bytes "expected " ++ (display expected ++ (bytes " and found " ++ display found)))))
    (cond (eqb code 9) (naming found (bytes "expected a <operand> and found: " ++ display found))
    (cond (eqb code 10) (bytes "for is not supported")
    (cond (eqb code 11) (bytes "nested too deep") [])))

-- 'Under 52 bytes of room: refusal 13 before anything else, length 0, nothing written.' Else the text stands first in the room, and 'Bytes past the text
-- stay'; where there is no text, that is 'code 0, length 0, nothing written'.
pub record MessageGiven (code expected found : ℕ) (before after : List ℕ) (r : Message) : Type 0 where
  pub refused : length before < 52 → r ≡ record { code = 13; length = 0 }
  pub untouched : length before < 52 → after ≡ before
  pub answer : 52 ≤ length before → r ≡ record { code = 0; length = length (text_of code expected found) }
  pub room : 52 ≤ length before → after ≡ text_of code expected found ++ drop (length (text_of code expected found)) before
