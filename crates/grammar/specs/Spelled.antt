-- Samples of lexemes: which text fits which kind, by its number, and which text Rust's `parse::<f64>` reads.
use Rattle.std.specs.Prelude.{ℕ, List, [], ◌∷◌}
use Prim.Native.String.{String}
use Rattle.grammar.specs.Float as numbers
use Rattle.grammar.specs.Lexeme.{Fits}
use Rattle.grammar.specs.Pattern.{Matches, bytes}

pub data Spelled : Type 0 where
  fits misfits : (kind : ℕ) → String → Spelled
  float no_float : String → Spelled

abbrev pub Holds : Spelled → Type 0
Holds (fits k s) = Fits k (bytes s)
Holds (misfits k s) = Fits k (bytes s) → ⊥
Holds (float s) = Matches numbers.float (bytes s)
Holds (no_float s) = Matches numbers.float (bytes s) → ⊥

abbrev pub AllHold : List Spelled → Type 0
AllHold [] = Unit {0}
AllHold (s ∷ ss) = Holds s × AllHold ss

abbrev pub lexemes : List Spelled
lexemes =
    -- each kind with a spelling of its own, with it and with parts of others
    fits 0 "=" ∷ fits 1 "+" ∷ fits 2 "-" ∷ fits 3 "*" ∷ fits 4 "^" ∷ fits 5 "/" ∷ fits 6 "%" ∷ fits 7 "!=" ∷ fits 8 "==" ∷ fits 9 ">=" ∷
    fits 10 "<=" ∷ fits 11 ">" ∷ fits 12 "<" ∷ fits 13 "," ∷ fits 14 ":" ∷ fits 15 "." ∷ fits 16 "|" ∷ fits 17 "(" ∷ fits 18 ")" ∷
    fits 19 "#" ∷ fits 20 "{" ∷ fits 21 "}" ∷ fits 22 "and" ∷ fits 23 "or" ∷ fits 24 "not" ∷ fits 25 "let" ∷ fits 26 "const" ∷
    fits 27 "ref" ∷ fits 28 "fun" ∷ fits 29 "for" ∷ fits 30 "while" ∷ fits 31 "break" ∷ fits 32 "continue" ∷ fits 33 "if" ∷ fits 34 "else" ∷
    fits 35 "return" ∷ fits 36 "import" ∷ fits 37 "true" ∷ fits 38 "false" ∷ fits 39 "nil" ∷ fits 41 ";" ∷
    misfits 1 "-" ∷ misfits 1 "" ∷ misfits 1 "++" ∷ misfits 7 "!" ∷ misfits 11 ">=" ∷ misfits 22 "an" ∷ misfits 22 "ands" ∷ misfits 22 "AND" ∷
    misfits 39 "a" ∷
    -- numbers
    fits 40 "0" ∷ fits 40 "9" ∷ fits 40 "12" ∷ fits 40 "007" ∷ fits 40 "1.5" ∷ fits 40 "1.05" ∷ fits 40 "1e9" ∷ fits 40 "1E9" ∷
    fits 40 "1e+9" ∷ fits 40 "1E-10" ∷ fits 40 "1.5e10" ∷ fits 40 "2.50e-07" ∷
    misfits 40 "" ∷ misfits 40 ".5" ∷ misfits 40 "1." ∷ misfits 40 "1e" ∷ misfits 40 "1e+" ∷ misfits 40 "1.e5" ∷ misfits 40 "1x" ∷
    misfits 40 "+1" ∷ misfits 40 "-1" ∷ misfits 40 "1.2.3" ∷ misfits 40 "1e5.0" ∷ misfits 40 "1e+-5" ∷ misfits 40 "e5" ∷ misfits 40 "/" ∷
    misfits 40 ":" ∷ misfits 40 "1/" ∷ misfits 40 "1:" ∷ misfits 40 "1,5" ∷ misfits 40 "1*5" ∷
    -- strings
    fits 42 "\"\"" ∷ fits 42 "\"a\"" ∷ fits 42 "\"a b\"" ∷ fits 42 "\"'\"" ∷ fits 42 "\"\\\"\"" ∷ fits 42 "\"\\\\\"" ∷ fits 42 "\"\\a\\b\"" ∷
    fits 42 "\"\n\"" ∷
    misfits 42 "" ∷ misfits 42 "\"" ∷ misfits 42 "a" ∷ misfits 42 "\"a" ∷ misfits 42 "a\"" ∷ misfits 42 "\"\\\"" ∷ misfits 42 "\"a\"b\"" ∷
    misfits 42 "\"\"\"" ∷ misfits 42 "\"\\\n\"" ∷ misfits 42 "'a'" ∷
    -- identifiers, and no keyword is one
    fits 43 "a" ∷ fits 43 "z" ∷ fits 43 "A" ∷ fits 43 "Z" ∷ fits 43 "_" ∷ fits 43 "a0" ∷ fits 43 "a9" ∷ fits 43 "_0" ∷ fits 43 "aZ_9z" ∷
    fits 43 "an" ∷ fits 43 "ands" ∷ fits 43 "And" ∷ fits 43 "nill" ∷ fits 43 "ni" ∷ fits 43 "eof" ∷
    misfits 43 "" ∷ misfits 43 "0" ∷ misfits 43 "0a" ∷ misfits 43 "9" ∷ misfits 43 "a-" ∷ misfits 43 "a b" ∷ misfits 43 "a." ∷
    misfits 43 "@" ∷ misfits 43 "[" ∷ misfits 43 "`" ∷ misfits 43 "{" ∷ misfits 43 "^" ∷ misfits 43 "a@" ∷ misfits 43 "a[" ∷
    misfits 43 "a`" ∷ misfits 43 "a{" ∷ misfits 43 "a/" ∷ misfits 43 "a:" ∷ misfits 43 "and" ∷ misfits 43 "or" ∷ misfits 43 "not" ∷
    misfits 43 "let" ∷ misfits 43 "const" ∷ misfits 43 "ref" ∷ misfits 43 "fun" ∷ misfits 43 "for" ∷ misfits 43 "while" ∷ misfits 43 "break" ∷
    misfits 43 "continue" ∷ misfits 43 "if" ∷ misfits 43 "else" ∷ misfits 43 "return" ∷ misfits 43 "import" ∷ misfits 43 "true" ∷
    misfits 43 "false" ∷ misfits 43 "nil" ∷
    -- Eof's lexeme is not examined
    fits 44 "" ∷ fits 44 "a" ∷ fits 44 "\"" ∷ fits 44 "and" ∷
    -- what Rust's `parse::<f64>` takes and rejects
    float "0" ∷ float "9" ∷ float "12" ∷ float "1." ∷ float "1.5" ∷ float "1.55" ∷ float "12.5" ∷ float ".5" ∷ float ".55" ∷
    float "1e5" ∷ float "1E5" ∷ float "1e+5" ∷ float "1e-5" ∷ float "1e55" ∷ float "1.e5" ∷ float ".5e5" ∷ float "1.5E-5" ∷ float "+1" ∷
    float "-1" ∷ float "+.5" ∷ float "-1." ∷ float "inf" ∷ float "INF" ∷ float "iNf" ∷ float "infinity" ∷ float "Infinity" ∷
    float "nan" ∷ float "NaN" ∷ float "+inf" ∷ float "-nan" ∷ float "-infinity" ∷
    no_float "" ∷ no_float "." ∷ no_float "e5" ∷ no_float ".e5" ∷ no_float "1e" ∷ no_float "1e+" ∷ no_float "1e5.5" ∷ no_float "1e+-5" ∷
    no_float "+" ∷ no_float "-" ∷ no_float "--1" ∷ no_float "+-1" ∷ no_float "1.." ∷ no_float "1.5.5" ∷ no_float "1+" ∷ no_float "1 " ∷
    no_float " 1" ∷ no_float "1x" ∷ no_float "x" ∷ no_float "/" ∷ no_float ":" ∷ no_float "i" ∷ no_float "in" ∷ no_float "infi" ∷
    no_float "infinit" ∷ no_float "infinityy" ∷ no_float "na" ∷ no_float "nane" ∷ no_float "inf1" ∷ no_float "1inf" ∷ no_float "infe5" ∷
    no_float "infnan" ∷ no_float "1f5" ∷ no_float "1_0" ∷
    []
