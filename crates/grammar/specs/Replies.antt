-- Samples of whole calls: for every code the eight numbers of the answer and all four rooms afterwards, numbers left over after the last whole row too. All
-- numbers are written out, as in Samples.antt. Where two things are wrong, the first in order gives the code.
use Rattle.std.specs.Prelude.{ℕ, List, [], ◌∷◌, ◌++◌, replicate}
use Rattle.grammar.specs.Answer.{Answer, Answers}
use Rattle.grammar.specs.Builtin.{Builtins, none}
use Rattle.grammar.specs.Call.{Call}
use Rattle.grammar.specs.Pattern.{bytes}
use Rattle.grammar.specs.Profile.{Profile}
use Rattle.grammar.specs.Room.{Rooms}
use Rattle.grammar.specs.Samples.{row}

pub record Reply : Type 0 where
  pub call : Call
  pub answer : Answer
  pub after : Rooms

abbrev pub rooms : (nodes links symbols scratch : List ℕ) → Rooms
rooms ns ls ss xs = record { nodes = ns; links = ls; symbols = ss; scratch = xs }

-- 'code, three row counts, at, start, end, expected'
abbrev pub numbers : (code nodes links symbols at start end expected : ℕ) → Answer
numbers code ns ls ss at s e expected = record { code = code; nodes = ns; links = ls; symbols = ss; at = at; start = s; end = e; expected = expected }

-- of a profile in an edition; of a script there; in edition 1; and there beside no built-in names
abbrev pub asked : Profile → (edition : ℕ) (names : Builtins) (text : List ℕ) (limit : ℕ) (tokens : List ℕ) (before : Rooms) (answer : Answer) (after : Rooms) → Reply
asked p n names text limit ts before a after = record { call = record { profile = p; names = names; text = text; tokens = ts; edition = n; limit = limit; rooms = before }; answer = a; after = after }

abbrev pub in_edition : (edition : ℕ) (names : Builtins) (text : List ℕ) (limit : ℕ) (tokens : List ℕ) (before : Rooms) (answer : Answer) (after : Rooms) → Reply
in_edition = asked Profile.script

abbrev pub beside : (names : Builtins) (text : List ℕ) (limit : ℕ) (tokens : List ℕ) (before : Rooms) (answer : Answer) (after : Rooms) → Reply
beside = in_edition 1

abbrev pub reply : (text : List ℕ) (limit : ℕ) (tokens : List ℕ) (before : Rooms) (answer : Answer) (after : Rooms) → Reply
reply = beside none

-- of a guard, in edition 1 beside no built-in names
abbrev pub guard : (text : List ℕ) (limit : ℕ) (tokens : List ℕ) (before : Rooms) (answer : Answer) (after : Rooms) → Reply
guard = asked Profile.guard 1 none

abbrev pub AllAnswered : List Reply → Type 0
AllAnswered [] = Unit {0}
AllAnswered (r ∷ rs) = Answers r.call r.answer r.after × AllAnswered rs

abbrev pub replies : List Reply
replies =
    -- 1: no token; a list that is not three times a count, with a depth limit of 0; 4,097 tokens with a text that is too long
    reply (bytes "") 64 [] (rooms (replicate 5 7) (replicate 4 8) (replicate 3 9) (replicate 2 6))
    (numbers 1 0 0 0 0 0 0 255) (rooms (replicate 5 7) (replicate 4 8) (replicate 3 9) (replicate 2 6)) ∷
    reply (bytes "a") 0 (43 ∷ 0 ∷ 1 ∷ 44 ∷ []) (rooms (replicate 25 7) (replicate 8 8) (replicate 5 9) (replicate 7 6))
    (numbers 1 0 0 0 0 0 0 255) (rooms (replicate 25 7) (replicate 8 8) (replicate 5 9) (replicate 7 6)) ∷
    reply (bytes "a;") 64 (43 ∷ 0 ∷ 1 ∷ 44 ∷ 1 ∷ []) (rooms (replicate 25 7) (replicate 8 8) (replicate 5 9) (replicate 7 6))
    (numbers 1 0 0 0 0 0 0 255) (rooms (replicate 25 7) (replicate 8 8) (replicate 5 9) (replicate 7 6)) ∷
    reply (replicate 65537 97) 64 (replicate 12291 44) (rooms (replicate 5 7) (replicate 4 8) (replicate 3 9) (replicate 2 6))
    (numbers 1 0 0 0 0 0 0 255) (rooms (replicate 5 7) (replicate 4 8) (replicate 3 9) (replicate 2 6)) ∷
    -- 2, with a depth limit of 0; a text that is just short enough
    reply (replicate 65537 97) 0 (44 ∷ 0 ∷ 0 ∷ []) (rooms (replicate 15 7) (replicate 5 8) (replicate 3 9) (replicate 4 6))
    (numbers 2 0 0 0 0 0 0 255) (rooms (replicate 15 7) (replicate 5 8) (replicate 3 9) (replicate 4 6)) ∷
    reply (replicate 65536 97) 0 (44 ∷ 0 ∷ 0 ∷ []) (rooms (replicate 15 7) (replicate 5 8) (replicate 3 9) (replicate 4 6))
    (numbers 3 0 0 0 0 0 0 255) (rooms (replicate 15 7) (replicate 5 8) (replicate 3 9) (replicate 4 6)) ∷
    -- 3, with rooms that are too small
    reply (bytes "a") 0 (43 ∷ 0 ∷ 1 ∷ 44 ∷ 1 ∷ 1 ∷ []) (rooms (replicate 5 7) (replicate 4 8) (replicate 3 9) (replicate 2 6))
    (numbers 3 0 0 0 0 0 0 255) (rooms (replicate 5 7) (replicate 4 8) (replicate 3 9) (replicate 2 6)) ∷
    reply (bytes "a") 65 (43 ∷ 0 ∷ 1 ∷ 44 ∷ 1 ∷ 1 ∷ []) (rooms (replicate 5 7) (replicate 4 8) (replicate 3 9) (replicate 2 6))
    (numbers 3 0 0 0 0 0 0 255) (rooms (replicate 5 7) (replicate 4 8) (replicate 3 9) (replicate 2 6)) ∷
    -- 21: an edition below 1; one over 2
    in_edition 0 none (bytes "a;") 64 (43 ∷ 0 ∷ 1 ∷ 41 ∷ 1 ∷ 2 ∷ 44 ∷ 2 ∷ 2 ∷ []) (rooms (replicate 35 7) (replicate 11 8) (replicate 7 9) (replicate 10 6))
    (numbers 21 0 0 0 0 0 0 255) (rooms (replicate 35 7) (replicate 11 8) (replicate 7 9) (replicate 10 6)) ∷
    in_edition 3 none (bytes "a;") 64 (43 ∷ 0 ∷ 1 ∷ 41 ∷ 1 ∷ 2 ∷ 44 ∷ 2 ∷ 2 ∷ []) (rooms (replicate 35 7) (replicate 11 8) (replicate 7 9) (replicate 10 6))
    (numbers 21 0 0 0 0 0 0 255) (rooms (replicate 35 7) (replicate 11 8) (replicate 7 9) (replicate 10 6)) ∷
    -- 3 comes before 21; 21 comes before 4, where the scratch room is too small by a number, and before 18, here with the largest number
    in_edition 3 none (bytes "a;") 0 (43 ∷ 0 ∷ 1 ∷ 41 ∷ 1 ∷ 2 ∷ 44 ∷ 2 ∷ 2 ∷ []) (rooms (replicate 35 7) (replicate 11 8) (replicate 7 9) (replicate 10 6))
    (numbers 3 0 0 0 0 0 0 255) (rooms (replicate 35 7) (replicate 11 8) (replicate 7 9) (replicate 10 6)) ∷
    in_edition 0 none (bytes "a;") 64 (43 ∷ 0 ∷ 1 ∷ 41 ∷ 1 ∷ 2 ∷ 44 ∷ 2 ∷ 2 ∷ []) (rooms (replicate 35 7) (replicate 11 8) (replicate 7 9) (replicate 8 6))
    (numbers 21 0 0 0 0 0 0 255) (rooms (replicate 35 7) (replicate 11 8) (replicate 7 9) (replicate 8 6)) ∷
    in_edition 4294967295 (record { text = bytes "ab ab"; rows = (0 ∷ 2 ∷ 3 ∷ 5 ∷ []) }) (bytes "a;") 64 (43 ∷ 0 ∷ 1 ∷ 41 ∷ 1 ∷ 2 ∷ 44 ∷ 2 ∷ 2 ∷ []) (rooms (replicate 35 7) (replicate 11 8) (replicate 7 9) (replicate 10 6))
    (numbers 21 0 0 0 0 0 0 255) (rooms (replicate 35 7) (replicate 11 8) (replicate 7 9) (replicate 10 6)) ∷
    -- 4: edition 2 is let in to that check
    in_edition 2 none (bytes "a;") 64 (43 ∷ 0 ∷ 1 ∷ 41 ∷ 1 ∷ 2 ∷ 44 ∷ 2 ∷ 2 ∷ []) (rooms (replicate 35 7) (replicate 11 8) (replicate 7 9) (replicate 8 6))
    (numbers 4 0 0 0 0 0 0 255) (rooms (replicate 35 7) (replicate 11 8) (replicate 7 9) (replicate 8 6)) ∷
    -- 4: the scratch room is too small by a number, and a byte is over 127; 4,096 tokens
    reply (97 ∷ 200 ∷ []) 64 (43 ∷ 0 ∷ 1 ∷ 44 ∷ 1 ∷ 1 ∷ []) (rooms (replicate 20 7) (replicate 6 8) (replicate 4 9) (replicate 5 6))
    (numbers 4 0 0 0 0 0 0 255) (rooms (replicate 20 7) (replicate 6 8) (replicate 4 9) (replicate 5 6)) ∷
    reply (bytes "") 1 (replicate 12288 44) (rooms (replicate 20 7) (replicate 6 8) (replicate 4 9) (replicate 6 6))
    (numbers 4 0 0 0 0 0 0 255) (rooms (replicate 20 7) (replicate 6 8) (replicate 4 9) (replicate 6 6)) ∷
    -- 5, with no other room than scratch
    reply (97 ∷ 200 ∷ []) 64 (43 ∷ 0 ∷ 1 ∷ 44 ∷ 1 ∷ 1 ∷ []) (rooms [] [] [] (replicate 6 6))
    (numbers 5 0 0 0 0 1 2 255) (rooms [] [] [] (replicate 6 6)) ∷
    -- 5: the first byte over 127, with a token that is bad
    reply (97 ∷ 127 ∷ 128 ∷ 200 ∷ []) 64 (2 ∷ 0 ∷ 1 ∷ 44 ∷ 1 ∷ 1 ∷ []) (rooms (replicate 25 7) (replicate 8 8) (replicate 5 9) (replicate 7 6))
    (numbers 5 0 0 0 0 2 3 255) (rooms (replicate 25 7) (replicate 8 8) (replicate 5 9) (replicate 7 6)) ∷
    -- 6: a kind over 44, with an Eof before it
    reply (bytes "a +") 64 (44 ∷ 0 ∷ 1 ∷ 45 ∷ 2 ∷ 3 ∷ 44 ∷ 3 ∷ 3 ∷ []) (rooms (replicate 35 7) (replicate 11 8) (replicate 7 9) (replicate 10 6))
    (numbers 6 0 0 0 1 2 3 255) (rooms (replicate 35 7) (replicate 11 8) (replicate 7 9) (replicate 10 6)) ∷
    -- 6: start over end; end past the text; start before the previous token's end; a misfit lexeme, the first of two
    reply (bytes "a +") 64 (43 ∷ 0 ∷ 1 ∷ 44 ∷ 2 ∷ 1 ∷ []) (rooms (replicate 25 7) (replicate 8 8) (replicate 5 9) (replicate 7 6))
    (numbers 6 0 0 0 1 2 1 255) (rooms (replicate 25 7) (replicate 8 8) (replicate 5 9) (replicate 7 6)) ∷
    reply (bytes "a +") 64 (43 ∷ 0 ∷ 1 ∷ 44 ∷ 3 ∷ 4 ∷ []) (rooms (replicate 25 7) (replicate 8 8) (replicate 5 9) (replicate 7 6))
    (numbers 6 0 0 0 1 3 4 255) (rooms (replicate 25 7) (replicate 8 8) (replicate 5 9) (replicate 7 6)) ∷
    reply (bytes "ab") 64 (43 ∷ 0 ∷ 2 ∷ 43 ∷ 1 ∷ 2 ∷ 44 ∷ 2 ∷ 2 ∷ []) (rooms (replicate 35 7) (replicate 11 8) (replicate 7 9) (replicate 10 6))
    (numbers 6 0 0 0 1 1 2 255) (rooms (replicate 35 7) (replicate 11 8) (replicate 7 9) (replicate 10 6)) ∷
    reply (bytes "a + -") 64 (43 ∷ 0 ∷ 1 ∷ 2 ∷ 2 ∷ 3 ∷ 1 ∷ 4 ∷ 5 ∷ 44 ∷ 5 ∷ 5 ∷ []) (rooms (replicate 45 7) (replicate 14 8) (replicate 9 9) (replicate 13 6))
    (numbers 6 0 0 0 1 2 3 255) (rooms (replicate 45 7) (replicate 14 8) (replicate 9 9) (replicate 13 6)) ∷
    -- 7: Eof before the last place; a last token that is not Eof; the first of two
    reply (bytes "a;") 64 (43 ∷ 0 ∷ 1 ∷ 44 ∷ 1 ∷ 1 ∷ 44 ∷ 2 ∷ 2 ∷ []) (rooms (replicate 35 7) (replicate 11 8) (replicate 7 9) (replicate 10 6))
    (numbers 7 0 0 0 1 1 1 255) (rooms (replicate 35 7) (replicate 11 8) (replicate 7 9) (replicate 10 6)) ∷
    reply (bytes "a;") 64 (43 ∷ 0 ∷ 1 ∷ 41 ∷ 1 ∷ 2 ∷ []) (rooms (replicate 25 7) (replicate 8 8) (replicate 5 9) (replicate 7 6))
    (numbers 7 0 0 0 1 1 2 255) (rooms (replicate 25 7) (replicate 8 8) (replicate 5 9) (replicate 7 6)) ∷
    reply (bytes "a;") 64 (43 ∷ 0 ∷ 1 ∷ 44 ∷ 1 ∷ 1 ∷ 41 ∷ 1 ∷ 2 ∷ []) (rooms (replicate 35 7) (replicate 11 8) (replicate 7 9) (replicate 10 6))
    (numbers 7 0 0 0 1 1 1 255) (rooms (replicate 35 7) (replicate 11 8) (replicate 7 9) (replicate 10 6)) ∷
    -- 4 in reading: the node, link or symbol room is too small by a number, and the rooms are zero throughout; with the very numbers of the door's 4
    reply (bytes "a;") 64 (43 ∷ 0 ∷ 1 ∷ 41 ∷ 1 ∷ 2 ∷ 44 ∷ 2 ∷ 2 ∷ []) (rooms (replicate 19 7) (replicate 3 8) (replicate 2 9) (replicate 9 6))
    (numbers 4 0 0 0 2 2 2 255) (rooms (replicate 19 0) (replicate 3 0) (replicate 2 0) (replicate 9 0)) ∷
    reply (bytes "a;") 64 (43 ∷ 0 ∷ 1 ∷ 41 ∷ 1 ∷ 2 ∷ 44 ∷ 2 ∷ 2 ∷ []) (rooms (replicate 20 7) (replicate 2 8) (replicate 2 9) (replicate 9 6))
    (numbers 4 0 0 0 2 2 2 255) (rooms (replicate 20 0) (replicate 2 0) (replicate 2 0) (replicate 9 0)) ∷
    reply (bytes "a;") 64 (43 ∷ 0 ∷ 1 ∷ 41 ∷ 1 ∷ 2 ∷ 44 ∷ 2 ∷ 2 ∷ []) (rooms (replicate 20 7) (replicate 3 8) (replicate 1 9) (replicate 9 6))
    (numbers 4 0 0 0 0 0 1 255) (rooms (replicate 20 0) (replicate 3 0) (replicate 1 0) (replicate 9 0)) ∷
    reply (bytes "") 64 (44 ∷ 0 ∷ 0 ∷ []) (rooms (replicate 9 7) [] [] (replicate 3 6))
    (numbers 4 0 0 0 0 0 0 255) (rooms (replicate 9 0) [] [] (replicate 3 0)) ∷
    -- 8, 9, 10 and 11: the rooms are zero throughout
    reply (bytes "f(a") 64 (43 ∷ 0 ∷ 1 ∷ 17 ∷ 1 ∷ 2 ∷ 43 ∷ 2 ∷ 3 ∷ 44 ∷ 3 ∷ 3 ∷ []) (rooms (replicate 45 7) (replicate 14 8) (replicate 9 9) (replicate 13 6))
    (numbers 8 0 0 0 3 3 3 13) (rooms (replicate 45 0) (replicate 14 0) (replicate 9 0) (replicate 13 0)) ∷
    reply (bytes "a; return;") 64 (43 ∷ 0 ∷ 1 ∷ 41 ∷ 1 ∷ 2 ∷ 35 ∷ 3 ∷ 9 ∷ 41 ∷ 9 ∷ 10 ∷ 44 ∷ 10 ∷ 10 ∷ []) (rooms (replicate 55 7) (replicate 17 8) (replicate 11 9) (replicate 16 6))
    (numbers 9 0 0 0 3 9 10 255) (rooms (replicate 55 0) (replicate 17 0) (replicate 11 0) (replicate 16 0)) ∷
    reply (bytes "a; for") 64 (43 ∷ 0 ∷ 1 ∷ 41 ∷ 1 ∷ 2 ∷ 29 ∷ 3 ∷ 6 ∷ 44 ∷ 6 ∷ 6 ∷ []) (rooms (replicate 45 7) (replicate 14 8) (replicate 9 9) (replicate 13 6))
    (numbers 10 0 0 0 2 3 6 255) (rooms (replicate 45 0) (replicate 14 0) (replicate 9 0) (replicate 13 0)) ∷
    reply (bytes "((a));") 2 (17 ∷ 0 ∷ 1 ∷ 17 ∷ 1 ∷ 2 ∷ 43 ∷ 2 ∷ 3 ∷ 18 ∷ 3 ∷ 4 ∷ 18 ∷ 4 ∷ 5 ∷ 41 ∷ 5 ∷ 6 ∷ 44 ∷ 6 ∷ 6 ∷ []) (rooms (replicate 75 7) (replicate 23 8) (replicate 15 9) (replicate 22 6))
    (numbers 11 0 0 0 2 2 3 255) (rooms (replicate 75 0) (replicate 23 0) (replicate 15 0) (replicate 22 0)) ∷
    -- every kind with a lexeme that fits; reading is refused at the first
    reply (bytes "= + - * ^ / % != == >= <= > < , : . | ( ) # { } and or not let const ref fun for while break continue if else return import true false nil 1 ; \"s\" a") 64 (0 ∷ 0 ∷ 1 ∷ 1 ∷ 2 ∷ 3 ∷ 2 ∷ 4 ∷ 5 ∷ 3 ∷ 6 ∷ 7 ∷ 4 ∷ 8 ∷ 9 ∷ 5 ∷ 10 ∷ 11 ∷ 6 ∷ 12 ∷ 13 ∷ 7 ∷ 14 ∷ 16 ∷ 8 ∷ 17 ∷ 19 ∷ 9 ∷ 20 ∷ 22 ∷ 10 ∷ 23 ∷ 25 ∷ 11 ∷ 26 ∷ 27 ∷ 12 ∷ 28 ∷ 29 ∷ 13 ∷ 30 ∷ 31 ∷ 14 ∷ 32 ∷ 33 ∷ 15 ∷ 34 ∷ 35 ∷ 16 ∷ 36 ∷ 37 ∷ 17 ∷ 38 ∷ 39 ∷ 18 ∷ 40 ∷ 41 ∷ 19 ∷ 42 ∷ 43 ∷ 20 ∷ 44 ∷ 45 ∷ 21 ∷ 46 ∷ 47 ∷ 22 ∷ 48 ∷ 51 ∷ 23 ∷ 52 ∷ 54 ∷ 24 ∷ 55 ∷ 58 ∷ 25 ∷ 59 ∷ 62 ∷ 26 ∷ 63 ∷ 68 ∷ 27 ∷ 69 ∷ 72 ∷ 28 ∷ 73 ∷ 76 ∷ 29 ∷ 77 ∷ 80 ∷ 30 ∷ 81 ∷ 86 ∷ 31 ∷ 87 ∷ 92 ∷ 32 ∷ 93 ∷ 101 ∷ 33 ∷ 102 ∷ 104 ∷ 34 ∷ 105 ∷ 109 ∷ 35 ∷ 110 ∷ 116 ∷ 36 ∷ 117 ∷ 123 ∷ 37 ∷ 124 ∷ 128 ∷ 38 ∷ 129 ∷ 134 ∷ 39 ∷ 135 ∷ 138 ∷ 40 ∷ 139 ∷ 140 ∷ 41 ∷ 141 ∷ 142 ∷ 42 ∷ 143 ∷ 146 ∷ 43 ∷ 147 ∷ 148 ∷ 44 ∷ 148 ∷ 148 ∷ []) (rooms (replicate 455 7) (replicate 137 8) (replicate 91 9) (replicate 136 6))
    (numbers 9 0 0 0 0 0 1 255) (rooms (replicate 455 0) (replicate 137 0) (replicate 91 0) (replicate 136 0)) ∷
    -- 0: rows and then zeros to the end of each room; rooms with just a row for each token; at the largest depth limit and the smallest
    reply (bytes "f(a) + 1;") 64 (43 ∷ 0 ∷ 1 ∷ 17 ∷ 1 ∷ 2 ∷ 43 ∷ 2 ∷ 3 ∷ 18 ∷ 3 ∷ 4 ∷ 1 ∷ 5 ∷ 6 ∷ 40 ∷ 7 ∷ 8 ∷ 41 ∷ 8 ∷ 9 ∷ 44 ∷ 9 ∷ 9 ∷ []) (rooms (replicate 85 7) (replicate 26 8) (replicate 17 9) (replicate 25 6))
    (numbers 0 6 2 2 0 0 0 255) (rooms (row 10 0 1 0 0 1 0 0 0 2 ++ row 10 2 3 1 2 3 0 0 0 2 ++ row 15 1 4 0 0 1 0 0 0 4 ++ row 12 7 8 0 0 0 0 0 0 4 ++ row 1 1 8 0 2 3 0 0 0 5 ++ row 20 0 0 1 1 4294967295 0 0 0 4294967295 ++ replicate 25 0) (1 ∷ 0 ∷ 0 ∷ 4 ∷ 0 ∷ 0 ∷ replicate 20 0) (0 ∷ 1 ∷ 2 ∷ 3 ∷ replicate 13 0) (replicate 25 0)) ∷
    reply (bytes "a = f;") 1 (43 ∷ 0 ∷ 1 ∷ 0 ∷ 2 ∷ 3 ∷ 43 ∷ 4 ∷ 5 ∷ 41 ∷ 5 ∷ 6 ∷ 44 ∷ 6 ∷ 6 ∷ []) (rooms (replicate 50 7) (replicate 15 8) (replicate 10 9) (replicate 15 6))
    (numbers 0 4 1 2 0 0 0 255) (rooms (row 10 0 1 0 0 1 0 0 0 2 ++ row 10 4 5 1 4 5 0 0 0 2 ++ row 6 0 5 0 1 0 0 0 0 3 ++ row 20 0 0 0 1 4294967295 0 0 0 4294967295 ++ replicate 10 0) (2 ∷ 0 ∷ 0 ∷ replicate 12 0) (0 ∷ 1 ∷ 4 ∷ 5 ∷ replicate 6 0) (replicate 15 0)) ∷
    reply (bytes "") 64 (44 ∷ 0 ∷ 0 ∷ []) (rooms (replicate 10 7) (replicate 3 8) (replicate 2 9) (replicate 3 6))
    (numbers 0 1 0 0 0 0 0 255) (rooms (row 20 0 0 0 0 4294967295 0 0 0 4294967295) (replicate 3 0) (replicate 2 0) (replicate 3 0)) ∷
    -- 0: rooms for just the rows, fewer than tokens
    reply (bytes "a;") 64 (43 ∷ 0 ∷ 1 ∷ 41 ∷ 1 ∷ 2 ∷ 44 ∷ 2 ∷ 2 ∷ []) (rooms (replicate 20 7) (replicate 3 8) (replicate 2 9) (replicate 9 6))
    (numbers 0 2 1 1 0 0 0 255) (rooms (row 10 0 1 0 0 1 0 0 0 1 ++ row 20 0 0 0 1 4294967295 0 0 0 4294967295) (0 ∷ 0 ∷ 0 ∷ []) (0 ∷ 1 ∷ []) (replicate 9 0)) ∷
    -- 0: gaps are not examined, nor is Eof's lexeme; a byte of 127 may stand in a string
    reply (32 ∷ 97 ∷ 63 ∷ 59 ∷ 34 ∷ 127 ∷ 34 ∷ 59 ∷ 110 ∷ 111 ∷ 116 ∷ []) 64 (43 ∷ 1 ∷ 2 ∷ 41 ∷ 3 ∷ 4 ∷ 42 ∷ 4 ∷ 7 ∷ 41 ∷ 7 ∷ 8 ∷ 44 ∷ 8 ∷ 11 ∷ []) (rooms (replicate 55 7) (replicate 17 8) (replicate 11 9) (replicate 16 6))
    (numbers 0 3 2 2 0 0 0 255) (rooms (row 10 1 2 0 1 2 0 0 0 2 ++ row 11 4 7 1 0 0 0 0 0 2 ++ row 20 0 0 0 2 4294967295 0 0 0 4294967295 ++ replicate 25 0) (0 ∷ 0 ∷ 0 ∷ 1 ∷ 0 ∷ 0 ∷ replicate 11 0) (1 ∷ 2 ∷ 5 ∷ 6 ∷ replicate 7 0) (replicate 16 0)) ∷
    -- 18: a built-in text that is too long, with no name and a byte over 127; one that is just short enough
    beside (record { text = replicate 65537 97; rows = [] }) (97 ∷ 200 ∷ []) 64 (43 ∷ 0 ∷ 1 ∷ 41 ∷ 1 ∷ 2 ∷ 44 ∷ 2 ∷ 2 ∷ []) (rooms (replicate 30 7) (replicate 9 8) (replicate 9 9) (replicate 9 6))
    (numbers 18 0 0 0 0 0 0 255) (rooms (replicate 30 7) (replicate 9 8) (replicate 9 9) (replicate 9 6)) ∷
    beside (record { text = replicate 65536 97; rows = [] }) (97 ∷ 200 ∷ []) 64 (43 ∷ 0 ∷ 1 ∷ 41 ∷ 1 ∷ 2 ∷ 44 ∷ 2 ∷ 2 ∷ []) (rooms (replicate 30 7) (replicate 9 8) (replicate 9 9) (replicate 9 6))
    (numbers 5 0 0 0 0 1 2 255) (rooms (replicate 30 7) (replicate 9 8) (replicate 9 9) (replicate 9 6)) ∷
    -- 18: 65 names, each one byte longer than the one before
    beside (record { text = replicate 65 97; rows = (0 ∷ 1 ∷ 0 ∷ 2 ∷ 0 ∷ 3 ∷ 0 ∷ 4 ∷ 0 ∷ 5 ∷ 0 ∷ 6 ∷ 0 ∷ 7 ∷ 0 ∷ 8 ∷ 0 ∷ 9 ∷ 0 ∷ 10 ∷ 0 ∷ 11 ∷ 0 ∷ 12 ∷ 0 ∷ 13 ∷ 0 ∷ 14 ∷ 0 ∷ 15 ∷ 0 ∷ 16 ∷ 0 ∷ 17 ∷ 0 ∷ 18 ∷ 0 ∷ 19 ∷ 0 ∷ 20 ∷ 0 ∷ 21 ∷ 0 ∷ 22 ∷ 0 ∷ 23 ∷ 0 ∷ 24 ∷ 0 ∷ 25 ∷ 0 ∷ 26 ∷ 0 ∷ 27 ∷ 0 ∷ 28 ∷ 0 ∷ 29 ∷ 0 ∷ 30 ∷ 0 ∷ 31 ∷ 0 ∷ 32 ∷ 0 ∷ 33 ∷ 0 ∷ 34 ∷ 0 ∷ 35 ∷ 0 ∷ 36 ∷ 0 ∷ 37 ∷ 0 ∷ 38 ∷ 0 ∷ 39 ∷ 0 ∷ 40 ∷ 0 ∷ 41 ∷ 0 ∷ 42 ∷ 0 ∷ 43 ∷ 0 ∷ 44 ∷ 0 ∷ 45 ∷ 0 ∷ 46 ∷ 0 ∷ 47 ∷ 0 ∷ 48 ∷ 0 ∷ 49 ∷ 0 ∷ 50 ∷ 0 ∷ 51 ∷ 0 ∷ 52 ∷ 0 ∷ 53 ∷ 0 ∷ 54 ∷ 0 ∷ 55 ∷ 0 ∷ 56 ∷ 0 ∷ 57 ∷ 0 ∷ 58 ∷ 0 ∷ 59 ∷ 0 ∷ 60 ∷ 0 ∷ 61 ∷ 0 ∷ 62 ∷ 0 ∷ 63 ∷ 0 ∷ 64 ∷ 0 ∷ 65 ∷ []) }) (bytes "a;") 64 (43 ∷ 0 ∷ 1 ∷ 41 ∷ 1 ∷ 2 ∷ 44 ∷ 2 ∷ 2 ∷ []) (rooms (replicate 30 7) (replicate 9 8) (replicate 9 9) (replicate 9 6))
    (numbers 18 0 0 0 0 0 0 255) (rooms (replicate 30 7) (replicate 9 8) (replicate 9 9) (replicate 9 6)) ∷
    -- 18: a start over its end; an end past the text; no byte; a byte that is no letter; a keyword; the same name twice, in other places
    beside (record { text = bytes "ab c"; rows = (0 ∷ 2 ∷ 2 ∷ 1 ∷ []) }) (bytes "a;") 64 (43 ∷ 0 ∷ 1 ∷ 41 ∷ 1 ∷ 2 ∷ 44 ∷ 2 ∷ 2 ∷ []) (rooms (replicate 30 7) (replicate 9 8) (replicate 9 9) (replicate 9 6))
    (numbers 18 0 0 0 0 0 0 255) (rooms (replicate 30 7) (replicate 9 8) (replicate 9 9) (replicate 9 6)) ∷
    beside (record { text = bytes "ab c"; rows = (0 ∷ 2 ∷ 3 ∷ 5 ∷ []) }) (bytes "a;") 64 (43 ∷ 0 ∷ 1 ∷ 41 ∷ 1 ∷ 2 ∷ 44 ∷ 2 ∷ 2 ∷ []) (rooms (replicate 30 7) (replicate 9 8) (replicate 9 9) (replicate 9 6))
    (numbers 18 0 0 0 0 0 0 255) (rooms (replicate 30 7) (replicate 9 8) (replicate 9 9) (replicate 9 6)) ∷
    beside (record { text = bytes "ab c"; rows = (0 ∷ 2 ∷ 3 ∷ 3 ∷ []) }) (bytes "a;") 64 (43 ∷ 0 ∷ 1 ∷ 41 ∷ 1 ∷ 2 ∷ 44 ∷ 2 ∷ 2 ∷ []) (rooms (replicate 30 7) (replicate 9 8) (replicate 9 9) (replicate 9 6))
    (numbers 18 0 0 0 0 0 0 255) (rooms (replicate 30 7) (replicate 9 8) (replicate 9 9) (replicate 9 6)) ∷
    beside (record { text = bytes "ab c"; rows = (0 ∷ 2 ∷ 1 ∷ 4 ∷ []) }) (bytes "a;") 64 (43 ∷ 0 ∷ 1 ∷ 41 ∷ 1 ∷ 2 ∷ 44 ∷ 2 ∷ 2 ∷ []) (rooms (replicate 30 7) (replicate 9 8) (replicate 9 9) (replicate 9 6))
    (numbers 18 0 0 0 0 0 0 255) (rooms (replicate 30 7) (replicate 9 8) (replicate 9 9) (replicate 9 6)) ∷
    beside (record { text = bytes "ab 1c"; rows = (0 ∷ 2 ∷ 3 ∷ 5 ∷ []) }) (bytes "a;") 64 (43 ∷ 0 ∷ 1 ∷ 41 ∷ 1 ∷ 2 ∷ 44 ∷ 2 ∷ 2 ∷ []) (rooms (replicate 30 7) (replicate 9 8) (replicate 9 9) (replicate 9 6))
    (numbers 18 0 0 0 0 0 0 255) (rooms (replicate 30 7) (replicate 9 8) (replicate 9 9) (replicate 9 6)) ∷
    beside (record { text = bytes "ab not"; rows = (0 ∷ 2 ∷ 3 ∷ 6 ∷ []) }) (bytes "a;") 64 (43 ∷ 0 ∷ 1 ∷ 41 ∷ 1 ∷ 2 ∷ 44 ∷ 2 ∷ 2 ∷ []) (rooms (replicate 30 7) (replicate 9 8) (replicate 9 9) (replicate 9 6))
    (numbers 18 0 0 0 0 0 0 255) (rooms (replicate 30 7) (replicate 9 8) (replicate 9 9) (replicate 9 6)) ∷
    beside (record { text = bytes "ab ab"; rows = (0 ∷ 2 ∷ 3 ∷ 5 ∷ []) }) (bytes "a;") 64 (43 ∷ 0 ∷ 1 ∷ 41 ∷ 1 ∷ 2 ∷ 44 ∷ 2 ∷ 2 ∷ []) (rooms (replicate 30 7) (replicate 9 8) (replicate 9 9) (replicate 9 6))
    (numbers 18 0 0 0 0 0 0 255) (rooms (replicate 30 7) (replicate 9 8) (replicate 9 9) (replicate 9 6)) ∷
    -- 4 for scratch comes before 18, and 18 before a room that has not the built-in rows
    beside (record { text = bytes "ab ab"; rows = (0 ∷ 2 ∷ 3 ∷ 5 ∷ []) }) (bytes "a;") 64 (43 ∷ 0 ∷ 1 ∷ 41 ∷ 1 ∷ 2 ∷ 44 ∷ 2 ∷ 2 ∷ []) (rooms (replicate 30 7) (replicate 9 8) (replicate 9 9) (replicate 8 6))
    (numbers 4 0 0 0 0 0 0 255) (rooms (replicate 30 7) (replicate 9 8) (replicate 9 9) (replicate 8 6)) ∷
    beside (record { text = bytes "ab ab"; rows = (0 ∷ 2 ∷ 3 ∷ 5 ∷ []) }) (bytes "a;") 64 (43 ∷ 0 ∷ 1 ∷ 41 ∷ 1 ∷ 2 ∷ 44 ∷ 2 ∷ 2 ∷ []) (rooms (replicate 30 7) (replicate 9 8) (replicate 1 9) (replicate 9 6))
    (numbers 18 0 0 0 0 0 0 255) (rooms (replicate 30 7) (replicate 9 8) (replicate 1 9) (replicate 9 6)) ∷
    -- 4: the built-in rows do not fit by a number, and a byte is over 127; where they fit, 5
    beside (record { text = bytes "ab c"; rows = (0 ∷ 2 ∷ 3 ∷ 4 ∷ []) }) (97 ∷ 200 ∷ []) 64 (43 ∷ 0 ∷ 1 ∷ 41 ∷ 1 ∷ 2 ∷ 44 ∷ 2 ∷ 2 ∷ []) (rooms (replicate 30 7) (replicate 9 8) (replicate 3 9) (replicate 9 6))
    (numbers 4 0 0 0 0 0 0 255) (rooms (replicate 30 7) (replicate 9 8) (replicate 3 9) (replicate 9 6)) ∷
    beside (record { text = bytes "ab c"; rows = (0 ∷ 2 ∷ 3 ∷ 4 ∷ []) }) (97 ∷ 200 ∷ []) 64 (43 ∷ 0 ∷ 1 ∷ 41 ∷ 1 ∷ 2 ∷ 44 ∷ 2 ∷ 2 ∷ []) (rooms (replicate 30 7) (replicate 9 8) (replicate 4 9) (replicate 9 6))
    (numbers 5 0 0 0 0 1 2 255) (rooms (replicate 30 7) (replicate 9 8) (replicate 4 9) (replicate 9 6)) ∷
    -- 4 in reading: they fit, and the script's own name does not
    beside (record { text = bytes "ab c"; rows = (0 ∷ 2 ∷ 3 ∷ 4 ∷ []) }) (bytes "a;") 64 (43 ∷ 0 ∷ 1 ∷ 41 ∷ 1 ∷ 2 ∷ 44 ∷ 2 ∷ 2 ∷ []) (rooms (replicate 30 7) (replicate 9 8) (replicate 4 9) (replicate 9 6))
    (numbers 4 0 0 0 0 0 1 255) (rooms (replicate 30 0) (replicate 9 0) (replicate 4 0) (replicate 9 0)) ∷
    -- 0: the built-in rows come first; a byte over 127 outside the names, and a number left over
    beside (record { text = 200 ∷ 97 ∷ 98 ∷ []; rows = (1 ∷ 3 ∷ 2 ∷ 3 ∷ 5 ∷ []) }) (bytes "b;") 64 (43 ∷ 0 ∷ 1 ∷ 41 ∷ 1 ∷ 2 ∷ 44 ∷ 2 ∷ 2 ∷ []) (rooms (replicate 30 7) (replicate 9 8) (replicate 9 9) (replicate 9 6))
    (numbers 0 2 1 2 0 0 0 255) (rooms (row 10 0 1 1 0 1 0 0 0 1 ++ row 20 0 0 0 1 4294967295 0 0 0 4294967295 ++ replicate 10 0) (0 ∷ 0 ∷ 0 ∷ replicate 6 0) (1 ∷ 3 ∷ 2 ∷ 3 ∷ replicate 5 0) (replicate 9 0)) ∷
    -- 0 in edition 2: before `}` a `return` has an absent child and its own token's span, and is the tail. In edition 1 it asks for an expression, one opening deeper: 11
    in_edition 2 none (bytes "{return}") 1 (20 ∷ 0 ∷ 1 ∷ 35 ∷ 1 ∷ 7 ∷ 21 ∷ 7 ∷ 8 ∷ 44 ∷ 8 ∷ 8 ∷ []) (rooms (replicate 45 7) (replicate 14 8) (replicate 9 9) (replicate 13 6))
    (numbers 0 3 1 0 0 0 0 255) (rooms (row 23 1 7 4294967295 0 0 0 0 0 1 ++ row 20 0 8 0 0 0 0 0 0 2 ++ row 20 0 0 0 1 4294967295 0 0 0 4294967295 ++ replicate 15 0) (1 ∷ 0 ∷ 0 ∷ replicate 11 0) (replicate 9 0) (replicate 13 0)) ∷
    in_edition 1 none (bytes "{return}") 1 (20 ∷ 0 ∷ 1 ∷ 35 ∷ 1 ∷ 7 ∷ 21 ∷ 7 ∷ 8 ∷ 44 ∷ 8 ∷ 8 ∷ []) (rooms (replicate 45 7) (replicate 14 8) (replicate 9 9) (replicate 13 6))
    (numbers 11 0 0 0 2 7 8 255) (rooms (replicate 45 0) (replicate 14 0) (replicate 9 0) (replicate 13 0)) ∷
    -- 17 in a guard, at the first token outside the profile: each of the four kinds, as the first token and after others; the rooms are unchanged
    guard (bytes "{") 64 (20 ∷ 0 ∷ 1 ∷ 44 ∷ 1 ∷ 1 ∷ []) (rooms (replicate 25 7) (replicate 8 8) (replicate 5 9) (replicate 7 6))
    (numbers 17 0 0 0 0 0 1 255) (rooms (replicate 25 7) (replicate 8 8) (replicate 5 9) (replicate 7 6)) ∷
    guard (bytes "if") 64 (33 ∷ 0 ∷ 2 ∷ 44 ∷ 2 ∷ 2 ∷ []) (rooms (replicate 25 7) (replicate 8 8) (replicate 5 9) (replicate 7 6))
    (numbers 17 0 0 0 0 0 2 255) (rooms (replicate 25 7) (replicate 8 8) (replicate 5 9) (replicate 7 6)) ∷
    guard (bytes "|") 64 (16 ∷ 0 ∷ 1 ∷ 44 ∷ 1 ∷ 1 ∷ []) (rooms (replicate 25 7) (replicate 8 8) (replicate 5 9) (replicate 7 6))
    (numbers 17 0 0 0 0 0 1 255) (rooms (replicate 25 7) (replicate 8 8) (replicate 5 9) (replicate 7 6)) ∷
    guard (bytes "#") 64 (19 ∷ 0 ∷ 1 ∷ 44 ∷ 1 ∷ 1 ∷ []) (rooms (replicate 25 7) (replicate 8 8) (replicate 5 9) (replicate 7 6))
    (numbers 17 0 0 0 0 0 1 255) (rooms (replicate 25 7) (replicate 8 8) (replicate 5 9) (replicate 7 6)) ∷
    guard (bytes "a {") 64 (43 ∷ 0 ∷ 1 ∷ 20 ∷ 2 ∷ 3 ∷ 44 ∷ 3 ∷ 3 ∷ []) (rooms (replicate 35 7) (replicate 11 8) (replicate 7 9) (replicate 10 6))
    (numbers 17 0 0 0 1 2 3 255) (rooms (replicate 35 7) (replicate 11 8) (replicate 7 9) (replicate 10 6)) ∷
    guard (bytes "a if") 64 (43 ∷ 0 ∷ 1 ∷ 33 ∷ 2 ∷ 4 ∷ 44 ∷ 4 ∷ 4 ∷ []) (rooms (replicate 35 7) (replicate 11 8) (replicate 7 9) (replicate 10 6))
    (numbers 17 0 0 0 1 2 4 255) (rooms (replicate 35 7) (replicate 11 8) (replicate 7 9) (replicate 10 6)) ∷
    guard (bytes "f(|") 64 (43 ∷ 0 ∷ 1 ∷ 17 ∷ 1 ∷ 2 ∷ 16 ∷ 2 ∷ 3 ∷ 44 ∷ 3 ∷ 3 ∷ []) (rooms (replicate 45 7) (replicate 14 8) (replicate 9 9) (replicate 13 6))
    (numbers 17 0 0 0 2 2 3 255) (rooms (replicate 45 7) (replicate 14 8) (replicate 9 9) (replicate 13 6)) ∷
    guard (bytes "a + #") 64 (43 ∷ 0 ∷ 1 ∷ 1 ∷ 2 ∷ 3 ∷ 19 ∷ 4 ∷ 5 ∷ 44 ∷ 5 ∷ 5 ∷ []) (rooms (replicate 45 7) (replicate 14 8) (replicate 9 9) (replicate 13 6))
    (numbers 17 0 0 0 2 4 5 255) (rooms (replicate 45 7) (replicate 14 8) (replicate 9 9) (replicate 13 6)) ∷
    -- 17: the first of two, either way round; before a reading that 9 refuses at a token before it; with no other room than scratch; in edition 2
    guard (bytes "a | {") 64 (43 ∷ 0 ∷ 1 ∷ 16 ∷ 2 ∷ 3 ∷ 20 ∷ 4 ∷ 5 ∷ 44 ∷ 5 ∷ 5 ∷ []) (rooms (replicate 45 7) (replicate 14 8) (replicate 9 9) (replicate 13 6))
    (numbers 17 0 0 0 1 2 3 255) (rooms (replicate 45 7) (replicate 14 8) (replicate 9 9) (replicate 13 6)) ∷
    guard (bytes "a { |") 64 (43 ∷ 0 ∷ 1 ∷ 20 ∷ 2 ∷ 3 ∷ 16 ∷ 4 ∷ 5 ∷ 44 ∷ 5 ∷ 5 ∷ []) (rooms (replicate 45 7) (replicate 14 8) (replicate 9 9) (replicate 13 6))
    (numbers 17 0 0 0 1 2 3 255) (rooms (replicate 45 7) (replicate 14 8) (replicate 9 9) (replicate 13 6)) ∷
    guard (bytes "; {") 64 (41 ∷ 0 ∷ 1 ∷ 20 ∷ 2 ∷ 3 ∷ 44 ∷ 3 ∷ 3 ∷ []) (rooms (replicate 35 7) (replicate 11 8) (replicate 7 9) (replicate 10 6))
    (numbers 17 0 0 0 1 2 3 255) (rooms (replicate 35 7) (replicate 11 8) (replicate 7 9) (replicate 10 6)) ∷
    guard (bytes "a {") 64 (43 ∷ 0 ∷ 1 ∷ 20 ∷ 2 ∷ 3 ∷ 44 ∷ 3 ∷ 3 ∷ []) (rooms [] [] [] (replicate 9 6))
    (numbers 17 0 0 0 1 2 3 255) (rooms [] [] [] (replicate 9 6)) ∷
    asked Profile.guard 2 none (bytes "a {") 64 (43 ∷ 0 ∷ 1 ∷ 20 ∷ 2 ∷ 3 ∷ 44 ∷ 3 ∷ 3 ∷ []) (rooms (replicate 35 7) (replicate 11 8) (replicate 7 9) (replicate 10 6))
    (numbers 17 0 0 0 1 2 3 255) (rooms (replicate 35 7) (replicate 11 8) (replicate 7 9) (replicate 10 6)) ∷
    -- 21, 4 for scratch, 6 and 7 come before 17, also where their token stands behind its own
    asked Profile.guard 3 none (bytes "{") 64 (20 ∷ 0 ∷ 1 ∷ 44 ∷ 1 ∷ 1 ∷ []) (rooms (replicate 25 7) (replicate 8 8) (replicate 5 9) (replicate 7 6))
    (numbers 21 0 0 0 0 0 0 255) (rooms (replicate 25 7) (replicate 8 8) (replicate 5 9) (replicate 7 6)) ∷
    guard (bytes "{") 64 (20 ∷ 0 ∷ 1 ∷ 44 ∷ 1 ∷ 1 ∷ []) (rooms (replicate 25 7) (replicate 8 8) (replicate 5 9) (replicate 5 6))
    (numbers 4 0 0 0 0 0 0 255) (rooms (replicate 25 7) (replicate 8 8) (replicate 5 9) (replicate 5 6)) ∷
    guard (bytes "{ +") 64 (20 ∷ 0 ∷ 1 ∷ 2 ∷ 2 ∷ 3 ∷ 44 ∷ 3 ∷ 3 ∷ []) (rooms (replicate 35 7) (replicate 11 8) (replicate 7 9) (replicate 10 6))
    (numbers 6 0 0 0 1 2 3 255) (rooms (replicate 35 7) (replicate 11 8) (replicate 7 9) (replicate 10 6)) ∷
    guard (bytes "{a") 64 (20 ∷ 0 ∷ 1 ∷ 43 ∷ 1 ∷ 2 ∷ []) (rooms (replicate 25 7) (replicate 8 8) (replicate 5 9) (replicate 7 6))
    (numbers 7 0 0 0 1 1 2 255) (rooms (replicate 25 7) (replicate 8 8) (replicate 5 9) (replicate 7 6)) ∷
    -- no 17 in a script
    reply (bytes "a {") 64 (43 ∷ 0 ∷ 1 ∷ 20 ∷ 2 ∷ 3 ∷ 44 ∷ 3 ∷ 3 ∷ []) (rooms (replicate 35 7) (replicate 11 8) (replicate 7 9) (replicate 10 6))
    (numbers 8 0 0 0 1 2 3 41) (rooms (replicate 35 0) (replicate 11 0) (replicate 7 0) (replicate 10 0)) ∷
    -- 8 for Eof in a guard: the rooms are zero throughout
    guard (bytes "a;") 64 (43 ∷ 0 ∷ 1 ∷ 41 ∷ 1 ∷ 2 ∷ 44 ∷ 2 ∷ 2 ∷ []) (rooms (replicate 35 7) (replicate 11 8) (replicate 7 9) (replicate 10 6))
    (numbers 8 0 0 0 1 1 2 44) (rooms (replicate 35 0) (replicate 11 0) (replicate 7 0) (replicate 10 0)) ∷
    -- 0 of a guard: rows and then zeros to the end of each room; in edition 2 beside a built-in name, in rooms for just the rows
    guard (bytes "f(a) + 1") 64 (43 ∷ 0 ∷ 1 ∷ 17 ∷ 1 ∷ 2 ∷ 43 ∷ 2 ∷ 3 ∷ 18 ∷ 3 ∷ 4 ∷ 1 ∷ 5 ∷ 6 ∷ 40 ∷ 7 ∷ 8 ∷ 44 ∷ 8 ∷ 8 ∷ []) (rooms (replicate 75 7) (replicate 23 8) (replicate 15 9) (replicate 22 6))
    (numbers 0 5 1 2 0 0 0 255) (rooms (row 10 0 1 0 0 1 0 0 0 2 ++ row 10 2 3 1 2 3 0 0 0 2 ++ row 15 1 4 0 0 1 0 0 0 4 ++ row 12 7 8 0 0 0 0 0 0 4 ++ row 1 1 8 0 2 3 0 0 0 4294967295 ++ replicate 25 0) (1 ∷ 0 ∷ 0 ∷ replicate 20 0) (0 ∷ 1 ∷ 2 ∷ 3 ∷ replicate 11 0) (replicate 22 0)) ∷
    asked Profile.guard 2 (record { text = bytes "ab c"; rows = (3 ∷ 4 ∷ []) }) (bytes "not c and a") 2 (24 ∷ 0 ∷ 3 ∷ 43 ∷ 4 ∷ 5 ∷ 22 ∷ 6 ∷ 9 ∷ 43 ∷ 10 ∷ 11 ∷ 44 ∷ 11 ∷ 11 ∷ []) (rooms (replicate 40 7) [] (replicate 4 9) (replicate 15 6))
    (numbers 0 4 0 2 0 0 0 255) (rooms (row 10 4 5 0 4 5 0 0 0 1 ++ row 4 0 5 0 0 0 0 0 0 3 ++ row 10 10 11 1 10 11 0 0 0 3 ++ row 2 0 11 1 2 0 0 0 0 4294967295) [] (3 ∷ 4 ∷ 10 ∷ 11 ∷ []) (replicate 15 0)) ∷
    []
