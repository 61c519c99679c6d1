-- What is told of some refusals. Document 02, L2; the corners where two careful readers would differ stand first. All numbers are written out: kinds, codes and sorts.
use Rattle.std.specs.Prelude.{ℕ, List, [], ◌∷◌, ◌++◌, ◌≡◌}
use Rattle.grammar.specs.Expected.{Opening, opening, Expects, gathered, how_many, lowest_from}
use Rattle.grammar.specs.Pattern.{among}

-- a list of tokens of these kinds, read in an edition and within a limit; a code and a token; the set, as one number, how many and the lowest; and the chain
pub record Telling : Type 0 where
  pub edition : ℕ
  pub limit : ℕ
  pub kinds : List ℕ
  pub code : ℕ
  pub place : ℕ
  pub set : List ℕ
  pub number : ℕ
  pub count : ℕ
  pub lowest : ℕ
  pub chain : List Opening

-- tokens of these kinds, whose lexemes play no part
abbrev pub tokens_of : List ℕ → List ℕ
tokens_of [] = []
tokens_of (k ∷ ks) = k ∷ 0 ∷ 0 ∷ tokens_of ks

abbrev pub ToldSo : Telling → Type 0
ToldSo t = Expects t.edition (tokens_of t.kinds) t.limit t.code t.place (among t.set) t.chain

pub record NumbersSo (t : Telling) : Type 0 where
  pub number : gathered (among t.set) 45 ≡ t.number
  pub count : how_many (among t.set) 45 ≡ t.count
  pub lowest : lowest_from (among t.set) 0 45 ≡ t.lowest

abbrev pub AllTold : List Telling → Type 0
AllTold [] = Unit {0}
AllTold (t ∷ ts) = ToldSo t × NumbersSo t × AllTold ts

abbrev pub telling : (edition limit : ℕ) → List ℕ → (code place : ℕ) → List ℕ → (number count lowest : ℕ) → List Opening → Telling
telling e l ks c p xs n k x os = record { edition = e; limit = l; kinds = ks; code = c; place = p; set = xs; number = n; count = k; lowest = x; chain = os }

-- what starts an operand, what else starts a statement, and the operators
abbrev pub operands : List ℕ
operands = 1 ∷ 2 ∷ 4 ∷ 16 ∷ 17 ∷ 19 ∷ 20 ∷ 24 ∷ 33 ∷ 37 ∷ 38 ∷ 39 ∷ 40 ∷ 42 ∷ 43 ∷ []

abbrev pub statements : List ℕ
statements = 25 ∷ 26 ∷ 27 ∷ 28 ∷ 30 ∷ 31 ∷ 32 ∷ 35 ∷ 36 ∷ []

abbrev pub operators : List ℕ
operators = 1 ∷ 2 ∷ 3 ∷ 5 ∷ 6 ∷ 7 ∷ 8 ∷ 9 ∷ 10 ∷ 11 ∷ 12 ∷ 22 ∷ 23 ∷ []

abbrev pub tellings : List Telling
tellings =
    -- `;`: what is counted at the refused token is open, though the token is wrong
    telling 1 64 (41 ∷ 44 ∷ []) 9 0 (44 ∷ operands ++ statements) 32967617085462 25 1 (opening 0 0 ∷ []) ∷
    -- `if a b`
    telling 1 64 (33 ∷ 43 ∷ 43 ∷ 44 ∷ []) 8 2 (15 ∷ 17 ∷ 20 ∷ operators) 13803502 16 1 (opening 2 0 ∷ opening 1 2 ∷ []) ∷
    -- `import`: a `;` is required, and only a name could have stood there
    telling 1 64 (36 ∷ 44 ∷ []) 8 1 (43 ∷ []) 8796093022208 1 43 [] ∷
    -- `break }`: an operand is missing, and none could have stood there
    telling 1 64 (31 ∷ 21 ∷ 44 ∷ []) 9 1 (41 ∷ []) 2199023255552 1 41 (opening 0 1 ∷ []) ∷
    -- `f(a`, and `f(a,`
    telling 1 64 (43 ∷ 17 ∷ 43 ∷ 44 ∷ []) 8 3 (13 ∷ 15 ∷ 17 ∷ 18 ∷ operators) 13025262 17 1 (opening 0 0 ∷ []) ∷
    telling 1 64 (43 ∷ 17 ∷ 43 ∷ 13 ∷ 44 ∷ []) 8 4 (18 ∷ operands) 15264332578838 16 1 (opening 0 0 ∷ []) ∷
    -- `(f)(x);`: a construct that is whole is closed
    telling 1 64 (17 ∷ 43 ∷ 18 ∷ 17 ∷ 43 ∷ 18 ∷ 41 ∷ 44 ∷ []) 8 3 (0 ∷ 41 ∷ operators) 2199035846639 15 0 [] ∷
    -- `for`: in no set, and it opens nothing; after `{` too
    telling 1 64 (29 ∷ 44 ∷ []) 10 0 (44 ∷ operands ++ statements) 32967617085462 25 1 [] ∷
    telling 1 64 (20 ∷ 29 ∷ 44 ∷ []) 10 1 (21 ∷ operands ++ statements) 15375433138198 25 1 (opening 1 0 ∷ []) ∷
    -- `- -`: signs
    telling 1 64 (2 ∷ 2 ∷ 44 ∷ []) 9 2 operands 15264332316694 15 1 (opening 0 0 ∷ opening 3 0 ∷ opening 3 1 ∷ []) ∷
    -- `if a {} else`: a block is asked for, and an `if` could stand there too
    telling 1 64 (33 ∷ 43 ∷ 20 ∷ 21 ∷ 34 ∷ 44 ∷ []) 8 5 (20 ∷ 33 ∷ []) 8590983168 2 20 (opening 2 0 ∷ opening 1 5 ∷ []) ∷
    -- `|x|` and `#{ k`
    telling 1 64 (16 ∷ 43 ∷ 16 ∷ 44 ∷ []) 9 3 operands 15264332316694 15 1 (opening 0 0 ∷ opening 0 3 ∷ []) ∷
    telling 1 64 (19 ∷ 20 ∷ 43 ∷ 44 ∷ []) 8 3 (13 ∷ 14 ∷ 15 ∷ 17 ∷ 21 ∷ operators) 14876654 18 1 (opening 0 0 ∷ []) ∷
    -- `((a` at limit 2: as many as the limit; the set knows no limit, and `((` at limit 3 has it all
    telling 1 2 (17 ∷ 17 ∷ 43 ∷ 44 ∷ []) 11 2 [] 0 0 255 (opening 0 0 ∷ opening 0 1 ∷ []) ∷
    telling 1 3 (17 ∷ 17 ∷ 44 ∷ []) 9 2 operands 15264332316694 15 1 (opening 0 0 ∷ opening 0 1 ∷ opening 0 2 ∷ []) ∷
    -- at limit 1
    telling 1 1 (41 ∷ 44 ∷ []) 9 0 (44 ∷ operands ++ statements) 32967617085462 25 1 (opening 0 0 ∷ []) ∷
    -- nothing: another code, another token, an edition 3, a token past the list, a kind over 44
    telling 1 64 (41 ∷ 44 ∷ []) 8 0 [] 0 0 255 [] ∷
    telling 1 64 (36 ∷ 44 ∷ []) 8 0 [] 0 0 255 [] ∷
    telling 3 64 (41 ∷ 44 ∷ []) 9 0 [] 0 0 255 [] ∷
    telling 1 64 (43 ∷ []) 8 1 [] 0 0 255 [] ∷
    telling 1 64 (45 ∷ 44 ∷ []) 9 0 [] 0 0 255 [] ∷
    -- edition 2: `return` alone, before a `}` only in a block; a chain after parentheses; `not` as a sign
    telling 2 64 (35 ∷ 44 ∷ []) 9 1 (41 ∷ operands) 17463355572246 16 1 (opening 0 1 ∷ []) ∷
    telling 2 64 (20 ∷ 35 ∷ 44 ∷ []) 9 2 (21 ∷ 41 ∷ operands) 17463357669398 17 1 (opening 1 0 ∷ opening 0 2 ∷ []) ∷
    telling 2 64 (17 ∷ 43 ∷ 18 ∷ 43 ∷ 44 ∷ []) 8 3 (0 ∷ 15 ∷ 17 ∷ 41 ∷ operators) 2199036010479 17 0 [] ∷
    telling 2 64 (24 ∷ 44 ∷ []) 9 1 operands 15264332316694 15 1 (opening 0 0 ∷ opening 3 0 ∷ []) ∷ []
