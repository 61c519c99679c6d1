-- Which symbols are known, and under which new number: one number for each old symbol at the front of the lent room, 0 where it is not known, else its new number and one
-- more. With it the symbol rows, which are written as symbols become known.
use Rattle.std.specs.Prelude.{ℕ, suc, ◌+◌, ◌*◌, ◌≤◌, ◌<◌, Bool, cond, List, ◌++◌, ◌≡◌, eqb, length, get_or, set, take}
use Rattle.grammar.specs.Naming.{height, times}
use Rattle.grammar.specs.Operator.{place}
use Rattle.grammar.specs.Pattern.{among}
use Rattle.grammar.specs.Room.{symbol_width}
use Rattle.grammar.specs.Rows.{Rows}
use Rattle.foreign.specs.Check.{Each, link_count}
use Rattle.parts.specs.Packed.{root_first, statements, spoken_all, kept_upto, upto}
use Rattle.parts.specs.Spoken.{Word, heard, first_places}
use Rattle.packing.specs.Good.{Good}

unfoldable pub numbered : (known : List ℕ) → ℕ → ℕ
numbered ks x = cond (among ks x) (suc (place x ks)) 0

-- these of s symbols are known; their rows are the first b of ss, and then these places
pub record Hearing (s b : ℕ) (ss : List ℕ) (ks ps symbols scratch : List ℕ) (count : ℕ) : Type 0 where
  pub numbers : (x : ℕ) → x < s → get_or scratch x 0 ≡ numbered ks x
  pub many : count ≡ length ks
  pub rows : take (symbol_width * count) symbols ≡ take (symbol_width * b) ss ++ ps
  pub room : length symbols ≡ symbol_width * s
  pub once : (x : ℕ) → times x ks ≤ 1
  pub below : Each (λ x. x < s) ks

-- some are known
pub record Heard (s : ℕ) (symbols scratch : List ℕ) (count : ℕ) : Type 0 where
  pub builtins : ℕ
  pub before : List ℕ
  pub known : List ℕ
  pub places : List ℕ
  pub hearing : Hearing s builtins before known places symbols scratch count

-- one word more
pub record Noted (count : ℕ) (w : Word) (symbols scratch symbols' scratch' : List ℕ) (r : ℕ) : Type 0 where
  pub numbers : scratch' ≡ cond (eqb (get_or scratch w.symbol 0) 0) (set scratch w.symbol (count + 1)) scratch
  pub rows : symbols' ≡ cond (eqb (get_or scratch w.symbol 0) 0) (set (set symbols (symbol_width * count) w.from) (symbol_width * count + 1) w.upto) symbols
  pub many : r ≡ cond (eqb (get_or scratch w.symbol 0) 0) (count + 1) count

-- so many words more, whatever was known before
pub record Hears (s : ℕ) (xs : List Word) (symbols scratch : List ℕ) (count : ℕ) (symbols' scratch' : List ℕ) (r : ℕ) : Type 0 where
  pub says : {b : ℕ} {ss ks ps : List ℕ} → Hearing s b ss ks ps symbols scratch count → Hearing s b ss (heard xs ks) (ps ++ first_places xs ks) symbols' scratch' r

-- what the pass over rows asks: rows that keep the rules, and two numbers of scratch for each node and link row behind the symbols'
pub record Speaks (s : ℕ) (w : Rows) (scratch : ℕ) : Type 0 where
  pub good : Good s w
  pub few : s ≤ 4294967295
  pub room : s + 2 * (height w + link_count w) ≤ scratch

-- the first b symbols are known, each under its own number
pub record Built (b : ℕ) (before after : List ℕ) : Type 0 where
  pub known : (x : ℕ) → x < b → get_or after x 0 ≡ suc x
  pub others : (x : ℕ) → b ≤ x → get_or after x 0 ≡ get_or before x 0

-- what is asked before anything is heard: nothing is known, and the choice has a number for each statement
pub record Begins (s b : ℕ) (w : Rows) (first : ℕ) (choice symbols scratch : List ℕ) : Type 0 where
  pub speaks : Speaks s w (length scratch)
  pub builtins : b ≤ s
  pub room : length symbols ≡ symbol_width * s
  pub zeros : (x : ℕ) → x < s → get_or scratch x 0 ≡ 0
  pub list : first ≡ root_first w
  pub all : length choice ≡ statements w

-- the words of the first n statements that are kept
abbrev pub all_words : (ℕ → Bool) → Rows → (n : ℕ) → List Word
all_words c w n = spoken_all w (kept_upto c w n)

-- the symbols and places that are known after them
pub record HearingAll (s b : ℕ) (ss : List ℕ) (c : ℕ → Bool) (w : Rows) (n : ℕ) (symbols scratch : List ℕ) (count : ℕ) : Type 0 where
  pub known : Hearing s b ss (heard (all_words c w n) (upto b)) (first_places (all_words c w n) (upto b)) symbols scratch count
