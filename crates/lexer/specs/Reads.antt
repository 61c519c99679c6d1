-- What a text reads as, without the maker. Request L1: 'from text to the token list with its final Eof at the text's end, empty', 'skip blanks (space, tab, form feed,
-- return, newline), longest match, keyword over identifier'. Which text fits which kind is the rule of check 6 (`Fits`): by it a keyword is no Identifier.
use Rattle.std.specs.Prelude.{ℕ, suc, ◌≤◌, ◌<◌, Bool, List, [], ◌∷◌, ◌≡◌, T, length, get_or}
use Rattle.grammar.specs.Kind.{Eof}
use Rattle.grammar.specs.Lexeme.{Fits}
use Rattle.grammar.specs.Pattern.{among}
use Rattle.grammar.specs.Token.{lexeme}

-- space, tab, form feed, return, newline
abbrev pub blanks : List ℕ
blanks = 32 ∷ 9 ∷ 12 ∷ 13 ∷ 10 ∷ []

abbrev pub blank : ℕ → Bool
blank = among blanks

-- a token of kind k can stand from i up to e
pub record Stands (text : List ℕ) (k i e : ℕ) : Type 0 where
  pub known : k < Eof
  pub forward : i ≤ e
  pub inside : e ≤ length text
  pub fits : Fits k (lexeme text i e)

-- and none that starts there is longer
pub record Longest (text : List ℕ) (k i e : ℕ) : Type 0 where
  pub stands : Stands text k i e
  pub longest : (l f : ℕ) → Stands text l i f → f ≤ e

-- at i is a blank
pub record Blank (text : List ℕ) (i : ℕ) : Type 0 where
  pub inside : i < length text
  pub test : T (blank (get_or text i 0))

-- the text from i on reads as these tokens, three numbers each
pub data TextReads (text : List ℕ) : ℕ → List ℕ → Type 0 where
  end : {i : ℕ} → i ≡ length text → TextReads text i (Eof ∷ i ∷ i ∷ [])
  skip : {i : ℕ} {ts : List ℕ} → Blank text i → TextReads text (suc i) ts → TextReads text i ts
  token : {k i e : ℕ} {ts : List ℕ} → Longest text k i e → TextReads text e ts → TextReads text i (k ∷ i ∷ e ∷ ts)

-- reading the text from i on, j is the first byte where no token starts
pub data Stops (text : List ℕ) : ℕ → ℕ → Type 0 where
  here : {i : ℕ} → i < length text → (Blank text i → ⊥) → ((k e : ℕ) → Stands text k i e → ⊥) → Stops text i i
  skip : {i j : ℕ} → Blank text i → Stops text (suc i) j → Stops text i j
  token : {k i e j : ℕ} → Longest text k i e → Stops text e j → Stops text i j
