-- What the parts of the maker answer: where the longest stretch ends that matches one pattern, which token stands at a place, and what the list room takes.
use Rattle.std.specs.Prelude.{ℕ, ◌+◌, ◌*◌, ◌/◌, ◌≤◌, ◌<◌, false, List, [], ◌∷◌, ◌≡◌, length, Option, Some, None}
use Rattle.ast.specs.Written.{Written}
use Rattle.grammar.specs.Kind.{Eof}
use Rattle.grammar.specs.Lexeme.{spelling, letter}
use Rattle.grammar.specs.Pattern.{Pattern, Matches, digit}
use Rattle.grammar.specs.Token.{lexeme}
use Rattle.lexer.specs.Reads.{Blank, Stands, Longest}

-- from i on stand blanks up to r, and none there
pub record BlanksEnd (text : List ℕ) (i r : ℕ) : Type 0 where
  pub forward : i ≤ r
  pub inside : r ≤ length text
  pub blanks : (k : ℕ) → i ≤ k → k < r → Blank text k
  pub last : Blank text r → ⊥

-- the longest stretch from i that matches p ends at r
pub record StretchEnds (p : Pattern) (text : List ℕ) (i r : ℕ) : Type 0 where
  pub forward : i ≤ r
  pub inside : r ≤ length text
  pub match : Matches p (lexeme text i r)
  pub longest : (e : ℕ) → r < e → e ≤ length text → Matches p (lexeme text i e) → ⊥

-- no word, number or string starts with this byte
pub record OtherByte (x : ℕ) : Type 0 where
  pub no_letter : letter x ≡ false
  pub no_digit : digit x ≡ false
  pub no_quote : x ≡ 34 → ⊥

-- the kind that is spelt so, or none is
pub data Spelt (x : List ℕ) : Option ℕ → Type 0 where
  sign : {k : ℕ} → k < Eof → x ≡ spelling k → Spelt x (Some k)
  none : ((k : ℕ) → k < Eof → x ≡ spelling k → ⊥) → Spelt x None

-- the kind and the end of the longest token that stands at i, or nothing where none does
unfoldable pub StartCase : List ℕ → ℕ → Option (ℕ × ℕ) → Type 0
StartCase text i (Some t) = Longest text t.0 i t.1
StartCase text i None = (k e : ℕ) → Stands text k i e → ⊥

pub record Starts (text : List ℕ) (i : ℕ) (r : Option (ℕ × ℕ)) : Type 0 where
  pub says : StartCase text i r

-- how many tokens a room of so many numbers can take: whole rows, and 4,096 at most
pub record Capacity (numbers r : ℕ) : Type 0 where
  pub most : r ≤ 4096
  pub rows : r ≤ numbers / 3
  pub all : (n : ℕ) → n ≤ 4096 → n ≤ numbers / 3 → n ≤ r

-- token n of the list, where it can take so many rows
pub record Kept (rows n k i e : ℕ) (before after : List ℕ) : Type 0 where
  pub size : length after ≡ length before
  pub row : n < rows → Written (3 * n) (3 * (n + 1)) (k ∷ i ∷ e ∷ []) before after
  pub full : rows ≤ n → after ≡ before
