-- How a lexeme comes to fit its kind, for each way that a kind says it: a spelling, a pattern, a name that is no keyword, the end of the file.
use Prim.Native.Nat.{ℕ, ◌≤◌, ◌<◌}
use mathlib.Core.Bool.{Bool}
use mathlib.Core.List.{List}
use mathlib.Core.Path.{◌≡◌}
use native.Mathlib.Omega.{arith}
use borrow.Author.Tests.{ne_eqb}
use Rattle.grammar.specs.Kind.{NumberLiteral, StringLiteral, Identifier, Eof}
use Rattle.grammar.specs.Lexeme.{spelling, pattern, Fits}
use Rattle.grammar.specs.Pattern.{Matches, literal}
use Rattle.grammar.proofs.Matching.{literal_same, literal_made}
use Rattle.spelling.specs.Decides.{Decides}
use Rattle.lexeme.specs.Parts.{Keyword}
use Rattle.spelling.proofs.Deciding.{carried}

pub literal_decided : (s x : List ℕ) {r : Bool} → Decides (x ≡ s) r → Decides (Matches (literal s) x) r
literal_decided s x d = carried (λ e. rw e (literal_made s)) (literal_same s) d

pub spelled_pattern : (k : ℕ) → (k ≡ NumberLiteral → ⊥) → (k ≡ StringLiteral → ⊥) → (k ≡ Identifier → ⊥) → pattern k ≡ literal (spelling k)
spelled_pattern k n s i = rw (ne_eqb k NumberLiteral n, ne_eqb k StringLiteral s, ne_eqb k Identifier i)

module _ (k : ℕ) (x : List ℕ) where
  pub fits_by_pattern : {r : Bool} → k < Eof → (k ≡ Identifier → ⊥) → Decides (Matches (pattern k) x) r → Decides (Fits k x) r
  fits_by_pattern less other d = carried (λ m. record { lexeme = λ h. m; no_keyword = λ e. absurd (other e) }) (λ f. f.lexeme less) d

  pub fits_as_name : {r : Bool} → k ≡ Identifier → (Keyword x → ⊥) → Decides (Matches (pattern k) x) r → Decides (Fits k x) r
  fits_as_name e none d = carried (λ m. record { lexeme = λ h. m; no_keyword = λ e w l h s. none (w, l, h, s) }) (λ f. f.lexeme (omega arith)) d

  pub keyword_unfit : k ≡ Identifier → Keyword x → Fits k x → ⊥
  keyword_unfit e (w, l, h, s) f = f.no_keyword e w l h s

  pub fits_at_end : Eof ≤ k → Fits k x
  fits_at_end h = record { lexeme = λ less. absurd (omega arith); no_keyword = λ e. absurd (omega arith) }
