-- The names of the kinds, by tests that the checker computes over all of them: which are a spelling between backquotes, and how long a name is.
use Prim.Native.Nat.{ℕ, ◌+◌, ◌≤◌}
use native.Mathlib.Decide.{dec_le}
use native.Mathlib.Omega.{arith}
use mathlib.Core.Bool.{◌||◌}
use mathlib.Core.List.{◌++◌}
use mathlib.Core.Path.{◌≡◌, ap, ◌∙◌}
use lib.Dec.{eqb, leb, leb→le}
use lib.ListN.{length, length-append, get_or-eq_default}
use borrow.Author.Tests.{ne_eqb}
use Rattle.grammar.specs.Kind.{NumberLiteral, Semicolon, Eof}
use Rattle.grammar.specs.Lexeme.{spelling}
use Rattle.grammar.specs.Pattern.{bytes}
use Rattle.grammar.specs.Symbol.{same}
use Rattle.grammar.proofs.Tests.{same_means, within}
use Rattle.spelling.specs.Display.{display, names}

-- the name of a kind that has a spelling
pub quoted : (k : ℕ) → k ≤ Semicolon → (k ≡ NumberLiteral → ⊥) → display k ≡ bytes "`" ++ (spelling k ++ bytes "`")
unfolding display spelling same
quoted k h n = same_means _ _ (rw (ne_eqb k NumberLiteral n) at (within (λ i. eqb i NumberLiteral || same (display i) (bytes "`" ++ (spelling i ++ bytes "`"))) 0 42 k tt (omega arith) (omega arith)))

pub quoted_length : (k : ℕ) → k ≤ Semicolon → (k ≡ NumberLiteral → ⊥) → length (display k) ≡ length (spelling k) + 2
quoted_length k h n = ap length (quoted k h n) ∙ simp length-append (omega arith)

-- any number at all has a name of at most 16 bytes: no kind, none
pub short : (k : ℕ) → length (display k) ≤ 16
unfolding display
short k = elim (dec_le k Eof) [
  | yes h ↦ leb→le _ _ (within (λ i. leb (length (display i)) 16) 0 45 k tt (omega arith) (omega arith))
  | no h ↦ rw (get_or-eq_default names "" {n = k} (omega arith)) (omega arith)
]
