-- A string has two quotes at least, so that the word of a token lies inside it.
use Prim.Native.Nat.{ℕ, ◌+◌, ◌*◌, ◌≤◌}
use native.Mathlib.Decide.{ℕ_discrete}
use native.Mathlib.Omega.{arith}
use borrow.Author.Tests.{ne_eqb}
use mathlib.Core.List.{List}
use lib.ListN.{length, length-append}
use Rattle.grammar.specs.Door.{Sound}
use Rattle.grammar.specs.Kind.{StringLiteral}
use Rattle.grammar.specs.Lexeme.{string}
use Rattle.grammar.specs.Pattern.{Matches}
use Rattle.grammar.specs.Symbol.{quote, word_start, word_end}
use Rattle.grammar.specs.Table.{Part}
use Rattle.grammar.specs.Token.{kind, start, end, lexeme}
use Rattle.grammar.proofs.Lexemes.{lexeme_length}

quotes : {xs : List ℕ} → Matches string xs → 2 ≤ length xs
quotes (Matches.sequence {xs = a} (Matches.byte p) (Matches.sequence {xs = b} {ys = c} m (Matches.byte q) e) f) = simp (f, e, length-append) (omega arith)

module _ {text ts : List ℕ} {i : ℕ} (s : Sound text ts i) where
  pub quoted : start ts i + 2 * quote ts i ≤ end ts i
  quoted = elim (ℕ_discrete (kind ts i) StringLiteral) [
    | yes k ↦
        let m : Matches string (lexeme text (start ts i) (end ts i)) = rw k at (s.fits.lexeme (rw k (omega arith))) in
        rw k (omega (arith, quotes m, lexeme_length text (start ts i) (end ts i) s.forward s.inside))
    | no k ↦ rw (ne_eqb (kind ts i) StringLiteral k) (omega (arith, s.forward))
  ]

  -- so it is a part of the text
  pub word_part : Part text (word_start ts i) (word_end ts i)
  word_part = let q = quoted in record { ordered = omega arith; inside = omega (arith, s.inside) }
