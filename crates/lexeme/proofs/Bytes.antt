-- What the class of a byte says: whether it is a letter, and whether it is a letter or a digit.
use Prim.Native.Nat.{ℕ}
use mathlib.Core.Bool.{Bool, true, false, not, cond, ◌||◌}
use mathlib.Core.Path.{◌≡◌, refl}
use lib.Dec.{eqb}
use Rattle.grammar.specs.Lexeme.{letter}
use Rattle.grammar.specs.Pattern.{digit}
use Rattle.spelling.specs.Words.{class}
use Rattle.lexeme.specs.Parts.{letter_or_digit}

pub letter_class : (x : ℕ) → eqb (class x) 2 ≡ letter x
unfolding class
letter_class x = go (letter x) (digit x)
  where
    go : (a b : Bool) → eqb (cond a 2 (cond b 1 0)) 2 ≡ a
    go true b = refl
    go false true = refl
    go false false = refl

pub other_class : (x : ℕ) → not (eqb (class x) 0) ≡ letter_or_digit x
unfolding class
other_class x = go (letter x) (digit x)
  where
    go : (a b : Bool) → not (eqb (cond a 2 (cond b 1 0)) 0) ≡ (a || b)
    go true b = refl
    go false true = refl
    go false false = refl
