-- The table of lexemes is right, by computation: each fact is decided (Doors.antt).
use mathlib.Core.Bool.{Bool, true, false}
use mathlib.Core.List.{List, [], ◌∷◌}
use native.Mathlib.Decide.{ℕ_discrete, dec_le, dec_lt}
use lib.Dec.{T}
use Rattle.grammar.specs.Derivative.{nullable, after, matches}
use Rattle.grammar.specs.Float as numbers
use Rattle.grammar.specs.Float.{caseless}
use Rattle.grammar.specs.Lexeme.{spelling}
use Rattle.grammar.specs.Pattern.{bytes, literal}
use Rattle.grammar.specs.Spelled.{Spelled, fits, misfits, float, no_float, Holds, AllHold, lexemes}
use Rattle.grammar.specs.Symbol.{same}
use Rattle.grammar.proofs.Doors.{by_test, carried, also, implies, denied, look_through, each, text_is, matched, fitting}

unfoldable holds : (s : Spelled) → Dec (Holds s)
holds (fits k s) = fitting k (bytes s)
holds (misfits k s) = denied (fitting k (bytes s))
holds (float s) = matched numbers.float (bytes s)
holds (no_float s) = denied (matched numbers.float (bytes s))

unfoldable all_hold : (ss : List Spelled) → Dec (AllHold ss)
all_hold [] = yes tt
all_hold (s ∷ ss) = also (holds s) (all_hold ss)

unfoldable is_so : {A : Type 0} → Dec A → Bool
is_so (yes a) = true
is_so (no z) = false

so : {A : Type 0} (d : Dec A) → T (is_so d) → A
unfolding is_so
so (yes a) t = a
so (no z) t = absurd t

pub lexemes_right : AllHold lexemes
unfolding is_so all_hold holds by_test carried also implies denied look_through each text_is matched fitting dec_le dec_lt ℕ_discrete literal spelling matches after nullable caseless same
lexemes_right = so (all_hold lexemes) tt
