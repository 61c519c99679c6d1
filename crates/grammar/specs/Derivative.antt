-- A test of a pattern, byte by byte: whether the empty text matches, and what the rest of a text has to match once its first byte is x. That it is true exactly
-- of the texts that match is proved (`matches-means`). No definition of an answer uses it: the readers of lexemes are held to it, and the tables are decided by it.
use Rattle.std.specs.Prelude.{ℕ, Bool, true, false, cond, ◌&&◌, ◌||◌, List, [], ◌∷◌}
use Rattle.grammar.specs.Pattern.{Pattern}

unfoldable pub nullable : Pattern → Bool
nullable Pattern.nothing = true
nullable (Pattern.byte test) = false
nullable (Pattern.sequence p q) = nullable p && nullable q
nullable (Pattern.either p q) = nullable p || nullable q
nullable (Pattern.many p) = true

-- what no text matches
abbrev pub never : Pattern
never = Pattern.byte (λ x. false)

unfoldable pub after : ℕ → Pattern → Pattern
after x Pattern.nothing = never
after x (Pattern.byte test) = cond (test x) Pattern.nothing never
after x (Pattern.sequence p q) = Pattern.either (Pattern.sequence (after x p) q) (cond (nullable p) (after x q) never)
after x (Pattern.either p q) = Pattern.either (after x p) (after x q)
after x (Pattern.many p) = Pattern.sequence (after x p) (Pattern.many p)

unfoldable pub matches : Pattern → List ℕ → Bool
matches p [] = nullable p
matches p (x ∷ xs) = matches (after x p) xs
