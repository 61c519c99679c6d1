-- The corners of lines' ends, as a table that is computed from the definition: a text, and line and column of each offset from 0 to its length.
use Prim.Native.Nat.{ℕ, zero, suc}
use mathlib.Core.List.{List, [], ◌∷◌, ◌++◌, map}
use mathlib.Core.Path.{◌≡◌, refl}
use lib.ListN.{length}
use Rattle.grammar.specs.Pattern.{bytes}
use Rattle.diagnostics.specs.Line.{ends, line_of}

abbrev pub corners : List (List ℕ × List (ℕ × ℕ))
corners =
    (bytes "", (1, 1) ∷ []) ∷
    (bytes "a\nb", (1, 1) ∷ (1, 2) ∷ (2, 1) ∷ (2, 2) ∷ []) ∷
    (bytes "a\rb", (1, 1) ∷ (1, 2) ∷ (2, 1) ∷ (2, 2) ∷ []) ∷
    (bytes "a\r\nb", (1, 1) ∷ (1, 2) ∷ (1, 3) ∷ (2, 1) ∷ (2, 2) ∷ []) ∷  -- the 10 of a pair: the next column of the old line
    (bytes "\n\r", (1, 1) ∷ (2, 1) ∷ (3, 1) ∷ []) ∷  -- two ends
    (bytes "\r\r\n", (1, 1) ∷ (2, 1) ∷ (2, 2) ∷ (3, 1) ∷ []) ∷  -- a 13 alone, and a pair
    (bytes "\r\n\n", (1, 1) ∷ (1, 2) ∷ (2, 1) ∷ (3, 1) ∷ []) ∷  -- a pair, and a 10
    (bytes "a\r", (1, 1) ∷ (1, 2) ∷ (2, 1) ∷ []) ∷  -- a last 13 is alone
    []

-- the places of the offsets up to n
abbrev places : List ℕ → (n : ℕ) → List (ℕ × ℕ)
places text zero = ((line_of text 0).line, (line_of text 0).column) ∷ []
places text (suc n) = places text n ++ (((line_of text (suc n)).line, (line_of text (suc n)).column) ∷ [])

pub corners_right : map (λ c. places c.0 (length c.0)) corners ≡ map (λ c. c.1) corners
unfolding line_of ends
corners_right = refl
