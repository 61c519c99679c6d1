-- Numbers as bytes: in decimal, as the program `rows` prints them, and in four bytes, as it reads them.
use Rattle.std.specs.Prelude.{ℕ, zero, suc, ◌+◌, ◌*◌, ◌/◌, ◌%◌, true, false, List, [], ◌∷◌, ◌++◌, ltb, get_or}

-- `0` to `9`
abbrev pub digit : ℕ → ℕ
digit d = 48 + d

-- the digits of n, where at most k stand before the last
unfoldable pub digits : (k n : ℕ) → List ℕ
digits zero n = digit n ∷ []
digits (suc k) n = elim (ltb n 10) [ true ↦ digit n ∷ [] | false ↦ digits k (n / 10) ++ (digit (n % 10) ∷ []) ]

-- in decimal; a number has no more digits than it says
unfoldable pub decimal : ℕ → List ℕ
decimal n = digits n n

-- '4 bytes, little-endian', from a place on
abbrev pub number : (input : List ℕ) (at : ℕ) → ℕ
number input at = get_or input at 0 + 256 * get_or input (at + 1) 0 + 65536 * get_or input (at + 2) 0 + 16777216 * get_or input (at + 3) 0
