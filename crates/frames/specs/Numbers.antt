-- Lists of numbers in a frame: four bytes each, the lowest first.
use Rattle.std.specs.Prelude.{ℕ, zero, suc, ◌+◌, ◌/◌, ◌%◌, List, [], ◌∷◌, set}
use Rattle.wire.specs.Number.{number}

-- a room with a number's four bytes from a place on, and with those of a list
abbrev pub put_at : (n : ℕ) (out : List ℕ) (at : ℕ) → List ℕ
put_at n out i = set (set (set (set out i (n % 256)) (i + 1) (n / 256 % 256)) (i + 2) (n / 65536 % 256)) (i + 3) (n / 16777216 % 256)

unfoldable pub put_from : (list out : List ℕ) (from : ℕ) → List ℕ
put_from [] out i = out
put_from (n ∷ ns) out i = put_from ns (put_at n out i) (i + 4)

-- a list with so many numbers of a frame, which stand from a place on, in the places from `at` on
unfoldable pub taken : (count : ℕ) (frame : List ℕ) (from : ℕ) (list : List ℕ) (at : ℕ) → List ℕ
taken zero f i l k = l
taken (suc c) f i l k = taken c f (i + 4) (set l k (number f i)) (k + 1)
