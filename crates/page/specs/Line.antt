-- What of a line is not written yet, and what stands there once bytes are put behind it. A room that is full is written first, and then the byte stands alone.
use Rattle.std.specs.Prelude.{ℕ, List, [], ◌∷◌, ◌++◌, take, length, ltb, cond}
use Rattle.page.specs.declared.Line.{Line}

abbrev pub held : Line → List ℕ
held l = take l.at l.room

-- behind the bytes that stand there
unfoldable pub after : ℕ → List ℕ → List ℕ
after byte bytes = cond (ltb (length bytes) 4096) (bytes ++ (byte ∷ [])) (byte ∷ [])

unfoldable pub puts : List ℕ → List ℕ → List ℕ
puts [] bytes = bytes
puts (byte ∷ more) bytes = puts more (after byte bytes)
