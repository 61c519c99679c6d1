-- What is known of a frame. Which bytes the system has for it, and whether it takes those that it is given, no contract can say.
use Rattle.std.specs.Prelude.{ℕ, ◌≤◌, ◌<◌, Bool, true, List, ◌≡◌, length, take, drop, Option, MatchOption}

-- n bytes at the start of a room: they lie in it, and those after them are as they were. That its part of so many bytes has so many follows, and spares a caller the proof
abbrev pub Stands : (before after : List ℕ) (n : ℕ) → Type 0
Stands before after n = (n ≤ length after) × (n ≡ length (take n after)) × (drop n after ≡ drop n before)

-- a frame that was read
abbrev pub Framed : (before after : List ℕ) → Option ℕ → Type 0
Framed before after r = MatchOption r (Unit {0}) (Stands before after)

-- a frame that was written has a length that four bytes can say
pub record Sent (part : List ℕ) (r : Bool) : Type 0 where
  pub short : r ≡ true → length part < 4294967296
