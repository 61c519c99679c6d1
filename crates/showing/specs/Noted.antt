-- What was noted of a row: the part of the text that it covers.
use Rattle.std.specs.Prelude.{ℕ, ◌≤◌, ◌<◌, List, ◌≡◌, length, slice_get, Some}
use Rattle.showing.specs.declared.cover.Part.{Part}

pub record Noted (covers : List Part) (row : ℕ) (r : Part) : Type 0 where
  pub known : row < length covers → slice_get covers row ≡ Some r
  pub unknown : length covers ≤ row → r ≡ record { start = 0; end = 0 }
