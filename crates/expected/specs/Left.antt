-- What is left to read at a place, if the tokens before it are taken within the limit.
use Rattle.std.specs.Prelude.{ℕ, ◌/◌, ◌≤◌, ◌<◌, Bool, true, false, List, [], ◌∷◌, ◌≡◌, Option, Some, None, length, drop}
use Rattle.grammar.specs.Door.{RightEdition, RightList, Whole}
use Rattle.grammar.specs.Edition.{Edition, edition}
use Rattle.grammar.specs.Expected.{Met}
use Rattle.grammar.specs.Kaori.{kaori, script}
use Rattle.grammar.specs.Kind.{Eof}
use Rattle.grammar.specs.Token.{kind, count}
use Rattle.grammar.proofs.Fares.{Within}
use Rattle.grammar.proofs.Stack.{want}
use Rattle.grammar.proofs.Stopping.{marks}
use Rattle.expected.specs.Cells.{decoded, Sound}

-- something may be told of this code: in a list of so many numbers, an edition and a limit that the door lets in, and at a token of the list
pub record AskedOf (numbers n limit code place : ℕ) : Type 0 where
  pub least : 8 ≤ code
  pub most : code ≤ 11
  pub some_depth : 1 ≤ limit
  pub least_depth : limit ≤ 64
  pub right : RightEdition n
  pub whole : RightList numbers
  pub inside : place < numbers / 3

pub record Asks (numbers n limit code place : ℕ) (r : Bool) : Type 0 where
  pub yes : r ≡ true → AskedOf numbers n limit code place
  pub no : r ≡ false → AskedOf numbers n limit code place → ⊥

pub record Asked (ts : List ℕ) (limit place : ℕ) : Type 0 where
  pub shallow : limit ≤ 64
  pub whole : Whole ts
  pub inside : place < count ts

-- the tokens before the place are taken within the limit, and this is left of a script: the cells from the top on, with so many constructs open
pub record Reached (e : Edition) (ts : List ℕ) (limit place : ℕ) (room : List ℕ) (top depth : ℕ) : Type 0 where
  pub within : Within (kaori e) (kind ts) limit (want script ∷ []) 0 (decoded (drop top room)) place
  pub known : (i : ℕ) → i < place → kind ts i ≤ Eof
  pub deep : depth ≡ marks (decoded (drop top room))
  pub sounds : Sound (drop top room)
  pub fits : top ≤ length room
  pub spare : 8 ≤ top
  pub whole_room : length room ≡ 1024

-- or reading is not refused at the place
unfoldable pub ComesTo : (n : ℕ) (ts : List ℕ) (limit place : ℕ) (room : List ℕ) → Option (ℕ × ℕ) → Type 0
ComesTo n ts limit place room (Some (top, depth)) = Reached (edition n) ts limit place room top depth
ComesTo n ts limit place room None = (code : ℕ) → 8 ≤ code → Met n ts limit code place → ⊥

pub record LeftAt (n : ℕ) (ts : List ℕ) (limit place : ℕ) (room : List ℕ) (r : Option (ℕ × ℕ)) : Type 0 where
  pub says : ComesTo n ts limit place room r
