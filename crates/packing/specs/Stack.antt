-- What waits to be heard: a stack of two numbers each: what it is, and of which row or link. The last that came is the first to go.
use Rattle.std.specs.Prelude.{ℕ, zero, suc, ◌+◌, ◌-◌, ◌*◌, ◌≤◌, ◌<◌, cond, List, [], ◌∷◌, ◌++◌, ◌≡◌, eqb, ltb, length, get_or}
use Rattle.grammar.specs.Handle.{absent}
use Rattle.grammar.specs.Room.{node_width, link_width}
use Rattle.grammar.specs.Rows.{Rows}
use Rattle.parts.specs.Spoken.{Part, word, row}
use Rattle.packing.specs.Roles.{at, link_word, name_at, string_at}

-- 0: a row. 1: the name in a link row. From 16 on: a string, whose symbol is that number of its row, less 16. Others: a name at that number of a row
unfoldable pub source : Rows → (tag x : ℕ) → Part
source w t x = cond (eqb t 0) (row x) (cond (eqb t 1) (word (link_word w.links x)) (cond (ltb t 16) (word (name_at w.nodes x t)) (word (string_at w.nodes x (t - 16)))))

-- the parts that wait, the next one first
unfoldable pub stacked : Rows → (stack : List ℕ) (top : ℕ) → List Part
stacked w st zero = []
stacked w st (suc n) = source w (get_or st (2 * n) 0) (get_or st (2 * n + 1) 0) ∷ stacked w st n

-- parts without absent rows, which never wait
unfoldable pub present : List Part → List Part
present [] = []
present (word x ∷ ps) = word x ∷ present ps
present (row i ∷ ps) = cond (eqb i absent) (present ps) (row i ∷ present ps)

-- there is room for so many more
abbrev pub RoomFor : (top more numbers : ℕ) → Type 0
RoomFor top k n = 2 * (k + top) ≤ n

-- these came, the first of them last
pub record Pushed (w : Rows) (top : ℕ) (ps : List Part) (before after : List ℕ) (r : ℕ) : Type 0 where
  pub stack : stacked w after r ≡ present ps ++ stacked w before top
  pub many : r ≡ length (present ps) + top

-- number j of a row, and the links of the list that it begins, are there
pub record HoldsNumber (nodes links : List ℕ) (row j role : ℕ) : Type 0 where
  pub room : node_width * row + node_width ≤ length nodes
  pub inside : j < 9
  pub known : role ≤ 6
  pub list : 4 ≤ role → link_width * (at nodes row j + at nodes row (j + 1)) ≤ length links
  pub few : 4 ≤ role → at nodes row j + at nodes row (j + 1) ≤ 4294967295
  pub name : role ≡ 3 → 3 ≤ j
