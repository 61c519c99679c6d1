-- Rows that another build wrote: what has to hold of them, and what the check answers. Document 02, L8: 'Check: kinds 1 to 26; operators, Booleans, symbols and
-- lists in range; children earlier, the absent number apart; every row but the last named once; last row a Block with no tail; lists consecutive and covering all
-- links in node order; absent only where allowed; unused numbers 0'. L11: 'L8 adds the parent rule last'. L14: 'L2, L8 and L9 take the edition'. Spans and symbol rows
-- have no rule.
use Rattle.std.specs.Prelude.{ℕ, zero, suc, ◌+◌, ◌-◌, ◌*◌, ◌/◌, ◌≤◌, ◌<◌, List, [], ◌∷◌, ◌++◌, map, ◌⊎◌, ◌≡◌, length, get_or, take, drop}
use Rattle.grammar.specs.Door.{FirstWithout, RightEdition}
use Rattle.grammar.specs.Edition.{Edition, edition}
use Rattle.grammar.specs.Handle.{absent}
use Rattle.grammar.specs.Label.{Node, number_of}
use Rattle.grammar.specs.Layout.{Slot, layout}
use Rattle.grammar.specs.Naming.{height, named_by, named_below, times}
use Rattle.grammar.specs.Parent.{parent, own, tenth}
use Rattle.grammar.specs.Room.{Rooms, node_width, link_width, symbol_width, cleared}
use Rattle.grammar.specs.Rows.{Rows}

-- what stands in a row after its kind and span, and in its links
pub data Item : Type 0 where
  number : (limit n : ℕ) → Item  -- an operator or a Boolean, and how many there are
  child : ℕ → Item  -- a row
  option : ℕ → Item  -- a row, or absent
  symbol : ℕ → Item
  list : (first count : ℕ) → Item
  unused : ℕ → Item

-- what so many link rows hold: (node, 0, 0), (N) or (key, value, 0)
unfoldable pub node_items : (count : ℕ) (links : List ℕ) → List Item
node_items zero ls = []
node_items (suc n) ls = child (get_or ls 0 0) ∷ unused (get_or ls 1 0) ∷ unused (get_or ls 2 0) ∷ node_items n (drop link_width ls)

unfoldable pub name_items : (count : ℕ) (links : List ℕ) → List Item
name_items zero ls = []
name_items (suc n) ls = symbol (get_or ls 0 0) ∷ name_items n (drop link_width ls)

unfoldable pub entry_items : (count : ℕ) (links : List ℕ) → List Item
entry_items zero ls = []
entry_items (suc n) ls = child (get_or ls 0 0) ∷ option (get_or ls 1 0) ∷ unused (get_or ls 2 0) ∷ entry_items n (drop link_width ls)

-- what a row's numbers xs hold by their slots, a list's links behind it; those left over are unused
unfoldable pub items : (links : List ℕ) → List Slot → (xs : List ℕ) → List Item
items ls [] xs = map unused xs
items ls (Slot.below n ∷ ss) xs = number n (get_or xs 0 0) ∷ items ls ss (drop 1 xs)
items ls (Slot.child ∷ ss) xs = child (get_or xs 0 0) ∷ items ls ss (drop 1 xs)
items ls (Slot.option ∷ ss) xs = option (get_or xs 0 0) ∷ items ls ss (drop 1 xs)
items ls (Slot.symbol ∷ ss) xs = symbol (get_or xs 0 0) ∷ items ls ss (drop 1 xs)
items ls (Slot.name ∷ ss) xs = symbol (get_or xs 0 0) ∷ items ls ss (drop 3 xs)
items ls (Slot.nodes ∷ ss) xs = list (get_or xs 0 0) (get_or xs 1 0) ∷ node_items (get_or xs 1 0) (drop (link_width * get_or xs 0 0) ls) ++ items ls ss (drop 2 xs)
items ls (Slot.names ∷ ss) xs = list (get_or xs 0 0) (get_or xs 1 0) ∷ name_items (get_or xs 1 0) (drop (link_width * get_or xs 0 0) ls) ++ items ls ss (drop 2 xs)
items ls (Slot.entries ∷ ss) xs = list (get_or xs 0 0) (get_or xs 1 0) ∷ entry_items (get_or xs 1 0) (drop (link_width * get_or xs 0 0) ls) ++ items ls ss (drop 2 xs)

abbrev pub kind_of : Rows → (row : ℕ) → ℕ
kind_of w i = get_or (own w i) 0 0

-- row i's, in an edition
unfoldable pub items_of : Edition → Rows → (row : ℕ) → List Item
items_of e w i = items w.links (layout e (kind_of w i)) (drop 3 (own w i))

abbrev pub link_count : Rows → ℕ
link_count w = length w.links / link_width

pub data Each {A : Type 0} (P : A → Type 0) : List A → Type 0 where
  nil : Each P []
  cons : {x : A} {xs : List A} → P x → Each P xs → Each P (x ∷ xs)

-- 1: 'kinds 1 to 26'
pub record KnownKind (w : Rows) (i : ℕ) : Type 0 where
  pub least : 1 ≤ kind_of w i
  pub most : kind_of w i ≤ 26

-- 2: 'operators, Booleans, symbols and lists in range', where there are so many symbols and links
abbrev pub InRange : (symbols links : ℕ) → Item → Type 0
InRange s m (number l n) = n < l
InRange s m (child x) = Unit {0}
InRange s m (option x) = Unit {0}
InRange s m (symbol x) = x < s
InRange s m (list f n) = f + n ≤ m
InRange s m (unused x) = Unit {0}

abbrev pub Ranged : Edition → (symbols : ℕ) → Rows → ℕ → Type 0
Ranged e s w i = Each (InRange s (link_count w)) (items_of e w i)

-- 3: 'children earlier, the absent number apart'
abbrev pub Before : (row named : ℕ) → Type 0
Before i x = (x < i) ⊎ (x ≡ absent)

abbrev pub Earlier : Rows → ℕ → Type 0
Earlier w i = Each (Before i) (named_by w i)

-- 4: 'every row but the last named once'
abbrev pub Once : Rows → ℕ → Type 0
Once w i = times i (named_below w (height w)) ≡ 1

-- 5: 'last row a Block with no tail'
pub record Rooted (w : Rows) : Type 0 where
  pub some : 0 < height w
  pub block : kind_of w (height w - 1) ≡ number_of Node.Block
  pub no_tail : get_or (own w (height w - 1)) 5 0 ≡ absent

-- 6: 'lists consecutive and covering all links in node order': each starts where those before it end
abbrev pub lists : List Item → List (ℕ × ℕ)
lists [] = []
lists (number l n ∷ is) = lists is
lists (child x ∷ is) = lists is
lists (option x ∷ is) = lists is
lists (symbol x ∷ is) = lists is
lists (list f n ∷ is) = (f, n) ∷ lists is
lists (unused x ∷ is) = lists is

abbrev pub counted : List (ℕ × ℕ) → ℕ
counted [] = 0
counted (l ∷ ls) = l.1 + counted ls

abbrev pub Consecutive : (from : ℕ) → List (ℕ × ℕ) → Type 0
Consecutive m [] = Unit {0}
Consecutive m (l ∷ ls) = (l.0 ≡ m) × Consecutive (m + l.1) ls

-- how many links the lists of the first n rows have
unfoldable pub covered : Edition → Rows → (n : ℕ) → ℕ
covered e w zero = 0
covered e w (suc n) = covered e w n + counted (lists (items_of e w n))

abbrev pub Follows : Edition → Rows → ℕ → Type 0
Follows e w i = Consecutive (covered e w i) (lists (items_of e w i))

abbrev pub Covering : Edition → Rows → Type 0
Covering e w = covered e w (height w) ≡ link_count w

-- 7: 'absent only where allowed'
abbrev pub Allowed : Item → Type 0
Allowed (number l n) = Unit {0}
Allowed (child x) = x ≡ absent → ⊥
Allowed (option x) = Unit {0}
Allowed (symbol x) = Unit {0}
Allowed (list f n) = Unit {0}
Allowed (unused x) = Unit {0}

abbrev pub Present : Edition → Rows → ℕ → Type 0
Present e w i = Each Allowed (items_of e w i)

-- 8: 'unused numbers 0'
abbrev pub Zero : Item → Type 0
Zero (number l n) = Unit {0}
Zero (child x) = Unit {0}
Zero (option x) = Unit {0}
Zero (symbol x) = Unit {0}
Zero (list f n) = Unit {0}
Zero (unused x) = x ≡ 0

abbrev pub Clean : Edition → Rows → ℕ → Type 0
Clean e w i = Each Zero (items_of e w i)

-- 9: the parent rule, 'the tenth number is the one later row that names this one', absent at the last row, which none names
abbrev pub ParentRight : Rows → ℕ → Type 0
ParentRight w i = tenth w i ≡ parent w (height w) i

-- in an edition, where there are so many symbols
module _ (e : Edition) (s : ℕ) (w : Rows) where
  -- 'It accepts exactly when all hold'
  pub record Checked : Type 0 where
    pub kinds : (i : ℕ) → i < height w → KnownKind w i
    pub ranges : (i : ℕ) → i < height w → Ranged e s w i
    pub earlier : (i : ℕ) → i < height w → Earlier w i
    pub once : (i : ℕ) → i < height w - 1 → Once w i
    pub rooted : Rooted w
    pub follows : (i : ℕ) → i < height w → Follows e w i
    pub covering : Covering e w
    pub present : (i : ℕ) → i < height w → Present e w i
    pub clean : (i : ℕ) → i < height w → Clean e w i
    pub parents : (i : ℕ) → i < height w → ParentRight w i

  -- 'the first row that breaks it, itself or in its links (the last row where links are left over, 0 where there are no rows)'
  pub data Breaks : (rule row : ℕ) → Type 0 where
    kinds : {i : ℕ} → FirstWithout (KnownKind w) (height w) i → Breaks 1 i
    ranges : {i : ℕ} → FirstWithout (Ranged e s w) (height w) i → Breaks 2 i
    earlier : {i : ℕ} → FirstWithout (Earlier w) (height w) i → Breaks 3 i
    once : {i : ℕ} → FirstWithout (Once w) (height w - 1) i → Breaks 4 i
    rooted : (Rooted w → ⊥) → Breaks 5 (height w - 1)
    follows : {i : ℕ} → FirstWithout (Follows e w) (height w) i → Breaks 6 i
    left_over : ((i : ℕ) → i < height w → Follows e w i) → (Covering e w → ⊥) → Breaks 6 (height w - 1)
    present : {i : ℕ} → FirstWithout (Present e w) (height w) i → Breaks 7 i
    clean : {i : ℕ} → FirstWithout (Clean e w) (height w) i → Breaks 8 i
    parents : {i : ℕ} → FirstWithout (ParentRight w) (height w) i → Breaks 9 i

  -- 'the first failed rule'
  pub record Fails (rule row : ℕ) : Type 0 where
    pub breaks : Breaks rule row
    pub first : {r i : ℕ} → Breaks r i → rule ≤ r

-- what is handed over: the edition's number, three counts, and the rooms
pub record Given : Type 0 where
  pub edition : ℕ
  pub nodes : ℕ
  pub links : ℕ
  pub symbols : ℕ
  pub rooms : Rooms

-- the counts are not 'past what was lent'; scratch has a number for each node row and two for each link row
pub record Lends (g : Given) : Type 0 where
  pub nodes : node_width * g.nodes ≤ length g.rooms.nodes
  pub links : link_width * g.links ≤ length g.rooms.links
  pub symbols : symbol_width * g.symbols ≤ length g.rooms.symbols
  pub scratch : g.nodes + 2 * g.links ≤ length g.rooms.scratch

-- the rows that the counts tell of
abbrev pub used : Given → Rows
used g = record { nodes = take (node_width * g.nodes) g.rooms.nodes; links = take (link_width * g.links) g.rooms.links }

-- the rooms once rows are looked at: the scratch room is zero throughout
abbrev pub scratch_cleared : Rooms → Rooms
scratch_cleared r = record { nodes = r.nodes; links = r.links; symbols = r.symbols; scratch = cleared r.scratch }

-- 'Refusals: 15 first, for counts past what was lent'; then 21; 'then 22 with the first failed rule and the first row that breaks it'. One answer and no other (`one-check`)
pub data Checks (g : Given) : (code rule row : ℕ) → Rooms → Type 0 where
  past : (Lends g → ⊥) → Checks g 15 0 0 g.rooms
  no_edition : Lends g → (RightEdition g.edition → ⊥) → Checks g 21 0 0 g.rooms
  failed : {rule row : ℕ} → Lends g → RightEdition g.edition → Fails (edition g.edition) g.symbols (used g) rule row → Checks g 22 rule row (scratch_cleared g.rooms)
  passed : Lends g → RightEdition g.edition → Checked (edition g.edition) g.symbols (used g) → Checks g 0 0 0 (scratch_cleared g.rooms)
