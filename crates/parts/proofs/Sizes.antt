-- How many numbers moved and packed rows have, that rows and links go to the front in their order, and where the lists of rows that pass the check of foreign
-- rows stand: each where those before it end.
use Prim.Native.Nat.{ℕ, zero, suc, ◌+◌, ◌*◌, ◌≤◌, ◌<◌}
use native.Mathlib.Decide.{dec_lt}
use native.Mathlib.Omega.{arith}
use mathlib.Core.Bool.{Bool, true, false, cond, ◌&&◌}
use mathlib.Core.List.{List, [], ◌∷◌, ◌++◌, map}
use mathlib.Core.Path.{◌≡◌, refl, sym, ap, ◌∙◌}
use lib.Dec.{T, eqb, leb, leb→le}
use borrow.Author.Tests.{eqb-false, eq-eqb, ne_eqb}
use lib.ListN.{length, get_or, take, drop, replicate, length-append, length-take, length-drop, length-replicate, get_or-map}
use lib.Seq.{drop_at, drop-drop, take-take}
use Rattle.grammar.specs.Edition.{Edition}
use Rattle.grammar.specs.Handle.{absent}
use Rattle.grammar.specs.Layout.{Slot, below, child, option, symbol, name, nodes, names, entries, layout, layouts}
use Rattle.grammar.specs.Naming.{naming, height, named_by}
use Rattle.grammar.specs.Parent.{own, tenth}
use Rattle.grammar.specs.Pattern.{among}
use Rattle.grammar.specs.Room.{node_width, own_width, link_width}
use Rattle.grammar.specs.Rows.{Rows}
use Rattle.grammar.proofs.Parents.{Found, found, named_own}
use Rattle.grammar.proofs.Pieces.{first_on, named_alike}
use Rattle.grammar.proofs.Tests.{both}
use Rattle.foreign.specs.Check.{Item, node_items, name_items, entry_items, items, items_of, kind_of, link_count, lists, counted, Consecutive, covered, Checked}
use Rattle.foreign.proofs.Walks.{named_earlier}
use Rattle.parts.specs.Moved.{Move, moved_numbers, moved_nodes, moved_names, moved_entries, moved_lists, list_links, slots_of, moved_row, moved_links, row_links}
use Rattle.parts.specs.Spoken.{parts}
use Rattle.parts.specs.Packed.{root_row, kept, stays_in, stays, rows_kept, links_kept, links_before, packing, packed_nodes, packed_links, root_links}

-- how many numbers slots take: no kind takes more than six
abbrev pub width : List Slot → ℕ
width [] = 0
width (below n ∷ ss) = 1 + width ss
width (child ∷ ss) = 1 + width ss
width (option ∷ ss) = 1 + width ss
width (symbol ∷ ss) = 1 + width ss
width (name ∷ ss) = 3 + width ss
width (nodes ∷ ss) = 2 + width ss
width (names ∷ ss) = 2 + width ss
width (entries ∷ ss) = 2 + width ss

all_narrow : List (List Slot) → Bool
all_narrow [] = true
all_narrow (ss ∷ sss) = leb (width ss) 6 && all_narrow sss

pub narrow : (k : ℕ) → width (layout Edition.second k) ≤ 6
unfolding layout all_narrow
narrow k = pick (layouts Edition.second) k tt
  where
    pick : (sss : List (List Slot)) (i : ℕ) → T (all_narrow sss) → width (get_or sss i []) ≤ 6
    pick [] i t = omega arith
    pick (ss ∷ sss) zero t = leb→le (width ss) 6 (both (leb (width ss) 6) (all_narrow sss) t).0
    pick (ss ∷ sss) (suc i) t = pick sss i (both (leb (width ss) 6) (all_narrow sss) t).1

-- a row's own numbers
pub own_length : (w : Rows) (i : ℕ) → i < height w → length (own w i) ≡ own_width
own_length w i h = simp (length-take, length-drop) (omega arith)

-- moved numbers are as many
module _ (m : Move) where
  pub moved_numbers_length : (ss : List Slot) (xs : List ℕ) → width ss ≤ length xs → length (moved_numbers m ss xs) ≡ length xs
  unfolding moved_numbers
  moved_numbers_length [] xs h = refl
  moved_numbers_length (below n ∷ ss) xs h = let e = length-drop 1 xs in omega (arith, moved_numbers_length ss (drop 1 xs) (omega arith))
  moved_numbers_length (child ∷ ss) xs h = let e = length-drop 1 xs in omega (arith, moved_numbers_length ss (drop 1 xs) (omega arith))
  moved_numbers_length (option ∷ ss) xs h = let e = length-drop 1 xs in omega (arith, moved_numbers_length ss (drop 1 xs) (omega arith))
  moved_numbers_length (symbol ∷ ss) xs h = let e = length-drop 1 xs in omega (arith, moved_numbers_length ss (drop 1 xs) (omega arith))
  moved_numbers_length (name ∷ ss) xs h = let e = length-drop 3 xs in omega (arith, moved_numbers_length ss (drop 3 xs) (omega arith))
  moved_numbers_length (nodes ∷ ss) xs h = let e = length-drop 2 xs in omega (arith, moved_numbers_length ss (drop 2 xs) (omega arith))
  moved_numbers_length (names ∷ ss) xs h = let e = length-drop 2 xs in omega (arith, moved_numbers_length ss (drop 2 xs) (omega arith))
  moved_numbers_length (entries ∷ ss) xs h = let e = length-drop 2 xs in omega (arith, moved_numbers_length ss (drop 2 xs) (omega arith))

  -- the six after a row's kind and span, and all ten
  pub moved_fields_length : (w : Rows) (i : ℕ) → i < height w → length (moved_numbers m (slots_of w i) (drop 3 (own w i))) ≡ 6
  moved_fields_length w i h = let e = length-drop 3 (own w i) in let l = own_length w i h in omega (arith, moved_numbers_length (slots_of w i) (drop 3 (own w i)) (omega (arith, narrow (kind_of w i))))

  pub moved_row_length : (w : Rows) (i : ℕ) → i < height w → length (moved_row m w i) ≡ node_width
  unfolding moved_row
  moved_row_length w i h = simp length-append (omega (arith, moved_fields_length w i h))

  -- three for each link
  pub moved_nodes_length : (n : ℕ) (ls : List ℕ) → length (moved_nodes m n ls) ≡ link_width * n
  unfolding moved_nodes
  moved_nodes_length zero ls = refl
  moved_nodes_length (suc n) ls = omega (arith, moved_nodes_length n (drop link_width ls))

  pub moved_names_length : (n : ℕ) (ls : List ℕ) → length (moved_names m n ls) ≡ link_width * n
  unfolding moved_names
  moved_names_length zero ls = refl
  moved_names_length (suc n) ls = omega (arith, moved_names_length n (drop link_width ls))

  pub moved_entries_length : (n : ℕ) (ls : List ℕ) → length (moved_entries m n ls) ≡ link_width * n
  unfolding moved_entries
  moved_entries_length zero ls = refl
  moved_entries_length (suc n) ls = omega (arith, moved_entries_length n (drop link_width ls))

  pub moved_lists_length : (ls : List ℕ) (ss : List Slot) (xs : List ℕ) → length (moved_lists m ls ss xs) ≡ link_width * list_links ss xs
  unfolding moved_lists list_links
  moved_lists_length ls [] xs = refl
  moved_lists_length ls (below n ∷ ss) xs = moved_lists_length ls ss (drop 1 xs)
  moved_lists_length ls (child ∷ ss) xs = moved_lists_length ls ss (drop 1 xs)
  moved_lists_length ls (option ∷ ss) xs = moved_lists_length ls ss (drop 1 xs)
  moved_lists_length ls (symbol ∷ ss) xs = moved_lists_length ls ss (drop 1 xs)
  moved_lists_length ls (name ∷ ss) xs = moved_lists_length ls ss (drop 3 xs)
  moved_lists_length ls (nodes ∷ ss) xs = simp length-append (omega (arith, moved_nodes_length (get_or xs 1 0) (drop (link_width * get_or xs 0 0) ls), moved_lists_length ls ss (drop 2 xs)))
  moved_lists_length ls (names ∷ ss) xs = simp length-append (omega (arith, moved_names_length (get_or xs 1 0) (drop (link_width * get_or xs 0 0) ls), moved_lists_length ls ss (drop 2 xs)))
  moved_lists_length ls (entries ∷ ss) xs = simp length-append (omega (arith, moved_entries_length (get_or xs 1 0) (drop (link_width * get_or xs 0 0) ls), moved_lists_length ls ss (drop 2 xs)))

  pub moved_links_length : (w : Rows) (i : ℕ) → length (moved_links m w i) ≡ link_width * row_links w i
  unfolding moved_links row_links
  moved_links_length w i = moved_lists_length w.links (slots_of w i) (drop 3 (own w i))

-- so the packed ones are as many as stay
either_length : (b : Bool) (k n : ℕ) (xs : List ℕ) → length xs ≡ k * n → length (cond b xs []) ≡ k * cond b n 0
either_length true k n xs e = e
either_length false k n xs e = omega arith

most_one : (b : Bool) (n : ℕ) → cond b n 0 ≤ n
most_one true n = omega arith
most_one false n = omega arith

module _ (c : ℕ → Bool) (w : Rows) where
  module _ (ρ : ℕ → ℕ) where
    pub packed_nodes_length : (n : ℕ) → n ≤ height w → length (packed_nodes c ρ w n) ≡ node_width * rows_kept c w n
    unfolding packed_nodes rows_kept
    packed_nodes_length zero h = refl
    packed_nodes_length (suc i) h = simp length-append (omega (arith, packed_nodes_length i (omega arith), either_length (stays c w i) node_width 1 (moved_row (packing c ρ w i) w i) (moved_row_length (packing c ρ w i) w i h)))

    pub packed_links_length : (n : ℕ) → length (packed_links c ρ w n) ≡ link_width * links_kept c w n
    unfolding packed_links links_kept
    packed_links_length zero = refl
    packed_links_length (suc i) = simp length-append (omega (arith, packed_links_length i, either_length (stays c w i) link_width (row_links w i) (moved_links (packing c ρ w i) w i) (moved_links_length (packing c ρ w i) w i)))

    pub root_links_length : (is : List ℕ) → length (root_links c ρ w is) ≡ link_width * length is
    unfolding root_links
    root_links_length [] = refl
    root_links_length (i ∷ is) = omega (arith, root_links_length is)

  -- no more than there are, and in their order
  pub rows_kept_most : (n : ℕ) → rows_kept c w n ≤ n
  unfolding rows_kept
  rows_kept_most zero = omega arith
  rows_kept_most (suc i) = omega (arith, rows_kept_most i, most_one (stays c w i) 1)

  pub rows_kept_rises : (m n : ℕ) → m ≤ n → rows_kept c w m ≤ rows_kept c w n
  unfolding rows_kept
  rows_kept_rises m zero h = let e : m ≡ 0 = omega arith in rw e (omega arith)
  rows_kept_rises m (suc n) h = elim (dec_lt m (suc n)) [ yes l ↦ omega (arith, rows_kept_rises m n (omega arith)) | no l ↦ let e : m ≡ suc n = omega arith in rw e (omega arith) ]

  -- no more stay from m to n than there are
  pub rows_kept_between : (m n : ℕ) → m ≤ n → rows_kept c w n + m ≤ rows_kept c w m + n
  unfolding rows_kept
  rows_kept_between m zero h = let e : m ≡ 0 = omega arith in rw e (omega arith)
  rows_kept_between m (suc n) h = elim (dec_lt m (suc n)) [ yes l ↦ omega (arith, rows_kept_between m n (omega arith), most_one (stays c w n) 1) | no l ↦ let e : m ≡ suc n = omega arith in rw e (omega arith) ]

  pub links_kept_most : (n : ℕ) → links_kept c w n ≤ links_before w n
  unfolding links_kept links_before
  links_kept_most zero = omega arith
  links_kept_most (suc i) = omega (arith, links_kept_most i, most_one (stays c w i) (row_links w i))

  pub links_kept_rises : (m n : ℕ) → m ≤ n → links_kept c w m ≤ links_kept c w n
  unfolding links_kept
  links_kept_rises m zero h = let e : m ≡ 0 = omega arith in rw e (omega arith)
  links_kept_rises m (suc n) h = elim (dec_lt m (suc n)) [ yes l ↦ omega (arith, links_kept_rises m n (omega arith)) | no l ↦ let e : m ≡ suc n = omega arith in rw e (omega arith) ]

  -- after a row that stays, and after one that does not
  pub rows_kept_next : (i : ℕ) → stays c w i ≡ true → rows_kept c w (suc i) ≡ suc (rows_kept c w i)
  unfolding rows_kept
  rows_kept_next i h = rw h (omega arith)

  pub rows_kept_same : (i : ℕ) → stays c w i ≡ false → rows_kept c w (suc i) ≡ rows_kept c w i
  unfolding rows_kept
  rows_kept_same i h = rw h (omega arith)

  pub links_kept_next : (i : ℕ) → stays c w i ≡ true → links_kept c w (suc i) ≡ links_kept c w i + row_links w i
  unfolding links_kept
  links_kept_next i h = rw h refl

  pub links_kept_same : (i : ℕ) → stays c w i ≡ false → links_kept c w (suc i) ≡ links_kept c w i
  unfolding links_kept
  links_kept_same i h = rw h (omega arith)

  pub rows_kept_before : (i n : ℕ) → stays c w i ≡ true → i < n → rows_kept c w i < rows_kept c w n
  rows_kept_before i n h l = omega (arith, rows_kept_next i h, rows_kept_rises (suc i) n (omega arith))

pub links_before_rises : (w : Rows) (m n : ℕ) → m ≤ n → links_before w m ≤ links_before w n
unfolding links_before
links_before_rises w m zero h = let e : m ≡ 0 = omega arith in rw e (omega arith)
links_before_rises w m (suc n) h = elim (dec_lt m (suc n)) [ yes l ↦ omega (arith, links_before_rises w m n (omega arith)) | no l ↦ let e : m ≡ suc n = omega arith in rw e (omega arith) ]

-- editions differ in what may be absent alone
abbrev soft : Slot → Slot
soft (below n) = below n
soft child = option
soft option = option
soft symbol = symbol
soft name = name
soft nodes = nodes
soft names = names
soft entries = entries

softened : (e : Edition) → map (map soft) (layouts e) ≡ map (map soft) (layouts Edition.second)
softened Edition.first = refl
softened Edition.second = refl

soft_layout : (e : Edition) (k : ℕ) → map soft (layout e k) ≡ map soft (layout Edition.second k)
unfolding layout
soft_layout e k = sym (get_or-map (map soft) (layouts e) k []) ∙ ap (λ (sss : List (List Slot)). get_or sss k []) (softened e) ∙ get_or-map (map soft) (layouts Edition.second) k []

soft_links : (ss : List Slot) (xs : List ℕ) → list_links (map soft ss) xs ≡ list_links ss xs
unfolding list_links
soft_links [] xs = refl
soft_links (below n ∷ ss) xs = soft_links ss (drop 1 xs)
soft_links (child ∷ ss) xs = soft_links ss (drop 1 xs)
soft_links (option ∷ ss) xs = soft_links ss (drop 1 xs)
soft_links (symbol ∷ ss) xs = soft_links ss (drop 1 xs)
soft_links (name ∷ ss) xs = soft_links ss (drop 3 xs)
soft_links (nodes ∷ ss) xs = rw (soft_links ss (drop 2 xs))
soft_links (names ∷ ss) xs = rw (soft_links ss (drop 2 xs))
soft_links (entries ∷ ss) xs = rw (soft_links ss (drop 2 xs))

soft_numbers : (m : Move) (ss : List Slot) (xs : List ℕ) → moved_numbers m (map soft ss) xs ≡ moved_numbers m ss xs
unfolding moved_numbers
soft_numbers m [] xs = refl
soft_numbers m (below n ∷ ss) xs = rw (soft_numbers m ss (drop 1 xs))
soft_numbers m (child ∷ ss) xs = rw (soft_numbers m ss (drop 1 xs))
soft_numbers m (option ∷ ss) xs = rw (soft_numbers m ss (drop 1 xs))
soft_numbers m (symbol ∷ ss) xs = rw (soft_numbers m ss (drop 1 xs))
soft_numbers m (name ∷ ss) xs = rw (soft_numbers m ss (drop 3 xs))
soft_numbers m (nodes ∷ ss) xs = rw (soft_numbers m ss (drop 2 xs))
soft_numbers m (names ∷ ss) xs = rw (soft_numbers m ss (drop 2 xs))
soft_numbers m (entries ∷ ss) xs = rw (soft_numbers m ss (drop 2 xs))

soft_lists : (m : Move) (ls : List ℕ) (ss : List Slot) (xs : List ℕ) → moved_lists m ls (map soft ss) xs ≡ moved_lists m ls ss xs
unfolding moved_lists
soft_lists m ls [] xs = refl
soft_lists m ls (below n ∷ ss) xs = soft_lists m ls ss (drop 1 xs)
soft_lists m ls (child ∷ ss) xs = soft_lists m ls ss (drop 1 xs)
soft_lists m ls (option ∷ ss) xs = soft_lists m ls ss (drop 1 xs)
soft_lists m ls (symbol ∷ ss) xs = soft_lists m ls ss (drop 1 xs)
soft_lists m ls (name ∷ ss) xs = soft_lists m ls ss (drop 3 xs)
soft_lists m ls (nodes ∷ ss) xs = rw (soft_lists m ls ss (drop 2 xs))
soft_lists m ls (names ∷ ss) xs = rw (soft_lists m ls ss (drop 2 xs))
soft_lists m ls (entries ∷ ss) xs = rw (soft_lists m ls ss (drop 2 xs))

soft_parts : (ls : List ℕ) (ss : List Slot) (a b : ℕ) (xs : List ℕ) → parts ls (map soft ss) a b xs ≡ parts ls ss a b xs
unfolding parts
soft_parts ls [] a b xs = refl
soft_parts ls (below n ∷ ss) a b xs = soft_parts ls ss a b (drop 1 xs)
soft_parts ls (child ∷ ss) a b xs = rw (soft_parts ls ss a b (drop 1 xs))
soft_parts ls (option ∷ ss) a b xs = rw (soft_parts ls ss a b (drop 1 xs))
soft_parts ls (symbol ∷ ss) a b xs = rw (soft_parts ls ss a b (drop 1 xs))
soft_parts ls (name ∷ ss) a b xs = rw (soft_parts ls ss a b (drop 3 xs))
soft_parts ls (nodes ∷ ss) a b xs = rw (soft_parts ls ss a b (drop 2 xs))
soft_parts ls (names ∷ ss) a b xs = rw (soft_parts ls ss a b (drop 2 xs))
soft_parts ls (entries ∷ ss) a b xs = rw (soft_parts ls ss a b (drop 2 xs))

-- so rows move alike in both
module _ (e : Edition) (k : ℕ) (xs : List ℕ) where
  pub links_alike : list_links (layout e k) xs ≡ list_links (layout Edition.second k) xs
  links_alike = sym (soft_links (layout e k) xs) ∙ ap (λ (ss : List Slot). list_links ss xs) (soft_layout e k) ∙ soft_links (layout Edition.second k) xs

  pub numbers_alike : (m : Move) → moved_numbers m (layout e k) xs ≡ moved_numbers m (layout Edition.second k) xs
  numbers_alike m = sym (soft_numbers m (layout e k) xs) ∙ ap (λ (ss : List Slot). moved_numbers m ss xs) (soft_layout e k) ∙ soft_numbers m (layout Edition.second k) xs

  pub lists_alike : (m : Move) (ls : List ℕ) → moved_lists m ls (layout e k) xs ≡ moved_lists m ls (layout Edition.second k) xs
  lists_alike m ls = sym (soft_lists m ls (layout e k) xs) ∙ ap (λ (ss : List Slot). moved_lists m ls ss xs) (soft_layout e k) ∙ soft_lists m ls (layout Edition.second k) xs

  pub parts_alike : (ls : List ℕ) (a b : ℕ) → parts ls (layout e k) a b xs ≡ parts ls (layout Edition.second k) a b xs
  parts_alike ls a b = sym (soft_parts ls (layout e k) a b xs) ∙ ap (λ (ss : List Slot). parts ls ss a b xs) (soft_layout e k) ∙ soft_parts ls (layout Edition.second k) a b xs

-- a row by itself, behind as many numbers as stand before it, names what it does among the others: what it names is read off its own numbers
module _ (w : Rows) (i : ℕ) where
  abbrev zeros : List ℕ
  zeros = replicate (node_width * i) 0

  abbrev alone : Rows
  alone = record { nodes = zeros ++ own w i; links = w.links }

  behind : drop (node_width * i) alone.nodes ≡ own w i
  behind = drop_at zeros (own w i) (node_width * i) (length-replicate (node_width * i) 0)

  alone_own : own alone i ≡ own w i
  alone_own = ap (take own_width) behind ∙ take-take own_width own_width (drop (node_width * i) w.nodes) (omega arith)

  alone_names : named_by alone i ≡ naming w.links (slots_of w i) (drop 3 (own w i))
  unfolding named_by
  alone_names =
      let k : get_or alone.nodes (node_width * i) 0 ≡ kind_of w i = sym (first_on alone.nodes (node_width * i)) ∙ ap (λ (xs : List ℕ). get_or xs 0 0) behind in
      let r : drop (node_width * i + 3) alone.nodes ≡ drop 3 (own w i) = sym (drop-drop 3 (node_width * i) alone.nodes) ∙ ap (drop 3) behind in
      rw (k, r) refl

  pub named_here : (e : Edition) → named_by w i ≡ naming w.links (layout e (kind_of w i)) (drop 3 (own w i))
  named_here e = sym (named_own alone w i alone_own refl) ∙ alone_names ∙ sym (named_alike e w.links (kind_of w i) (drop 3 (own w i)))

-- the links that the check counts
no_lists : (is js : List Item) → lists is ≡ [] → lists (is ++ js) ≡ lists js
no_lists [] js e = refl
no_lists (Item.number l n ∷ is) js e = no_lists is js e
no_lists (Item.child x ∷ is) js e = no_lists is js e
no_lists (Item.option x ∷ is) js e = no_lists is js e
no_lists (Item.symbol x ∷ is) js e = no_lists is js e
no_lists (Item.list f n ∷ is) js e = absurd (let z : ◌≡◌ {A = ℕ} 0 1 = cc in omega arith)
no_lists (Item.unused x ∷ is) js e = no_lists is js e

in_nodes : (n : ℕ) (ls : List ℕ) → lists (node_items n ls) ≡ []
unfolding node_items
in_nodes zero ls = refl
in_nodes (suc n) ls = in_nodes n (drop link_width ls)

in_names : (n : ℕ) (ls : List ℕ) → lists (name_items n ls) ≡ []
unfolding name_items
in_names zero ls = refl
in_names (suc n) ls = in_names n (drop link_width ls)

in_entries : (n : ℕ) (ls : List ℕ) → lists (entry_items n ls) ≡ []
unfolding entry_items
in_entries zero ls = refl
in_entries (suc n) ls = in_entries n (drop link_width ls)

in_unused : (xs : List ℕ) → lists (map Item.unused xs) ≡ []
in_unused [] = refl
in_unused (x ∷ xs) = in_unused xs

-- the lists of slots: first link row and count
unfoldable pub list_spots : List Slot → (xs : List ℕ) → List (ℕ × ℕ)
list_spots [] xs = []
list_spots (below n ∷ ss) xs = list_spots ss (drop 1 xs)
list_spots (child ∷ ss) xs = list_spots ss (drop 1 xs)
list_spots (option ∷ ss) xs = list_spots ss (drop 1 xs)
list_spots (symbol ∷ ss) xs = list_spots ss (drop 1 xs)
list_spots (name ∷ ss) xs = list_spots ss (drop 3 xs)
list_spots (nodes ∷ ss) xs = (get_or xs 0 0, get_or xs 1 0) ∷ list_spots ss (drop 2 xs)
list_spots (names ∷ ss) xs = (get_or xs 0 0, get_or xs 1 0) ∷ list_spots ss (drop 2 xs)
list_spots (entries ∷ ss) xs = (get_or xs 0 0, get_or xs 1 0) ∷ list_spots ss (drop 2 xs)

pub lists_spots : (ls : List ℕ) (ss : List Slot) (xs : List ℕ) → lists (items ls ss xs) ≡ list_spots ss xs
unfolding items list_spots
lists_spots ls [] xs = in_unused xs
lists_spots ls (below n ∷ ss) xs = lists_spots ls ss (drop 1 xs)
lists_spots ls (child ∷ ss) xs = lists_spots ls ss (drop 1 xs)
lists_spots ls (option ∷ ss) xs = lists_spots ls ss (drop 1 xs)
lists_spots ls (symbol ∷ ss) xs = lists_spots ls ss (drop 1 xs)
lists_spots ls (name ∷ ss) xs = lists_spots ls ss (drop 3 xs)
lists_spots ls (nodes ∷ ss) xs = let z = in_nodes (get_or xs 1 0) (drop (link_width * get_or xs 0 0) ls) in rw (no_lists (node_items (get_or xs 1 0) (drop (link_width * get_or xs 0 0) ls)) (items ls ss (drop 2 xs)) z, lists_spots ls ss (drop 2 xs))
lists_spots ls (names ∷ ss) xs = let z = in_names (get_or xs 1 0) (drop (link_width * get_or xs 0 0) ls) in rw (no_lists (name_items (get_or xs 1 0) (drop (link_width * get_or xs 0 0) ls)) (items ls ss (drop 2 xs)) z, lists_spots ls ss (drop 2 xs))
lists_spots ls (entries ∷ ss) xs = let z = in_entries (get_or xs 1 0) (drop (link_width * get_or xs 0 0) ls) in rw (no_lists (entry_items (get_or xs 1 0) (drop (link_width * get_or xs 0 0) ls)) (items ls ss (drop 2 xs)) z, lists_spots ls ss (drop 2 xs))

pub counted_spots : (ss : List Slot) (xs : List ℕ) → counted (list_spots ss xs) ≡ list_links ss xs
unfolding list_spots list_links
counted_spots [] xs = refl
counted_spots (below n ∷ ss) xs = counted_spots ss (drop 1 xs)
counted_spots (child ∷ ss) xs = counted_spots ss (drop 1 xs)
counted_spots (option ∷ ss) xs = counted_spots ss (drop 1 xs)
counted_spots (symbol ∷ ss) xs = counted_spots ss (drop 1 xs)
counted_spots (name ∷ ss) xs = counted_spots ss (drop 3 xs)
counted_spots (nodes ∷ ss) xs = rw (counted_spots ss (drop 2 xs))
counted_spots (names ∷ ss) xs = rw (counted_spots ss (drop 2 xs))
counted_spots (entries ∷ ss) xs = rw (counted_spots ss (drop 2 xs))

soft_spots : (ss : List Slot) (xs : List ℕ) → list_spots (map soft ss) xs ≡ list_spots ss xs
unfolding list_spots
soft_spots [] xs = refl
soft_spots (below n ∷ ss) xs = soft_spots ss (drop 1 xs)
soft_spots (child ∷ ss) xs = soft_spots ss (drop 1 xs)
soft_spots (option ∷ ss) xs = soft_spots ss (drop 1 xs)
soft_spots (symbol ∷ ss) xs = soft_spots ss (drop 1 xs)
soft_spots (name ∷ ss) xs = soft_spots ss (drop 3 xs)
soft_spots (nodes ∷ ss) xs = rw (soft_spots ss (drop 2 xs))
soft_spots (names ∷ ss) xs = rw (soft_spots ss (drop 2 xs))
soft_spots (entries ∷ ss) xs = rw (soft_spots ss (drop 2 xs))

pub spots_alike : (e : Edition) (k : ℕ) (xs : List ℕ) → list_spots (layout e k) xs ≡ list_spots (layout Edition.second k) xs
spots_alike e k xs = sym (soft_spots (layout e k) xs) ∙ ap (λ (ss : List Slot). list_spots ss xs) (soft_layout e k) ∙ soft_spots (layout Edition.second k) xs

-- row i's
abbrev pub row_spots : Rows → (row : ℕ) → List (ℕ × ℕ)
row_spots w i = list_spots (slots_of w i) (drop 3 (own w i))

module _ (e : Edition) (w : Rows) where
  pub row_lists : (i : ℕ) → lists (items_of e w i) ≡ row_spots w i
  unfolding items_of
  row_lists i = lists_spots w.links (layout e (kind_of w i)) (drop 3 (own w i)) ∙ spots_alike e (kind_of w i) (drop 3 (own w i))

  pub row_counted : (i : ℕ) → counted (lists (items_of e w i)) ≡ row_links w i
  unfolding row_links
  row_counted i = ap (λ (ls : List (ℕ × ℕ)). counted ls) (row_lists i) ∙ counted_spots (slots_of w i) (drop 3 (own w i))

  pub covered_before : (n : ℕ) → covered e w n ≡ links_before w n
  unfolding covered links_before
  covered_before zero = refl
  covered_before (suc n) = omega (arith, covered_before n, row_counted n)

-- where the lists of rows that pass stand: row i's first where those before it end, a second where the first ends; and they are all links
module _ {e : Edition} {s : ℕ} {w : Rows} (k : Checked e s w) where
  pub lists_follow : (i : ℕ) → i < height w → Consecutive (links_before w i) (row_spots w i)
  lists_follow i h = rw (row_lists e w i, covered_before e w i) at (k.follows i h)

  pub all_links : links_before w (height w) ≡ link_count w
  all_links = sym (covered_before e w (height w)) ∙ k.covering

-- a row's parent, in rows that pass: a later row, and the one that names it
module _ {e : Edition} {s : ℕ} {w : Rows} (k : Checked e s w) (few : height w ≤ absent) where
  pub named_once : (i : ℕ) → i < root_row w → Found w i (height w) (tenth w i)
  named_once i h = rw (k.parents i (omega arith)) (found w i (height w) (k.once i h))

  pub parent_later : (i : ℕ) → i < root_row w → i < tenth w i
  parent_later i h = let f = named_once i h in named_earlier (k.earlier (tenth w i) f.row) (omega arith) (omega (arith, f.names))

  pub parent_most : (i : ℕ) → i < root_row w → tenth w i ≤ root_row w
  parent_most i h = omega (arith, (named_once i h).row)

  -- whether a row stays does not depend on how many steps are enough, so it is as its parent does
  module _ (c : ℕ → Bool) where
    enough : (d n i : ℕ) → i < root_row w → root_row w ≤ i + d → root_row w ≤ i + n → stays_in c w d i ≡ stays_in c w n i
    unfolding stays_in
    enough zero n i h a b = absurd (omega arith)
    enough (suc d) zero i h a b = absurd (omega arith)
    enough (suc d) (suc n) i h a b = pick (eqb (tenth w i) (root_row w)) refl (enough d n (tenth w i))
      where
        pick : (t : Bool) → eqb (tenth w i) (root_row w) ≡ t → (tenth w i < root_row w → root_row w ≤ tenth w i + d → root_row w ≤ tenth w i + n → stays_in c w d (tenth w i) ≡ stays_in c w n (tenth w i)) →
            cond t (among (kept c w) i) (stays_in c w d (tenth w i)) ≡ cond t (among (kept c w) i) (stays_in c w n (tenth w i))
        pick true z f = refl
        pick false z f = let l = parent_later i h in let m = parent_most i h in let x = eqb-false (tenth w i) (root_row w) z in f (omega arith) (omega arith) (omega arith)

    pub stays_up : (i : ℕ) → i < root_row w → stays c w i ≡ cond (eqb (tenth w i) (root_row w)) (among (kept c w) i) (stays c w (tenth w i))
    unfolding stays stays_in
    stays_up i h = let z : height w ≡ suc (root_row w) = omega (arith, k.rooted.some) in
        ap (λ (d : ℕ). stays_in c w d i) z ∙ pick (eqb (tenth w i) (root_row w)) refl (enough (root_row w) (height w) (tenth w i))
      where
        pick : (t : Bool) → eqb (tenth w i) (root_row w) ≡ t → (tenth w i < root_row w → root_row w ≤ tenth w i + root_row w → root_row w ≤ tenth w i + height w → stays_in c w (root_row w) (tenth w i) ≡ stays_in c w (height w) (tenth w i)) →
            cond t (among (kept c w) i) (stays_in c w (root_row w) (tenth w i)) ≡ cond t (among (kept c w) i) (stays_in c w (height w) (tenth w i))
        pick true z f = refl
        pick false z f = let l = parent_later i h in let m = parent_most i h in let x = eqb-false (tenth w i) (root_row w) z in f (omega arith) (omega arith) (omega arith)

    -- a statement of the root stays as it is kept, any other row as its parent stays
    pub statement_stays : (i : ℕ) → i < root_row w → tenth w i ≡ root_row w → stays c w i ≡ among (kept c w) i
    statement_stays i h z = stays_up i h ∙ rw (eq-eqb (tenth w i) (root_row w) z) refl

    pub child_stays : (i : ℕ) → i < root_row w → tenth w i < root_row w → stays c w i ≡ stays c w (tenth w i)
    child_stays i h z = stays_up i h ∙ rw (ne_eqb (tenth w i) (root_row w) (λ x. omega arith)) refl
