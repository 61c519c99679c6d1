-- What the check says of a row, number by number: where a row is named, how far symbols and lists go, and where each list begins. By the slots of its kind, once for what
-- it names and where its lists begin, once for the ranges.
use Prim.Native.Nat.{ℕ, zero, suc, ◌+◌, ◌*◌, ◌≤◌, ◌<◌}
use native.Mathlib.Omega.{arith}
use mathlib.Core.Bool.{Bool, true, false}
use mathlib.Core.List.{List, [], ◌∷◌, ◌++◌}
use mathlib.Core.Path.{◌≡◌, refl, sym, ◌∙◌}
use lib.Dec.{eqb}
use lib.ListN.{get_or, drop}
use borrow.Author.Tests.{eqb-true, eqb-false}
use Rattle.grammar.specs.Edition.{Edition}
use Rattle.grammar.specs.Layout.{Slot, below, child, option, symbol, name, nodes, names, entries, layout}
use Rattle.grammar.specs.Naming.{height, linked_nodes, linked_entries, naming}
use Rattle.grammar.specs.Room.{own_width, link_width}
use Rattle.grammar.specs.Rows.{Rows}
use Rattle.foreign.specs.Check.{node_items, name_items, entry_items, items, items_of, kind_of, link_count, Each, cons, InRange, Before, Consecutive}
use Rattle.parts.specs.Moved.{slots_of}
use Rattle.parts.specs.Packed.{links_before}
use Rattle.parts.proofs.Sizes.{list_spots, lists_follow, named_here}
use Rattle.packing.specs.Good.{Good}
use Rattle.packing.specs.Roles.{at, role_at, linked, lists_size}
use Rattle.packing.proofs.Slots.{code, width, Lined, wide, lined_on, role_first, number_first, number_next, plain, link_at, link_next, size_one, size_two, size_three, lined_row, front_size, front_role, stood}

-- of each of a list
head : {A : Type 0} {P : A → Type 0} {x : A} {xs : List A} → Each P (x ∷ xs) → P x
head (cons p e) = p

tail : {A : Type 0} {P : A → Type 0} {x : A} {xs : List A} → Each P (x ∷ xs) → Each P xs
tail (cons p e) = e

front : {A : Type 0} {P : A → Type 0} (xs ys : List A) → Each P (xs ++ ys) → Each P xs
front [] ys e = Each.nil
front (x ∷ xs) ys (cons p e) = cons p (front xs ys e)

back : {A : Type 0} {P : A → Type 0} (xs ys : List A) → Each P (xs ++ ys) → Each P ys
back [] ys e = e
back (x ∷ xs) ys (cons p e) = back xs ys e

-- a place, or one after it
module _ (R : ℕ → Type 0) where
  one : (p j : ℕ) → p ≤ j → R p → (p + 1 ≤ j → R j) → R j
  one p j h a f = pick (eqb p j) refl
    where
      pick : (t : Bool) → eqb p j ≡ t → R j
      pick true e = let z : p ≡ j = eqb-true p j e in rw z at a
      pick false e = f (omega (arith, eqb-false p j e))

  two : (p j : ℕ) → p ≤ j → R p → R (p + 1) → (p + 2 ≤ j → R j) → R j
  two p j h a b f = one p j h a (λ k. one (p + 1) j k b (λ l. f (omega arith)))

  three : (p j : ℕ) → p ≤ j → R p → R (p + 1) → R (p + 2) → (p + 3 ≤ j → R j) → R j
  three p j h a b c f = two p j h a b (λ k. one (p + 2) j k c (λ l. f (omega arith)))

-- the links of a list, one by one
module _ (P : ℕ → Type 0) (ls : List ℕ) where
  pub nodes_each : (n a : ℕ) → Each P (linked_nodes n (drop (link_width * a) ls)) → (k : ℕ) → a ≤ k → k < a + n → P (linked ls k 0)
  unfolding linked_nodes
  nodes_each zero a e k h l = absurd (omega arith)
  nodes_each (suc n) a e k h l = one (λ j. P (linked ls j 0)) a k h (rw (link_at ls a 0) at (head e)) (λ m. nodes_each n (suc a) (rw (link_next ls a) at (tail e)) k (omega arith) (omega arith))

  keys_each : (n a : ℕ) → Each P (linked_entries n (drop (link_width * a) ls)) → (k : ℕ) → a ≤ k → k < a + n → P (linked ls k 0)
  unfolding linked_entries
  keys_each zero a e k h l = absurd (omega arith)
  keys_each (suc n) a e k h l = one (λ j. P (linked ls j 0)) a k h (rw (link_at ls a 0) at (head e)) (λ m. keys_each n (suc a) (rw (link_next ls a) at (tail (tail e))) k (omega arith) (omega arith))

  values_each : (n a : ℕ) → Each P (linked_entries n (drop (link_width * a) ls)) → (k : ℕ) → a ≤ k → k < a + n → P (linked ls k 1)
  unfolding linked_entries
  values_each zero a e k h l = absurd (omega arith)
  values_each (suc n) a e k h l = one (λ j. P (linked ls j 1)) a k h (rw (link_at ls a 1) at (head (tail e))) (λ m. values_each n (suc a) (rw (link_next ls a) at (tail (tail e))) k (omega arith) (omega arith))

names_below : (s m : ℕ) (ls : List ℕ) (n a : ℕ) → Each (InRange s m) (name_items n (drop (link_width * a) ls)) → (k : ℕ) → a ≤ k → k < a + n → linked ls k 0 < s
unfolding name_items
names_below s m ls zero a e k h l = absurd (omega arith)
names_below s m ls (suc n) a e k h l = one (λ j. linked ls j 0 < s) a k h (rw (link_at ls a 0) at (head e)) (λ b. names_below s m ls n (suc a) (rw (link_next ls a) at (tail e)) k (omega arith) (omega arith))

-- a number of this role, x, with y behind it: what it names is earlier than row i or absent, and a list begins where it should
pub record NamesRight (i : ℕ) (ls : List ℕ) (begin r x y : ℕ) : Type 0 where
  pub node : r ≡ 1 → Before i x
  pub begins : 4 ≤ r → x ≡ begin
  pub first : 4 ≤ r → (r ≡ 5 → ⊥) → (k : ℕ) → x ≤ k → k < x + y → Before i (linked ls k 0)
  pub second : r ≡ 6 → (k : ℕ) → x ≤ k → k < x + y → Before i (linked ls k 1)

-- and symbols and lists are in range
pub record RangesRight (s m : ℕ) (ls : List ℕ) (r x y : ℕ) : Type 0 where
  pub symbol : 2 ≤ r → r ≤ 3 → x < s
  pub list : 4 ≤ r → x + y ≤ m
  pub name : r ≡ 5 → (k : ℕ) → x ≤ k → k < x + y → linked ls k 0 < s

module _ {i : ℕ} {ls : List ℕ} {begin r x y : ℕ} where
  names_nothing : r < 4 → (r ≡ 1 → ⊥) → NamesRight i ls begin r x y
  names_nothing h n = record { node = λ e. absurd (n e); begins = λ k. absurd (omega arith); first = λ k. absurd (omega arith); second = λ e. absurd (omega arith) }

  names_row : r ≡ 1 → Before i x → NamesRight i ls begin r x y
  names_row e b = record { node = λ z. b; begins = λ k. absurd (omega arith); first = λ k. absurd (omega arith); second = λ z. absurd (omega arith) }

  names_list : 4 ≤ r → x ≡ begin → ((r ≡ 5 → ⊥) → (k : ℕ) → x ≤ k → k < x + y → Before i (linked ls k 0)) → (r ≡ 6 → (k : ℕ) → x ≤ k → k < x + y → Before i (linked ls k 1)) → NamesRight i ls begin r x y
  names_list h e f g = record { node = λ z. absurd (omega arith); begins = λ k. e; first = λ k. f; second = g }

module _ {s m : ℕ} {ls : List ℕ} {r x y : ℕ} where
  range_free : r < 2 → RangesRight s m ls r x y
  range_free h = record { symbol = λ k. absurd (omega arith); list = λ k. absurd (omega arith); name = λ e. absurd (omega arith) }

  range_symbol : r < 4 → x < s → RangesRight s m ls r x y
  range_symbol h l = record { symbol = λ a b. l; list = λ k. absurd (omega arith); name = λ e. absurd (omega arith) }

  range_list : 4 ≤ r → x + y ≤ m → (r ≡ 5 → (k : ℕ) → x ≤ k → k < x + y → linked ls k 0 < s) → RangesRight s m ls r x y
  range_list h l f = record { symbol = λ a b. absurd (omega arith); list = λ k. l; name = f }

-- what a row names, and where its lists begin, after `from` links
module _ (ns ls : List ℕ) (i from : ℕ) where
  abbrev Named : ℕ → Type 0
  Named j = NamesRight i ls (from + lists_size ns i j) (role_at ns i j) (at ns i j) (at ns i (j + 1))

  abbrev Begun : ℕ → List (ℕ × ℕ) → Type 0
  Begun p = Consecutive (from + lists_size ns i p)

  nothing : (j : ℕ) → role_at ns i j ≡ 0 → Named j
  nothing j e = names_nothing (omega arith) (λ z. omega arith)

  module _ {p : ℕ} {s : Slot} {ss : List Slot} {xs : List ℕ} (l : Lined ns i p (s ∷ ss) xs) where
    named_row : code s ≡ 1 → Before i (get_or xs 0 0) → Named p
    named_row e b = names_row (role_first l ∙ e) (rw (number_first l) at b)

    -- what is behind it goes on there
    begun_one : (ps : List (ℕ × ℕ)) → code s < 4 → Begun p ps → Begun (p + 1) ps
    begun_one ps h b = rw (size_one l h) b

    begun_list : (ps : List (ℕ × ℕ)) → 4 ≤ code s → width s ≡ 2 → role_at ns i (p + 1) ≡ 0 → Consecutive (from + lists_size ns i p + get_or xs 1 0) ps → Begun (p + 2) ps
    begun_list ps h e z b = let f : from + lists_size ns i p + get_or xs 1 0 ≡ from + lists_size ns i (p + 2) = omega (arith, size_two l h e z) in rw f at b

  named_lined : (ss : List Slot) {p : ℕ} {xs : List ℕ} → Lined ns i p ss xs → Each (Before i) (naming ls ss xs) → Begun p (list_spots ss xs) → (j : ℕ) → p ≤ j → j < own_width → Named j
  unfolding naming list_spots
  named_lined [] l e b j h k = nothing j (plain l j h k)
  named_lined (below n ∷ ss) {p} {xs} l e b j h k = one Named p j h (nothing p (role_first l)) (λ q. named_lined ss (lined_on l) e (begun_one l (list_spots ss (drop 1 xs)) (omega arith) b) j q k)
  named_lined (child ∷ ss) {p} {xs} l e b j h k = one Named p j h (named_row l refl (head e)) (λ q. named_lined ss (lined_on l) (tail e) (begun_one l (list_spots ss (drop 1 xs)) (omega arith) b) j q k)
  named_lined (option ∷ ss) {p} {xs} l e b j h k = one Named p j h (named_row l refl (head e)) (λ q. named_lined ss (lined_on l) (tail e) (begun_one l (list_spots ss (drop 1 xs)) (omega arith) b) j q k)
  named_lined (symbol ∷ ss) {p} {xs} l e b j h k = one Named p j h (names_nothing (omega (arith, role_first l)) (λ z. omega (arith, role_first l))) (λ q. named_lined ss (lined_on l) e (begun_one l (list_spots ss (drop 1 xs)) (omega arith) b) j q k)
  named_lined (name ∷ ss) {p} l e b j h k =
      three Named p j h (names_nothing (omega (arith, role_first l)) (λ z. omega (arith, role_first l))) (nothing (p + 1) (l.roles 1 (omega (arith, wide l)))) (nothing (p + 2) (l.roles 2 (omega (arith, wide l)))) (λ q. named_lined ss (lined_on l) e (rw (size_three l) b) j q k)
  named_lined (nodes ∷ ss) {p} {xs} l e b j h k =
      let z = l.roles 1 (omega (arith, wide l)) in
      let f = front (linked_nodes (get_or xs 1 0) (drop (link_width * get_or xs 0 0) ls)) (naming ls ss (drop 2 xs)) e in
      let g = back (linked_nodes (get_or xs 1 0) (drop (link_width * get_or xs 0 0) ls)) (naming ls ss (drop 2 xs)) e in
      two Named p j h
      (names_list (omega (arith, role_first l)) (sym (number_first l) ∙ b.0) (λ y. rw (number_first l, number_next l (omega arith)) at (nodes_each (Before i) ls (get_or xs 1 0) (get_or xs 0 0) f)) (λ y. absurd (omega (arith, role_first l))))
      (nothing (p + 1) z)
      (λ q. named_lined ss (lined_on l) g (begun_list l (list_spots ss (drop 2 xs)) (omega arith) refl z b.1) j q k)
  named_lined (names ∷ ss) {p} {xs} l e b j h k =
      let z = l.roles 1 (omega (arith, wide l)) in
      two Named p j h
      (names_list (omega (arith, role_first l)) (sym (number_first l) ∙ b.0) (λ y. absurd (y (role_first l))) (λ y. absurd (omega (arith, role_first l))))
      (nothing (p + 1) z)
      (λ q. named_lined ss (lined_on l) e (begun_list l (list_spots ss (drop 2 xs)) (omega arith) refl z b.1) j q k)
  named_lined (entries ∷ ss) {p} {xs} l e b j h k =
      let z = l.roles 1 (omega (arith, wide l)) in
      let f = front (linked_entries (get_or xs 1 0) (drop (link_width * get_or xs 0 0) ls)) (naming ls ss (drop 2 xs)) e in
      let g = back (linked_entries (get_or xs 1 0) (drop (link_width * get_or xs 0 0) ls)) (naming ls ss (drop 2 xs)) e in
      two Named p j h
      (names_list (omega (arith, role_first l)) (sym (number_first l) ∙ b.0) (λ y. rw (number_first l, number_next l (omega arith)) at (keys_each (Before i) ls (get_or xs 1 0) (get_or xs 0 0) f)) (λ y. rw (number_first l, number_next l (omega arith)) at (values_each (Before i) ls (get_or xs 1 0) (get_or xs 0 0) f)))
      (nothing (p + 1) z)
      (λ q. named_lined ss (lined_on l) g (begun_list l (list_spots ss (drop 2 xs)) (omega arith) refl z b.1) j q k)

-- the ranges
module _ (ns ls : List ℕ) (i s m : ℕ) where
  abbrev In : ℕ → Type 0
  In j = RangesRight s m ls (role_at ns i j) (at ns i j) (at ns i (j + 1))

  free : (j : ℕ) → role_at ns i j ≡ 0 → In j
  free j e = range_free (omega arith)

  module _ {p : ℕ} {t : Slot} {ss : List Slot} {xs : List ℕ} (l : Lined ns i p (t ∷ ss) xs) where
    symbol_in : 2 ≤ code t → code t < 4 → get_or xs 0 0 < s → In p
    symbol_in h k b = range_symbol (omega (arith, role_first l)) (omega (arith, number_first l))

    list_in : 4 ≤ code t → 2 ≤ width t → get_or xs 0 0 + get_or xs 1 0 ≤ m → (code t ≡ 5 → (k : ℕ) → get_or xs 0 0 ≤ k → k < get_or xs 0 0 + get_or xs 1 0 → linked ls k 0 < s) → In p
    list_in h v b f = range_list (omega (arith, role_first l)) (omega (arith, number_first l, number_next l v)) (λ e. rw (number_first l, number_next l v) at (f (sym (role_first l) ∙ e)))

  ranges_lined : (ss : List Slot) {p : ℕ} {xs : List ℕ} → Lined ns i p ss xs → Each (InRange s m) (items ls ss xs) → (j : ℕ) → p ≤ j → j < own_width → In j
  unfolding items
  ranges_lined [] l e j h k = free j (plain l j h k)
  ranges_lined (below n ∷ ss) {p} l e j h k = one In p j h (free p (role_first l)) (λ q. ranges_lined ss (lined_on l) (tail e) j q k)
  ranges_lined (child ∷ ss) {p} l e j h k = one In p j h (range_free (omega (arith, role_first l))) (λ q. ranges_lined ss (lined_on l) (tail e) j q k)
  ranges_lined (option ∷ ss) {p} l e j h k = one In p j h (range_free (omega (arith, role_first l))) (λ q. ranges_lined ss (lined_on l) (tail e) j q k)
  ranges_lined (symbol ∷ ss) {p} l e j h k = one In p j h (symbol_in l (omega arith) (omega arith) (head e)) (λ q. ranges_lined ss (lined_on l) (tail e) j q k)
  ranges_lined (name ∷ ss) {p} l e j h k =
      three In p j h (symbol_in l (omega arith) (omega arith) (head e)) (free (p + 1) (l.roles 1 (omega (arith, wide l)))) (free (p + 2) (l.roles 2 (omega (arith, wide l)))) (λ q. ranges_lined ss (lined_on l) (tail e) j q k)
  ranges_lined (nodes ∷ ss) {p} {xs} l e j h k =
      two In p j h (list_in l (omega arith) (omega arith) (head e) (λ y. absurd (omega arith))) (free (p + 1) (l.roles 1 (omega (arith, wide l)))) (λ q. ranges_lined ss (lined_on l) (back (node_items (get_or xs 1 0) (drop (link_width * get_or xs 0 0) ls)) (items ls ss (drop 2 xs)) (tail e)) j q k)
  ranges_lined (names ∷ ss) {p} {xs} l e j h k =
      let f = front (name_items (get_or xs 1 0) (drop (link_width * get_or xs 0 0) ls)) (items ls ss (drop 2 xs)) (tail e) in
      two In p j h (list_in l (omega arith) (omega arith) (head e) (λ y. names_below s m ls (get_or xs 1 0) (get_or xs 0 0) f)) (free (p + 1) (l.roles 1 (omega (arith, wide l)))) (λ q. ranges_lined ss (lined_on l) (back (name_items (get_or xs 1 0) (drop (link_width * get_or xs 0 0) ls)) (items ls ss (drop 2 xs)) (tail e)) j q k)
  ranges_lined (entries ∷ ss) {p} {xs} l e j h k =
      two In p j h (list_in l (omega arith) (omega arith) (head e) (λ y. absurd (omega arith))) (free (p + 1) (l.roles 1 (omega (arith, wide l)))) (λ q. ranges_lined ss (lined_on l) (back (entry_items (get_or xs 1 0) (drop (link_width * get_or xs 0 0) ls)) (items ls ss (drop 2 xs)) (tail e)) j q k)

-- so of the first nine numbers of each row that passed
module _ {s : ℕ} {w : Rows} (g : Good s w) (i : ℕ) (h : i < height w) where
  front_or : (R : ℕ → Type 0) → ((j : ℕ) → role_at w.nodes i j ≡ 0 → R j) → ((j : ℕ) → 3 ≤ j → j < own_width → R j) → (j : ℕ) → j < own_width → R j
  front_or R z f j k = three R 0 j (omega arith) (z 0 (front_role w i (stood g h) 0 (omega arith))) (z 1 (front_role w i (stood g h) 1 (omega arith))) (z 2 (front_role w i (stood g h) 2 (omega arith))) (λ q. f j q k)

  pub row_names : (j : ℕ) → j < own_width → NamesRight i w.links (links_before w i + lists_size w.nodes i j) (role_at w.nodes i j) (at w.nodes i j) (at w.nodes i (j + 1))
  row_names =
      let f : links_before w i ≡ links_before w i + lists_size w.nodes i 3 = omega (arith, front_size w i (stood g h)) in
      front_or (Named w.nodes w.links i (links_before w i)) (nothing w.nodes w.links i (links_before w i))
      (named_lined w.nodes w.links i (links_before w i) (slots_of w i) (lined_row w i Edition.second (stood g h)) (rw (named_here w i Edition.second) at (g.checked.earlier i h)) (rw f at (lists_follow g.checked i h)))

  pub row_ranges : (j : ℕ) → j < own_width → RangesRight s (link_count w) w.links (role_at w.nodes i j) (at w.nodes i j) (at w.nodes i (j + 1))
  unfolding items_of
  row_ranges = front_or (In w.nodes w.links i s (link_count w)) (free w.nodes w.links i s (link_count w)) (ranges_lined w.nodes w.links i s (link_count w) (layout g.edition (kind_of w i)) (lined_row w i g.edition (stood g h)) (g.checked.ranges i h))
