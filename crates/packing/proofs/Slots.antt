-- The flat table of roles against the slots: what the loops over a row's ten numbers read is what the specs read slot by slot. A row's roles and numbers are taken
-- together (`Lined`), and each reading is one induction over the slots.
use Prim.Native.Nat.{ℕ, zero, suc, ◌+◌, ◌-◌, ◌*◌, ◌≤◌, ◌<◌}
use native.Mathlib.Numerals.{add-one}
use native.Mathlib.Omega.{arith}
use mathlib.Core.Bool.{Bool, true, cond, ◌&&◌}
use mathlib.Core.List.{List, [], ◌∷◌, ◌++◌, append_assoc, append-nil}
use mathlib.Core.Path.{◌≡◌, refl, sym, ap, ◌∙◌}
use lib.Dec.{T, leb, leb→le}
use lib.ListN.{length, get_or, take, drop, replicate, length-drop, length-take, length-append, get_or-append}
use lib.Seq.{get_or-drop, get_or-take, get_or_at, drop-drop, length-take-le}
use borrow.Author.Tests.{le-leb, lt-leb}
use Rattle.grammar.specs.Edition.{Edition}
use Rattle.grammar.specs.Layout.{Slot, below, child, option, symbol, name, nodes, names, entries, layout}
use Rattle.grammar.specs.Naming.{height}
use Rattle.grammar.specs.Parent.{own}
use Rattle.grammar.specs.Room.{node_width, own_width, link_width}
use Rattle.grammar.specs.Rows.{Rows}
use Rattle.grammar.specs.Symbol.{same}
use Rattle.grammar.proofs.Tests.{passes, within, both, same_means}
use Rattle.foreign.specs.Check.{kind_of}
use Rattle.parts.specs.Moved.{Move, slots_of, moved_row, moved_links, row_links, moved_numbers, moved_nodes, moved_names, moved_entries, moved_lists, list_links}
use Rattle.parts.specs.Spoken.{Part, node_parts, name_parts, entry_parts, parts, parts_of}
use Rattle.packing.specs.Good.{Good}
use Rattle.packing.specs.Roles.{roles_of, line, table, role, at, role_at, linked, link_parts, list_parts, link_moved, list_moved, number_parts, number_moved, numbers_parts, numbers_moved, lists_moved, lists_size, StandsRow}

-- the table has the line of each kind, in both editions, and its slots take six numbers at most
right : Edition → ℕ → Bool
right e k = leb (length (roles_of (layout e k))) 6 && same (take node_width (drop (node_width * (k - 1)) table)) (line (layout e k))

all_right : (e : Edition) → T (passes (right e) 1 26)
unfolding right layout table same
all_right Edition.first = tt
all_right Edition.second = tt

record Tabled (e : Edition) (k : ℕ) : Type 0 where
  few : length (roles_of (layout e k)) ≤ 6
  says : take node_width (drop (node_width * (k - 1)) table) ≡ line (layout e k)

tabled : (e : Edition) (k : ℕ) → 1 ≤ k → k ≤ 26 → Tabled e k
unfolding right
tabled e k h l =
    let (a, b) = both (leb (length (roles_of (layout e k))) 6) _ (within (right e) 1 26 k (all_right e) h (omega arith)) in
    record { few = leb→le _ 6 a; says = same_means _ _ b }

role_is : (e : Edition) (k j : ℕ) → 1 ≤ k → k ≤ 26 → j < node_width → role k j ≡ get_or (line (layout e k)) j 0
unfolding role
role_is e k j h l i = sym (get_or-drop (node_width * (k - 1)) table j 0) ∙ sym (get_or-take node_width (drop (node_width * (k - 1)) table) j 0 i) ∙ ap (λ (xs : List ℕ). get_or xs j 0) (tabled e k h l).says

-- a line's middle and last number
zeros : (n j : ℕ) → ◌≡◌ {A = ℕ} (get_or (replicate n 0) j 0) 0
zeros zero j = refl
zeros (suc n) zero = refl
zeros (suc n) (suc j) = zeros n j

padded : (rs : List ℕ) (n j : ℕ) → get_or (rs ++ replicate n 0) j 0 ≡ get_or rs j 0
padded [] n j = zeros n j
padded (r ∷ rs) n zero = refl
padded (r ∷ rs) n (suc j) = padded rs n j

length_six : (rs : List ℕ) → length (take 6 (rs ++ replicate 6 0)) ≡ 6
length_six rs = length-take-le 6 (rs ++ replicate 6 0) (simp length-append (omega arith))

six : (rs : List ℕ) (j : ℕ) → j < 6 → get_or (take 6 (rs ++ replicate 6 0) ++ (1 ∷ [])) j 0 ≡ get_or rs j 0
six rs j h =
    let e : j < length (take 6 (rs ++ replicate 6 0)) = rw (length_six rs) h in
    get_or-append (take 6 (rs ++ replicate 6 0)) (1 ∷ []) 0 j e ∙ get_or-take 6 (rs ++ replicate 6 0) j 0 h ∙ padded rs 6 j

last : (rs : List ℕ) → get_or (take 6 (rs ++ replicate 6 0) ++ (1 ∷ [])) 6 0 ≡ 1
last rs = get_or_at (take 6 (rs ++ replicate 6 0)) 1 [] 0 6 (length_six rs)

-- no other roles
known : List ℕ → Bool
known [] = true
known (r ∷ rs) = leb r 6 && known rs

known_at : (rs : List ℕ) (j : ℕ) → T (known rs) → get_or rs j 0 ≤ 6
unfolding known
known_at [] j h = omega arith
known_at (r ∷ rs) zero h = leb→le r 6 (both (leb r 6) (known rs) h).0
known_at (r ∷ rs) (suc j) h = known_at rs j (both (leb r 6) (known rs) h).1

all_known : T (known table)
unfolding known table
all_known = tt

pub role_known : (k j : ℕ) → role k j ≤ 6
unfolding role
role_known k j = known_at table (node_width * (k - 1) + j) all_known

-- what a slot has first, and how many numbers it takes
abbrev pub code : Slot → ℕ
code (below n) = 0
code child = 1
code option = 1
code symbol = 2
code name = 3
code nodes = 4
code names = 5
code entries = 6

abbrev pub width : Slot → ℕ
width (below n) = 1
width child = 1
width option = 1
width symbol = 1
width name = 3
width nodes = 2
width names = 2
width entries = 2

slot_first : (s : Slot) (ss : List Slot) → get_or (roles_of (s ∷ ss)) 0 0 ≡ code s
slot_first (below n) ss = refl
slot_first child ss = refl
slot_first option ss = refl
slot_first symbol ss = refl
slot_first name ss = refl
slot_first nodes ss = refl
slot_first names ss = refl
slot_first entries ss = refl

slot_rest : (s : Slot) (ss : List Slot) → drop (width s) (roles_of (s ∷ ss)) ≡ roles_of ss
slot_rest (below n) ss = refl
slot_rest child ss = refl
slot_rest option ss = refl
slot_rest symbol ss = refl
slot_rest name ss = refl
slot_rest nodes ss = refl
slot_rest names ss = refl
slot_rest entries ss = refl

slot_size : (s : Slot) (ss : List Slot) → length (roles_of (s ∷ ss)) ≡ width s + length (roles_of ss)
slot_size (below n) ss = omega arith
slot_size child ss = omega arith
slot_size option ss = omega arith
slot_size symbol ss = omega arith
slot_size name ss = omega arith
slot_size nodes ss = omega arith
slot_size names ss = omega arith
slot_size entries ss = omega arith

some : (s : Slot) → 1 ≤ width s
some (below n) = omega arith
some child = omega arith
some option = omega arith
some symbol = omega arith
some name = omega arith
some nodes = omega arith
some names = omega arith
some entries = omega arith

-- from place p on row i has these slots, with these numbers
pub record Lined (ns : List ℕ) (i p : ℕ) (ss : List Slot) (xs : List ℕ) : Type 0 where
  pub fits : p + length (roles_of ss) ≤ own_width
  pub roles : (j : ℕ) → p + j < own_width → role_at ns i (p + j) ≡ get_or (roles_of ss) j 0
  pub size : p + length xs ≡ own_width
  pub numbers : (j : ℕ) → p + j < own_width → get_or xs j 0 ≡ at ns i (p + j)

module _ {ns : List ℕ} {i p : ℕ} {s : Slot} {ss : List Slot} {xs : List ℕ} (l : Lined ns i p (s ∷ ss) xs) where
  pub wide : p + width s ≤ own_width
  wide = omega (arith, l.fits, slot_size s ss)

  pub lined_on : Lined ns i (p + width s) ss (drop (width s) xs)
  lined_on = record {
    fits = omega (arith, l.fits, slot_size s ss);
    roles = λ j h.
        let e : p + (width s + j) ≡ p + width s + j = omega arith in
        ap (role_at ns i) (sym e) ∙ l.roles (width s + j) (omega arith) ∙ sym (get_or-drop (width s) (roles_of (s ∷ ss)) j 0) ∙ ap (λ (rs : List ℕ). get_or rs j 0) (slot_rest s ss);
    size = simp length-drop (omega (arith, l.size, wide));
    numbers = λ j h.
        let e : p + (width s + j) ≡ p + width s + j = omega arith in
        get_or-drop (width s) xs j 0 ∙ l.numbers (width s + j) (omega arith) ∙ ap (at ns i) e;
  }

module _ {ns : List ℕ} {i p : ℕ} {s : Slot} {ss : List Slot} {xs : List ℕ} (l : Lined ns i p (s ∷ ss) xs) where
  -- the first number and its role, and those behind it
  pub role_first : role_at ns i p ≡ code s
  role_first = let e : p + 0 ≡ p = omega arith in ap (role_at ns i) (sym e) ∙ l.roles 0 (omega (arith, wide l, some s)) ∙ slot_first s ss

  pub number_first : get_or xs 0 0 ≡ at ns i p
  number_first = let e : p + 0 ≡ p = omega arith in l.numbers 0 (omega (arith, wide l, some s)) ∙ ap (at ns i) e

  pub number_next : 2 ≤ width s → get_or xs 1 0 ≡ at ns i (p + 1)
  number_next h = l.numbers 1 (omega (arith, wide l))

  pub number_last : 3 ≤ width s → get_or xs 2 0 ≡ at ns i (p + 2)
  number_last h = l.numbers 2 (omega (arith, wide l))

-- what is read number by number, one list behind another: n numbers from j on, and those up to the parent
module _ {A : Type 0} (f : ℕ → List A) where
  unfoldable pub gathered : (j n : ℕ) → List A
  gathered j zero = []
  gathered j (suc n) = f j ++ gathered (suc j) n

  abbrev rest : (p : ℕ) → List A
  rest p = gathered p (own_width - p)

  gathered_snoc : (j n : ℕ) → gathered j (suc n) ≡ gathered j n ++ f (j + n)
  unfolding gathered
  gathered_snoc j zero = let e : j + 0 ≡ j = omega arith in append-nil (f j) ∙ ap f (sym e)
  gathered_snoc j (suc n) = let e : suc j + n ≡ j + suc n = omega arith in ap (λ (ys : List A). f j ++ ys) (gathered_snoc (suc j) n ∙ ap (λ (k : ℕ). gathered (suc j) n ++ f k) e) ∙ sym (append_assoc (f j) (gathered (suc j) n) (f (j + suc n)))

  rest_one : (p : ℕ) → p < own_width → rest p ≡ f p ++ rest (p + 1)
  unfolding gathered
  rest_one p h = let e : own_width - p ≡ suc (own_width - (p + 1)) = omega arith in rw (e, add-one p) refl

  rest_two : (p : ℕ) → p + 1 < own_width → rest p ≡ f p ++ (f (p + 1) ++ rest (p + 2))
  rest_two p h = let e : p + 1 + 1 ≡ p + 2 = omega arith in rest_one p (omega arith) ∙ ap (λ (ys : List A). f p ++ ys) (rest_one (p + 1) h ∙ ap (λ (k : ℕ). f (p + 1) ++ rest k) e)

  rest_three : (p : ℕ) → p + 2 < own_width → rest p ≡ f p ++ (f (p + 1) ++ (f (p + 2) ++ rest (p + 3)))
  rest_three p h = let e : p + 2 + 1 ≡ p + 3 = omega arith in rest_two p (omega arith) ∙ ap (λ (ys : List A). f p ++ (f (p + 1) ++ ys)) (rest_one (p + 2) h ∙ ap (λ (k : ℕ). f (p + 2) ++ rest k) e)

  -- a list that grows by what each number has
  pub grown : (F : ℕ → List A) → F 0 ≡ [] → ((n : ℕ) → F (suc n) ≡ F n ++ f n) → (n : ℕ) → F n ≡ gathered 0 n
  unfolding gathered
  grown F z s zero = z
  grown F z s (suc n) = let e : 0 + n ≡ n = omega arith in s n ∙ ap (λ (ys : List A). ys ++ f n) (grown F z s n) ∙ ap (λ (k : ℕ). gathered 0 n ++ f k) (sym e) ∙ sym (gathered_snoc 0 n)

-- numbers behind all slots have role 0
pub plain : {ns : List ℕ} {i p : ℕ} {xs : List ℕ} → Lined ns i p [] xs → (j : ℕ) → p ≤ j → j < own_width → role_at ns i j ≡ 0
plain {ns} {i} {p} l j h k = let e : p + (j - p) ≡ j = omega arith in ap (role_at ns i) (sym e) ∙ l.roles (j - p) (omega arith)

plain_next : {ns : List ℕ} {i p : ℕ} {x : ℕ} {xs : List ℕ} → Lined ns i p [] (x ∷ xs) → Lined ns i (p + 1) [] xs
plain_next {ns} {i} {p} {x} {xs} l = record {
  fits = omega (arith, l.size);
  roles = λ j h. plain l (p + 1 + j) (omega arith) h;
  size = omega (arith, l.size);
  numbers = λ j h. let e : p + suc j ≡ p + 1 + j = omega arith in l.numbers (suc j) (omega arith) ∙ ap (at ns i) e;
}

-- nothing is read of those
plain_rest : {A : Type 0} (f : ℕ → List A) {ns : List ℕ} {i p : ℕ} {xs : List ℕ} → ((j : ℕ) → role_at ns i j ≡ 0 → f j ≡ []) → Lined ns i p [] xs → rest f p ≡ []
unfolding gathered
plain_rest f {ns} {i} {p} {xs} none l = go (own_width - p) p (omega arith) (omega (arith, l.size))
  where
    go : (n q : ℕ) → p ≤ q → q + n ≤ own_width → gathered f q n ≡ []
    go zero q h k = refl
    go (suc n) q h k = rw (none q (plain l q h (omega arith)), go n (suc q) (omega arith) (omega arith)) refl

-- the numbers of a row, moved
module _ (m : Move) (ns : List ℕ) (i : ℕ) where
  abbrev number_of : ℕ → List ℕ
  number_of j = number_moved m (role_at ns i j) (at ns i j) ∷ []

  pub numbers_none : numbers_moved m ns i 0 ≡ []
  unfolding numbers_moved
  numbers_none = refl

  pub numbers_suc : (n : ℕ) → numbers_moved m ns i (suc n) ≡ numbers_moved m ns i n ++ number_of n
  unfolding numbers_moved
  numbers_suc n = refl

  numbers_left : (xs : List ℕ) {p : ℕ} → Lined ns i p [] xs → xs ≡ rest number_of p
  unfolding gathered number_moved
  numbers_left [] {p} l = let e : own_width - p ≡ 0 = omega (arith, l.size) in rw e refl
  numbers_left (x ∷ xs) {p} l =
      let h : p < own_width = omega (arith, l.size) in
      let z : p + 0 ≡ p = omega arith in
      let y : x ≡ at ns i p = l.numbers 0 (omega arith) ∙ ap (at ns i) z in
      rw (rest_one number_of p h, plain l p (omega arith) h, ← y, ← numbers_left xs (plain_next l)) refl

module _ (m : Move) (same_span : (x : ℕ) → m.span x ≡ x) (ns : List ℕ) (i : ℕ) where
  numbers_lined : (ss : List Slot) {p : ℕ} {xs : List ℕ} → Lined ns i p ss xs → moved_numbers m ss xs ≡ rest (number_of m ns i) p
  unfolding moved_numbers number_moved
  numbers_lined [] {xs} l = numbers_left m ns i xs l
  numbers_lined (below n ∷ ss) {p} l = rw (rest_one (number_of m ns i) p (omega (arith, wide l)), role_first l, ← number_first l, ← numbers_lined ss (lined_on l)) refl
  numbers_lined (child ∷ ss) {p} l = rw (rest_one (number_of m ns i) p (omega (arith, wide l)), role_first l, ← number_first l, ← numbers_lined ss (lined_on l)) refl
  numbers_lined (option ∷ ss) {p} l = rw (rest_one (number_of m ns i) p (omega (arith, wide l)), role_first l, ← number_first l, ← numbers_lined ss (lined_on l)) refl
  numbers_lined (symbol ∷ ss) {p} l = rw (rest_one (number_of m ns i) p (omega (arith, wide l)), role_first l, ← number_first l, ← numbers_lined ss (lined_on l)) refl
  numbers_lined (name ∷ ss) {p} l = rw (rest_three (number_of m ns i) p (omega (arith, wide l)), role_first l, l.roles 1 (omega (arith, wide l)), l.roles 2 (omega (arith, wide l)), ← number_first l, ← number_next l (omega arith), ← number_last l (omega arith), ← numbers_lined ss (lined_on l), same_span, same_span) refl
  numbers_lined (nodes ∷ ss) {p} l = rw (rest_two (number_of m ns i) p (omega (arith, wide l)), role_first l, l.roles 1 (omega (arith, wide l)), ← number_first l, ← number_next l (omega arith), ← numbers_lined ss (lined_on l)) refl
  numbers_lined (names ∷ ss) {p} l = rw (rest_two (number_of m ns i) p (omega (arith, wide l)), role_first l, l.roles 1 (omega (arith, wide l)), ← number_first l, ← number_next l (omega arith), ← numbers_lined ss (lined_on l)) refl
  numbers_lined (entries ∷ ss) {p} l = rw (rest_two (number_of m ns i) p (omega (arith, wide l)), role_first l, l.roles 1 (omega (arith, wide l)), ← number_first l, ← number_next l (omega arith), ← numbers_lined ss (lined_on l)) refl

-- the links of a list, one behind another
list_gathered : (m : Move) (r : ℕ) (ls : List ℕ) (from n : ℕ) → list_moved m r ls from n ≡ gathered (link_moved m r ls) from n
unfolding list_moved gathered
list_gathered m r ls from zero = refl
list_gathered m r ls from (suc n) = rw (list_gathered m r ls from n) (sym (gathered_snoc (link_moved m r ls) from n))

parts_gathered : (r : ℕ) (ls : List ℕ) (from n : ℕ) → list_parts r ls from n ≡ gathered (link_parts r ls) from n
unfolding list_parts gathered
parts_gathered r ls from zero = refl
parts_gathered r ls from (suc n) = rw (parts_gathered r ls (suc from) n) refl

module _ (ls : List ℕ) (a : ℕ) where
  pub link_at : (j : ℕ) → get_or (drop (link_width * a) ls) j 0 ≡ linked ls a j
  link_at j = get_or-drop (link_width * a) ls j 0

  pub link_next : drop link_width (drop (link_width * a) ls) ≡ drop (link_width * suc a) ls
  link_next = let e : link_width * a + link_width ≡ link_width * suc a = omega arith in drop-drop link_width (link_width * a) ls ∙ ap (λ (k : ℕ). drop k ls) e

module _ (m : Move) (same_span : (x : ℕ) → m.span x ≡ x) (ls : List ℕ) where
  nodes_moved : (a n : ℕ) → moved_nodes m n (drop (link_width * a) ls) ≡ gathered (link_moved m 4 ls) a n
  unfolding moved_nodes gathered link_moved
  nodes_moved a zero = refl
  nodes_moved a (suc n) = rw (link_next ls a, link_at ls a 0, link_at ls a 1, link_at ls a 2, nodes_moved (suc a) n) refl

  names_moved : (a n : ℕ) → moved_names m n (drop (link_width * a) ls) ≡ gathered (link_moved m 5 ls) a n
  unfolding moved_names gathered link_moved
  names_moved a zero = refl
  names_moved a (suc n) = rw (link_next ls a, link_at ls a 0, link_at ls a 1, link_at ls a 2, names_moved (suc a) n, same_span, same_span) refl

  entries_moved : (a n : ℕ) → moved_entries m n (drop (link_width * a) ls) ≡ gathered (link_moved m 6 ls) a n
  unfolding moved_entries gathered link_moved
  entries_moved a zero = refl
  entries_moved a (suc n) = rw (link_next ls a, link_at ls a 0, link_at ls a 1, link_at ls a 2, entries_moved (suc a) n) refl

module _ (ls : List ℕ) where
  nodes_said : (a n : ℕ) → node_parts n (drop (link_width * a) ls) ≡ gathered (link_parts 4 ls) a n
  unfolding node_parts gathered link_parts
  nodes_said a zero = refl
  nodes_said a (suc n) = rw (link_next ls a, link_at ls a 0, nodes_said (suc a) n) refl

  names_said : (a n : ℕ) → name_parts n (drop (link_width * a) ls) ≡ gathered (link_parts 5 ls) a n
  unfolding name_parts gathered link_parts
  names_said a zero = refl
  names_said a (suc n) = rw (link_next ls a, link_at ls a 0, link_at ls a 1, link_at ls a 2, names_said (suc a) n) refl

  entries_said : (a n : ℕ) → entry_parts n (drop (link_width * a) ls) ≡ gathered (link_parts 6 ls) a n
  unfolding entry_parts gathered link_parts
  entries_said a zero = refl
  entries_said a (suc n) = rw (link_next ls a, link_at ls a 0, link_at ls a 1, entries_said (suc a) n) refl

-- the links of a row's lists, moved
abbrev list_of : Move → (nodes links : List ℕ) (row j : ℕ) → List ℕ
list_of m ns ls i j = cond (leb 4 (role_at ns i j)) (list_moved m (role_at ns i j) ls (at ns i j) (at ns i (j + 1))) []

module _ (m : Move) (same_span : (x : ℕ) → m.span x ≡ x) (ns ls : List ℕ) (i : ℕ) where
  lists_lined : (ss : List Slot) {p : ℕ} {xs : List ℕ} → Lined ns i p ss xs → moved_lists m ls ss xs ≡ rest (list_of m ns ls i) p
  unfolding moved_lists
  lists_lined [] l = sym (plain_rest (list_of m ns ls i) (λ j e. rw e refl) l)
  lists_lined (below n ∷ ss) {p} l = rw (rest_one (list_of m ns ls i) p (omega (arith, wide l)), role_first l, ← lists_lined ss (lined_on l)) refl
  lists_lined (child ∷ ss) {p} l = rw (rest_one (list_of m ns ls i) p (omega (arith, wide l)), role_first l, ← lists_lined ss (lined_on l)) refl
  lists_lined (option ∷ ss) {p} l = rw (rest_one (list_of m ns ls i) p (omega (arith, wide l)), role_first l, ← lists_lined ss (lined_on l)) refl
  lists_lined (symbol ∷ ss) {p} l = rw (rest_one (list_of m ns ls i) p (omega (arith, wide l)), role_first l, ← lists_lined ss (lined_on l)) refl
  lists_lined (name ∷ ss) {p} l = rw (rest_three (list_of m ns ls i) p (omega (arith, wide l)), role_first l, l.roles 1 (omega (arith, wide l)), l.roles 2 (omega (arith, wide l)), ← lists_lined ss (lined_on l)) refl
  lists_lined (nodes ∷ ss) {p} l =
      rw (rest_two (list_of m ns ls i) p (omega (arith, wide l)), role_first l, l.roles 1 (omega (arith, wide l)), ← lists_lined ss (lined_on l), number_first l, number_next l (omega arith), list_gathered m 4 ls, nodes_moved m same_span ls) refl
  lists_lined (names ∷ ss) {p} l =
      rw (rest_two (list_of m ns ls i) p (omega (arith, wide l)), role_first l, l.roles 1 (omega (arith, wide l)), ← lists_lined ss (lined_on l), number_first l, number_next l (omega arith), list_gathered m 5 ls, names_moved m same_span ls) refl
  lists_lined (entries ∷ ss) {p} l =
      rw (rest_two (list_of m ns ls i) p (omega (arith, wide l)), role_first l, l.roles 1 (omega (arith, wide l)), ← lists_lined ss (lined_on l), number_first l, number_next l (omega arith), list_gathered m 6 ls, entries_moved m same_span ls) refl

-- what a row holds
module _ (ns ls : List ℕ) (i : ℕ) where
  abbrev part_of : ℕ → List Part
  part_of j = number_parts ns ls i j (role_at ns i j)

  parts_lined : (ss : List Slot) {p : ℕ} {xs : List ℕ} → Lined ns i p ss xs → parts ls ss (at ns i 1) (at ns i 2) xs ≡ rest part_of p
  unfolding parts number_parts
  parts_lined [] l = sym (plain_rest part_of (λ j e. rw e refl) l)
  parts_lined (below n ∷ ss) {p} l = rw (rest_one part_of p (omega (arith, wide l)), role_first l, ← parts_lined ss (lined_on l)) refl
  parts_lined (child ∷ ss) {p} l = rw (rest_one part_of p (omega (arith, wide l)), role_first l, ← parts_lined ss (lined_on l), number_first l) refl
  parts_lined (option ∷ ss) {p} l = rw (rest_one part_of p (omega (arith, wide l)), role_first l, ← parts_lined ss (lined_on l), number_first l) refl
  parts_lined (symbol ∷ ss) {p} l = rw (rest_one part_of p (omega (arith, wide l)), role_first l, ← parts_lined ss (lined_on l), number_first l) refl
  parts_lined (name ∷ ss) {p} l =
      rw (rest_three part_of p (omega (arith, wide l)), role_first l, l.roles 1 (omega (arith, wide l)), l.roles 2 (omega (arith, wide l)), ← parts_lined ss (lined_on l), number_first l, number_next l (omega arith), number_last l (omega arith)) refl
  parts_lined (nodes ∷ ss) {p} l =
      rw (rest_two part_of p (omega (arith, wide l)), role_first l, l.roles 1 (omega (arith, wide l)), ← parts_lined ss (lined_on l), number_first l, number_next l (omega arith), parts_gathered 4 ls, nodes_said ls) refl
  parts_lined (names ∷ ss) {p} l =
      rw (rest_two part_of p (omega (arith, wide l)), role_first l, l.roles 1 (omega (arith, wide l)), ← parts_lined ss (lined_on l), number_first l, number_next l (omega arith), parts_gathered 5 ls, names_said ls) refl
  parts_lined (entries ∷ ss) {p} l =
      rw (rest_two part_of p (omega (arith, wide l)), role_first l, l.roles 1 (omega (arith, wide l)), ← parts_lined ss (lined_on l), number_first l, number_next l (omega arith), parts_gathered 6 ls, entries_said ls) refl

-- how many links a row's lists have
module _ (ns : List ℕ) (i : ℕ) where
  pub none_sized : lists_size ns i 0 ≡ 0
  unfolding lists_size
  none_sized = refl

  pub size_plain : (j : ℕ) → role_at ns i j < 4 → lists_size ns i (j + 1) ≡ lists_size ns i j
  unfolding lists_size
  size_plain j h = ap (lists_size ns i) (add-one j) ∙ rw (lt-leb 4 (role_at ns i j) h) (omega arith)

  pub size_list : (j : ℕ) → 4 ≤ role_at ns i j → lists_size ns i (j + 1) ≡ lists_size ns i j + at ns i (j + 1)
  unfolding lists_size
  size_list j h = ap (lists_size ns i) (add-one j) ∙ rw (le-leb 4 (role_at ns i j) h) refl

-- none after numbers that are left over, one number's after another, and a list's
module _ {ns : List ℕ} {i p : ℕ} where
  size_left : {xs : List ℕ} → Lined ns i p [] xs → (n : ℕ) → p + n ≤ own_width → lists_size ns i (p + n) ≡ lists_size ns i p
  size_left l zero h = let e : p + 0 ≡ p = omega arith in ap (lists_size ns i) e
  size_left l (suc n) h =
      let e : p + suc n ≡ p + n + 1 = omega arith in
      let z : role_at ns i (p + n) < 4 = rw (plain l (p + n) (omega arith) (omega arith)) (omega arith) in
      ap (lists_size ns i) e ∙ size_plain ns i (p + n) z ∙ size_left l n (omega arith)

  pub size_one : {s : Slot} {ss : List Slot} {xs : List ℕ} → Lined ns i p (s ∷ ss) xs → code s < 4 → lists_size ns i (p + 1) ≡ lists_size ns i p
  size_one l h = size_plain ns i p (rw (role_first l) h)

  pub size_two : {s : Slot} {ss : List Slot} {xs : List ℕ} → Lined ns i p (s ∷ ss) xs → 4 ≤ code s → width s ≡ 2 → role_at ns i (p + 1) ≡ 0 → lists_size ns i (p + 2) ≡ lists_size ns i p + get_or xs 1 0
  size_two l h v z =
      let e : p + 1 + 1 ≡ p + 2 = omega arith in
      let y : role_at ns i (p + 1) < 4 = rw z (omega arith) in
      ap (lists_size ns i) (sym e) ∙ size_plain ns i (p + 1) y ∙ size_list ns i p (rw (role_first l) h) ∙ ap (λ (x : ℕ). lists_size ns i p + x) (sym (number_next l (omega arith)))

  pub size_three : {ss : List Slot} {xs : List ℕ} → Lined ns i p (name ∷ ss) xs → lists_size ns i (p + 3) ≡ lists_size ns i p
  size_three l =
      let e : p + 2 + 1 ≡ p + 3 = omega arith in
      let d : p + 1 + 1 ≡ p + 2 = omega arith in
      let y : role_at ns i (p + 2) < 4 = rw (l.roles 2 (omega (arith, wide l))) (omega arith) in
      let z : role_at ns i (p + 1) < 4 = rw (l.roles 1 (omega (arith, wide l))) (omega arith) in
      ap (lists_size ns i) (sym e) ∙ size_plain ns i (p + 2) y ∙ ap (lists_size ns i) (sym d) ∙ size_plain ns i (p + 1) z ∙ size_one l (omega arith)

sizes_lined : {ns : List ℕ} {i : ℕ} (ss : List Slot) {p : ℕ} {xs : List ℕ} → Lined ns i p ss xs → lists_size ns i p + list_links ss xs ≡ lists_size ns i own_width
unfolding list_links
sizes_lined {ns} {i} [] {p} l = let e : p + (own_width - p) ≡ own_width = omega (arith, l.size) in omega (arith, size_left l (own_width - p) (omega (arith, l.size)), ap (lists_size ns i) e)
sizes_lined (below n ∷ ss) l = rw (← sizes_lined ss (lined_on l), size_one l (omega arith)) refl
sizes_lined (child ∷ ss) l = rw (← sizes_lined ss (lined_on l), size_one l (omega arith)) refl
sizes_lined (option ∷ ss) l = rw (← sizes_lined ss (lined_on l), size_one l (omega arith)) refl
sizes_lined (symbol ∷ ss) l = rw (← sizes_lined ss (lined_on l), size_one l (omega arith)) refl
sizes_lined (name ∷ ss) l = rw (← sizes_lined ss (lined_on l), size_three l) refl
sizes_lined (nodes ∷ ss) l = rw (← sizes_lined ss (lined_on l), size_two l (omega arith) refl (l.roles 1 (omega (arith, wide l)))) (omega arith)
sizes_lined (names ∷ ss) l = rw (← sizes_lined ss (lined_on l), size_two l (omega arith) refl (l.roles 1 (omega (arith, wide l)))) (omega arith)
sizes_lined (entries ∷ ss) l = rw (← sizes_lined ss (lined_on l), size_two l (omega arith) refl (l.roles 1 (omega (arith, wide l)))) (omega arith)

-- roles of kinds
module _ (k : ℕ) (h : 1 ≤ k) (l : k ≤ 26) where
  pub kind_role : (j : ℕ) → j < 3 → role k j ≡ 0
  kind_role zero i = role_is Edition.second k 0 h l (omega arith)
  kind_role (suc zero) i = role_is Edition.second k 1 h l (omega arith)
  kind_role (suc (suc zero)) i = role_is Edition.second k 2 h l (omega arith)
  kind_role (suc (suc (suc j))) i = absurd (omega arith)

  -- the six after them are those of the slots, and 0 where there is none
  pub slot_role : (e : Edition) (j : ℕ) → j < 6 → role k (3 + j) ≡ get_or (roles_of (layout e k)) j 0
  slot_role e j i = role_is e k (3 + j) h l (omega arith) ∙ sym (get_or-drop 3 (line (layout e k)) j 0) ∙ six (roles_of (layout e k)) j i

  pub parent_role : role k own_width ≡ 1
  parent_role = role_is Edition.second k own_width h l (omega arith) ∙ last (roles_of (layout Edition.second k))

-- a row's own numbers
module _ (w : Rows) (i : ℕ) where
  pub own_number : (j : ℕ) → j < own_width → get_or (own w i) j 0 ≡ at w.nodes i j
  own_number j h = get_or-take own_width (drop (node_width * i) w.nodes) j 0 h ∙ get_or-drop (node_width * i) w.nodes j 0

  -- a row that stands, by the slots of its kind
  pub lined_row : (e : Edition) → StandsRow w.nodes i → Lined w.nodes i 3 (layout e (kind_of w i)) (drop 3 (own w i))
  lined_row e s =
      let k = own_number 0 (omega arith) in
      record {
        fits = rw k (omega (arith, (tabled e (at w.nodes i 0) s.least s.most).few));
        roles = λ j h. slot_role (at w.nodes i 0) s.least s.most e j (omega arith) ∙ ap (λ (x : ℕ). get_or (roles_of (layout e x)) j 0) (sym k);
        size = simp (length-drop, length-take) (omega (arith, s.room));
        numbers = λ j h. get_or-drop 3 (own w i) j 0 ∙ own_number (3 + j) h;
      }

  module _ (s : StandsRow w.nodes i) where
    abbrev lined : Lined w.nodes i 3 (slots_of w i) (drop 3 (own w i))
    lined = lined_row Edition.second s

    pub front_role : (j : ℕ) → j < 3 → role_at w.nodes i j ≡ 0
    front_role = kind_role (at w.nodes i 0) s.least s.most

    pub last_role : role_at w.nodes i own_width ≡ 1
    last_role = parent_role (at w.nodes i 0) s.least s.most

    pub row_moved : (m : Move) → ((x : ℕ) → m.span x ≡ x) → numbers_moved m w.nodes i node_width ≡ moved_row m w i
    unfolding moved_row number_moved gathered
    row_moved m same_span =
        numbers_suc m w.nodes i own_width ∙ ap (λ (ys : List ℕ). ys ++ number_of m w.nodes i own_width) (grown (number_of m w.nodes i) (numbers_moved m w.nodes i) (numbers_none m w.nodes i) (numbers_suc m w.nodes i) own_width)
        ∙ rw (numbers_lined m same_span w.nodes i (slots_of w i) lined, front_role 0 (omega arith), front_role 1 (omega arith), front_role 2 (omega arith), last_role, same_span, same_span, own_number 0 (omega arith), own_number 1 (omega arith), own_number 2 (omega arith)) refl

    pub lists_all : (m : Move) → ((x : ℕ) → m.span x ≡ x) → lists_moved m w.nodes w.links i own_width ≡ moved_links m w i
    unfolding lists_moved moved_links gathered
    lists_all m same_span =
        rw (grown (list_of m w.nodes w.links i) (lists_moved m w.nodes w.links i) refl (λ n. refl) own_width, front_role 0 (omega arith), front_role 1 (omega arith), front_role 2 (omega arith)) (sym (lists_lined m same_span w.nodes w.links i (slots_of w i) lined))

    pub front_size : lists_size w.nodes i 3 ≡ 0
    front_size = size_plain w.nodes i 2 (rw (front_role 2 (omega arith)) (omega arith)) ∙ size_plain w.nodes i 1 (rw (front_role 1 (omega arith)) (omega arith)) ∙ size_plain w.nodes i 0 (rw (front_role 0 (omega arith)) (omega arith)) ∙ none_sized w.nodes i

    pub sizes_all : lists_size w.nodes i own_width ≡ row_links w i
    unfolding row_links
    sizes_all = omega (arith, sizes_lined (slots_of w i) lined, front_size)

    parts_numbers : (j n : ℕ) → numbers_parts w.nodes w.links i j n ≡ gathered (part_of w.nodes w.links i) j n
    unfolding numbers_parts gathered
    parts_numbers j zero = refl
    parts_numbers j (suc n) = rw (parts_numbers (suc j) n) refl

    pub parts_all : numbers_parts w.nodes w.links i 0 own_width ≡ parts_of w i
    unfolding parts_of gathered number_parts
    parts_all =
        rw (parts_numbers 0 own_width, front_role 0 (omega arith), front_role 1 (omega arith), front_role 2 (omega arith), own_number 1 (omega arith), own_number 2 (omega arith)) (sym (parts_lined w.nodes w.links i (slots_of w i) lined))

-- a row that passed the check stands
pub stood : {s : ℕ} {w : Rows} {i : ℕ} → Good s w → i < height w → StandsRow w.nodes i
stood {w = w} {i} g h =
    let k = g.checked.kinds i h in
    let e = own_number w i 0 (omega arith) in
    record { room = omega (arith, g.nodes); least = omega (arith, k.least); most = omega (arith, k.most) }
