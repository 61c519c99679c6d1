-- How much may wait on the stack, and how long: each part has a load, a word 1 and a row that of all that a walk from it meets. What a row holds has no more than the row; and all
-- rows together have one for each node and link row, since a walk from the root meets each row once.
use Prim.Native.Nat.{ℕ, zero, suc, ◌+◌, ◌-◌, ◌*◌, ◌≤◌, ◌<◌}
use native.Mathlib.Decide.{dec_lt}
use native.Mathlib.Omega.{arith}
use mathlib.Core.Bool.{Bool, true, false, cond, ◌&&◌}
use mathlib.Core.List.{List, [], ◌∷◌, ◌++◌}
use mathlib.Core.Logic.{inl, inr}
use mathlib.Core.Path.{◌≡◌, refl, ap, ◌∙◌}
use lib.Dec.{T, eqb, leb, leb→le}
use lib.ListN.{length, get_or, drop}
use borrow.Author.Tests.{eqb-true, eqb-false, ne_eqb}
use Rattle.grammar.specs.Edition.{Edition}
use Rattle.grammar.specs.Handle.{absent}
use Rattle.grammar.specs.Layout.{Slot, below, child, option, symbol, name, nodes, names, entries, layouts, layout}
use Rattle.grammar.specs.Naming.{height, named_by, times}
use Rattle.grammar.specs.Parent.{own, tenth}
use Rattle.grammar.specs.Room.{link_width}
use Rattle.grammar.specs.Rows.{Rows}
use Rattle.grammar.proofs.Tests.{both}
use Rattle.foreign.specs.Check.{Each, nil, cons, Before, Earlier, link_count, kind_of}
use Rattle.foreign.specs.Walk.{joined, met}
use Rattle.foreign.proofs.Walks.{walk_once}
use Rattle.parts.specs.Moved.{list_links, row_links, slots_of}
use Rattle.parts.specs.Packed.{root_row, links_before}
use Rattle.parts.specs.Spoken.{Part, word, row, node_parts, name_parts, entry_parts, parts, parts_of}
use Rattle.parts.proofs.Hearing.{part_rows, own_names}
use Rattle.parts.proofs.Sizes.{named_once, parent_later, parent_most, all_links}
use Rattle.packing.specs.Good.{Good}
use Rattle.packing.specs.Stack.{present}

-- a sum over a list, and over all numbers below n
unfoldable pub total : (ℕ → ℕ) → List ℕ → ℕ
total g [] = 0
total g (x ∷ xs) = g x + total g xs

unfoldable sum : (ℕ → ℕ) → ℕ → ℕ
sum g zero = 0
sum g (suc n) = sum g n + g n

total_append : (g : ℕ → ℕ) (xs ys : List ℕ) → total g (xs ++ ys) ≡ total g xs + total g ys
unfolding total
total_append g [] ys = omega arith
total_append g (x ∷ xs) ys = omega (arith, total_append g xs ys)

-- a list of different numbers below n has no more than all of them: without the largest
unfoldable without : ℕ → List ℕ → List ℕ
without n [] = []
without n (x ∷ xs) = cond (eqb n x) (without n xs) (x ∷ without n xs)

without_below : (n : ℕ) {xs : List ℕ} → Each (λ x. x < suc n) xs → Each (λ x. x < n) (without n xs)
unfolding without
without_below n nil = nil
without_below n (cons {x = x} {xs = xs} l e) = pick (eqb n x) refl (without_below n e)
  where
    pick : (b : Bool) → eqb n x ≡ b → Each (λ y. y < n) (without n xs) → Each (λ y. y < n) (cond b (without n xs) (x ∷ without n xs))
    pick true q r = r
    pick false q r = cons {x = x} (let z = eqb-false n x q in elim (dec_lt x n) [ yes i ↦ i | no i ↦ absurd (z (omega arith)) ]) r

without_times : (n j : ℕ) (xs : List ℕ) → times j (without n xs) ≤ times j xs
unfolding without
without_times n j [] = omega arith
without_times n j (x ∷ xs) = pick (eqb n x) (without_times n j xs)
  where
    pick : (b : Bool) → times j (without n xs) ≤ times j xs → times j (cond b (without n xs) (x ∷ without n xs)) ≤ cond (eqb j x) 1 0 + times j xs
    pick true r = omega arith
    pick false r = omega arith

without_none : (g : ℕ → ℕ) (n : ℕ) (xs : List ℕ) → times n xs ≡ 0 → total g xs ≡ total g (without n xs)
unfolding total without
without_none g n [] e = refl
without_none g n (x ∷ xs) e = pick (eqb n x) e (without_none g n xs)
  where
    pick : (b : Bool) → cond b 1 0 + times n xs ≡ 0 → (times n xs ≡ 0 → total g xs ≡ total g (without n xs)) → g x + total g xs ≡ total g (cond b (without n xs) (x ∷ without n xs))
    pick true e f = absurd (omega arith)
    pick false e f = omega (arith, f (omega arith))

without_one : (g : ℕ → ℕ) (n : ℕ) (xs : List ℕ) → times n xs ≤ 1 → total g xs ≤ total g (without n xs) + g n
unfolding total without
without_one g n [] e = omega arith
without_one g n (x ∷ xs) e = pick (eqb n x) refl e (without_one g n xs)
  where
    pick : (b : Bool) → eqb n x ≡ b → cond b 1 0 + times n xs ≤ 1 → (times n xs ≤ 1 → total g xs ≤ total g (without n xs) + g n) → g x + total g xs ≤ total g (cond b (without n xs) (x ∷ without n xs)) + g n
    pick true q e f = omega (arith, without_none g n xs (omega arith), ap g (eqb-true n x q))
    pick false q e f = omega (arith, f (omega arith))

total_most : (g : ℕ → ℕ) (n : ℕ) (xs : List ℕ) → Each (λ x. x < n) xs → ((j : ℕ) → j < n → times j xs ≤ 1) → total g xs ≤ sum g n
unfolding total sum
total_most g zero [] e h = omega arith
total_most g zero (x ∷ xs) (cons l e) h = absurd (omega arith)
total_most g (suc n) xs e h = omega (arith, without_one g n xs (h n (omega arith)), total_most g n (without n xs) (without_below n e) (λ j l. let m = h j (omega arith) in omega (arith, without_times n j xs)))

-- the load of parts, where a row has this
unfoldable pub load : (ℕ → ℕ) → List Part → ℕ
load f [] = 0
load f (word x ∷ ps) = suc (load f ps)
load f (row i ∷ ps) = cond (eqb i absent) 0 (f i) + load f ps

pub load_append : (f : ℕ → ℕ) (ps qs : List Part) → load f (ps ++ qs) ≡ load f ps + load f qs
unfolding load
load_append f [] qs = omega arith
load_append f (word x ∷ ps) qs = omega (arith, load_append f ps qs)
load_append f (row i ∷ ps) qs = omega (arith, load_append f ps qs)

pub load_present : (f : ℕ → ℕ) (ps : List Part) → load f (present ps) ≡ load f ps
unfolding load present
load_present f [] = refl
load_present f (word x ∷ ps) = ap suc (load_present f ps)
load_present f (row i ∷ ps) = pick (eqb i absent) refl (load_present f ps)
  where
    pick : (b : Bool) → eqb i absent ≡ b → load f (present ps) ≡ load f ps → load f (cond b (present ps) (row i ∷ present ps)) ≡ cond b 0 (f i) + load f ps
    pick true q r = omega arith
    pick false q r = rw q (omega arith)

-- each that waits has some
pub load_least : (f : ℕ → ℕ) → ((i : ℕ) → 1 ≤ f i) → (ps : List Part) → length (present ps) ≤ load f ps
unfolding load present
load_least f h [] = omega arith
load_least f h (word x ∷ ps) = omega (arith, load_least f h ps)
load_least f h (row i ∷ ps) = pick (eqb i absent) (load_least f h ps)
  where
    pick : (b : Bool) → length (present ps) ≤ load f ps → length (cond b (present ps) (row i ∷ present ps)) ≤ cond b 0 (f i) + load f ps
    pick true r = omega arith
    pick false r = omega (arith, h i)

-- how many words there are
unfoldable pub count_words : List Part → ℕ
count_words [] = 0
count_words (word x ∷ ps) = suc (count_words ps)
count_words (row i ∷ ps) = count_words ps

words_both : (ps qs : List Part) → count_words (ps ++ qs) ≡ count_words ps + count_words qs
unfolding count_words
words_both [] qs = omega arith
words_both (word x ∷ ps) qs = omega (arith, words_both ps qs)
words_both (row i ∷ ps) qs = words_both ps qs

-- the load of a row
abbrev pub weight : Rows → (ℕ → ℕ) → ℕ → ℕ
weight w g i = total g (met w (height w) i)

pub weight_some : (w : Rows) (g : ℕ → ℕ) → ((i : ℕ) → 1 ≤ g i) → 0 < height w → (i : ℕ) → 1 ≤ weight w g i
unfolding met total
weight_some w g h l i =
    let d = height w - 1 in
    let z : height w ≡ suc d = omega arith in
    let e : weight w g i ≡ g i + total g (joined (met w d) (named_by w i)) = ap (λ (n : ℕ). total g (met w n i)) z in
    omega (arith, h i)

module _ (w : Rows) (earlier : (i : ℕ) → i < height w → Earlier w i) where
  -- going deeper than a row's number meets no more
  joined_same : (f h : ℕ → List ℕ) {i : ℕ} {xs : List ℕ} → Each (Before i) xs → ((x : ℕ) → x < i → f x ≡ h x) → joined f xs ≡ joined h xs
  unfolding joined
  joined_same f h nil k = refl
  joined_same f h {i} (cons {x = x} {xs = xs} b e) k = pick (eqb x absent) refl b (joined_same f h e k)
    where
      pick : (t : Bool) → eqb x absent ≡ t → Before i x → joined f xs ≡ joined h xs → cond t [] (f x) ++ joined f xs ≡ cond t [] (h x) ++ joined h xs
      pick true q b r = r
      pick false q (inl l) r = rw (k x l, r) refl
      pick false q (inr e) r = absurd (eqb-false x absent q e)

  met_enough : (d d' i : ℕ) → i < d → i < d' → i < height w → met w d i ≡ met w d' i
  unfolding met
  met_enough zero d' i h k l = absurd (omega arith)
  met_enough (suc d) zero i h k l = absurd (omega arith)
  met_enough (suc d) (suc d') i h k l = ap (λ xs. i ∷ xs) (joined_same (met w d) (met w d') (earlier i l) (λ x m. met_enough d d' x (omega arith) (omega arith) (omega arith)))

  module _ (g : ℕ → ℕ) where
    weight_is : (i : ℕ) → i < height w → weight w g i ≡ g i + total g (joined (met w (height w)) (named_by w i))
    unfolding met total
    weight_is i l =
        let d = height w - 1 in
        let z : height w ≡ suc d = omega arith in
        ap (λ (h : ℕ). total g (met w h i)) z ∙ ap (λ (xs : List ℕ). g i + total g xs) (joined_same (met w d) (met w (height w)) (earlier i l) (λ x m. met_enough d (height w) x (omega arith) (omega arith) (omega arith)))

    -- parts weigh what their words and rows do
    load_is : (ps : List Part) → load (weight w g) ps ≡ count_words ps + total g (joined (met w (height w)) (part_rows ps))
    unfolding load count_words joined part_rows total
    load_is [] = refl
    load_is (word x ∷ ps) = omega (arith, load_is ps)
    load_is (row i ∷ ps) = pick (eqb i absent) (load_is ps)
      where
        pick : (b : Bool) → load (weight w g) ps ≡ count_words ps + total g (joined (met w (height w)) (part_rows ps)) → cond b 0 (weight w g i) + load (weight w g) ps ≡ count_words ps + total g (cond b [] (met w (height w) i) ++ joined (met w (height w)) (part_rows ps))
        pick true e = omega arith
        pick false e = omega (arith, total_append g (met w (height w) i) (joined (met w (height w)) (part_rows ps)))

    -- a row and what it holds
    pub row_load : (i : ℕ) → i < height w → load (weight w g) (parts_of w i) + g i ≡ weight w g i + count_words (parts_of w i)
    row_load i l = omega (arith, weight_is i l, load_is (parts_of w i), ap (λ (xs : List ℕ). total g (joined (met w (height w)) xs)) (own_names w i))

    -- a row that is named weighs no more than the one that names it
    named_weight : (xs : List ℕ) (x : ℕ) → x < absent → 0 < times x xs → weight w g x ≤ total g (joined (met w (height w)) xs)
    unfolding joined
    named_weight [] x h t = absurd (omega arith)
    named_weight (y ∷ ys) x h t = pick (eqb x y) refl t (named_weight ys x h)
      where
        pick : (b : Bool) → eqb x y ≡ b → 0 < cond b 1 0 + times x ys → (0 < times x ys → weight w g x ≤ total g (joined (met w (height w)) ys)) → weight w g x ≤ total g (cond (eqb y absent) [] (met w (height w) y) ++ joined (met w (height w)) ys)
        pick true q t f = let z = eqb-true x y q in rw (← z, ne_eqb x absent (λ e. omega arith)) (omega (arith, total_append g (met w (height w) x) (joined (met w (height w)) ys)))
        pick false q t f = omega (arith, f (omega arith), total_append g (cond (eqb y absent) [] (met w (height w) y)) (joined (met w (height w)) ys))

-- words that stand in a row by themselves, by its slots: at most one; all others stand in its links
singles : List Slot → ℕ
singles [] = 0
singles (below n ∷ ss) = singles ss
singles (child ∷ ss) = singles ss
singles (option ∷ ss) = singles ss
singles (symbol ∷ ss) = suc (singles ss)
singles (name ∷ ss) = suc (singles ss)
singles (nodes ∷ ss) = singles ss
singles (names ∷ ss) = singles ss
singles (entries ∷ ss) = singles ss

few_singles : List (List Slot) → Bool
few_singles [] = true
few_singles (ss ∷ sss) = leb (singles ss) 1 && few_singles sss

single : (k : ℕ) → singles (layout Edition.second k) ≤ 1
unfolding layout few_singles singles
single k = pick (layouts Edition.second) k tt
  where
    pick : (sss : List (List Slot)) (i : ℕ) → T (few_singles sss) → singles (get_or sss i []) ≤ 1
    pick [] i t = omega arith
    pick (ss ∷ sss) zero t = leb→le (singles ss) 1 (both (leb (singles ss) 1) (few_singles sss) t).0
    pick (ss ∷ sss) (suc i) t = pick sss i (both (leb (singles ss) 1) (few_singles sss) t).1

node_words : (n : ℕ) (ls : List ℕ) → count_words (node_parts n ls) ≡ 0
unfolding count_words node_parts
node_words zero ls = refl
node_words (suc n) ls = node_words n (drop link_width ls)

name_words : (n : ℕ) (ls : List ℕ) → count_words (name_parts n ls) ≡ n
unfolding count_words name_parts
name_words zero ls = refl
name_words (suc n) ls = ap suc (name_words n (drop link_width ls))

entry_words : (n : ℕ) (ls : List ℕ) → count_words (entry_parts n ls) ≡ 0
unfolding count_words entry_parts
entry_words zero ls = refl
entry_words (suc n) ls = entry_words n (drop link_width ls)

slot_words : (ls : List ℕ) (ss : List Slot) (s e : ℕ) (xs : List ℕ) → count_words (parts ls ss s e xs) ≤ singles ss + list_links ss xs
unfolding count_words parts list_links singles
slot_words ls [] s e xs = omega arith
slot_words ls (below n ∷ ss) s e xs = slot_words ls ss s e (drop 1 xs)
slot_words ls (child ∷ ss) s e xs = slot_words ls ss s e (drop 1 xs)
slot_words ls (option ∷ ss) s e xs = slot_words ls ss s e (drop 1 xs)
slot_words ls (symbol ∷ ss) s e xs = omega (arith, slot_words ls ss s e (drop 1 xs))
slot_words ls (name ∷ ss) s e xs = omega (arith, slot_words ls ss s e (drop 3 xs))
slot_words ls (nodes ∷ ss) s e xs = let us = node_parts (get_or xs 1 0) (drop (link_width * get_or xs 0 0) ls) in omega (arith, slot_words ls ss s e (drop 2 xs), words_both us (parts ls ss s e (drop 2 xs)), node_words (get_or xs 1 0) (drop (link_width * get_or xs 0 0) ls))
slot_words ls (names ∷ ss) s e xs = let us = name_parts (get_or xs 1 0) (drop (link_width * get_or xs 0 0) ls) in omega (arith, slot_words ls ss s e (drop 2 xs), words_both us (parts ls ss s e (drop 2 xs)), name_words (get_or xs 1 0) (drop (link_width * get_or xs 0 0) ls))
slot_words ls (entries ∷ ss) s e xs = let us = entry_parts (get_or xs 1 0) (drop (link_width * get_or xs 0 0) ls) in omega (arith, slot_words ls ss s e (drop 2 xs), words_both us (parts ls ss s e (drop 2 xs)), entry_words (get_or xs 1 0) (drop (link_width * get_or xs 0 0) ls))

pub row_words : (w : Rows) (i : ℕ) → count_words (parts_of w i) ≤ suc (row_links w i)
unfolding parts_of row_links
row_words w i = omega (arith, slot_words w.links (slots_of w i) (get_or (own w i) 1 0) (get_or (own w i) 2 0) (drop 3 (own w i)), single (kind_of w i))

-- room for each node and link row, and steps for each row and word
abbrev pub places : Rows → ℕ → ℕ
places w i = suc (row_links w i)

abbrev pub steps : Rows → ℕ → ℕ
steps w i = suc (count_words (parts_of w i))

sum_places : (w : Rows) (n : ℕ) → sum (places w) n ≡ n + links_before w n
unfolding sum links_before
sum_places w zero = refl
sum_places w (suc n) = omega (arith, sum_places w n)

module _ {s : ℕ} {w : Rows} (g : Good s w) where
  -- no row weighs more than the root
  up : (k i : ℕ) → i < height w → root_row w ≤ i + k → weight w (places w) i ≤ weight w (places w) (root_row w)
  up zero i l h = let z : i ≡ root_row w = omega arith in rw z (omega arith)
  up (suc k) i l h = at (dec_lt i (root_row w)) (up k)
    where
      at : Dec (i < root_row w) → ((j : ℕ) → j < height w → root_row w ≤ j + k → weight w (places w) j ≤ weight w (places w) (root_row w)) → weight w (places w) i ≤ weight w (places w) (root_row w)
      at (yes r) f =
          let p = tenth w i in
          let n = named_once g.checked g.short i r in
          let a = parent_later g.checked g.short i r in
          let b = parent_most g.checked g.short i r in
          omega (arith, weight_is w g.checked.earlier (places w) p (omega arith), named_weight w g.checked.earlier (places w) (named_by w p) i (omega (arith, g.short)) (omega (arith, n.names)), f p (omega arith) (omega arith))
      at (no r) f = let z : i ≡ root_row w = omega arith in rw z (omega arith)

  pub most_places : (i : ℕ) → i < height w → weight w (places w) i ≤ height w + link_count w
  most_places i l =
      let o = walk_once g.checked g.short (height w) (omega arith) in
      omega (arith, up (root_row w) i l (omega arith), total_most (places w) (height w) (met w (height w) (root_row w)) o.only (λ j m. let q = o.once j m in omega arith), sum_places w (height w), all_links g.checked)
