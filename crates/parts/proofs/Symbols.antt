-- Symbols that are left: what the kept statements say has a symbol of the table, no symbol is left twice, and every row that stays says nothing else.
use Prim.Native.Nat.{ℕ, zero, suc, ◌+◌, ◌*◌, ◌/◌, ◌≤◌, ◌<◌}
use native.Mathlib.Decide.{dec_lt}
use native.Mathlib.Omega.{arith}
use mathlib.Core.Bool.{Bool, true, false, cond, ◌||◌}
use mathlib.Core.List.{List, [], ◌∷◌, ◌++◌, map}
use mathlib.Core.Logic.{inl, inr}
use mathlib.Core.Path.{◌≡◌, refl, sym, ap, ◌∙◌}
use lib.Dec.{eqb}
use borrow.Author.Tests.{eqb-true, eqb-false, ne_eqb}
use lib.ListN.{length, get_or, drop, length-append, length-take}
use lib.Seq.{get_or-drop, drop-drop}
use Rattle.grammar.specs.Edition.{Edition}
use Rattle.grammar.specs.Handle.{absent}
use Rattle.grammar.specs.Label.{Node, number_of}
use Rattle.grammar.specs.Layout.{Slot, layout}
use Rattle.grammar.specs.Naming.{linked_nodes, linked_entries, naming, height, named_by, times}
use Rattle.grammar.specs.Operator.{place}
use Rattle.grammar.specs.Parent.{own, tenth}
use Rattle.grammar.specs.Pattern.{among}
use Rattle.grammar.specs.Room.{link_width, symbol_width}
use Rattle.grammar.specs.Rows.{Rows}
use Rattle.grammar.proofs.Forest.{times_append}
use Rattle.grammar.proofs.Pieces.{first_on, second_on}
use Rattle.foreign.specs.Check.{Item, node_items, name_items, entry_items, items, items_of, kind_of, link_count, Each, nil, cons, InRange, Before, Allowed, Checked}
use Rattle.foreign.proofs.Each.{each_both}
use Rattle.parts.specs.Spoken.{Word, Part, node_parts, name_parts, entry_parts, parts, parts_of, words, spoken, heard, first_places}
use Rattle.parts.specs.Packed.{root_row, root_first, statements, statement, kept_upto, kept, stays, spoken_all, upto, left, packed_symbols}
use Rattle.parts.proofs.Hearing.{part_rows, own_names}
pub use Rattle.parts.proofs.Words.{heard_append, first_places_append}
use Rattle.parts.proofs.Words.{heard_known, among_new, upto_length}
use Rattle.parts.proofs.Sizes.{parts_alike, named_here, named_once, parent_later, parent_most, child_stays, statement_stays}

-- two numbers for each symbol that is new
pub heard_places : (xs : List Word) (ks : List ℕ) → symbol_width * length (heard xs ks) ≡ symbol_width * length ks + length (first_places xs ks)
unfolding heard first_places
heard_places [] ks = omega arith
heard_places (x ∷ xs) ks = pick (among ks x.symbol) (heard_places xs)
  where
    pick : (t : Bool) → ((ks : List ℕ) → symbol_width * length (heard xs ks) ≡ symbol_width * length ks + length (first_places xs ks)) →
        symbol_width * length (heard xs (cond t ks (ks ++ (x.symbol ∷ [])))) ≡ symbol_width * length ks + length (cond t (first_places xs ks) (x.from ∷ x.upto ∷ first_places xs (ks ++ (x.symbol ∷ []))))
    pick true f = f ks
    pick false f = omega (arith, f (ks ++ (x.symbol ∷ [])), length-append ks (x.symbol ∷ []))

pub heard_length : (xs : List Word) (ks : List ℕ) → length (heard xs ks) ≡ length ks + length (first_places xs ks) / symbol_width
heard_length xs ks = omega (arith, heard_places xs ks)

-- a list of numbers
pub place_most : (x : ℕ) (ks : List ℕ) → place x ks ≤ length ks
place_most x [] = omega arith
place_most x (k ∷ ks) = pick (eqb x k) (place_most x ks)
  where
    pick : (t : Bool) → place x ks ≤ length ks → cond t 0 (suc (place x ks)) ≤ suc (length ks)
    pick true l = omega arith
    pick false l = omega arith

pub place_below : (x : ℕ) (ks : List ℕ) → among ks x ≡ true → place x ks < length ks
place_below x [] h = absurd (let z : ◌≡◌ {A = ℕ} 0 1 = cc in omega arith)
place_below x (k ∷ ks) h = pick (eqb x k) h (place_below x ks)
  where
    pick : (t : Bool) → (t || among ks x) ≡ true → (among ks x ≡ true → place x ks < length ks) → cond t 0 (suc (place x ks)) < suc (length ks)
    pick true h f = omega arith
    pick false h f = omega (arith, f h)

pub among_times : (xs : List ℕ) (x : ℕ) → among xs x ≡ true → 0 < times x xs
among_times [] x h = absurd (let z : ◌≡◌ {A = ℕ} 0 1 = cc in omega arith)
among_times (y ∷ xs) x h = pick (eqb x y) h (among_times xs x)
  where
    pick : (t : Bool) → (t || among xs x) ≡ true → (among xs x ≡ true → 0 < times x xs) → 0 < cond t 1 0 + times x xs
    pick true h f = omega arith
    pick false h f = omega (arith, f h)

pub times_among : (xs : List ℕ) (x : ℕ) → 0 < times x xs → among xs x ≡ true
times_among [] x h = absurd (omega arith)
times_among (y ∷ xs) x h = pick (eqb x y) h (times_among xs x)
  where
    pick : (t : Bool) → 0 < cond t 1 0 + times x xs → (0 < times x xs → among xs x ≡ true) → (t || among xs x) ≡ true
    pick true h f = refl
    pick false h f = f (omega arith)

pub unamong_times : (xs : List ℕ) (x : ℕ) → among xs x ≡ false → times x xs ≡ 0
unamong_times xs x h = elim (dec_lt 0 (times x xs)) [ yes l ↦ absurd (let a = times_among xs x l in let z : ◌≡◌ {A = ℕ} 0 1 = cc in omega arith) | no l ↦ omega arith ]

-- numbers that differ, and are below s
pub record Different (s : ℕ) (xs : List ℕ) : Type 0 where
  pub once : (x : ℕ) → times x xs ≤ 1
  pub low : Each (λ x. x < s) xs

-- there are no more than s of them: without the largest they are below s - 1
without : ℕ → List ℕ → List ℕ
without s [] = []
without s (x ∷ xs) = cond (eqb s x) (without s xs) (x ∷ without s xs)

without_length : (s : ℕ) (xs : List ℕ) → length xs ≡ times s xs + length (without s xs)
unfolding without
without_length s [] = refl
without_length s (x ∷ xs) = pick (eqb s x) (without_length s xs)
  where
    pick : (t : Bool) → length xs ≡ times s xs + length (without s xs) → suc (length xs) ≡ cond t 1 0 + times s xs + length (cond t (without s xs) (x ∷ without s xs))
    pick true e = omega arith
    pick false e = omega arith

without_times : (s x : ℕ) (xs : List ℕ) → times x (without s xs) ≤ times x xs
unfolding without
without_times s x [] = omega arith
without_times s x (y ∷ xs) = pick (eqb s y) (without_times s x xs)
  where
    pick : (t : Bool) → times x (without s xs) ≤ times x xs → times x (cond t (without s xs) (y ∷ without s xs)) ≤ cond (eqb x y) 1 0 + times x xs
    pick true l = omega arith
    pick false l = omega arith

without_low : (s : ℕ) {xs : List ℕ} → Each (λ x. x < suc s) xs → Each (λ x. x < s) (without s xs)
unfolding without
without_low s nil = nil
without_low s (cons {x = x} {xs = xs} l e) = pick (eqb s x) refl (without_low s e)
  where
    pick : (t : Bool) → eqb s x ≡ t → Each (λ x. x < s) (without s xs) → Each (λ x. x < s) (cond t (without s xs) (x ∷ without s xs))
    pick true z r = r
    pick false z r = let y = eqb-false s x z in let h : x < s = omega arith in cons h r

pub different_most : (s : ℕ) (xs : List ℕ) → Different s xs → length xs ≤ s
different_most zero [] d = omega arith
different_most zero (x ∷ xs) d = absurd (none d.low)
  where
    none : Each (λ x. x < 0) (x ∷ xs) → ⊥
    none (cons l e) = omega arith
different_most (suc s) xs d = omega (arith, without_length s xs, d.once s, different_most s (without s xs) (record { once = λ x. omega (arith, without_times s x xs, d.once x); low = without_low s d.low }))

-- the symbols below n are different
pub upto_low : (n s : ℕ) → n ≤ s → Each (λ x. x < s) (upto n)
unfolding upto
upto_low zero s h = nil
upto_low (suc n) s h = each_both (upto_low n s (omega arith)) (cons h nil)

upto_none : (n x : ℕ) → n ≤ x → times x (upto n) ≡ 0
unfolding upto
upto_none zero x h = refl
upto_none (suc n) x h = times_append x (upto n) (n ∷ []) ∙ rw (ne_eqb x n (λ e. omega arith)) (omega (arith, upto_none n x (omega arith)))

pub upto_once : (n x : ℕ) → times x (upto n) ≤ 1
unfolding upto
upto_once zero x = omega arith
upto_once (suc n) x = pick (eqb x n) refl (upto_once n x)
  where
    pick : (t : Bool) → eqb x n ≡ t → times x (upto n) ≤ 1 → times x (upto n ++ (n ∷ [])) ≤ 1
    pick true z l = omega (arith, times_append x (upto n) (n ∷ []), rw z at (times_append x (upto n) (n ∷ [])), upto_none n x (omega (arith, eqb-true x n z)))
    pick false z l = omega (arith, rw z at (times_append x (upto n) (n ∷ [])))

-- hearing words below s, they stay so
abbrev pub Low : (s : ℕ) → Word → Type 0
Low s x = x.symbol < s

pub heard_different : {s : ℕ} {xs : List Word} → Each (Low s) xs → (ks : List ℕ) → Different s ks → Different s (heard xs ks)
unfolding heard
heard_different nil ks d = d
heard_different {s} (cons {x = x} {xs = xs} l e) ks d = heard_different e (cond (among ks x.symbol) ks (ks ++ (x.symbol ∷ []))) (pick (among ks x.symbol) refl)
  where
    one_more : among ks x.symbol ≡ false → (y : ℕ) (t : Bool) → eqb y x.symbol ≡ t → times y (ks ++ (x.symbol ∷ [])) ≤ 1
    one_more z y true q =
        let n : times y ks ≡ 0 = rw (eqb-true y x.symbol q) (unamong_times ks x.symbol z) in
        omega (arith, rw q at (times_append y ks (x.symbol ∷ [])))
    one_more z y false q = omega (arith, rw q at (times_append y ks (x.symbol ∷ [])), d.once y)

    pick : (t : Bool) → among ks x.symbol ≡ t → Different s (cond t ks (ks ++ (x.symbol ∷ [])))
    pick true z = d
    pick false z = record { once = λ y. one_more z y (eqb y x.symbol) refl; low = each_both d.low (cons l nil) }

-- a word with this symbol is said
pub data Says (x : ℕ) : List Word → Type 0 where
  here : {y : Word} {ys : List Word} → y.symbol ≡ x → Says x (y ∷ ys)
  there : {y : Word} {ys : List Word} → Says x ys → Says x (y ∷ ys)

pub says_left : {x : ℕ} {xs : List Word} (ys : List Word) → Says x xs → Says x (xs ++ ys)
says_left ys (Says.here e) = Says.here e
says_left ys (Says.there s) = Says.there (says_left ys s)

pub says_right : {x : ℕ} (xs : List Word) {ys : List Word} → Says x ys → Says x (xs ++ ys)
says_right [] s = s
says_right (y ∷ xs) s = Says.there (says_right xs s)

pub said_left : {x : ℕ} {xs : List Word} → Says x xs → (ks : List ℕ) → among (heard xs ks) x ≡ true
unfolding heard
said_left {x} (Says.here {y = y} {ys = ys} e) ks = heard_known x ys (cond (among ks y.symbol) ks (ks ++ (y.symbol ∷ []))) (pick (among ks y.symbol) refl)
  where
    pick : (t : Bool) → among ks y.symbol ≡ t → among (cond t ks (ks ++ (y.symbol ∷ []))) x ≡ true
    pick true z = rw e at z
    pick false z = rw e (among_new x ks)
said_left (Says.there {y = y} {ys = ys} s) ks = said_left s (cond (among ks y.symbol) ks (ks ++ (y.symbol ∷ [])))

pub each_first : {A : Type 0} {P : A → Type 0} (xs ys : List A) → Each P (xs ++ ys) → Each P xs
each_first [] ys e = nil
each_first (x ∷ xs) ys (cons p e) = cons p (each_first xs ys e)

pub each_rest : {A : Type 0} {P : A → Type 0} (xs ys : List A) → Each P (xs ++ ys) → Each P ys
each_rest [] ys e = e
each_rest (x ∷ xs) ys (cons p e) = each_rest xs ys e

-- all words of a row are below s, where its symbols are, and those of rows before it
abbrev pub Holds : (s i : ℕ) → Part → Type 0
Holds s i (Part.word x) = x.symbol < s
Holds s i (Part.row x) = Before i x

low_words : {s i : ℕ} {ps : List Part} → Each (Holds s i) ps → (f : ℕ → List Word) → ((x : ℕ) → x < i → Each (Low s) (f x)) → Each (Low s) (words f ps)
unfolding words
low_words nil f before = nil
low_words (cons {x = Part.word x} l e) f before = cons l (low_words e f before)
low_words {s} {i} (cons {x = Part.row x} b e) f before = each_both (one (eqb x absent) refl b) (low_words e f before)
  where
    one : (t : Bool) → eqb x absent ≡ t → Before i x → Each (Low s) (cond t [] (f x))
    one true q b = nil
    one false q (inl l) = before x l
    one false q (inr l) = absurd (eqb-false x absent q l)

module _ (s m i : ℕ) where
  hold_nodes : (n : ℕ) (ls : List ℕ) → Each (Before i) (linked_nodes n ls) → Each (Holds s i) (node_parts n ls)
  unfolding linked_nodes node_parts
  hold_nodes zero ls b = nil
  hold_nodes (suc n) ls (cons b bs) = cons b (hold_nodes n (drop link_width ls) bs)

  hold_names : (n : ℕ) (ls : List ℕ) → Each (InRange s m) (name_items n ls) → Each (Holds s i) (name_parts n ls)
  unfolding name_items name_parts
  hold_names zero ls b = nil
  hold_names (suc n) ls (cons b bs) = cons b (hold_names n (drop link_width ls) bs)

  hold_entries : (n : ℕ) (ls : List ℕ) → Each (Before i) (linked_entries n ls) → Each (Holds s i) (entry_parts n ls)
  unfolding linked_entries entry_parts
  hold_entries zero ls b = nil
  hold_entries (suc n) ls (cons a (cons b bs)) = cons a (cons b (hold_entries n (drop link_width ls) bs))

  hold_parts : (ls : List ℕ) (ss : List Slot) (a b : ℕ) (xs : List ℕ) → Each (Before i) (naming ls ss xs) → Each (InRange s m) (items ls ss xs) → Each (Holds s i) (parts ls ss a b xs)
  unfolding naming items parts
  hold_parts ls [] a b xs n r = nil
  hold_parts ls (Slot.below k ∷ ss) a b xs n (cons r rs) = hold_parts ls ss a b (drop 1 xs) n rs
  hold_parts ls (Slot.child ∷ ss) a b xs (cons n ns) (cons r rs) = cons n (hold_parts ls ss a b (drop 1 xs) ns rs)
  hold_parts ls (Slot.option ∷ ss) a b xs (cons n ns) (cons r rs) = cons n (hold_parts ls ss a b (drop 1 xs) ns rs)
  hold_parts ls (Slot.symbol ∷ ss) a b xs n (cons r rs) = cons r (hold_parts ls ss a b (drop 1 xs) n rs)
  hold_parts ls (Slot.name ∷ ss) a b xs n (cons r rs) = cons r (hold_parts ls ss a b (drop 3 xs) n rs)
  hold_parts ls (Slot.nodes ∷ ss) a b xs n (cons r rs) =
      let z = get_or xs 1 0 in let us = drop (link_width * get_or xs 0 0) ls in let ys = drop 2 xs in
      each_both (hold_nodes z us (each_first (linked_nodes z us) (naming ls ss ys) n)) (hold_parts ls ss a b ys (each_rest (linked_nodes z us) (naming ls ss ys) n) (each_rest (node_items z us) (items ls ss ys) rs))
  hold_parts ls (Slot.names ∷ ss) a b xs n (cons r rs) =
      let z = get_or xs 1 0 in let us = drop (link_width * get_or xs 0 0) ls in let ys = drop 2 xs in
      each_both (hold_names z us (each_first (name_items z us) (items ls ss ys) rs)) (hold_parts ls ss a b ys n (each_rest (name_items z us) (items ls ss ys) rs))
  hold_parts ls (Slot.entries ∷ ss) a b xs n (cons r rs) =
      let z = get_or xs 1 0 in let us = drop (link_width * get_or xs 0 0) ls in let ys = drop 2 xs in
      each_both (hold_entries z us (each_first (linked_entries z us) (naming ls ss ys) n)) (hold_parts ls ss a b ys (each_rest (linked_entries z us) (naming ls ss ys) n) (each_rest (entry_items z us) (items ls ss ys) rs))

-- the root: what it names, and what stands in it
block_naming : (ls xs : List ℕ) (kind : ℕ) → kind ≡ number_of Node.Block → naming ls (layout Edition.second kind) (drop 3 xs) ≡ linked_nodes (get_or xs 4 0) (drop (link_width * get_or xs 3 0) ls) ++ (get_or xs 5 0 ∷ [])
unfolding naming layout
block_naming ls xs kind h = rw h (rw (first_on xs 3, second_on xs 3, drop-drop 2 3 xs, first_on xs 5))

pub block_items : (e : Edition) (ls xs : List ℕ) (kind : ℕ) → kind ≡ number_of Node.Block → items ls (layout e kind) (drop 3 xs) ≡ Item.list (get_or xs 3 0) (get_or xs 4 0) ∷ node_items (get_or xs 4 0) (drop (link_width * get_or xs 3 0) ls) ++ (Item.option (get_or xs 5 0) ∷ map Item.unused (drop 6 xs))
unfolding items layout
block_items e ls xs kind h = rw h (rw (first_on xs 3, second_on xs 3, drop-drop 2 3 xs, first_on xs 5, drop-drop 1 5 xs))

linked_snoc : (n : ℕ) (ls : List ℕ) → linked_nodes (suc n) ls ≡ linked_nodes n ls ++ (get_or ls (link_width * n) 0 ∷ [])
unfolding linked_nodes
linked_snoc zero ls = refl
linked_snoc (suc n) ls =
    let z : link_width + link_width * n ≡ link_width * suc n = omega arith in
    ap (λ (xs : List ℕ). get_or ls 0 0 ∷ xs) (linked_snoc n (drop link_width ls) ∙ ap (λ (x : ℕ). linked_nodes n (drop link_width ls) ++ (x ∷ [])) (get_or-drop link_width ls (link_width * n) 0 ∙ ap (λ (x : ℕ). get_or ls x 0) z))

-- the root's statements
abbrev pub root_list : Rows → List ℕ
root_list w = linked_nodes (statements w) (drop (link_width * root_first w) w.links)

statement_at : (w : Rows) (n : ℕ) → linked_nodes (suc n) (drop (link_width * root_first w) w.links) ≡ linked_nodes n (drop (link_width * root_first w) w.links) ++ (statement w n ∷ [])
statement_at w n =
    let z : link_width * root_first w + link_width * n ≡ link_width * (root_first w + n) = omega arith in
    linked_snoc n (drop (link_width * root_first w) w.links) ∙ ap (λ (x : ℕ). linked_nodes n (drop (link_width * root_first w) w.links) ++ (x ∷ [])) (get_or-drop (link_width * root_first w) w.links (link_width * n) 0 ∙ ap (λ (x : ℕ). get_or w.links x 0) z)

module _ (c : ℕ → Bool) (w : Rows) where
  -- those that are kept are among them
  kept_upto_times : (x n : ℕ) → times x (kept_upto c w n) ≤ times x (linked_nodes n (drop (link_width * root_first w) w.links))
  unfolding kept_upto
  kept_upto_times x zero = omega arith
  kept_upto_times x (suc n) = pick (c n) (kept_upto_times x n)
    where
      pick : (t : Bool) → times x (kept_upto c w n) ≤ times x (linked_nodes n (drop (link_width * root_first w) w.links)) → times x (kept_upto c w n ++ cond t (statement w n ∷ []) []) ≤ times x (linked_nodes (suc n) (drop (link_width * root_first w) w.links))
      pick true l = omega (arith, times_append x (kept_upto c w n) (statement w n ∷ []), ap (times x) (statement_at w n), times_append x (linked_nodes n (drop (link_width * root_first w) w.links)) (statement w n ∷ []))
      pick false l = omega (arith, times_append x (kept_upto c w n) [], ap (times x) (statement_at w n), times_append x (linked_nodes n (drop (link_width * root_first w) w.links)) (statement w n ∷ []))

  pub kept_times : (x : ℕ) → times x (kept c w) ≤ times x (root_list w)
  kept_times x = kept_upto_times x (statements w)

  kept_upto_each : (P : ℕ → Type 0) (n : ℕ) → Each P (linked_nodes n (drop (link_width * root_first w) w.links)) → Each P (kept_upto c w n)
  unfolding kept_upto
  kept_upto_each P zero h = nil
  kept_upto_each P (suc n) h = pick (c n) (rw (statement_at w n) at h) (kept_upto_each P n)
    where
      pick : (t : Bool) → Each P (linked_nodes n (drop (link_width * root_first w) w.links) ++ (statement w n ∷ [])) → (Each P (linked_nodes n (drop (link_width * root_first w) w.links)) → Each P (kept_upto c w n)) → Each P (kept_upto c w n ++ cond t (statement w n ∷ []) [])
      pick true h f = each_both (f (each_first (linked_nodes n (drop (link_width * root_first w) w.links)) (statement w n ∷ []) h)) (each_rest (linked_nodes n (drop (link_width * root_first w) w.links)) (statement w n ∷ []) h)
      pick false h f = each_both (f (each_first (linked_nodes n (drop (link_width * root_first w) w.links)) (statement w n ∷ []) h)) nil

  pub kept_each : (P : ℕ → Type 0) → Each P (root_list w) → Each P (kept c w)
  kept_each P h = kept_upto_each P (statements w) h

-- what may not be absent and is before a row is before it
firm : (i n : ℕ) (ls : List ℕ) (js : List Item) → Each Allowed (node_items n ls ++ js) → Each (Before i) (linked_nodes n ls) → Each (λ x. x < i) (linked_nodes n ls)
unfolding node_items linked_nodes
firm i zero ls js a b = nil
firm i (suc n) ls js (cons p (cons q (cons r a))) (cons b bs) = cons (pick b p) (firm i n (drop link_width ls) js a bs)
  where
    pick : {x : ℕ} → Before i x → (x ≡ absent → ⊥) → x < i
    pick (inl l) f = l
    pick (inr z) f = absurd (f z)

module _ {e : Edition} {s : ℕ} {w : Rows} (k : Checked e s w) where
  pub root_names : named_by w (root_row w) ≡ root_list w ++ (absent ∷ [])
  root_names = named_here w (root_row w) Edition.second ∙ block_naming w.links (own w (root_row w)) (kind_of w (root_row w)) k.rooted.block ∙ ap (λ (x : ℕ). root_list w ++ (x ∷ [])) k.rooted.no_tail

  pub root_list_below : Each (λ i. i < root_row w) (root_list w)
  unfolding items_of
  root_list_below =
      let h : root_row w < height w = omega (arith, k.rooted.some) in
      let x = own w (root_row w) in
      firm (root_row w) (statements w) (drop (link_width * root_first w) w.links) (Item.option (get_or x 5 0) ∷ map Item.unused (drop 6 x)) (allowed (rw (block_items e w.links x (kind_of w (root_row w)) k.rooted.block) at (k.present (root_row w) h))) (each_first (root_list w) (absent ∷ []) (rw root_names at (k.earlier (root_row w) h)))
    where
      allowed : {i : Item} {is : List Item} → Each Allowed (i ∷ is) → Each Allowed is
      allowed (cons p e) = e

  pub kept_below : (c : ℕ → Bool) → Each (λ i. i < root_row w) (kept c w)
  kept_below c = kept_each c w (λ i. i < root_row w) root_list_below

  -- what a row holds has symbols, and rows that are earlier
  pub row_holds : (i : ℕ) → i < height w → Each (Holds s i) (parts_of w i)
  unfolding parts_of items_of
  row_holds i h =
      let x = parts_alike e (kind_of w i) (drop 3 (own w i)) w.links (get_or (own w i) 1 0) (get_or (own w i) 2 0) in
      rw (← x) (hold_parts s (link_count w) i w.links (layout e (kind_of w i)) (get_or (own w i) 1 0) (get_or (own w i) 2 0) (drop 3 (own w i)) (rw (named_here w i e) at (k.earlier i h)) (k.ranges i h))

  -- so the words of each row have symbols
  pub spoken_low : (d i : ℕ) → i < height w → Each (Low s) (spoken w d i)
  unfolding spoken
  spoken_low zero i h = nil
  spoken_low (suc d) i h = low_words (row_holds i h) (spoken w d) (λ j l. spoken_low d j (omega arith))

  all_low : {is : List ℕ} → Each (λ i. i < root_row w) is → Each (Low s) (spoken_all w is)
  unfolding spoken_all
  all_low nil = nil
  all_low (cons {x = i} l e) = each_both (spoken_low (height w) i (omega arith)) (all_low e)

  pub kept_low : (c : ℕ → Bool) → Each (Low s) (spoken_all w (kept c w))
  kept_low c = all_low (kept_below c)

  -- so the symbols that are left differ, and are no more than there were
  pub left_different : (c : ℕ → Bool) (b : ℕ) → b ≤ s → Different s (left c b w)
  unfolding left
  left_different c b h = heard_different (kept_low c) (upto b) (record { once = upto_once b; low = upto_low b s h })

  pub left_most : (c : ℕ → Bool) (b : ℕ) → b ≤ s → length (left c b w) ≤ s
  left_most c b h = different_most s (left c b w) (left_different c b h)

-- as many symbol rows come out as symbols are left
pub packed_symbols_length : (c : ℕ → Bool) (b : ℕ) (w : Rows) (ss : List ℕ) → symbol_width * b ≤ length ss → length (packed_symbols c b w ss) ≡ symbol_width * length (left c b w)
unfolding packed_symbols left
packed_symbols_length c b w ss h = simp (length-append, length-take) (omega (arith, heard_places (spoken_all w (kept c w)) (upto b), upto_length b))

-- the built-in ones are among them
pub left_least : (c : ℕ → Bool) (b : ℕ) (w : Rows) → b ≤ length (left c b w)
unfolding left
left_least c b w = omega (arith, heard_length (spoken_all w (kept c w)) (upto b), upto_length b)

-- every symbol of a row that stays is left: a kept statement says it

-- what a row says that parts name, they say
says_named : (f : ℕ → List Word) (i : ℕ) → (i ≡ absent → ⊥) → {x : ℕ} → Says x (f i) → (ps : List Part) → 0 < times i (part_rows ps) → Says x (words f ps)
unfolding words part_rows
says_named f i n s [] h = absurd (omega arith)
says_named f i n s (Part.word y ∷ ps) h = Says.there (says_named f i n s ps h)
says_named f i n {x} s (Part.row j ∷ ps) h = pick (eqb i j) refl h (says_named f i n s ps)
  where
    pick : (t : Bool) → eqb i j ≡ t → 0 < cond t 1 0 + times i (part_rows ps) → (0 < times i (part_rows ps) → Says x (words f ps)) → Says x (cond (eqb j absent) [] (f j) ++ words f ps)
    pick true z h g = let q = eqb-true i j z in rw (← q) (rw (ne_eqb i absent n) (says_left (words f ps) s))
    pick false z h g = says_right (cond (eqb j absent) [] (f j)) (g (omega arith))

-- the symbols of parts, and of items
abbrev Worded : (ℕ → Type 0) → Part → Type 0
Worded P (Part.word x) = P x.symbol
Worded P (Part.row i) = Unit {0}

abbrev pub Symbolic : (ℕ → Type 0) → Item → Type 0
Symbolic P (Item.number l n) = Unit {0}
Symbolic P (Item.child x) = Unit {0}
Symbolic P (Item.option x) = Unit {0}
Symbolic P (Item.symbol x) = P x
Symbolic P (Item.list f n) = Unit {0}
Symbolic P (Item.unused x) = Unit {0}

said_each : (P : ℕ → Type 0) (ps : List Part) → ((x : ℕ) → ((f : ℕ → List Word) → Says x (words f ps)) → P x) → Each (Worded P) ps
unfolding words
said_each P [] h = nil
said_each P (Part.word x ∷ ps) h = cons (h x.symbol (λ f. Says.here refl)) (said_each P ps (λ y s. h y (λ f. Says.there (s f))))
said_each P (Part.row i ∷ ps) h = cons tt (said_each P ps (λ y s. h y (λ f. says_right (cond (eqb i absent) [] (f i)) (s f))))

module _ (P : ℕ → Type 0) where
  symbols_nodes : (n : ℕ) (ls : List ℕ) → Each (Symbolic P) (node_items n ls)
  unfolding node_items
  symbols_nodes zero ls = nil
  symbols_nodes (suc n) ls = cons tt (cons tt (cons tt (symbols_nodes n (drop link_width ls))))

  symbols_names : (n : ℕ) (ls : List ℕ) → Each (Worded P) (name_parts n ls) → Each (Symbolic P) (name_items n ls)
  unfolding name_items name_parts
  symbols_names zero ls h = nil
  symbols_names (suc n) ls (cons p h) = cons p (symbols_names n (drop link_width ls) h)

  symbols_entries : (n : ℕ) (ls : List ℕ) → Each (Symbolic P) (entry_items n ls)
  unfolding entry_items
  symbols_entries zero ls = nil
  symbols_entries (suc n) ls = cons tt (cons tt (cons tt (symbols_entries n (drop link_width ls))))

  symbols_unused : (xs : List ℕ) → Each (Symbolic P) (map Item.unused xs)
  symbols_unused [] = nil
  symbols_unused (x ∷ xs) = cons tt (symbols_unused xs)

  symbols_items : (ls : List ℕ) (ss : List Slot) (a b : ℕ) (xs : List ℕ) → Each (Worded P) (parts ls ss a b xs) → Each (Symbolic P) (items ls ss xs)
  unfolding items parts
  symbols_items ls [] a b xs h = symbols_unused xs
  symbols_items ls (Slot.below n ∷ ss) a b xs h = cons tt (symbols_items ls ss a b (drop 1 xs) h)
  symbols_items ls (Slot.child ∷ ss) a b xs (cons p h) = cons tt (symbols_items ls ss a b (drop 1 xs) h)
  symbols_items ls (Slot.option ∷ ss) a b xs (cons p h) = cons tt (symbols_items ls ss a b (drop 1 xs) h)
  symbols_items ls (Slot.symbol ∷ ss) a b xs (cons p h) = cons p (symbols_items ls ss a b (drop 1 xs) h)
  symbols_items ls (Slot.name ∷ ss) a b xs (cons p h) = cons p (symbols_items ls ss a b (drop 3 xs) h)
  symbols_items ls (Slot.nodes ∷ ss) a b xs h =
      let z = get_or xs 1 0 in let us = drop (link_width * get_or xs 0 0) ls in let ys = drop 2 xs in
      cons tt (each_both (symbols_nodes z us) (symbols_items ls ss a b ys (each_rest (node_parts z us) (parts ls ss a b ys) h)))
  symbols_items ls (Slot.names ∷ ss) a b xs h =
      let z = get_or xs 1 0 in let us = drop (link_width * get_or xs 0 0) ls in let ys = drop 2 xs in
      cons tt (each_both (symbols_names z us (each_first (name_parts z us) (parts ls ss a b ys) h)) (symbols_items ls ss a b ys (each_rest (name_parts z us) (parts ls ss a b ys) h)))
  symbols_items ls (Slot.entries ∷ ss) a b xs h =
      let z = get_or xs 1 0 in let us = drop (link_width * get_or xs 0 0) ls in let ys = drop 2 xs in
      cons tt (each_both (symbols_entries z us) (symbols_items ls ss a b ys (each_rest (entry_parts z us) (parts ls ss a b ys) h)))

says_all : (w : Rows) (i : ℕ) {x : ℕ} → Says x (spoken w (height w) i) → (is : List ℕ) → among is i ≡ true → Says x (spoken_all w is)
unfolding spoken_all
says_all w i s [] h = absurd (let z : ◌≡◌ {A = ℕ} 0 1 = cc in omega arith)
says_all w i {x} s (j ∷ is) h = pick (eqb i j) refl h (says_all w i s is)
  where
    pick : (t : Bool) → eqb i j ≡ t → (t || among is i) ≡ true → (among is i ≡ true → Says x (spoken_all w is)) → Says x (spoken w (height w) j ++ spoken_all w is)
    pick true z h g = let q = eqb-true i j z in rw (← q) (says_left (spoken_all w is) s)
    pick false z h g = says_right (spoken w (height w) j) (g h)

module _ {e : Edition} {s : ℕ} {w : Rows} (k : Checked e s w) (few : height w ≤ absent) (c : ℕ → Bool) where
  -- what row i says, its parent says, going one deeper
  parent_says : (i x : ℕ) → i < root_row w → ((d : ℕ) → i < d → Says x (spoken w d i)) → (d : ℕ) → tenth w i < d → Says x (spoken w d (tenth w i))
  unfolding spoken
  parent_says i x h f zero l = absurd (omega arith)
  parent_says i x h f (suc d) l = says_named (spoken w d) i (λ z. omega arith) (f d (omega (arith, parent_later k few i h))) (parts_of w (tenth w i)) (rw (own_names w (tenth w i)) named)
    where
      named : 0 < times i (named_by w (tenth w i))
      named = omega (arith, (named_once k few i h).names)

  pub staying_says : (n i x : ℕ) → i < root_row w → root_row w ≤ i + n → stays c w i ≡ true → ((d : ℕ) → i < d → Says x (spoken w d i)) → Says x (spoken_all w (kept c w))
  staying_says zero i x h l t f = absurd (omega arith)
  staying_says (suc n) i x h l t f =
      let a = parent_later k few i h in
      let b = parent_most k few i h in
      elim (dec_lt (tenth w i) (root_row w)) [
        | yes z ↦ staying_says n (tenth w i) x z (omega arith) (sym (child_stays k few c i h z) ∙ t) (parent_says i x h f)
        | no z ↦ says_all w i (f (height w) (omega arith)) (kept c w) (sym (statement_stays k few c i h (omega arith)) ∙ t)
      ]

  own_says : (i x : ℕ) → ((f : ℕ → List Word) → Says x (words f (parts_of w i))) → (d : ℕ) → i < d → Says x (spoken w d i)
  unfolding spoken
  own_says i x s zero l = absurd (omega arith)
  own_says i x s (suc d) l = s (spoken w d)

  -- so each of its symbols is left
  staying_parts : (b i : ℕ) → i < root_row w → stays c w i ≡ true → Each (Worded (λ x. among (left c b w) x ≡ true)) (parts_of w i)
  unfolding left
  staying_parts b i h t = said_each (λ x. among (left c b w) x ≡ true) (parts_of w i) (λ x s. said_left (staying_says (root_row w) i x h (omega arith) t (own_says i x s)) (upto b))

  pub staying_symbols : (b i : ℕ) → i < root_row w → stays c w i ≡ true → Each (Symbolic (λ x. among (left c b w) x ≡ true)) (items_of e w i)
  unfolding items_of parts_of
  staying_symbols b i h t =
      let x = drop 3 (own w i) in
      let u = get_or (own w i) 1 0 in
      let v = get_or (own w i) 2 0 in
      symbols_items (λ y. among (left c b w) y ≡ true) w.links (layout e (kind_of w i)) u v x (rw (parts_alike e (kind_of w i) x w.links u v) (staying_parts b i h t))
