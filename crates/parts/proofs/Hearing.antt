-- What rows say, whoever wrote them: it depends on what a row names alone, so going deeper than a row's number says no more where the rows that a row names are
-- earlier; and rows say the same with their parents put in.
use Prim.Native.Nat.{ℕ, zero, suc, ◌+◌, ◌*◌, ◌<◌}
use native.Mathlib.Decide.{dec_lt}
use native.Mathlib.Omega.{arith}
use mathlib.Core.Bool.{Bool, true, false, cond}
use mathlib.Core.List.{List, [], ◌∷◌, ◌++◌, append_assoc}
use mathlib.Core.Logic.{inl, inr}
use mathlib.Core.Path.{◌≡◌, refl, sym, ap, ◌∙◌}
use lib.Dec.{eqb}
use lib.ListN.{length, get_or, take, drop, drop_of_length-le}
use lib.Seq.{take-nil, get_or-drop, take-take, drop-drop}
use borrow.Author.Tests.{eqb-false}
use Rattle.grammar.specs.Edition.{Edition}
use Rattle.grammar.specs.Handle.{absent}
use Rattle.grammar.specs.Layout.{Slot, below, child, option, symbol, name, nodes, names, entries, layout}
use Rattle.grammar.specs.Naming.{linked_nodes, linked_entries, naming, height, named_by}
use Rattle.grammar.specs.Parent.{own, parented}
use Rattle.grammar.specs.Room.{node_width, own_width, link_width}
use Rattle.grammar.specs.Rows.{Rows}
use Rattle.grammar.proofs.Parents.{parented_length, parented_own, named_own}
use Rattle.foreign.specs.Check.{Each, cons, Before, Earlier}
use Rattle.parts.specs.Spoken.{Word, Part, word, row, node_parts, name_parts, entry_parts, parts, parts_of, words, spoken}

-- the words of two runs of parts
pub words_append : (f : ℕ → List Word) (ps qs : List Part) → words f (ps ++ qs) ≡ words f ps ++ words f qs
unfolding words
words_append f [] qs = refl
words_append f (word x ∷ ps) qs = rw (words_append f ps qs)
words_append f (row i ∷ ps) qs = rw (words_append f ps qs) (sym (append_assoc (cond (eqb i absent) [] (f i)) (words f ps) (words f qs)))

-- the rows among parts, absent ones too
unfoldable pub part_rows : List Part → List ℕ
part_rows [] = []
part_rows (word x ∷ ps) = part_rows ps
part_rows (row i ∷ ps) = i ∷ part_rows ps

rows_append : (ps qs : List Part) → part_rows (ps ++ qs) ≡ part_rows ps ++ part_rows qs
unfolding part_rows
rows_append [] qs = refl
rows_append (word x ∷ ps) qs = rows_append ps qs
rows_append (row i ∷ ps) qs = rw (rows_append ps qs)

node_rows : (n : ℕ) (ls : List ℕ) → part_rows (node_parts n ls) ≡ linked_nodes n ls
unfolding part_rows node_parts linked_nodes
node_rows zero ls = refl
node_rows (suc n) ls = rw (node_rows n (drop link_width ls))

name_rows : (n : ℕ) (ls : List ℕ) → part_rows (name_parts n ls) ≡ []
unfolding part_rows name_parts
name_rows zero ls = refl
name_rows (suc n) ls = name_rows n (drop link_width ls)

entry_rows : (n : ℕ) (ls : List ℕ) → part_rows (entry_parts n ls) ≡ linked_entries n ls
unfolding part_rows entry_parts linked_entries
entry_rows zero ls = refl
entry_rows (suc n) ls = rw (entry_rows n (drop link_width ls))

-- are those that the row names
parts_name : (ls : List ℕ) (ss : List Slot) (s e : ℕ) (xs : List ℕ) → part_rows (parts ls ss s e xs) ≡ naming ls ss xs
unfolding part_rows parts naming
parts_name ls [] s e xs = refl
parts_name ls (below n ∷ ss) s e xs = parts_name ls ss s e (drop 1 xs)
parts_name ls (child ∷ ss) s e xs = rw (parts_name ls ss s e (drop 1 xs))
parts_name ls (option ∷ ss) s e xs = rw (parts_name ls ss s e (drop 1 xs))
parts_name ls (symbol ∷ ss) s e xs = parts_name ls ss s e (drop 1 xs)
parts_name ls (name ∷ ss) s e xs = parts_name ls ss s e (drop 3 xs)
parts_name ls (nodes ∷ ss) s e xs = let l = drop (link_width * get_or xs 0 0) ls in rows_append (node_parts (get_or xs 1 0) l) (parts ls ss s e (drop 2 xs)) ∙ rw (node_rows (get_or xs 1 0) l, parts_name ls ss s e (drop 2 xs))
parts_name ls (names ∷ ss) s e xs = let l = drop (link_width * get_or xs 0 0) ls in rows_append (name_parts (get_or xs 1 0) l) (parts ls ss s e (drop 2 xs)) ∙ rw (name_rows (get_or xs 1 0) l, parts_name ls ss s e (drop 2 xs))
parts_name ls (entries ∷ ss) s e xs = let l = drop (link_width * get_or xs 0 0) ls in rows_append (entry_parts (get_or xs 1 0) l) (parts ls ss s e (drop 2 xs)) ∙ rw (entry_rows (get_or xs 1 0) l, parts_name ls ss s e (drop 2 xs))

drop_take : (m n : ℕ) (xs : List ℕ) → drop m (take (m + n) xs) ≡ take n (drop m xs)
drop_take zero n xs = let e : 0 + n ≡ n = omega arith in ap (λ k. take k xs) e
drop_take (suc m) n [] = rw (take-nil {A = ℕ} (suc m + n)) (sym (take-nil n))
drop_take (suc m) n (x ∷ xs) = let e : suc m + n ≡ suc (m + n) = omega arith in rw e (drop_take m n xs)

-- a row's names, read off its own nine numbers
pub own_names : (w : Rows) (i : ℕ) → part_rows (parts_of w i) ≡ named_by w i
unfolding parts_of named_by
own_names w i = parts_name w.links _ _ _ (drop 3 (own w i)) ∙ cut_names
  where
    cut : Rows
    cut = record { nodes = take (node_width * i + own_width) w.nodes; links = w.links }

    front : drop (node_width * i) cut.nodes ≡ own w i
    front = drop_take (node_width * i) own_width w.nodes

    same_own : own cut i ≡ own w i
    same_own = rw front (take-take own_width own_width (drop (node_width * i) w.nodes) (omega arith))

    kind_cut : get_or (own w i) 0 0 ≡ get_or cut.nodes (node_width * i) 0
    kind_cut = let z : node_width * i + 0 ≡ node_width * i = omega arith in ap (λ xs. get_or xs 0 0) (sym front) ∙ rw z at (get_or-drop (node_width * i) cut.nodes 0 0)

    fields_cut : drop 3 (own w i) ≡ drop (node_width * i + 3) cut.nodes
    fields_cut = ap (drop 3) (sym front) ∙ drop-drop 3 (node_width * i) cut.nodes

    cut_names : naming w.links (layout Edition.second (get_or (own w i) 0 0)) (drop 3 (own w i)) ≡ named_by w i
    cut_names = ap (λ k. naming w.links (layout Edition.second k) (drop 3 (own w i))) kind_cut ∙ ap (naming w.links (layout Edition.second (get_or cut.nodes (node_width * i) 0))) fields_cut ∙ named_own cut w i same_own refl

-- what parts say, where a row has these words and those: the same, where it has the same at each row among them
words_alike : (f g : ℕ → List Word) (ps : List Part) {i : ℕ} → Each (Before i) (part_rows ps) → ((j : ℕ) → j < i → f j ≡ g j) → words f ps ≡ words g ps
unfolding words part_rows
words_alike f g [] b h = refl
words_alike f g (word x ∷ ps) b h = rw (words_alike f g ps b h)
words_alike f g (row j ∷ ps) {i} (cons b bs) h = rw (one (eqb j absent) refl b, words_alike f g ps bs h)
  where
    one : (c : Bool) → eqb j absent ≡ c → Before i j → cond c [] (f j) ≡ cond c [] (g j)
    one true q b = refl
    one false q (inl l) = h j l
    one false q (inr e) = absurd (eqb-false j absent q e)

-- going deeper than a row's number says no more, where what a row names is earlier
pub spoken_enough : (w : Rows) → ((i : ℕ) → i < height w → Earlier w i) → (d d' i : ℕ) → i < d → i < d' → i < height w → spoken w d i ≡ spoken w d' i
unfolding spoken
spoken_enough w earlier zero d' i h k l = absurd (omega arith)
spoken_enough w earlier (suc d) zero i h k l = absurd (omega arith)
spoken_enough w earlier (suc d) (suc d') i h k l = words_alike (spoken w d) (spoken w d') (parts_of w i) {i = i} (rw (own_names w i) (earlier i l)) (λ j m. spoken_enough w earlier d d' j (omega arith) (omega arith) (omega arith))

-- the same words at each row
words_same : (f g : ℕ → List Word) (ps : List Part) → ((j : ℕ) → f j ≡ g j) → words f ps ≡ words g ps
unfolding words
words_same f g [] h = refl
words_same f g (word x ∷ ps) h = rw (words_same f g ps h)
words_same f g (row j ∷ ps) h = rw (h j, words_same f g ps h)

-- with the parents put in
module _ (w : Rows) (x : node_width * height w ≡ length w.nodes) where
  parented_all : (i : ℕ) → own (parented w) i ≡ own w i
  parented_all i = elim (dec_lt i (height w)) [
    | yes h ↦ parented_own w x i h
    | no h ↦ rw (drop_of_length-le (parented w).nodes {i = node_width * i} (omega (arith, parented_length w x, x)), drop_of_length-le w.nodes {i = node_width * i} (omega (arith, x)))
  ]

  pub spoken_parented : (d i : ℕ) → spoken (parented w) d i ≡ spoken w d i
  unfolding spoken parts_of
  spoken_parented zero i = refl
  spoken_parented (suc d) i = words_same (spoken (parented w) d) (spoken w d) (parts_of (parented w) i) (λ j. spoken_parented d j) ∙ ap (words (spoken w d)) parts_same
    where
      parts_same : parts_of (parented w) i ≡ parts_of w i
      parts_same = rw (parented_all i)
