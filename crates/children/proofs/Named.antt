-- The children at the places of a row that stands in its room are the rows that it names, absent ones left out, where its list stands in the links' room.
use Prim.Native.Nat.{ℕ, zero, suc, ◌+◌, ◌*◌, ◌≤◌, ◌<◌}
use native.Mathlib.Decide.{dec_lt}
use native.Mathlib.Omega.{arith}
use mathlib.Core.Bool.{Bool, true, false, cond}
use mathlib.Core.List.{List, [], ◌∷◌, ◌++◌}
use mathlib.Core.Path.{◌≡◌, refl, sym, ap, ◌∙◌}
use lib.Dec.{T, eqb}
use lib.ListN.{length, get_or, drop, length-drop, get_or-eq_default}
use Rattle.grammar.specs.Edition.{Edition}
use Rattle.grammar.specs.Handle.{absent}
use Rattle.grammar.specs.Layout.{layout, layouts}
use Rattle.grammar.specs.Naming.{linked_nodes, linked_entries, naming, named_by}
use Rattle.grammar.specs.Room.{node_width, link_width}
use Rattle.grammar.specs.Rows.{Rows}
use Rattle.grammar.proofs.Pieces.{Piece, single, list, pieces, linked, rows, naming_pieces}
use Rattle.grammar.proofs.Tests.{within}
use Rattle.children.specs.Below.{one_more, listing, placed, Below, held, many, children, Child}
use Rattle.children.specs.declared.Children.{Children}
use Rattle.children.proofs.Laws.{in_list, places_length}
use Rattle.children.proofs.Arranged.{each_of, arranged, placed_pieces}

-- absent ones left out
abbrev pub present : List ℕ → List ℕ
present [] = []
present (x ∷ xs) = cond (eqb x absent) (present xs) (x ∷ present xs)

-- the answers at the first n places
abbrev pub answers : (n : ℕ) → (ℕ → ℕ) → List ℕ
answers zero f = []
answers (suc n) f = f 0 ∷ answers n (λ i. f (suc i))

-- a list's own numbers
pub answers_list : (xs : List ℕ) (f : ℕ → ℕ) → ((i : ℕ) → i < length xs → f i ≡ get_or xs i absent) → answers (length xs) f ≡ xs
answers_list [] f h = refl
answers_list (x ∷ xs) f h = rw (h 0 (omega arith), answers_list xs (λ i. f (suc i)) (λ i l. h (suc i) (omega arith)))

-- links that stand in the room hold what they name
held_linked : (t : Bool) (n : ℕ) (ls : List ℕ) → link_width * n ≤ length ls → held (each_of t) n ls ≡ linked t n ls
unfolding held linked_nodes linked_entries
held_linked false zero ls h = refl
held_linked false (suc n) ls h = rw (in_list ls 0 absent 0 (omega arith), held_linked false n (drop link_width ls) (simp length-drop (omega arith)))
held_linked true zero ls h = refl
held_linked true (suc n) ls h = rw (in_list ls 0 absent 0 (omega arith), in_list ls 1 absent 0 (omega arith), held_linked true n (drop link_width ls) (simp length-drop (omega arith)))

-- absent ones after a list
trailing : (xs ys zs : List ℕ) → present ys ≡ present zs → present (xs ++ ys) ≡ present (xs ++ zs)
trailing [] ys zs e = e
trailing (x ∷ xs) ys zs e = rw (trailing xs ys zs e)

-- what the layouts have: up to three rows; or a list, with a row before it or after it
abbrev fits : List Piece → Bool
fits [] = true
fits (single a ∷ []) = true
fits (single a ∷ single b ∷ []) = true
fits (single a ∷ single b ∷ single c ∷ []) = true
fits (single a ∷ single b ∷ single c ∷ p ∷ ps) = false
fits (single a ∷ single b ∷ list t i ∷ ps) = false
fits (single a ∷ list t i ∷ []) = true
fits (single a ∷ list t i ∷ p ∷ ps) = false
fits (list t i ∷ []) = true
fits (list t i ∷ single a ∷ []) = true
fits (list t i ∷ single a ∷ p ∷ ps) = false
fits (list t i ∷ list u j ∷ ps) = false

layouts_fit : (k : ℕ) → T (fits (pieces (layout Edition.second k) 0))
unfolding layout pieces
layouts_fit k = elim (dec_lt k 27) [ yes z ↦ within (λ j. fits (pieces (layout Edition.second j) 0)) 0 27 k tt (omega arith) (omega arith) | no z ↦ rw (get_or-eq_default (layouts Edition.second) [] {n = k} (omega arith)) tt ]

-- a list in its room, with what stands after it
list_present : (ls : List ℕ) (t : Bool) (f n : ℕ) (ys zs : List ℕ) → link_width * (f + n) ≤ length ls → present ys ≡ present zs → present (held (each_of t) n (drop (link_width * f) ls) ++ ys) ≡ present (linked t n (drop (link_width * f) ls) ++ zs)
list_present ls t f n ys zs h e = rw (held_linked t n (drop (link_width * f) ls) (simp length-drop (omega arith))) (trailing (linked t n (drop (link_width * f) ls)) ys zs e)

module _ (ls xs : List ℕ) where
  arranged_rows : (ps : List Piece) → T (fits ps) → link_width * ((arranged xs ps).from + (arranged xs ps).count) ≤ length ls → present (children ls (arranged xs ps)) ≡ present (rows ls xs ps)
  unfolding arranged rows one_more listing held
  arranged_rows [] e h = refl
  arranged_rows (single a ∷ []) e h = refl
  arranged_rows (single a ∷ single b ∷ []) e h = refl
  arranged_rows (single a ∷ single b ∷ single c ∷ []) e h = refl
  arranged_rows (single a ∷ single b ∷ single c ∷ p ∷ ps) e h = absurd e
  arranged_rows (single a ∷ single b ∷ list t i ∷ ps) e h = absurd e
  arranged_rows (single a ∷ list false i ∷ []) e h = rw (list_present ls false (get_or xs i 0) (get_or xs (suc i) 0) (absent ∷ absent ∷ []) [] h refl)
  arranged_rows (single a ∷ list true i ∷ []) e h = rw (list_present ls true (get_or xs i 0) (get_or xs (suc i) 0) (absent ∷ absent ∷ []) [] h refl)
  arranged_rows (single a ∷ list t i ∷ p ∷ ps) e h = absurd e
  arranged_rows (list t i ∷ []) e h = list_present ls t (get_or xs i 0) (get_or xs (suc i) 0) (absent ∷ absent ∷ []) [] h refl
  arranged_rows (list t i ∷ single a ∷ []) e h = list_present ls t (get_or xs i 0) (get_or xs (suc i) 0) (get_or xs a 0 ∷ absent ∷ []) (get_or xs a 0 ∷ []) h refl
  arranged_rows (list t i ∷ single a ∷ p ∷ ps) e h = absurd e
  arranged_rows (list t i ∷ list u j ∷ ps) e h = absurd e

  placed_rows : (k : ℕ) → link_width * ((placed (layout Edition.second k) xs).from + (placed (layout Edition.second k) xs).count) ≤ length ls → present (children ls (placed (layout Edition.second k) xs)) ≡ present (naming ls (layout Edition.second k) xs)
  placed_rows k = rw (placed_pieces xs (layout Edition.second k) 0, naming_pieces ls xs (layout Edition.second k) 0) (arranged_rows (pieces (layout Edition.second k) 0) (layouts_fit k))

-- whatever `below` and `child` may answer: the children at all places are the rows that the row names, in order, absent ones left out
pub all_named : (w : Rows) {row : ℕ} {r : Children} → Below w.nodes row r → node_width * row + node_width ≤ length w.nodes → link_width * (r.from + r.count) ≤ length w.links →
    (answer : ℕ → ℕ) → ((place : ℕ) → place < many r + 3 → Child w.links r place (answer place)) → present (answers (many r + 3) answer) ≡ present (named_by w row)
unfolding named_by
all_named w {row} {r} b h l answer c =
    let e = b.inside h in
    let n = places_length w.links r in
    let s = answers_list (children w.links r) answer (λ i j. (c i (omega (arith, n, j))).one) in
    ap (λ (m : ℕ). present (answers m answer)) (sym n) ∙ ap present s ∙ rw e (placed_rows w.links (drop (node_width * row + 3) w.nodes) (get_or w.nodes (node_width * row) 0) (rw e at l))
