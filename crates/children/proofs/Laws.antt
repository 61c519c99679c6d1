-- What `child` answers at each place, and what stands below a row of each kind.
use Prim.Native.Nat.{ℕ, zero, suc, ◌+◌, ◌-◌, ◌*◌, ◌/◌, ◌%◌, ◌≤◌, ◌<◌}
use native.Mathlib.Decide.{dec_lt}
use native.Mathlib.Omega.{arith}
use mathlib.Core.Bool.{true, false}
use mathlib.Core.List.{List, [], ◌∷◌}
use mathlib.Core.Path.{◌≡◌, refl, sym, ap, ◌∙◌}
use lib.ListN.{length, get_or, drop, length-append, get_or-append, get_or-eq_default}
use lib.Seq.{get_or-append-add, get_or-drop}
use Rattle.grammar.specs.Edition.{Edition}
use Rattle.grammar.specs.Handle.{absent}
use Rattle.grammar.specs.Layout.{layout}
use Rattle.grammar.specs.Room.{node_width, link_width}
use Rattle.grammar.proofs.Pieces.{Piece, single, list, pieces}
use Rattle.children.specs.Below.{Number, three, nothing, one_more, listing, placed, Below, held, many_of, many, children, Child}
use Rattle.children.specs.declared.Children.{Children}
use Rattle.children.proofs.Arranged.{arranged, placed_pieces}

-- a number of a list, whatever there would be past it
pub in_list : (xs : List ℕ) (i d e : ℕ) → i < length xs → get_or xs i d ≡ get_or xs i e
in_list [] i d e h = absurd (omega arith)
in_list (x ∷ xs) zero d e h = refl
in_list (x ∷ xs) (suc i) d e h = in_list xs i d e (omega arith)

pub number_is : {room : List ℕ} {i r : ℕ} → Number room i r → r ≡ get_or room i absent
number_is {room} {i} n = elim (dec_lt i (length room)) [ yes h ↦ n.there h ∙ in_list room i 0 absent h | no h ↦ let l : length room ≤ i = omega arith in n.past l ∙ sym (get_or-eq_default room absent l) ]

-- how many children links hold
pub many_two : (e n : ℕ) → (e ≡ 0 → ⊥) → (e ≡ 1 → ⊥) → many_of e n ≡ 2 * n
unfolding many_of
many_two zero n h k = absurd (h refl)
many_two (suc zero) n h k = absurd (k refl)
many_two (suc (suc e)) n h k = refl

held_length : (e n : ℕ) (ls : List ℕ) → length (held e n ls) ≡ many_of e n
unfolding held many_of
held_length zero zero ls = refl
held_length zero (suc n) ls = held_length zero n (drop link_width ls)
held_length (suc zero) zero ls = refl
held_length (suc zero) (suc n) ls = ap suc (held_length 1 n (drop link_width ls))
held_length (suc (suc e)) zero ls = refl
held_length (suc (suc e)) (suc n) ls = let l = held_length (suc (suc e)) n (drop link_width ls) in omega (arith, l)

pub places_length : (ls : List ℕ) (b : Children) → length (children ls b) ≡ many b + 3
places_length ls b = simp length-append (omega (arith, held_length b.each b.count (drop (link_width * b.from) ls)))

-- the child that a link row holds: one each, or two
node_at : (n i : ℕ) (ls : List ℕ) → i < n → get_or (held 1 n ls) i absent ≡ get_or ls (link_width * i) absent
unfolding held
node_at zero i ls h = absurd (omega arith)
node_at (suc n) zero ls h = refl
node_at (suc n) (suc i) ls h = let e : link_width + link_width * i ≡ link_width * suc i = omega arith in node_at n i (drop link_width ls) (omega arith) ∙ get_or-drop link_width ls (link_width * i) absent ∙ ap (λ (k : ℕ). get_or ls k absent) e

entry_at : (e n k i : ℕ) (ls : List ℕ) → (e ≡ 0 → ⊥) → (e ≡ 1 → ⊥) → k < n → i < 2 → get_or (held e n ls) (2 * k + i) absent ≡ get_or ls (link_width * k + i) absent
unfolding held
entry_at zero n k i ls y z h j = absurd (y refl)
entry_at (suc zero) n k i ls y z h j = absurd (z refl)
entry_at (suc (suc e)) zero k i ls y z h j = absurd (omega arith)
entry_at (suc (suc e)) (suc n) zero zero ls y z h j = refl
entry_at (suc (suc e)) (suc n) zero (suc zero) ls y z h j = refl
entry_at (suc (suc e)) (suc n) zero (suc (suc i)) ls y z h j = absurd (omega arith)
entry_at (suc (suc e)) (suc n) (suc k) i ls y z h j =
    let d : 2 * suc k + i ≡ suc (suc (2 * k + i)) = omega arith in
    let f : link_width + (link_width * k + i) ≡ link_width * suc k + i = omega arith in
    ap (λ (m : ℕ). get_or (held (suc (suc e)) (suc n) ls) m absent) d ∙ entry_at (suc (suc e)) n k i (drop link_width ls) y z (omega arith) j ∙ get_or-drop link_width ls (link_width * k + i) absent ∙ ap (λ (m : ℕ). get_or ls m absent) f

-- a place among those that the links hold
module _ (ls : List ℕ) (b : Children) where
  abbrev rows : List ℕ
  rows = drop (link_width * b.from) ls

  abbrev inner : List ℕ
  inner = held b.each b.count rows

  held_place : (place p i : ℕ) → place ≡ suc p → p < many b → get_or inner p absent ≡ get_or rows i absent → get_or (children ls b) place absent ≡ get_or ls (link_width * b.from + i) absent
  held_place place p i e h f = ap (λ (k : ℕ). get_or (children ls b) k absent) e ∙ get_or-append inner (b.second ∷ b.third ∷ []) absent p (rw (held_length b.each b.count rows) h) ∙ f ∙ get_or-drop (link_width * b.from) ls i absent

-- what `child` answers at each place
module _ {ls : List ℕ} {b : Children} {place : ℕ} where
  pub at_first : place ≡ 0 → Child ls b place b.first
  at_first e = record { one = rw e refl }

  pub at_one : {r : ℕ} → b.each ≡ 1 → 1 ≤ place → place ≤ many b → Number ls (link_width * (b.from + (place - 1)) + 0) r → Child ls b place r
  unfolding many_of
  at_one e l m n =
      let p : place ≡ suc (place - 1) = omega arith in
      let k : many b ≡ b.count = ap (λ (x : ℕ). many_of x b.count) e in
      let i : link_width * (b.from + (place - 1)) + 0 ≡ link_width * b.from + link_width * (place - 1) = omega arith in
      record { one = number_is n ∙ ap (λ (x : ℕ). get_or ls x absent) i ∙ sym (held_place ls b place (place - 1) (link_width * (place - 1)) p (omega arith) (rw e (node_at b.count (place - 1) (rows ls b) (omega (arith, k))))) }

  pub at_two : {r : ℕ} → (b.each ≡ 1 → ⊥) → 1 ≤ place → place ≤ many b → Number ls (link_width * (b.from + (place - 1) / 2) + (place - 1) % 2) r → Child ls b place r
  unfolding many_of
  at_two e l m n =
      let z : b.each ≡ 0 → ⊥ = λ d. let k : many b ≡ 0 = ap (λ (x : ℕ). many_of x b.count) d in omega (arith, k) in
      let k = many_two b.each b.count z e in
      let p : place ≡ suc (2 * ((place - 1) / 2) + (place - 1) % 2) = omega arith in
      let i : link_width * (b.from + (place - 1) / 2) + (place - 1) % 2 ≡ link_width * b.from + (link_width * ((place - 1) / 2) + (place - 1) % 2) = omega arith in
      record { one = number_is n ∙ ap (λ (x : ℕ). get_or ls x absent) i ∙ sym (held_place ls b place _ _ p (omega arith) (entry_at b.each b.count ((place - 1) / 2) ((place - 1) % 2) (rows ls b) z e (omega (arith, k)) (omega arith))) }

  pub at_later : (i : ℕ) → place ≡ many b + 1 + i → Child ls b place (get_or (b.second ∷ b.third ∷ []) i absent)
  at_later i e =
      let p : place ≡ suc (length (inner ls b) + i) = omega (arith, held_length b.each b.count (rows ls b)) in
      record { one = sym (ap (λ (x : ℕ). get_or (children ls b) x absent) p ∙ get_or-append-add (inner ls b) (b.second ∷ b.third ∷ []) i absent) }

  pub at_past : many b + 3 ≤ place → Child ls b place absent
  at_past h = record { one = sym (get_or-eq_default (children ls b) absent {n = place} (omega (arith, places_length ls b, h))) }

-- what stands below a row, from the number k of its kind and the numbers that follow kind and span
abbrev pub after : List ℕ → ℕ → List ℕ
after ns row = drop (node_width * row + 3) ns

abbrev pub Inside : List ℕ → ℕ → Type 0
Inside ns row = node_width * row + node_width ≤ length ns

module _ {ns : List ℕ} (row : ℕ) (room : Inside ns row) where
  -- number j of them
  pub field : {y : ℕ} (j : ℕ) → Number ns (node_width * row + (3 + j)) y → 3 + j < node_width → y ≡ get_or (after ns row) j 0
  field j n h =
      let e : node_width * row + (3 + j) ≡ node_width * row + 3 + j = omega arith in
      n.there (omega arith) ∙ ap (λ (k : ℕ). get_or ns k 0) e ∙ sym (get_or-drop (node_width * row + 3) ns j 0)

  pub by_kind : {k : ℕ} {r : Children} → Number ns (node_width * row + 0) k → r ≡ placed (layout Edition.second k) (after ns row) → Below ns row r
  by_kind n e =
      let z : node_width * row + 0 ≡ node_width * row = omega arith in
      record { inside = λ h. e ∙ ap (λ (j : ℕ). placed (layout Edition.second j) (after ns row)) (n.there (omega arith) ∙ ap (λ (i : ℕ). get_or ns i 0) z); outside = λ h. absurd (omega arith) }

pub no_room : {ns : List ℕ} {row : ℕ} {r : Children} → length ns < node_width * row + node_width → r ≡ nothing → Below ns row r
no_room l e = record { inside = λ h. absurd (omega arith); outside = λ h. e }

-- from the pieces of a kind
module _ (xs : List ℕ) (k : ℕ) where
  by_pieces : (ps : List Piece) → pieces (layout Edition.second k) 0 ≡ ps → arranged xs ps ≡ placed (layout Edition.second k) xs
  by_pieces ps e = sym (placed_pieces xs (layout Edition.second k) 0 ∙ ap (arranged xs) e)

  pub no_piece : pieces (layout Edition.second k) 0 ≡ [] → nothing ≡ placed (layout Edition.second k) xs
  unfolding arranged
  no_piece e = by_pieces [] e

  pub one_row : (i : ℕ) → pieces (layout Edition.second k) 0 ≡ single i ∷ [] → {a : ℕ} → a ≡ get_or xs i 0 → three a absent absent ≡ placed (layout Edition.second k) xs
  unfolding arranged one_more
  one_row i e f = rw f (by_pieces (single i ∷ []) e)

  pub two_rows : (i j : ℕ) → pieces (layout Edition.second k) 0 ≡ single i ∷ single j ∷ [] → {a b : ℕ} → a ≡ get_or xs i 0 → b ≡ get_or xs j 0 → three a b absent ≡ placed (layout Edition.second k) xs
  unfolding arranged one_more
  two_rows i j e f g = rw (f, g) (by_pieces (single i ∷ single j ∷ []) e)

  pub three_rows : (h i j : ℕ) → pieces (layout Edition.second k) 0 ≡ single h ∷ single i ∷ single j ∷ [] → {a b c : ℕ} → a ≡ get_or xs h 0 → b ≡ get_or xs i 0 → c ≡ get_or xs j 0 → three a b c ≡ placed (layout Edition.second k) xs
  unfolding arranged one_more
  three_rows h i j e f g l = rw (f, g, l) (by_pieces (single h ∷ single i ∷ single j ∷ []) e)

  pub row_list : (i j : ℕ) → pieces (layout Edition.second k) 0 ≡ single i ∷ list false j ∷ [] → {a b c : ℕ} → a ≡ get_or xs i 0 → b ≡ get_or xs j 0 → c ≡ get_or xs (suc j) 0 → record { first = a; from = b; count = c; each = 1; second = absent; third = absent } ≡ placed (layout Edition.second k) xs
  unfolding arranged one_more listing
  row_list i j e f g l = rw (f, g, l) (by_pieces (single i ∷ list false j ∷ []) e)

  pub list_row : (i j : ℕ) → pieces (layout Edition.second k) 0 ≡ list false i ∷ single j ∷ [] → {a b c : ℕ} → a ≡ get_or xs i 0 → b ≡ get_or xs (suc i) 0 → c ≡ get_or xs j 0 → record { first = absent; from = a; count = b; each = 1; second = c; third = absent } ≡ placed (layout Edition.second k) xs
  unfolding arranged one_more listing
  list_row i j e f g l = rw (f, g, l) (by_pieces (list false i ∷ single j ∷ []) e)

  pub entry_list : (i : ℕ) → pieces (layout Edition.second k) 0 ≡ list true i ∷ [] → {a b : ℕ} → a ≡ get_or xs i 0 → b ≡ get_or xs (suc i) 0 → record { first = absent; from = a; count = b; each = 2; second = absent; third = absent } ≡ placed (layout Edition.second k) xs
  unfolding arranged listing
  entry_list i e f g = rw (f, g) (by_pieces (list true i ∷ []) e)
