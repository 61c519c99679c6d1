-- The rows and lists that a row's slots hold, each by its place among the row's numbers: what a row names, in a form that code by kinds can be held against.
use Prim.Native.Nat.{ℕ, zero, suc, ◌+◌, ◌*◌, ◌≤◌, ◌<◌}
use native.Mathlib.Decide.{dec_lt, ℕ_discrete}
use native.Mathlib.Omega.{arith}
use mathlib.Core.Bool.{Bool, true, false, ◌||◌}
use mathlib.Core.List.{List, [], ◌∷◌, ◌++◌, map}
use mathlib.Core.Logic.{◌⊎◌, inl, inr}
use mathlib.Core.Path.{◌≡◌, refl, sym, ap, ◌∙◌}
use lib.Dec.{T}
use lib.ListN.{get_or, drop, get_or-eq_default}
use lib.Seq.{get_or-drop, drop-drop}
use Rattle.grammar.specs.Edition.{Edition}
use Rattle.grammar.specs.Layout.{Slot, layout, layouts}
use Rattle.grammar.specs.Naming.{linked_nodes, linked_entries, naming}
use Rattle.grammar.specs.Pattern.{among}
use Rattle.grammar.specs.Room.{link_width}
use Rattle.grammar.proofs.Tests.{None, not_among, within}

-- a row, and a list of one or of two each
pub data Piece : Type 0 where
  single : (at : ℕ) → Piece
  list : (two : Bool) (at : ℕ) → Piece

-- of slots whose numbers begin at a place
unfoldable pub pieces : List Slot → (at : ℕ) → List Piece
pieces [] i = []
pieces (Slot.below n ∷ ss) i = pieces ss (suc i)
pieces (Slot.child ∷ ss) i = single i ∷ pieces ss (suc i)
pieces (Slot.option ∷ ss) i = single i ∷ pieces ss (suc i)
pieces (Slot.symbol ∷ ss) i = pieces ss (suc i)
pieces (Slot.name ∷ ss) i = pieces ss (suc (suc (suc i)))
pieces (Slot.nodes ∷ ss) i = list false i ∷ pieces ss (suc (suc i))
pieces (Slot.names ∷ ss) i = pieces ss (suc (suc i))
pieces (Slot.entries ∷ ss) i = list true i ∷ pieces ss (suc (suc i))

-- the numbers from place i on: the first two, and what follows one, two or three
module _ (xs : List ℕ) (i : ℕ) where
  at_on : (j k : ℕ) → i + j ≡ k → get_or (drop i xs) j 0 ≡ get_or xs k 0
  at_on j k e = get_or-drop i xs j 0 ∙ ap (λ (m : ℕ). get_or xs m 0) e

  drop_on : (j k : ℕ) → i + j ≡ k → drop j (drop i xs) ≡ drop k xs
  drop_on j k e = drop-drop j i xs ∙ ap (λ (m : ℕ). drop m xs) e

  pub first_on : get_or (drop i xs) 0 0 ≡ get_or xs i 0
  first_on = at_on 0 i (omega arith)

  pub second_on : get_or (drop i xs) 1 0 ≡ get_or xs (suc i) 0
  second_on = at_on 1 (suc i) (omega arith)

  pub past_one : drop 1 (drop i xs) ≡ drop (suc i) xs
  past_one = drop_on 1 (suc i) (omega arith)

  pub past_two : drop 2 (drop i xs) ≡ drop (suc (suc i)) xs
  past_two = drop_on 2 (suc (suc i)) (omega arith)

  pub past_three : drop 3 (drop i xs) ≡ drop (suc (suc (suc i))) xs
  past_three = drop_on 3 (suc (suc (suc i))) (omega arith)

-- the rows that pieces name
abbrev pub linked : (two : Bool) (count : ℕ) (links : List ℕ) → List ℕ
linked false n ls = linked_nodes n ls
linked true n ls = linked_entries n ls

module _ (ls xs : List ℕ) where
  unfoldable pub rows : List Piece → List ℕ
  rows [] = []
  rows (single i ∷ ps) = get_or xs i 0 ∷ rows ps
  rows (list t i ∷ ps) = linked t (get_or xs (suc i) 0) (drop (link_width * get_or xs i 0) ls) ++ rows ps

  after_row : (i : ℕ) {rs ts : List ℕ} → rs ≡ ts → get_or (drop i xs) 0 0 ∷ rs ≡ get_or xs i 0 ∷ ts
  after_row i e = let f = first_on xs i in cc

  after_list : (t : Bool) (i : ℕ) {rs ts : List ℕ} → rs ≡ ts → linked t (get_or (drop i xs) 1 0) (drop (link_width * get_or (drop i xs) 0 0) ls) ++ rs ≡ linked t (get_or xs (suc i) 0) (drop (link_width * get_or xs i 0) ls) ++ ts
  after_list t i e = let f = first_on xs i in let g = second_on xs i in cc

  pub naming_pieces : (ss : List Slot) (i : ℕ) → naming ls ss (drop i xs) ≡ rows (pieces ss i)
  unfolding naming pieces rows
  naming_pieces [] i = refl
  naming_pieces (Slot.below n ∷ ss) i = ap (naming ls ss) (past_one xs i) ∙ naming_pieces ss (suc i)
  naming_pieces (Slot.child ∷ ss) i = after_row i (ap (naming ls ss) (past_one xs i) ∙ naming_pieces ss (suc i))
  naming_pieces (Slot.option ∷ ss) i = after_row i (ap (naming ls ss) (past_one xs i) ∙ naming_pieces ss (suc i))
  naming_pieces (Slot.symbol ∷ ss) i = ap (naming ls ss) (past_one xs i) ∙ naming_pieces ss (suc i)
  naming_pieces (Slot.name ∷ ss) i = ap (naming ls ss) (past_three xs i) ∙ naming_pieces ss (suc (suc (suc i)))
  naming_pieces (Slot.nodes ∷ ss) i = after_list false i (ap (naming ls ss) (past_two xs i) ∙ naming_pieces ss (suc (suc i)))
  naming_pieces (Slot.names ∷ ss) i = ap (naming ls ss) (past_two xs i) ∙ naming_pieces ss (suc (suc i))
  naming_pieces (Slot.entries ∷ ss) i = after_list true i (ap (naming ls ss) (past_two xs i) ∙ naming_pieces ss (suc (suc i)))

-- the pieces of each kind are the same in both editions
all_pieces : List (List Slot) → List (List Piece)
all_pieces = map (λ ss. pieces ss 0)

pieces_at : (sss : List (List Slot)) (k : ℕ) → get_or (all_pieces sss) k [] ≡ pieces (get_or sss k []) 0
unfolding all_pieces pieces
pieces_at [] k = refl
pieces_at (ss ∷ sss) zero = refl
pieces_at (ss ∷ sss) (suc k) = pieces_at sss k

pieces_alike : (e : Edition) → all_pieces (layouts e) ≡ all_pieces (layouts Edition.second)
unfolding all_pieces pieces
pieces_alike Edition.first = refl
pieces_alike Edition.second = refl

-- so by the layout of either edition a row names the same rows
pub named_alike : (e : Edition) (ls : List ℕ) (k : ℕ) (xs : List ℕ) → naming ls (layout e k) xs ≡ naming ls (layout Edition.second k) xs
unfolding layout
named_alike e ls k xs = naming_pieces ls xs (layout e k) 0 ∙ ap (rows ls xs) (sym (pieces_at (layouts e) k) ∙ ap (λ (ps : List (List Piece)). get_or ps k []) (pieces_alike e) ∙ pieces_at (layouts Edition.second) k) ∙ sym (naming_pieces ls xs (layout Edition.second k) 0)

-- the pieces of a kind where code is split by kinds: what the arms of the kinds by themselves leave over, in their order, and the ranges between
abbrev pub Left : ℕ → Type 0
Left k = (((((((((Unit {0} × (k ≡ 1 → ⊥)) × ((k ≡ 6) ⊎ (k ≡ 22) → ⊥)) × ((k ≡ 4) ⊎ ((k ≡ 16) ⊎ (k ≡ 23)) → ⊥)) × (k ≡ 5 → ⊥)) × (k ≡ 15 → ⊥)) × (k ≡ 17 → ⊥)) × (k ≡ 18 → ⊥)) × (k ≡ 19 → ⊥)) × (k ≡ 20 → ⊥)) × (k ≡ 21 → ⊥)

pub left_pair : {k : ℕ} → Left k → 1 ≤ k → k < 4 → pieces (layout Edition.second k) 0 ≡ single 0 ∷ single 1 ∷ []
unfolding layout pieces
left_pair {k} r h l = elim (ℕ_discrete k 2) [ yes e ↦ rw e refl | no y ↦ let e : k ≡ 3 = omega (arith, one) in rw e refl ]
  where
    one : k ≡ 1 → ⊥
    one = r.0.0.0.0.0.0.0.0.0.1

pub left_binding : {k : ℕ} → Left k → 4 ≤ k → k < 10 → pieces (layout Edition.second k) 0 ≡ single 3 ∷ []
unfolding layout pieces
left_binding {k} r h l =
    elim (ℕ_discrete k 7) [
      | yes e ↦ rw e refl
      | no x ↦ elim (ℕ_discrete k 8) [ yes e ↦ rw e refl | no y ↦ elim (ℕ_discrete k 9) [ yes e ↦ rw e refl | no z ↦ absurd (omega (arith, four, five, six)) ] ]
    ]
  where
    four : k ≡ 4 → ⊥
    four e = r.0.0.0.0.0.0.0.1 (inl e)

    five : k ≡ 5 → ⊥
    five = r.0.0.0.0.0.0.1

    six : k ≡ 6 → ⊥
    six e = r.0.0.0.0.0.0.0.0.1 (inl e)

-- the kinds from 10 on that hold rows
abbrev parents : List ℕ
parents = 15 ∷ 16 ∷ 17 ∷ 18 ∷ 19 ∷ 20 ∷ 21 ∷ 22 ∷ 23 ∷ []

abbrev none : List Piece → Bool
none [] = true
none (p ∷ ps) = false

none_are : (ps : List Piece) → T (none ps) → ps ≡ []
none_are [] t = refl
none_are (p ∷ ps) t = absurd t

pub left_none : {k : ℕ} → Left k → 10 ≤ k → pieces (layout Edition.second k) 0 ≡ []
unfolding layout pieces
left_none {k} r l = none_are _ (elim (dec_lt k 27) [ yes z ↦ rw (not_among k parents others) at (within (λ j. among parents j || none (pieces (layout Edition.second j) 0)) 10 17 k tt l (omega arith)) | no z ↦ rw (get_or-eq_default (layouts Edition.second) [] {n = k} (omega arith)) tt ])
  where
    others : None k parents
    others = (r.0.0.0.0.0.1, ((λ e. r.0.0.0.0.0.0.0.1 (inr (inl e))), (r.0.0.0.0.1, (r.0.0.0.1, (r.0.0.1, (r.0.1, (r.1, ((λ e. r.0.0.0.0.0.0.0.0.1 (inr e)), ((λ e. r.0.0.0.0.0.0.0.1 (inr (inr e))), tt)))))))))

pub none_below : {k : ℕ} → k < 1 → pieces (layout Edition.second k) 0 ≡ []
unfolding layout pieces
none_below {k} h = let e : k ≡ 0 = omega arith in rw e refl

-- names and literals
pub none_of_leaf : {k : ℕ} → 10 ≤ k → k ≤ 14 → pieces (layout Edition.second k) 0 ≡ []
unfolding layout pieces
none_of_leaf {k} l h = none_are _ (within (λ j. none (pieces (layout Edition.second j) 0)) 10 5 k tt l (omega arith))
