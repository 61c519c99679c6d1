-- The numbers of what is told, and of an answer of six, stored one after another from a room's start.
use Prim.Native.Nat.{ℕ, ◌+◌, ◌*◌, ◌≤◌, ◌<◌}
use native.Mathlib.Omega.{arith}
use mathlib.Core.List.{List, [], ◌∷◌, ◌++◌, append_assoc}
use mathlib.Core.Path.{◌≡◌, refl, ap, sym, ◌∙◌}
use native.Mathlib.Numerals.{add-one}
use lib.ListN.{length, set, get_or, take, drop}
use lib.Seq.{take-suc, take_all}
use Rattle.ast.specs.Written.{Written}
use Rattle.ast.proofs.Rooms.{joined, said, whole}
use Rattle.expected.specs.declared.Opening.{Opening}
use Rattle.expected.specs.declared.Told.{Told}
use Rattle.scripts.proofs.Stores.{more, first_three}
use Rattle.station.specs.Exports.{put, pairs, told}

-- the pairs of a chain: those of one entry more
joined_pairs : (xs ys : List Opening) → pairs (xs ++ ys) ≡ pairs xs ++ pairs ys
unfolding pairs
joined_pairs [] ys = refl
joined_pairs (e ∷ xs) ys = ap (λ l. e.sort ∷ e.at ∷ l) (joined_pairs xs ys)

abbrev none : Opening
none = record { sort = 0; at = 0 }

next_pair : (es : List Opening) (i : ℕ) → i < length es → (pairs (take i es) ++ (get_or es i none).sort ∷ []) ++ (get_or es i none).at ∷ [] ≡ pairs (take (i + 1) es)
unfolding pairs
next_pair es i h = rw (add-one, take-suc es i none h, joined_pairs, append_assoc)

pub one_pair : {i : ℕ} {l m : List ℕ} (es : List Opening) → i < length es → 3 + 2 * i + 1 < length l → Written 3 (3 + 2 * i) (pairs (take i es)) l m →
    Written 3 (3 + 2 * (i + 1)) (pairs (take (i + 1) es)) l (set (set m (3 + 2 * i) (get_or es i none).sort) (3 + 2 * i + 1) (get_or es i none).at)
one_pair {i} es h k w = said refl (omega arith) (next_pair es i h) (more (get_or es i none).at k (more (get_or es i none).sort (omega arith) w))

-- and all of them
pub all_pairs : {i : ℕ} {l m : List ℕ} (es : List Opening) → i ≡ 64 → length es ≡ 64 → Written 3 (3 + 2 * i) (pairs (take i es)) l m → Written 3 131 (pairs es) l m
all_pairs {i} es h k w = said refl (omega arith) (ap pairs (take_all i es (omega arith))) w

-- a room that begins with what is told
length_pairs : (es : List Opening) → length (pairs es) ≡ 2 * length es
unfolding pairs
length_pairs [] = refl
length_pairs (e ∷ es) = omega (arith, length_pairs es)

pub told_put : (l : List ℕ) {m : List ℕ} (t : Told) → 131 ≤ length l → length t.chain.entries ≡ 64 →
    Written 3 131 (pairs t.chain.entries) (set (set (set l 0 t.count) 1 t.lowest) 2 t.chain.count) m → m ≡ put (told t) l
told_put l t h k w =
    let n : length (told t) ≡ 131 = omega (arith, length_pairs t.chain.entries) in
    whole (joined (omega arith) (first_three l t.count t.lowest t.chain.count (omega arith)) w) ∙ ap (λ k. told t ++ drop k l) (sym n)

-- six numbers
pub six : (l : List ℕ) (x₀ x₁ x₂ x₃ x₄ x₅ : ℕ) → 6 ≤ length l → set (set (set (set (set (set l 0 x₀) 1 x₁) 2 x₂) 3 x₃) 4 x₄) 5 x₅ ≡ x₀ ∷ x₁ ∷ x₂ ∷ x₃ ∷ x₄ ∷ x₅ ∷ drop 6 l
six l x₀ x₁ x₂ x₃ x₄ x₅ h = whole (more x₅ (omega arith) (more x₄ (omega arith) (more x₃ (omega arith) (first_three l x₀ x₁ x₂ (omega arith)))))
