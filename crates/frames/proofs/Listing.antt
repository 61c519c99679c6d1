-- Four bytes that are put as one part; and one number more that is put, and one more that is taken: what is left makes the whole.
use Prim.Native.Nat.{ℕ, zero, suc, ◌+◌, ◌-◌, ◌*◌, ◌<◌, ◌≤◌}
use native.Mathlib.Omega.{arith}
use mathlib.Core.List.{List, [], ◌∷◌, ◌++◌}
use mathlib.Core.Path.{◌≡◌, refl, ap, sym, ◌∙◌}
use lib.ListN.{length, get_or, take, drop, set}
use lib.Seq.{drop-cons, drop-length}
use Rattle.wire.specs.Number.{number}
use Rattle.frames.specs.Numbers.{put_at, put_from, taken}

-- four bytes in the place of those from a place on are four writes
pub put_part : (at : ℕ) (out : List ℕ) (a b c d : ℕ) → at + 4 ≤ length out →
    take at out ++ ((a ∷ b ∷ c ∷ d ∷ []) ++ drop 4 (drop at out)) ≡ set (set (set (set out at a) (at + 1) b) (at + 2) c) (at + 3) d
put_part zero [] a b c d h = absurd (omega arith)
put_part zero (x ∷ []) a b c d h = absurd (omega arith)
put_part zero (x ∷ y ∷ []) a b c d h = absurd (omega arith)
put_part zero (x ∷ y ∷ z ∷ []) a b c d h = absurd (omega arith)
put_part zero (x ∷ y ∷ z ∷ w ∷ out) a b c d h = refl
put_part (suc at) [] a b c d h = absurd (omega arith)
put_part (suc at) (x ∷ out) a b c d h =
    let one : suc at + 1 ≡ suc (at + 1) = omega arith in
    let two : suc at + 2 ≡ suc (at + 2) = omega arith in
    let three : suc at + 3 ≡ suc (at + 3) = omega arith in
    rw (one, two, three) (ap (λ (l : List ℕ). x ∷ l) (put_part at out a b c d (omega arith)))

-- what is put from number i on makes the whole
pub record Putting (list out₀ : List ℕ) (from : ℕ) (out : List ℕ) (i : ℕ) : Type 0 where
  pub left : put_from (drop i list) out (from + 4 * i) ≡ put_from list out₀ from

pub putting : (list out : List ℕ) (from : ℕ) → Putting list out from out 0
putting list out from = let e : from + 4 * 0 ≡ from = omega arith in record { left = ap (put_from list out) e }

pub put_more : {list out₀ out out' : List ℕ} {from i : ℕ} → i < length list → out' ≡ put_at (get_or list i 0) out (from + 4 * i) → Putting list out₀ from out i → Putting list out₀ from out' (i + 1)
unfolding put_from
put_more {list} {out = out} {from = from} {i = i} h e p =
    let a : i + 1 ≡ suc i = omega arith in
    let b : from + 4 * suc i ≡ from + 4 * i + 4 = omega arith in
    record { left = rw (a, b, e) (sym (ap (λ ns. put_from ns out (from + 4 * i)) (drop-cons list i 0 h)) ∙ p.left) }

pub put_done : {list out₀ out : List ℕ} {from i : ℕ} → i ≡ length list → Putting list out₀ from out i → out ≡ put_from list out₀ from
unfolding put_from
put_done {list} {out = out} {from = from} {i = i} e p = sym (ap (λ ns. put_from ns out (from + 4 * i)) (ap (λ (k : ℕ). drop k list) e ∙ drop-length list)) ∙ p.left

-- what is taken from number i on makes the whole
pub record Taking (frame : List ℕ) (from : ℕ) (list₀ list : List ℕ) (i : ℕ) : Type 0 where
  pub left : taken (length list₀ - i) frame (from + 4 * i) list i ≡ taken (length list₀) frame from list₀ 0

pub taking : (frame : List ℕ) (from : ℕ) (list : List ℕ) → Taking frame from list list 0
taking frame from list = let e : from + 4 * 0 ≡ from = omega arith in let z : length list - 0 ≡ length list = omega arith in record { left = rw (e, z) refl }

pub take_more : {frame list₀ list list' : List ℕ} {from i : ℕ} → i < length list₀ → list' ≡ set list i (number frame (from + 4 * i)) → Taking frame from list₀ list i → Taking frame from list₀ list' (i + 1)
unfolding taken
take_more {frame} {list₀} {list} {from = from} {i = i} h e p =
    let n : length list₀ - i ≡ suc (length list₀ - (i + 1)) = omega arith in
    let b : from + 4 * (i + 1) ≡ from + 4 * i + 4 = omega arith in
    record { left = rw (b, e) (sym (ap (λ (k : ℕ). taken k frame (from + 4 * i) list i) n) ∙ p.left) }

pub take_done : {frame list₀ list : List ℕ} {from i : ℕ} → i ≡ length list₀ → Taking frame from list₀ list i → list ≡ taken (length list₀) frame from list₀ 0
unfolding taken
take_done {frame} {list₀} {list} {from} {i} e p = let z : length list₀ - i ≡ 0 = omega arith in sym (ap (λ (k : ℕ). taken k frame (from + 4 * i) list i) z) ∙ p.left
