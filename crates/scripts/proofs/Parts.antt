-- Parts of a list, from a place up to a place: what stands in one that is put anew, what stands below and above it, and that parts one behind another make the whole.
use Prim.Native.Nat.{ℕ, zero, suc, ◌+◌, ◌-◌, ◌≤◌}
use native.Mathlib.Nat.{zero-add, suc-add}
use native.Mathlib.Omega.{arith}
use mathlib.Core.List.{List, [], ◌∷◌, ◌++◌}
use mathlib.Core.Path.{◌≡◌, refl, sym, ap, ◌∙◌}
use lib.ListN.{length, take, drop, length-append, length-drop, take-append-drop}
use lib.Seq.{length-take-le, take-nil, take_at, drop_at, take-take, drop-drop}
use Rattle.scripts.specs.Joined.{part, Kept}
use Rattle.scripts.specs.Steps.{Outside}

-- from place e on, by way of an earlier place s
from_on : (s e : ℕ) (xs : List ℕ) → s ≤ e → drop e xs ≡ drop (e - s) (drop s xs)
from_on s e xs h = ap (λ (k : ℕ). drop k xs) {x = e} {y = s + (e - s)} (omega (arith, h)) ∙ sym (drop-drop (e - s) s xs)

pub part_length : (s e : ℕ) (xs : List ℕ) → s ≤ e → e ≤ length xs → length (part s e xs) ≡ e - s
part_length s e xs h k = length-take-le (e - s) (drop s xs) (rw (length-drop s xs) (omega (arith, h, k)))

-- a list with ys in the place of a part
abbrev pub anew : (s e : ℕ) (xs ys : List ℕ) → List ℕ
anew s e xs ys = take s xs ++ (ys ++ drop (e - s) (drop s xs))

-- where ys are as many: what stands in the part is ys, and outside it nothing has changed
module _ (s e : ℕ) (xs ys : List ℕ) (h : s ≤ e) (k : e ≤ length xs) (m : length ys ≡ length (part s e xs)) where
  n : length ys ≡ e - s
  n = m ∙ part_length s e xs h k

  head : length (take s xs) ≡ s
  head = length-take-le s xs (omega (arith, h, k))

  tail : drop s (anew s e xs ys) ≡ ys ++ drop (e - s) (drop s xs)
  tail = drop_at (take s xs) _ s head

  pub inside : part s e (anew s e xs ys) ≡ ys
  inside = ap (take (e - s)) tail ∙ take_at ys _ (e - s) n

  whole : length (anew s e xs ys) ≡ length xs
  whole = simp (length-append, length-drop, n, head) (omega (arith, h, k))

  pub outside : Outside s e xs (anew s e xs ys)
  outside = record { below = take_at (take s xs) _ s head; above = from_on s e (anew s e xs ys) h ∙ ap (drop (e - s)) tail ∙ drop_at ys _ (e - s) n ∙ sym (from_on s e xs h); long = whole }

-- a list that is not written to
pub unchanged : {s e : ℕ} {xs : List ℕ} → Outside s e xs xs
unchanged = record { below = refl; above = refl; long = refl }

-- what is the same below a place is the same in every part below it
pub part_below : (s e : ℕ) {k l : ℕ} {xs ys : List ℕ} → s ≤ e → e ≤ k → Outside k l xs ys → part s e ys ≡ part s e xs
part_below s e {k} {xs = xs} {ys = ys} h l o = cut_off ys ∙ ap (λ zs. drop s (take e zs)) o.below ∙ sym (cut_off xs)
  where
    moved : (a b : ℕ) (zs : List ℕ) → take b (drop a zs) ≡ drop a (take (a + b) zs)
    moved zero b zs = ap (λ (n : ℕ). take n zs) (sym (zero-add b))
    moved (suc a) b [] = take-nil b ∙ sym (ap (drop (suc a)) (take-nil (suc a + b)))
    moved (suc a) b (z ∷ zs) = moved a b zs ∙ ap (λ (n : ℕ). drop (suc a) (take n (z ∷ zs))) (sym (suc-add a b))

    cut_off : (zs : List ℕ) → part s e zs ≡ drop s (take e (take k zs))
    cut_off zs = moved s (e - s) zs ∙ ap (λ (n : ℕ). drop s (take n zs)) {x = s + (e - s)} {y = e} (omega (arith, h)) ∙ ap (drop s) (sym (take-take e k zs l))

-- what is kept from a place on: the part that starts there, and what is behind that
pub part_kept : (e : ℕ) {s : ℕ} {xs ys : List ℕ} → Kept s xs ys → part s e ys ≡ part s e xs
part_kept e {s} m = ap (take (e - s)) m.same

pub kept_on : {s e : ℕ} {xs ys : List ℕ} → s ≤ e → Kept s xs ys → Kept e xs ys
kept_on {s} {e} {xs} {ys} h m = record { same = from_on s e ys h ∙ ap (drop (e - s)) m.same ∙ sym (from_on s e xs h) }

-- and where it is kept behind a part and the part is the same, it is kept from the part on
pub kept_back : (s : ℕ) {e : ℕ} {xs ys : List ℕ} → s ≤ e → part s e ys ≡ part s e xs → Kept e xs ys → Kept s xs ys
kept_back s {e} {xs} {ys} h m k = record { same = split ys ∙ ap (λ zs. zs ++ drop e ys) m ∙ ap (λ zs. part s e xs ++ zs) k.same ∙ sym (split xs) }
  where
    split : (zs : List ℕ) → drop s zs ≡ part s e zs ++ drop e zs
    split zs = sym (take-append-drop (e - s) (drop s zs)) ∙ ap (λ r. part s e zs ++ r) (sym (from_on s e zs h))

-- what is kept before a step is kept after it, from the end of what the step changes on
pub kept_after : {s e : ℕ} {xs ys zs : List ℕ} → s ≤ e → Kept s xs ys → Outside s e ys zs → Kept e xs zs
kept_after h m o = record { same = o.above ∙ (kept_on h m).same }
