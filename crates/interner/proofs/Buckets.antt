-- The bucket of a part of the text, read off it; the newest row of a bucket; and a search, which goes from a row to the next older one of its bucket.
use Prim.Native.Nat.{ℕ, zero, suc, ◌-◌, ◌*◌, ◌/◌, ◌≤◌, ◌<◌}
use native.Mathlib.Decide.{ℕ_discrete, dec_lt}
use native.Mathlib.Nat.{mul-lt-mul_of_pos_right, div-lt_iff_lt-mul}
use native.Mathlib.Omega.{arith}
use borrow.Author.Tests.{eqb-true, eqb-false}
use mathlib.Core.Bool.{Bool, true, false, cond}
use mathlib.Core.List.{List, [], ◌∷◌}
use mathlib.Core.Path.{◌≡◌, refl, ap, ◌∙◌}
use lib.Dec.{eqb}
use lib.ListN.{length, get_or}
use Rattle.grammar.specs.Table.{Holds, word}
use Rattle.interner.specs.Index.{mixed, bucket, newest, Index}

-- a bucket is one of the `size` numbers from `size` on
mixed_low : (bytes : List ℕ) → mixed bytes < 65536
mixed_low bytes = omega arith

pub below : (m size : ℕ) → m < 65536 → 0 < size → m * size / 65536 < size
below m size h k = (div-lt_iff_lt-mul {k = 65536} {x = m * size} {y = size} (omega arith)).1 (omega (arith, mul-lt-mul_of_pos_right h k))

pub in_bucket : (size : ℕ) (bytes : List ℕ) → 0 < size → (size ≤ bucket size bytes) × (bucket size bytes < 2 * size)
unfolding bucket
in_bucket size bytes h = let b = below (mixed bytes) size (mixed_low bytes) h in (omega arith, omega arith)

-- which the index has
pub bucket_inside : {size n : ℕ} (bytes : List ℕ) → 0 < size → 2 * size ≤ n → bucket size bytes < n
bucket_inside {size} bytes h k = omega (arith, in_bucket size bytes h)

-- no bytes
pub bucket_none : (bytes : List ℕ) (size : ℕ) → length bytes ≡ 0 → size ≡ bucket size bytes
unfolding bucket
bucket_none [] size h = omega arith
bucket_none (x ∷ xs) size h = absurd (omega arith)

module _ (text : List ℕ) (size : ℕ) where
  module _ (table : List ℕ) (b : ℕ) where
    abbrev here : ℕ → ℕ
    here k = bucket size (word text table k)

    -- it is below, every one of its bucket is below it, and it is of the bucket: so it is its own newest
    pub record Newest (n : ℕ) : Type 0 where
      pub low : newest text size table b n ≤ n
      pub all : (j : ℕ) → j < n → here j ≡ b → j < newest text size table b n
      pub own : newest text size table b (newest text size table b n) ≡ newest text size table b n

    pub newest_is : (n : ℕ) → Newest n
    unfolding newest
    newest_is zero = record { low = omega arith; all = λ j h e. absurd (omega arith); own = refl }
    newest_is (suc n) = pick (eqb (here n) b) refl (newest_is n)
      where
        pick : (t : Bool) → eqb (here n) b ≡ t → Newest n → Newest (suc n)
        pick true e z = record { low = rw e (omega arith); all = λ j h f. rw e h; own = rw (e, e) }
        pick false e z = record {
          low = rw e (omega (arith, z.low));
          all = λ j h f. elim (ℕ_discrete j n) [ yes g ↦ absurd (eqb-false (here n) b e (rw g at f)) | no g ↦ rw e (z.all j (omega arith) f) ];
          own = rw e z.own;
        }

    -- a row that is its own newest is of the bucket
    own_bucket : (i : ℕ) → newest text size table b (suc i) ≡ suc i → here i ≡ b
    unfolding newest
    own_bucket i e = pick (eqb (here i) b) refl e
      where
        pick : (t : Bool) → eqb (here i) b ≡ t → cond t (suc i) (newest text size table b i) ≡ suc i → here i ≡ b
        pick true h e = eqb-true (here i) b h
        pick false h e = absurd (omega (arith, (newest_is i).low))

-- a search: where it stands, a row of the bucket and one, or 0; and no row from there on has the bytes
pub record Seeking (text bytes : List ℕ) (size count : ℕ) (table : List ℕ) (at : ℕ) : Type 0 where
  pub low : at ≤ count
  pub own : newest text size table (bucket size bytes) at ≡ at
  pub none : (k : ℕ) → at ≤ k → k < count → Holds text bytes table k → ⊥

module _ {text bytes table index : List ℕ} {size count : ℕ} (x : Index text size count table index) where
  -- it starts at the newest row of the bucket
  pub seeking_first : 0 < size → Seeking text bytes size count table (get_or index (bucket size bytes) 0)
  seeking_first h =
      let (lo, hi) = in_bucket size bytes h in
      let z = newest_is text size table (bucket size bytes) count in
      rw (x.heads (bucket size bytes) lo hi) (record { low = z.low; own = z.own; none = λ k i j y. omega (arith, z.all k j (ap (bucket size) y.bytes_are)) })

  -- and goes on, past a row that has not the bytes, to the next older one
  seeking_on : (i : ℕ) → Seeking text bytes size count table (suc i) → (Holds text bytes table i → ⊥) → Seeking text bytes size count table (get_or index i 0)
  seeking_on i s n =
      let z = newest_is text size table (bucket size bytes) i in
      let e : get_or index i 0 ≡ newest text size table (bucket size bytes) i = x.next i (omega (arith, s.low)) ∙ ap (λ c. newest text size table c i) (own_bucket text size table (bucket size bytes) i s.own) in
      rw e (record { low = omega (arith, z.low, s.low); own = z.own; none = λ k l j y. none z k l j y (ℕ_discrete k i) })
    where
      none : Newest text size table (bucket size bytes) i → (k : ℕ) → newest text size table (bucket size bytes) i ≤ k → k < count → Holds text bytes table k → Dec (k ≡ i) → ⊥
      none z k l j y (yes e) = n (rw e at y)
      none z k l j y (no e) = elim (dec_lt k i) [ yes h ↦ omega (arith, z.all k h (ap (bucket size) y.bytes_are)) | no h ↦ s.none k (omega arith) j y ]

  pub seeking_next : {at : ℕ} → Seeking text bytes size count table at → 0 < at → (Holds text bytes table (at - 1) → ⊥) → Seeking text bytes size count table (get_or index (at - 1) 0)
  seeking_next {at} s h n = let e : at ≡ suc (at - 1) = omega arith in seeking_on (at - 1) (rw e at s) n

-- which is older
pub older : {text table index : List ℕ} {size count : ℕ} → Index text size count table index → (k : ℕ) → k < count → get_or index k 0 ≤ k
older {text} {table} {size = size} x k h = rw (x.next k h) (newest_is text size table (bucket size (word text table k)) k).low
