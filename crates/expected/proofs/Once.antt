-- Two outcomes that the promise of `expected` allows are the same.
use Prim.Native.Nat.{ℕ, zero, suc, ◌+◌, ◌<◌}
use mathlib.Core.Bool.{Bool}
use mathlib.Core.List.{List}
use mathlib.Core.Path.{◌≡◌, refl, sym, ap, ◌∙◌}
use native.Mathlib.Decide.{dec_lt}
use native.Mathlib.Omega.{arith}
use lib.ListN.{get_or, take, get_or-map}
use lib.Seq.{get_or-take, ext_get_or}
use Rattle.grammar.specs.Expected.{Opening as Open, gathered, how_many, lowest_from}
use Rattle.grammar.proofs.Unexpected.{one_told as one_answer}
use Rattle.expected.specs.Chains.{nothing, told, Chained}
use Rattle.expected.specs.Tells.{Tells}
use Rattle.expected.specs.declared.Chain.{Chain}
use Rattle.expected.specs.declared.Opening.{Opening}
use Rattle.expected.specs.declared.Told.{Told}
use Rattle.expected.proofs.Chaining.{count_length}

-- sets of the same kinds
module _ (f g : ℕ → Bool) where
  same_gathered : (n : ℕ) → ((x : ℕ) → x < n → f x ≡ g x) → gathered f n ≡ gathered g n
  unfolding gathered
  same_gathered zero h = refl
  same_gathered (suc n) h = rw (same_gathered n (λ x i. h x (omega arith)), h n (omega arith))

  same_count : (n : ℕ) → ((x : ℕ) → x < n → f x ≡ g x) → how_many f n ≡ how_many g n
  unfolding how_many
  same_count zero h = refl
  same_count (suc n) h = rw (same_count n (λ x i. h x (omega arith)), h n (omega arith))

  same_lowest : (k n : ℕ) → ((x : ℕ) → x < k + n → f x ≡ g x) → lowest_from f k n ≡ lowest_from g k n
  unfolding lowest_from
  same_lowest k zero h = refl
  same_lowest k (suc n) h = rw (same_lowest (suc k) n (λ x i. h x (omega arith)), h k (omega arith))

-- chains of the same constructs
same_opening : (x y : Opening) → told x ≡ told y → x ≡ y
same_opening x y e = let s : x.sort ≡ y.sort = cc in let a : x.at ≡ y.at = cc in let z : ◌≡◌ {A = Opening} (record { sort = x.sort; at = x.at }) (record { sort = y.sort; at = y.at }) = cc in z

same_chain : {os : List Open} {c d : Chain} → Chained os c → Chained os d → c ≡ d
same_chain {os} {c} {d} k l = let e : c.entries ≡ d.entries = ext_get_or nothing c.entries d.entries (k.size ∙ sym l.size) (λ i h. at i) in let n : c.count ≡ d.count = counts in let z : ◌≡◌ {A = Chain} (record { entries = c.entries; count = c.count }) (record { entries = d.entries; count = d.count }) = cc in z
  where
    counts : c.count ≡ d.count
    counts = count_length k ∙ sym (count_length l)

    said : (b : Chain) → Chained os b → (i : ℕ) → i < b.count → told (get_or b.entries i nothing) ≡ get_or os i (told nothing)
    said b m i h = ap told (sym (get_or-take b.count b.entries i nothing h)) ∙ sym (get_or-map told (take b.count b.entries) i nothing) ∙ ap (λ ps. get_or ps i (told nothing)) m.says

    at : (i : ℕ) → get_or c.entries i nothing ≡ get_or d.entries i nothing
    at i = elim (dec_lt i c.count) [ yes h ↦ same_opening (get_or c.entries i nothing) (get_or d.entries i nothing) (said c k i h ∙ sym (said d l i (omega (arith, counts)))) | no h ↦ k.unused i (omega (arith, h)) ∙ sym (l.unused i (omega (arith, h, counts))) ]

pub one_told : {ts : List ℕ} {n limit code place : ℕ} {r s : Told} → Tells ts n limit code place r → Tells ts n limit code place s → r ≡ s
one_told {r = r} {s = s} t u =
    let (same, chain) = one_answer t.expects u.expects in
    let below : (x : ℕ) → x < 45 → t.could x ≡ u.could x = λ x h. same x (omega (arith, h)) in
    let kinds : r.kinds ≡ s.kinds = t.kinds_are ∙ same_gathered t.could u.could 45 below ∙ sym u.kinds_are in
    let count : r.count ≡ s.count = t.how_many_are ∙ same_count t.could u.could 45 below ∙ sym u.how_many_are in
    let lowest : r.lowest ≡ s.lowest = t.lowest_is ∙ same_lowest t.could u.could 0 45 (λ x h. below x (omega (arith, h))) ∙ sym u.lowest_is in
    let chains : r.chain ≡ s.chain = same_chain (rw chain at t.chained) u.chained in
    let z : ◌≡◌ {A = Told} (record { kinds = r.kinds; count = r.count; lowest = r.lowest; chain = r.chain }) (record { kinds = s.kinds; count = s.count; lowest = s.lowest; chain = s.chain }) = cc in
    z
