-- What a function of kinds answers: on a range of kinds by one test that the checker computes, and elsewhere by what the lists do not have.
use Prim.Native.Nat.{ℕ, zero, suc, ◌+◌, ◌≤◌, ◌<◌}
use mathlib.Core.Bool.{Bool, true, false, not, ◌&&◌, ◌||◌, false≢true}
use mathlib.Core.List.{List, [], ◌∷◌}
use mathlib.Core.Logic.{◌⊎◌, inl, inr}
use mathlib.Core.Path.{◌≡◌, refl, sym, ap}
use native.Mathlib.Omega.{arith}
use lib.Dec.{eqb, T, eqb→eq}
use lib.ListN.{length, get_or}
use borrow.Author.Tests.{ne_eqb, eqb-true}
use Rattle.grammar.specs.Operator.{place}
use Rattle.grammar.specs.Pattern.{among}
use Rattle.grammar.proofs.Tests.{both, as_true, passes, within}

-- f has the value v on the n kinds from a
pub ranged : (f v : ℕ → ℕ) (a n x : ℕ) → T (passes (λ y. eqb (v y) (f y)) a n) → a ≤ x → x < a + n → v x ≡ f x
ranged f v a n x t l h = eqb→eq (v x) (f x) (within (λ y. eqb (v y) (f y)) a n x t l h)

-- x is none of these: `omega` proves it
abbrev pub None : ℕ → List ℕ → Type 0
None x [] = Unit {0}
None x (y ∷ ys) = (x ≡ y → ⊥) × None x ys

pub not_among : (x : ℕ) (ys : List ℕ) → None x ys → among ys x ≡ false
not_among x [] h = refl
not_among x (y ∷ ys) h = rw (ne_eqb x y h.0) (not_among x ys h.1)

pub not_placed : (x : ℕ) (ys : List ℕ) → None x ys → length ys ≡ place x ys
not_placed x [] h = refl
not_placed x (y ∷ ys) h = rw (ne_eqb x y h.0) (ap suc (not_placed x ys h.1))

-- a test that is true, or false, on the n numbers from a
pub true_on : (f : ℕ → Bool) (a n x : ℕ) → T (passes f a n) → a ≤ x → x < a + n → true ≡ f x
true_on f a n x t l h = sym (as_true (f x) (within f a n x t l h))

pub false_on : (f : ℕ → Bool) (a n x : ℕ) → T (passes (λ y. not (f y)) a n) → a ≤ x → x < a + n → false ≡ f x
false_on f a n x t l h = go (f x) (within (λ y. not (f y)) a n x t l h)
  where
    go : (b : Bool) → T (not b) → false ≡ b
    go true u = absurd u
    go false u = refl

-- what all of a list pass, each of it passes
abbrev pub every : (ℕ → Bool) → List ℕ → Bool
every test [] = true
every test (y ∷ ys) = test y && every test ys

pub member : (test : ℕ → Bool) (ys : List ℕ) (x : ℕ) → T (every test ys) → among ys x ≡ true → T (test x)
member test [] x t e = absurd (false≢true e)
member test (y ∷ ys) x t e = let (u, v) = both (test y) (every test ys) t in go (eqb x y) refl u (member test ys x v) e
  where
    go : (b : Bool) → eqb x y ≡ b → T (test y) → (among ys x ≡ true → T (test x)) → (b || among ys x) ≡ true → T (test x)
    go true z u f e = rw (eqb-true x y z) u
    go false z u f e = f e

-- what no element of a list passes is none of them
pub apart : (test : ℕ → Bool) (ys : List ℕ) → T (every (λ y. not (test y)) ys) → (x : ℕ) → test x ≡ true → among ys x ≡ false
apart test ys t x e = go (among ys x) refl
  where
    go : (b : Bool) → among ys x ≡ b → b ≡ false
    go true z = absurd (rw e at (member (λ y. not (test y)) ys x t z))
    go false z = refl

-- a test that two numbers pass
pub of_two : (f : ℕ → Bool) {x y z : ℕ} → T (f y && f z) → (x ≡ y) ⊎ (x ≡ z) → f x ≡ true
of_two f {x} {y} {z} t (inl e) = let (u, v) = both (f y) (f z) t in rw e (as_true (f y) u)
of_two f {x} {y} {z} t (inr e) = let (u, v) = both (f y) (f z) t in rw e (as_true (f z) v)

pub every_at : (test : ℕ → Bool) (ys : List ℕ) → T (every test ys) → (k : ℕ) → k < length ys → T (test (get_or ys k 0))
every_at test [] t k h = absurd (omega arith)
every_at test (y ∷ ys) t zero h = (both (test y) (every test ys) t).0
every_at test (y ∷ ys) t (suc k) h = every_at test ys (both (test y) (every test ys) t).1 k (omega arith)
