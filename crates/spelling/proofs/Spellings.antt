-- The rule of the table of spellings: one test that the checker computes over all 42 entries, and the lemma that turns it into the rule at each. It is said of any list that
-- is the table, as what a function is lent. No two kinds are spelt alike.
use Prim.Native.Nat.{ℕ, zero, suc, ◌+◌, ◌-◌, ◌≤◌, ◌<◌}
use mathlib.Core.Bool.{Bool, true, false, cond, ◌&&◌, ◌||◌}
use mathlib.Core.List.{List, []}
use mathlib.Core.Path.{◌≡◌, refl, sym, ap, ◌∙◌}
use native.Mathlib.Omega.{arith}
use lib.Dec.{T, eqb, leb, leb→le, eqb→eq}
use lib.ListN.{length, get_or, take, drop, get_or-eq_default}
use borrow.Author.Tests.{eqb-true}
use Rattle.grammar.specs.Kind.{NumberLiteral, Semicolon}
use Rattle.grammar.specs.Lexeme.{spelling, spellings}
use Rattle.grammar.specs.Pattern.{bytes}
use Rattle.grammar.specs.Symbol.{same}
use Rattle.grammar.proofs.Tests.{both, passes, same_means, within}
use Rattle.spelling.specs.Words.{table}

-- a list that is the table has its length
pub whole : {ws : List ℕ} → ws ≡ table → 504 ≡ length ws
unfolding table
whole e = ap length (sym e)

-- where the spelling of kind k starts, and how long it is
abbrev pub start : List ℕ → ℕ → ℕ
start ws k = 84 + get_or ws k 0

abbrev pub size : List ℕ → ℕ → ℕ
size ws k = get_or ws (42 + k) 0

abbrev right : ℕ → Bool
right k = leb (start table k + size table k) (length table) && same (take (size table k) (drop (start table k) table)) (spelling k)

pub record Entry (ws : List ℕ) (k : ℕ) : Type 0 where
  pub inside : start ws k + size ws k ≤ length ws
  pub spelt : take (size ws k) (drop (start ws k) ws) ≡ spelling k

of_table : (k : ℕ) → k ≤ Semicolon → Entry table k
unfolding table spelling same
of_table k h =
    let (u, v) = both (leb (start table k + size table k) (length table)) (same (take (size table k) (drop (start table k) table)) (spelling k)) (within right 0 42 k tt (omega arith) (omega arith)) in
    record { inside = leb→le _ _ u; spelt = same_means _ _ v }

pub entry : {ws : List ℕ} → ws ≡ table → (k : ℕ) → k ≤ Semicolon → Entry ws k
entry e k h = rw e (of_table k h)

-- the part of the table from where the spelling starts to where it ends
pub cut : {ws : List ℕ} {k : ℕ} → Entry ws k → take ((start ws k + size ws k) - start ws k) (drop (start ws k) ws) ≡ spelling k
cut {ws} {k} e = let z : (start ws k + size ws k) - start ws k ≡ size ws k = omega arith in ap (λ (n : ℕ). take n (drop (start ws k) ws)) z ∙ e.spelt

pub no_spelling : (k : ℕ) → 42 ≤ k → spelling k ≡ []
unfolding spelling
no_spelling k h = ap bytes (get_or-eq_default spellings "" h)

-- a test of the spellings that is computed for each kind that has one
pub all_spelt : (test : ℕ → Bool) → T (passes (λ k. eqb k NumberLiteral || test k) 0 42) → {k : ℕ} → k < 42 → (k ≡ NumberLiteral → ⊥) → T (test k)
all_spelt test t {k} h n = go (eqb k NumberLiteral) refl (within (λ k. eqb k NumberLiteral || test k) 0 42 k t (omega arith) h)
  where
    go : (b : Bool) → eqb k NumberLiteral ≡ b → T (b || test k) → T (test k)
    go true e u = absurd (n (eqb-true k NumberLiteral e))
    go false e u = u

-- the first kind that is spelt so, of n kinds from k
abbrev place_of : List ℕ → ℕ → ℕ → ℕ
place_of x k zero = k
place_of x k (suc n) = cond (same x (spelling k)) k (place_of x (suc k) n)

-- no two kinds are spelt alike
pub one_spelling : {x : List ℕ} {k l : ℕ} → k < 42 → (k ≡ NumberLiteral → ⊥) → x ≡ spelling k → l < 42 → (l ≡ NumberLiteral → ⊥) → x ≡ spelling l → k ≡ l
unfolding spelling same
one_spelling {x} {k} {l} h n e i m f = sym (own h n) ∙ ap (λ (y : List ℕ). place_of y 0 42) (sym e ∙ f) ∙ own i m
  where
    own : {k : ℕ} → k < 42 → (k ≡ NumberLiteral → ⊥) → place_of (spelling k) 0 42 ≡ k
    own {k} h n = eqb→eq _ k (all_spelt (λ k. eqb (place_of (spelling k) 0 42) k) tt h n)
