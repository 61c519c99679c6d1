-- Answers that decide: how they are made, carried to an equivalent statement, and used; two that decide the same statement are equal.
use Prim.Native.Nat.{ℕ}
use mathlib.Core.Bool.{Bool, true, false, true≢false}
use mathlib.Core.List.{List}
use mathlib.Core.Path.{◌≡◌, refl, sym, ◌∙◌}
use lib.Dec.{T, eqb}
use lib.Pointwise.{pointwise}
use Rattle.std.proofs.lemmas.Slice.Eq.{bytes_eq-Decides}
use Rattle.grammar.specs.Derivative.{matches}
use Rattle.grammar.specs.Pattern.{Pattern, Matches}
use Rattle.grammar.proofs.Patterns.{matches_sound, matches_whole}
use Rattle.spelling.specs.Decides.{Truth, Decides}

module _ {P : Type 0} where
  pub holds : P → Decides P true
  unfolding Truth
  holds p = record { says = p }

  pub fails : (P → ⊥) → Decides P false
  unfolding Truth
  fails f = record { says = f }

  pub held : Decides P true → P
  unfolding Truth
  held d = d.says

  pub failed : Decides P false → P → ⊥
  unfolding Truth
  failed d = d.says

  -- a test that is true exactly where P holds
  pub tested : (b : Bool) → (T b → P) → (P → T b) → Decides P b
  tested true f g = holds (f tt)
  tested false f g = fails g

  -- two answers that decide the same statement are equal
  pub decided_once : {r s : Bool} → Decides P r → Decides P s → r ≡ s
  decided_once {r = true} {s = true} d e = refl
  decided_once {r = true} {s = false} d e = absurd (failed e (held d))
  decided_once {r = false} {s = true} d e = absurd (failed d (held e))
  decided_once {r = false} {s = false} d e = refl

-- an answer that decides, once the branch is known
pub said : {P : Type 0} {r b : Bool} → Decides P r → r ≡ b → Decides P b
said d e = rw (sym e) d

pub carried : {P Q : Type 0} {r : Bool} → (P → Q) → (Q → P) → Decides P r → Decides Q r
carried {r = true} f g d = holds (f (held d))
carried {r = false} f g d = fails (λ q. failed d (g q))

-- the `==` of two slices decides whether they are the same list
pub equals : (xs ys : List ℕ) {r : Bool} → r ≡ pointwise eqb xs ys → Decides (xs ≡ ys) r
equals xs ys {r = true} e = holds ((bytes_eq-Decides xs ys).0 (sym e))
equals xs ys {r = false} e = fails (λ z. true≢false (sym ((bytes_eq-Decides xs ys).1 z) ∙ sym e))

-- the test of a pattern decides whether a text matches it
pub matching : (p : Pattern) (xs : List ℕ) → Decides (Matches p xs) (matches p xs)
matching p xs = tested (matches p xs) (matches_sound p xs) (matches_whole p xs)
