-- Which sign a byte is, alone or with `=` after it: each arm of a match names a spelling, and that the last arm misses none is computed over the table.
use Prim.Native.Nat.{ℕ}
use mathlib.Core.Bool.{true, false, not, ◌||◌}
use mathlib.Core.List.{List, [], ◌∷◌}
use Rattle.std.specs.Prelude.{Some, None}
use mathlib.Core.Path.{◌≡◌, refl, sym, ap, ◌∙◌}
use native.Mathlib.Omega.{arith}
use lib.Dec.{T, leb, leb→le}
use borrow.Author.Tests.{ne_eqb}
use Rattle.grammar.specs.Lexeme.{spelling}
use Rattle.grammar.specs.Pattern.{among}
use Rattle.spelling.specs.Words.{first}
use Rattle.grammar.specs.Symbol.{same}
use Rattle.grammar.proofs.Tests.{as_true, same_self, passes, within}
use Rattle.lexer.specs.Parts.{Spelt}

-- what the last arm of a match knows of a number: it is none of those above, the last of them first
abbrev pub Missed : List ℕ → ℕ → Type 0
Missed [] x = Unit {0}
Missed (y ∷ ys) x = Missed ys x × (x ≡ y → ⊥)

pub missed : (ys : List ℕ) (x : ℕ) → Missed ys x → among ys x ≡ false
missed [] x m = refl
missed (y ∷ ys) x m = rw (ne_eqb x y m.1) (missed ys x m.0)

module _ (b : ℕ) (tail : List ℕ) where
  -- an arm: this byte and the tail are the spelling of kind k
  pub arm : (k : ℕ) → T (leb k 43) → b ∷ tail ≡ spelling k → Spelt (b ∷ tail) (Some k)
  arm k t e = Spelt.sign {k = k} (let h = leb→le k 43 t in omega arith) e

  -- the last: every spelling with this tail starts with one of the bytes above
  pub last_arm : (bytes : List ℕ) → T (passes (λ k. among bytes (first (spelling k)) || not (same (spelling k) (first (spelling k) ∷ tail))) 0 44) → Missed bytes b → Spelt (b ∷ tail) None
  last_arm bytes t m = Spelt.none (λ k h e. let z : first (spelling k) ≡ b = ap first (sym e) in go k z (ap (λ (l : List ℕ). same l (b ∷ tail)) (sym e) ∙ as_true (same (b ∷ tail) (b ∷ tail)) (same_self (b ∷ tail))) (within (λ k. among bytes (first (spelling k)) || not (same (spelling k) (first (spelling k) ∷ tail))) 0 44 k t (omega arith) (omega arith)))
    where
      go : (k : ℕ) → first (spelling k) ≡ b → same (spelling k) (b ∷ tail) ≡ true → T (among bytes (first (spelling k)) || not (same (spelling k) (first (spelling k) ∷ tail))) → ⊥
      go k z a u = rw (z, missed bytes b m, a) at u
