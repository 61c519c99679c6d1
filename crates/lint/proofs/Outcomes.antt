-- Each contract allows one answer. That of `meets` decides a statement, which `decided-once` (crate spelling) does once; those of `last` and `brackets` name the number.
use Prim.Native.Nat.{ℕ, ◌≤◌}
use native.Mathlib.Decide.{ℕ_discrete}
use native.Mathlib.Omega.{arith}
use mathlib.Core.Path.{◌≡◌, sym, ◌∙◌}
use Rattle.grammar.specs.Handle.{absent}
use Rattle.lint.specs.Rules.{Next}

-- `next`: a count is a number of 32 bits, so none is over the absent one
pub one_next : {M : ℕ → Type 0} {from count r s : ℕ} → count ≤ absent → Next M from count r → Next M from count s → r ≡ s
one_next {r = r} {s} l m n =
    elim (ℕ_discrete r absent) [
      | yes e ↦ elim (ℕ_discrete s absent) [ yes f ↦ e ∙ sym f | no f ↦ let (a, b, c) = n.meets f in absurd (omega (arith, m.first s a b c)) ]
      | no e ↦
          let (a, b, c) = m.meets e in
          elim (ℕ_discrete s absent) [ yes f ↦ absurd (omega (arith, n.first r a b c)) | no f ↦ let (u, v, w) = n.meets f in omega (arith, m.first s u v w, n.first r a b c) ]
    ]

-- and it does not go back
pub onward : {M : ℕ → Type 0} {from count r : ℕ} → from ≤ absent → Next M from count r → from ≤ r
onward {r = r} l n = elim (ℕ_discrete r absent) [ yes e ↦ omega arith | no e ↦ (n.meets e).0 ]
