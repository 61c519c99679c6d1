-- `same` meets its contract: words of one length whose bytes are alike are the same.
use mathlib.Core.List.{List}
use mathlib.Core.Path.{ap}
use native.Mathlib.Omega.{arith}
use lib.ListN.{length, get_or}
use Prim.Native.Nat.{ℕ}
use Rattle.std.proofs.lemmas.Grind.{same_number_lists}
use Rattle.spelling.proofs.Deciding.{holds, fails}
use Rattle.spelling.proofs.same.Goals as goal

pub returns-then-word-bytes : goal.returns-then-word-bytes
returns-then-word-bytes c = fails λ z. omega (arith, ap length z, c.if-word-bytes.true)

pub returns-then-word-i : goal.returns-then-word-i
returns-then-word-i c = fails λ z. omega (arith, ap (λ (xs : List ℕ). get_or xs c.loop-i.i 0) z, c.if-word-i.true)

pub returns : goal.returns
returns c = holds (same_number_lists _ _ (omega (arith, c.if-word-bytes.false)) (λ k h. c.loop-i.invariant k (omega (arith, h))))
