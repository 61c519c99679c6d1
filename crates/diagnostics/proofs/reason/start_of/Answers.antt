-- `diagnostics::reason::start_of` meets its contract: each number of the constant is where the definition of the table has that text's start.
use Prim.Native.Nat.{ℕ, ◌<◌}
use native.Mathlib.Omega.{arith}
use mathlib.Core.List.{List, [], ◌∷◌}
use mathlib.Core.Path.{◌≡◌, ◌∙◌}
use lib.Dec.{eqb, eqb→eq}
use lib.ListN.{get_or}
use Rattle.grammar.proofs.Tests.{within}
use Rattle.diagnostics.specs.Reason.{tabled, begins}
use Rattle.diagnostics.proofs.reason.start_of.Goals as goal

starts : List ℕ
starts = 0 ∷ 0 ∷ 43 ∷ 92 ∷ 127 ∷ 155 ∷ 179 ∷ 221 ∷ 268 ∷ 268 ∷ 268 ∷ 268 ∷ 268 ∷ 268 ∷ 298 ∷ 330 ∷ 349 ∷ 369 ∷ 397 ∷ 425 ∷ 468 ∷ 514 ∷ 544 ∷ 576 ∷ 603 ∷ []

right : (i : ℕ) → i < 25 → get_or starts i 0 ≡ begins i
unfolding starts begins tabled
right i h = eqb→eq _ _ (within (λ k. eqb (get_or starts k 0) (begins k)) 0 25 i tt (omega arith) h)

pub returns : goal.returns
unfolding starts
returns c = c.from.ensures ∙ right _ (omega arith)
