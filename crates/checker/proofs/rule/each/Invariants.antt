-- `each` meets its contract: all rows so far pass whatever test the closure answers.
use Rattle.std.proofs.Common.{ℕ, Bool, ◌≡◌, ◌<◌}
use Rattle.checker.proofs.Laws.{Held}
use Rattle.checker.proofs.rule.each.Given as goal

abbrev pub invariant-loop-row : goal.invariant-loop-row
invariant-loop-row g l = (f : ℕ → Bool) → ((row : ℕ) (r : Bool) → row < l.count → goal.F-post g l.test row r → r ≡ f row) → Held f l.row
