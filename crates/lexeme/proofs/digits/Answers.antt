-- `digits` meets its contract: the digits at the front of the part, which is no longer than from `start` to `end`.
use Prim.Native.Nat.{ℕ, ◌+◌, ◌≤◌}
use mathlib.Core.Path.{ap}
use native.Mathlib.Omega.{arith}
use Rattle.grammar.specs.Pattern.{digit}
use Rattle.grammar.specs.Token.{lexeme}
use Rattle.grammar.proofs.Lexemes.{lexeme_length}
use Rattle.lexeme.proofs.Runs.{run_within}
use Rattle.lexeme.proofs.digits.Goals as goal
use Rattle.lexeme.proofs.digits.Goals.{After-leading_digits}

inside : (c : After-leading_digits) → c.args.start + c.leading_digits.result ≤ c.args.end
inside c =
    let a = c.args in
    omega (arith, c.leading_digits.ensures, run_within digit (lexeme a.text.now a.start a.end), lexeme_length a.text.now a.start a.end (omega arith) (omega arith))

pub overflow_add-result : goal.overflow_add-result
overflow_add-result c = let i = inside (goal.at.overflow_add-result c).After-leading_digits in omega arith

pub returns : goal.returns
returns c = record { counted = ap (λ (n : ℕ). c.args.start + n) c.leading_digits.ensures; within = inside (goal.at.returns c).After-leading_digits }
