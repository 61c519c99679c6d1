-- `jump` meets its contract: it stays, goes by one mark, or by two.
use Prim.Native.Nat.{ℕ, ◌+◌}
use mathlib.Core.Path.{refl}
use native.Mathlib.Omega.{arith}
use lib.ListN.{get_or}
use Rattle.checker.proofs.Skipping.{stopped, jumped, shortened}
use Rattle.checker.proofs.marks.jump.Goals as goal
use Rattle.checker.proofs.marks.jump.Lts as lts
use Rattle.checker.proofs.marks.jump.Reads as reads

abbrev Else2 : Type 0
Else2 = lts.Else2 reads.Pre reads.Post

-- the place of the mark that a link's own mark leads to
abbrev reached : Else2 → ℕ
reached c = let a = c.args in a.base + get_or a.marks.now (a.base + a.at) 0

pub overflow_cast-to : goal.overflow_cast-to
overflow_cast-to c = omega (arith, c.slice_known-1.given (c.args.base + c.args.at))

pub returns-then-to-at : goal.returns-then-to-at
returns-then-to-at c = stopped

pub returns-then-to-end : goal.returns-then-to-end
returns-then-to-end c = jumped (omega arith) refl (omega arith)

pub overflow_cast-on : goal.overflow_cast-on
overflow_cast-on c = omega (arith, c.slice_known-2-1.given (reached c.before.before))

pub returns-then-on-to : goal.returns-then-on-to
returns-then-on-to c = jumped (omega arith) refl (omega arith)

pub overflow_cast-result : goal.overflow_cast-result
overflow_cast-result c = omega (arith, c.slice_known-2-1.given (reached c.before.before))

pub returns : goal.returns
returns c = shortened refl refl (omega arith) (omega arith) (omega arith) (omega arith)
