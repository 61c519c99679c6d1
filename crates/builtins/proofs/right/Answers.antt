-- `right` meets its contract: the loop keeps that every name passed is right, and that the index is theirs.
use native.Mathlib.Omega.{arith}
use Rattle.builtins.proofs.Naming.{none_named, all_named}
use Rattle.builtins.proofs.right.Goals as goal

pub returns-then-count-eq0 : goal.returns-then-count-eq0
returns-then-count-eq0 c = all_named (omega (arith, c.if-count-eq0.true)) (none_named c.requires) (omega (arith, c.if-names-gt-MOST_BYTES.false))

pub loop-i-init : goal.loop-i-init
loop-i-init c = none_named c.requires

pub returns : goal.returns
returns c = all_named (omega arith) c.loop-i.invariant (omega (arith, c.if-names-gt-MOST_BYTES.false))
