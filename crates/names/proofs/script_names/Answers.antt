-- `script_names` meets its contract: token by token, up to the last or to a word whose row does not fit.
use native.Mathlib.Omega.{arith}
use Rattle.names.proofs.Passing.{reopened, none_passed, cut_short, passes}
use Rattle.names.proofs.script_names.Goals as goal

pub loop-i-init : goal.loop-i-init
loop-i-init c = none_passed c.requires c.zero.ensures

pub returns-in_default : goal.returns-in_default
returns-in_default c = cut_short c.requires c.zero.ensures (omega arith) c.loop-i.invariant c.in_default.ensures c.leave_out.ensures

pub loop-i-preserved : goal.loop-i-preserved
loop-i-preserved c = passes (reopened c.requires c.zero.ensures) (omega arith) c.loop-i.invariant c.in-Some.ensures
