-- `after_row` meets its contract: one slot after another.
use Rattle.checker.proofs.Following.{goes_nowhere, goes_further}
use Rattle.checker.proofs.follow.after_row.Goals as goal

pub returns-in_err-one : goal.returns-in_err-one
returns-in_err-one c = rw c.from_residual.ensures (goes_nowhere _ c.in_err-one.ensures)

pub returns-in_err-two : goal.returns-in_err-two
returns-in_err-two c = rw c.from_residual-in_err-two.ensures (goes_further _ c.in_ok-one.ensures (goes_nowhere _ c.in_err-two.ensures))

pub returns : goal.returns
returns c = goes_further _ c.in_ok-one.ensures (goes_further _ c.in_ok-two.ensures c.after_slot-3.ensures)
