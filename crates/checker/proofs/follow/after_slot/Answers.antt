-- `after_slot` meets its contract: a list that follows.
use Rattle.std.proofs.Common.{arith}
use Rattle.checker.proofs.Following.{goes_list}
use Rattle.checker.proofs.follow.after_slot.Goals as goal

pub returns : goal.returns
returns c = rw (← c.content.ensures, c.in-List.is) (goes_list _ _ _ _ c.if-first-from.false (omega arith) (omega arith))
