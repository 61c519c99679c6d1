-- `content` meets its contract: by the code.
use Rattle.std.proofs.Common.{refl, sym, arith}
use Rattle.checker.specs.Slots.{content_of}
use Rattle.checker.proofs.Items.{held_symbol, held_list, held_number}
use Rattle.checker.proofs.slots.Slot.content.Goals as goal

pub returns-in-0 : goal.returns-in-0
unfolding content_of
returns-in-0 c = rw c.in-0.is refl

pub returns-in-1 : goal.returns-in-1
unfolding content_of
returns-in-1 c = rw c.in-1.is refl

pub returns-in-2 : goal.returns-in-2
unfolding content_of
returns-in-2 c = rw c.in-2.is refl

pub returns-in-5-to-7 : goal.returns-in-5-to-7
returns-in-5-to-7 c = rw c.of.ensures (sym (held_list _ _ _ (omega arith) (omega arith)))

pub returns-in-3 : goal.returns-in-3
returns-in-3 c = sym (held_symbol _ _ _ (omega arith) (omega arith))

pub returns-in_default : goal.returns-in_default
returns-in_default c = sym (held_number _ _ _ (omega arith))
