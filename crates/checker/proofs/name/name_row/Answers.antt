-- `name_row` meets its contract: one slot after another.
use Rattle.checker.proofs.Walking.{slots_noted}
use Rattle.checker.proofs.name.name_row.Goals as goal

pub returns : goal.returns
returns c = slots_noted _ _ _ c.name_slot.ensures c.name_slot-2.ensures c.name_slot-3.ensures
