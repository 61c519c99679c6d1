-- `cut_row` meets its contract: what the table has for a row's kind stands in the table, and the places that it names stand in the row.
use Rattle.std.proofs.Common.{rules}
use Rattle.checker.proofs.Cutting.{at_table, in_table, at_second, at_third, cut_made}
use Rattle.checker.proofs.slots.cut_row.Goals as goal

pub bounds-table-k : goal.bounds-table-k
bounds-table-k c = search (rules, at_table)

pub bounds-table-k-2 : goal.bounds-table-k-2
bounds-table-k-2 c = search (rules, in_table)

pub bounds-table-k-3 : goal.bounds-table-k-3
bounds-table-k-3 c = search (rules, in_table)

pub bounds-table-k-4 : goal.bounds-table-k-4
bounds-table-k-4 c = search (rules, in_table)

pub bounds-table-k-5 : goal.bounds-table-k-5
bounds-table-k-5 c = search (rules, in_table)

pub bounds-table-k-6 : goal.bounds-table-k-6
bounds-table-k-6 c = search (rules, in_table)

pub slot_at-requires-2 : goal.slot_at-requires-2
slot_at-requires-2 c = search (rules, at_second)

pub slot_at-requires-3 : goal.slot_at-requires-3
slot_at-requires-3 c = search (rules, at_third)

pub returns : goal.returns
returns c = cut_made _ _ _ c.from.ensures c.slot_at.ensures c.from-2.ensures c.from-3.ensures c.slot_at-2.ensures c.from-4.ensures c.from-5.ensures c.slot_at-3.ensures c.from-6.ensures
