-- `name` meets its contract: row by row, the marks are those of the rows gone through.
use Rattle.std.proofs.Common.{arith}
use Rattle.checker.proofs.Naming.{row_lists, naming_none, naming_more}
use Rattle.checker.proofs.name.name.Goals as goal

pub loop-row-init : goal.loop-row-init
loop-row-init c = naming_none c.requires c.zero.ensures

pub name_row-requires : goal.name_row-requires
name_row-requires c = let (x, y, z) = row_lists c.requires c.loop-row-test.true c.cut_row-c.ensures in (omega arith, x, y, z, c.loop-row.invariant.ready)

pub loop-row-preserved : goal.loop-row-preserved
loop-row-preserved c = naming_more c.requires c.loop-row-test.true c.cut_row-c.ensures c.loop-row.invariant c.name_row.ensures
