-- `spare` meets its contract: for rule 8 all numbers are 0, and no other asks anything of them.
use Rattle.std.proofs.Common.{◌-◌, drop, length-drop, arith}
use Rattle.checker.proofs.Keeping.{spare_any, spare_part}
use Rattle.checker.proofs.keep.Asked.spare.Goals as goal

pub returns-in-Clean : goal.returns-in-Clean
returns-in-Clean c = let a = c.args in rw c.in-Clean.is (spare_part a.self.row a.self.symbols _ (a.upto - a.from) (drop a.from a.nodes.now) (omega (arith, length-drop a.from a.nodes.now)) c.zeros.ensures)

pub returns-in_default : goal.returns-in_default
returns-in_default c = spare_any _ _ _ c.in_default.not-Clean _ _
