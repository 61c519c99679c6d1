-- `room::copy` meets its contract: after i turns the first i numbers are there.
use borrow.Author.Rules.{rules}
use Rattle.ast.proofs.Rooms.{copied}
use Rattle.ast.proofs.room.copy.Goals as goal

pub loop-i-preserved : goal.loop-i-preserved
loop-i-preserved c =
    let a = c.args in
    let l = c.loop-i in
    copied a.from.now a.first l.i (search rules) (search rules) l.invariant
