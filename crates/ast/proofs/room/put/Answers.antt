-- `room::put` meets its contract: a part of the room is copied over.
use Prim.Native.Nat.{◌+◌, ◌-◌}
use native.Mathlib.Omega.{arith}
use mathlib.Core.Path.{sym, ap, ◌∙◌}
use lib.ListN.{length}
use Rattle.grammar.proofs.Lexemes.{part_length}
use Rattle.ast.proofs.Rooms.{over}
use Rattle.ast.proofs.room.put.Goals as goal

pub returns : goal.returns
returns g c =
    let a = c.args in
    let e = c.copy_from_slice.ensures in
    over a.i (a.i + g.row.N) a.room.now (omega arith) (omega arith) e.after (sym (ap length e.after) ∙ e.len ∙ part_length a.room.now a.i (a.i + g.row.N - a.i) (omega arith))
