-- `insert` meets its contract: a kind and a span, the numbers of the kind, and zeros up to ten; or nothing, where the room has no such row.
use Prim.Native.Nat.{◌+◌, ◌-◌, ◌*◌}
use native.Mathlib.Omega.{arith}
use mathlib.Core.List.{◌∷◌}
use mathlib.Core.Path.{◌≡◌, refl}
use lib.ListN.{length}
use Rattle.ast.specs.Inserted.{Attempt}
use Rattle.ast.proofs.Rooms.{joined, said, stretch_length, padded_row}
use Rattle.ast.proofs.insert.Goals as goal

pub returns : goal.returns
returns g c =
    let a = c.args in
    let i = 10 * a.n in
    let room = c.if-nodes-i.false in
    let long : length a.fields ≡ g.row.N = omega (arith, room, c.put.ensures.size, stretch_length (omega arith) (omega (arith, room, c.put.ensures.size)) c.put-2.ensures) in
    let zeros = joined (omega arith) (joined (omega arith) c.put.ensures c.put-2.ensures) c.zero.ensures in
    record {
      says =
          Attempt.there (omega (arith, room))
          (said refl (omega arith) (padded_row (a.kind ∷ a.start ∷ a.end ∷ a.fields) (i + 10 - (i + 3 + g.row.N)) (omega arith) (omega arith)) zeros)
          refl;
    }
