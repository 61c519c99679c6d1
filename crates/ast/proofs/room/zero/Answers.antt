-- `room::zero` meets its contract: a part of the room is filled.
use native.Mathlib.Omega.{arith}
use mathlib.Core.Path.{◌∙◌, ap}
use Prim.Native.Nat.{ℕ, ◌-◌}
use lib.ListN.{replicate, length-replicate}
use Rattle.grammar.proofs.Lexemes.{part_length}
use Rattle.ast.proofs.Rooms.{over}
use Rattle.ast.proofs.room.zero.Goals as goal

pub returns : goal.returns
returns c =
    let a = c.args in
    over a.from a.upto a.room.now (omega arith) (omega arith) (c.fill.ensures.after (λ y e. e) ∙ ap (λ (n : ℕ). replicate n 0) (part_length a.room.now a.from (a.upto - a.from) (omega arith))) (length-replicate {A = ℕ} (a.upto - a.from) 0)
