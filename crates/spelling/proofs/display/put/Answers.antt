-- `display::put` meets its contract: the part of the room that is copied over, and the rest of it, which stays.
use native.Mathlib.Omega.{arith}
use mathlib.Core.Path.{refl, ap, ◌∙◌}
use mathlib.Core.List.{◌++◌}
use lib.ListN.{take}
use Rattle.std.proofs.lemmas.Slice.{take-put_mid, drop-put_mid}
use Rattle.spelling.proofs.display.put.Goals as goal

pub returns : goal.returns
returns c =
    let a = c.args in
    let e = c.copy_from_slice.ensures.after in
    record {
      ends = refl;
      written = take-put_mid a.at _ a.room.now c.copy_from_slice.new.self _ (rw e refl) (omega arith) ∙ ap (λ ys. take a.at a.room.now ++ ys) e;
      rest = drop-put_mid a.at _ a.room.now c.copy_from_slice.new.self _ (omega arith) (omega arith) (rw e (omega arith));
    }
