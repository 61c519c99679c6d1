-- `numbers::put` meets its contract: four bytes in the place of a part are four writes.
use native.Mathlib.Omega.{arith}
use Prim.Native.Nat.{◌+◌, ◌-◌}
use mathlib.Core.Path.{◌≡◌}
use Rattle.frames.proofs.Listing.{put_part}
use Rattle.frames.proofs.numbers.put.Goals as goal

pub returns : goal.returns
returns c =
    let four : c.args.at + 4 - c.args.at ≡ 4 = omega arith in
    rw (four, c.copy_from_slice.ensures.after, c.to_le_bytes.ensures) (put_part c.args.at c.args.out.now _ _ _ _ c.requires)
