-- `wire::output::row` meets its contract: its four parts one after the other.
use Prim.Native.Nat.{◌*◌}
use native.Mathlib.Omega.{arith}
use Rattle.wire.proofs.Decimals.{decimal_short}
use Rattle.wire.proofs.Lines.{part_short, row_made}
use Rattle.wire.proofs.output.row.Goals as goal

pub decimal-b-requires : goal.decimal-b-requires
decimal-b-requires c =
    omega (arith, c.requires.short, c.requires.fits, c.put-a.ensures.ends, decimal_short c.args.i (omega (arith, c.requires.few)))

pub numbers-c-requires : goal.numbers-c-requires
numbers-c-requires c =
    omega (arith, c.requires.short, c.requires.narrow, c.requires.fits, c.put-a.ensures.ends, c.decimal-b.ensures.ends, decimal_short c.args.i (omega (arith, c.requires.few)), part_short (c.args.width * c.args.i) c.args.width c.args.source.now)

pub put-requires : goal.put-requires
put-requires c =
    omega (arith, c.requires.short, c.requires.narrow, c.requires.fits, c.put-a.ensures.ends, c.decimal-b.ensures.ends, c.numbers-c.ensures.most, decimal_short c.args.i (omega (arith, c.requires.few)), part_short (c.args.width * c.args.i) c.args.width c.args.source.now)

pub returns : goal.returns
returns c =
    row_made c.requires c.put-a.ensures c.decimal-b.ensures c.numbers-c.ensures c.put.ensures
