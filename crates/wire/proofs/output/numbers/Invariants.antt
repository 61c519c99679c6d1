-- `wire::output::numbers` meets its contract: the numbers up to an index are written.
use Prim.Native.Nat.{◌*◌}
use lib.ListN.{take}
use Rattle.wire.specs.Lines.{PutWithin}
use Rattle.wire.specs.Printed.{fields}
use Rattle.wire.proofs.output.numbers.Given as goal

abbrev pub invariant-loop-value : goal.invariant-loop-value
invariant-loop-value l = PutWithin (11 * l.value-index) (fields (take l.value-index l.values)) l.at l.initial.room l.room l.k
