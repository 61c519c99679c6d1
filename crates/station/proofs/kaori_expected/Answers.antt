-- `kaori_expected` meets its contract: the set handed back and the numbers of the room are those that `expected` answers.
use native.Mathlib.Omega.{arith}
use Rattle.station.specs.Exports.{TellsExpected}
use Rattle.station.proofs.kaori_expected.Goals as goal

pub returns-then-told-lt-TOLD : goal.returns-then-told-lt-TOLD
returns-then-told-lt-TOLD c = TellsExpected.short (omega arith) c.expected-t.ensures

pub put_told-requires : goal.put_told-requires
put_told-requires c = let tells = c.expected-t.ensures in record { in_bounds = omega arith; count_bound = (tells.chained.fits, tells.chained.size) }

pub returns : goal.returns
returns c = rw c.put_told.ensures (TellsExpected.whole (omega arith) c.expected-t.ensures)
