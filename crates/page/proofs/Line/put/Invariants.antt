-- `put` meets its contract: what stands there are the bytes so far, put one after the other.
use mathlib.Core.Path.{◌≡◌}
use lib.ListN.{take}
use Rattle.page.specs.Line.{held, puts}
use Rattle.page.proofs.Line.put.Given as goal

abbrev pub invariant-loop-byte : goal.invariant-loop-byte
invariant-loop-byte l = held l.self ≡ puts (take l.byte-index l.part) (held l.initial.self)
