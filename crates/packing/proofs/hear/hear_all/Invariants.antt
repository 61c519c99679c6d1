-- `hear_all` meets its contract: the built-in names, and then statement by statement.
use Prim.Native.Nat.{◌≤◌}
use mathlib.Core.Path.{◌≡◌}
use lib.ListN.{length}
use Rattle.parts.specs.Packed.{keeps}
use Rattle.packing.specs.Known.{HearingAll}
use Rattle.packing.specs.Seen.{seen}
use Rattle.packing.proofs.hear.hear_all.Given as goal

abbrev pub invariant-loop-j : goal.invariant-loop-j
invariant-loop-j l = HearingAll l.s l.builtins l.initial.symbols (keeps l.choice) (seen l.rows) l.j l.symbols l.scratch l.known × (l.j ≤ length l.choice) × (length l.symbols ≡ length l.initial.symbols) × (length l.scratch ≡ length l.initial.scratch)
