-- `diagnostics::line::place` meets its contract. Its loop keeps the place of `i`.
use Rattle.std.proofs.Common.{◌≡◌}
use Rattle.diagnostics.specs.Line.{line_of}
use Rattle.diagnostics.proofs.line.place.Given as goal

abbrev pub invariant-loop-i : goal.invariant-loop-i
invariant-loop-i l = l.here ≡ line_of l.text l.i
