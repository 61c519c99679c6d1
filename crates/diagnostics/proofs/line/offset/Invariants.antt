-- `diagnostics::line::offset` meets its contract. Its loop keeps the place of `i`, and that no offset before it has the place that is looked for.
use Rattle.diagnostics.proofs.Offsets.{Looking}
use Rattle.diagnostics.proofs.line.offset.Given as goal

abbrev pub invariant-loop-i : goal.invariant-loop-i
invariant-loop-i l = Looking l.text l.line l.column l.i l.here
