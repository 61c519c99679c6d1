-- `right` meets its contract: the loop keeps that every name passed is right, and that the index is theirs.
use Rattle.grammar.specs.Builtin.{builtins}
use Rattle.builtins.specs.Known.{Named}
use Rattle.builtins.proofs.right.Given as goal

abbrev pub invariant-loop-i : goal.invariant-loop-i
invariant-loop-i l = Named (builtins l.names l.rows) l.i l.index
