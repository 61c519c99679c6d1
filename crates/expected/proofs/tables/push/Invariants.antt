-- `push` meets its contract: what is there of the list grows from its end.
use Rattle.expected.proofs.Laws.{Piling}
use Rattle.expected.proofs.tables.push.Given as goal

abbrev pub invariant-loop-i : goal.invariant-loop-i
invariant-loop-i l = Piling l.list l.at l.top l.initial.room l.room l.i l.t
