-- `script_names` meets its contract: token by token, up to the last or to a word whose row does not fit.
use Rattle.grammar.specs.Builtin.{builtins}
use Rattle.names.proofs.Passing.{Passed}
use Rattle.names.proofs.script_names.Given as goal

abbrev pub invariant-loop-i : goal.invariant-loop-i
invariant-loop-i l = Passed (builtins l.source.names.now l.source.rows.now) l.source.text.now l.source.tokens.now l.i l.initial.own l.initial.scratch l.own l.scratch l.known
