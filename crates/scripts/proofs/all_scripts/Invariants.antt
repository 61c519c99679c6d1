-- What the loop of `all_scripts` keeps: the scripts so far are answered, and the list is the one that was lent.
use Rattle.std.proofs.Common.{◌≡◌}
use Rattle.grammar.specs.Builtin.{builtins}
use Rattle.scripts.specs.Joined.{lent, joined}
use Rattle.scripts.proofs.Turns.{Turned}
use Rattle.scripts.proofs.all_scripts.Given as goal

abbrev pub invariant-loop-i : goal.invariant-loop-i
invariant-loop-i g l =
    let t = g.T.Tokens in
    Turned t.source (joined (builtins l.names l.rows) l.text l.cuts l.edition l.limit l.part (lent (t.numbers l.initial.tokens) l.initial.nodes l.initial.links l.initial.symbols l.initial.scratch l.initial.answers)) l.i (lent (t.numbers l.tokens) l.nodes l.links l.symbols l.scratch l.answers)
    × (t.name l.tokens ≡ t.name l.initial.tokens)
    × (t.kept l.tokens ≡ t.kept l.initial.tokens)
