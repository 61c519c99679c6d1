-- `scan::number_end` meets its contract: the first digits, a point with digits after it or none, and then what `power_end` finds.
use native.Mathlib.Omega.{arith}
use Rattle.grammar.specs.Lexeme.{number}
use Rattle.lexeme.proofs.Numbers.{rest, rest_shy, rest_none, power_shy}
use Rattle.lexer.proofs.Stretches.{Becomes, becomes_then, ended, at_text_end, run_on_some, run_some}
use Rattle.lexer.proofs.Numbers.{no_point, a_point, lone_point}
use Rattle.lexer.proofs.scan.number_end.Goals as goal
use Rattle.lexer.proofs.scan.number_end.Goals.{After-digits-at}

-- past the first digits
begun : (c : After-digits-at) → let a = c.args in Becomes number rest a.text.now a.start c.digits-at.result
begun c = let p = c.requires in run_on_some c.digits-at.ensures rest_shy (run_some c.digits-at.ensures p.0 p.1)

pub returns-then-at-text : goal.returns-then-at-text
returns-then-at-text c = ended (begun (goal.at.returns-then-at-text c).After-digits-at) (at_text_end c.if-at-text.true rest_none)

pub returns-then-point-ne46 : goal.returns-then-point-ne46
returns-then-point-ne46 c = ended (becomes_then (begun (goal.at.returns-then-point-ne46 c).After-digits-at) (no_point c.if-point-ne46.true)) c.power_end.ensures

pub returns-then-upto-from : goal.returns-then-upto-from
returns-then-upto-from c = ended (begun (goal.at.returns-then-upto-from c).After-digits-at) (lone_point c.if-point-ne46.false (omega arith) c.digits-upto.ensures c.if-upto-from.true)

pub returns : goal.returns
returns c =
    ended (becomes_then (begun (goal.at.returns c).After-digits-at) (becomes_then (a_point c.if-point-ne46.false (omega arith)) (run_on_some c.digits-upto.ensures power_shy c.if-upto-from.false)))
    c.power_end-2.ensures
