-- `diagnostics::text::text` meets its contract: each arm writes the text that the definition has for its code.
use native.Mathlib.Omega.{arith}
use borrow.Author.Tests.{ne_eqb}
use Rattle.spelling.proofs.display.Writing.{nothing}
use Rattle.diagnostics.specs.Message.{text_of}
use Rattle.diagnostics.proofs.text.text.Goals as goal

pub returns-in-9 : goal.returns-in-9
unfolding text_of
returns-in-9 c = rw c.in-9.is c.operand.ensures

pub returns-in-10 : goal.returns-in-10
unfolding text_of
returns-in-10 c = rw c.in-10.is c.put.ensures

pub returns-in-11 : goal.returns-in-11
unfolding text_of
returns-in-11 c = rw c.in-11.is c.put-in-11.ensures

pub returns-in_default : goal.returns-in_default
unfolding text_of
returns-in_default c =
    let n = c.args.code in
    simp (ne_eqb n 8 (omega arith), ne_eqb n 9 (omega arith), ne_eqb n 10 (omega arith), ne_eqb n 11 (omega arith)) (nothing _ _)
