-- `diagnostics::text::operand` meets its contract: the two parts one after the other are the text.
use native.Mathlib.Omega.{arith}
use borrow.Author.Tests.{le-leb, lt-leb}
use Rattle.grammar.specs.Kind.{Eof}
use Rattle.spelling.proofs.display.Names.{short}
use Rattle.spelling.proofs.display.Writing.{nothing, joined}
use Rattle.diagnostics.specs.Message.{text_of}
use Rattle.diagnostics.proofs.text.operand.Goals as goal

pub returns-then-found-gt44 : goal.returns-then-found-gt44
unfolding text_of
returns-then-found-gt44 c = simp (lt-leb c.args.found Eof (omega arith)) (nothing _ _)

pub put_name-requires : goal.put_name-requires
put_name-requires c = (omega arith, omega (arith, short c.args.found))

pub returns : goal.returns
unfolding text_of
returns c = simp (le-leb c.args.found Eof c.if-found-gt44.false) (joined c.put-a.ensures c.put_name.ensures)
