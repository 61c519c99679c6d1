-- `read_as` meets its contract: the token maker's refusal, or what `parse_as` answers of the list that it made, which has what checks 1 and 5 to 7 ask.
use native.Mathlib.Omega.{arith}
use mathlib.Core.Path.{sym}
use lib.Seq.{length-take-le}
use Rattle.lexer.proofs.Passing.{made_list}
use Rattle.reader.specs.Answered.{AnswersText}
use Rattle.reader.proofs.Texts.{made_fits}
use Rattle.reader.proofs.read_as.Goals as goal

pub returns-then-made-ne0 : goal.returns-then-made-ne0
returns-then-made-ne0 c = record { answers = rw c.refused.ensures (AnswersText.unmade c.lex-made.ensures c.if-made-ne0.true) }

pub overflow_mul-used : goal.overflow_mul-used
overflow_mul-used c = omega (arith, (made_fits c.lex-made.ensures c.if-made-ne0.false).1)

pub slice_bounds-parse_checked-end : goal.slice_bounds-parse_checked-end
slice_bounds-parse_checked-end c = omega (arith, (made_fits c.lex-made.ensures c.if-made-ne0.false).0)

pub slice_bounds-parse_checked-end-2 : goal.slice_bounds-parse_checked-end-2
slice_bounds-parse_checked-end-2 c = sym (length-take-le _ _ (made_fits c.lex-made.ensures c.if-made-ne0.false).0)

pub parse_checked-requires : goal.parse_checked-requires
parse_checked-requires c = (made_list c.lex-made.ensures c.if-made-ne0.false).lent

pub returns : goal.returns
returns c = record { answers = AnswersText.made c.lex-made.ensures c.if-made-ne0.false c.parse_checked.ensures.answers }
