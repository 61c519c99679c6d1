-- `lex` meets its contract: the text's length, its first high byte, and then what `tokens` answers.
use Rattle.lexer.specs.Lexes.{Lexes}
use Rattle.lexer.proofs.lex.Goals as goal

pub returns-then-text-gt65536 : goal.returns-then-text-gt65536
returns-then-text-gt65536 c = rw c.refused.ensures (Lexes.long c.if-text-gt65536.true)

pub returns-in-Some : goal.returns-in-Some
returns-in-Some c = rw c.refused-in-Some.ensures (Lexes.high c.if-text-gt65536.false c.in-Some.ensures)
