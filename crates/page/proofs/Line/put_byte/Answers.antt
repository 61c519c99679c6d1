-- `put_byte` meets its contract: the byte stands behind the others, or alone where the room was full.
use borrow.Author.Rules.{rules}
use Rattle.page.proofs.Putting.{behind, alone}
use Rattle.page.proofs.Line.put_byte.Goals as goal

pub returns-then-self-lt4096 : goal.returns-then-self-lt4096
returns-then-self-lt4096 c = behind _ _ _ (search rules) c.if-self-lt4096.true

pub returns-else-self-lt4096 : goal.returns-else-self-lt4096
returns-else-self-lt4096 c = alone _ _ _ _ (search rules) (search rules) c.if-self-lt4096.false c.args.self.now.fits
