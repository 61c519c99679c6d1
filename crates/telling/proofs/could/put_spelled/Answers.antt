-- `could::put_spelled` meets its contract: the name of a kind has at most 16 bytes.
use native.Mathlib.Omega.{arith}
use borrow.Author.Rules.{rules}
use Rattle.spelling.proofs.display.Names.{short}
use Rattle.telling.proofs.could.put_spelled.Goals as goal

pub put_name-n-requires : goal.put_name-n-requires
put_name-n-requires c = (search rules, omega (arith, short c.args.kind))
