-- `display::put_quoted` meets its contract: its three parts one after the other are the name.
use native.Mathlib.Omega.{arith}
use Rattle.spelling.proofs.display.Names.{quoted, quoted_length}
use Rattle.spelling.proofs.display.Writing.{joined}
use Rattle.spelling.proofs.display.put_quoted.Goals as goal

pub put-opened-requires : goal.put-opened-requires
put-opened-requires c = omega (arith, quoted_length c.args.kind c.requires.0 c.requires.1)

pub put_spelling-spelt-requires : goal.put_spelling-spelt-requires
put_spelling-spelt-requires c = (c.requires.0, omega (arith, quoted_length c.args.kind c.requires.0 c.requires.1))

pub put-requires : goal.put-requires
put-requires c = omega (arith, quoted_length c.args.kind c.requires.0 c.requires.1)

pub returns : goal.returns
returns c = rw (quoted c.args.kind c.requires.0 c.requires.1) (joined c.put-opened.ensures (joined c.put_spelling-spelt.ensures c.put.ensures))
