-- `class` meets its contract: what the table has for the byte.
use native.Mathlib.Omega.{arith}
use Rattle.spelling.proofs.Spellings.{whole}
use Rattle.spelling.proofs.Slots.{class_at}
use Rattle.spelling.proofs.class.Goals as goal

pub bounds-words-byte : goal.bounds-words-byte
bounds-words-byte c = omega (arith, whole c.requires)

pub returns : goal.returns
returns c = class_at c.requires _ (omega arith)
