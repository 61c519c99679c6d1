-- `key` meets its contract: what the table has at the slot, a byte.
use native.Mathlib.Omega.{arith}
use Rattle.spelling.proofs.Spellings.{whole}
use Rattle.spelling.proofs.Slots.{key_at}
use Rattle.spelling.proofs.key.Goals as goal

pub bounds-words-slot : goal.bounds-words-slot
bounds-words-slot c = omega (arith, whole c.requires)

pub returns : goal.returns
returns c = key_at c.requires _ (omega arith)
