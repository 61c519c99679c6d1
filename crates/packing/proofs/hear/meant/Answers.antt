-- `meant` meets its contract: a row, a link's name, a name in a row, a string.
use native.Mathlib.Omega.{arith}
use mathlib.Core.Path.{refl}
use Rattle.packing.specs.Seen.{seen}
use Rattle.packing.proofs.Spelling.{row_meant, link_meant, name_meant, string_meant}
use Rattle.packing.proofs.hear.meant.Goals as goal

pub returns-in-0 : goal.returns-in-0
returns-in-0 c = row_meant (seen c.args.rows) _ c.in-0.is

pub returns-in-1 : goal.returns-in-1
returns-in-1 c = link_meant (seen c.args.rows) _ c.in-1.is c.word_at.ensures

pub returns-in-2-to-15 : goal.returns-in-2-to-15
returns-in-2-to-15 c = name_meant (seen c.args.rows) _ (omega arith) (omega arith) c.word_at-in-2-to-15.ensures

pub returns-in_default : goal.returns-in_default
returns-in_default c = string_meant (seen c.args.rows) _ (omega arith) c.held.ensures c.held-in_default.ensures c.held-in_default-2.ensures (rw (c.saturating_add.ensures, c.saturating_sub.ensures) refl)
