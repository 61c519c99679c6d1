-- `number` meets its contract: the constant is the tables' numbers.
use mathlib.Core.Path.{◌≡◌, refl, ap}
use lib.ListN.{get_or}
use Rattle.expected.specs.declared.tables.TheConstants.{TABLES}
use Rattle.expected.specs.Tables.{table, lengths, lists, tables}
use Rattle.expected.proofs.tables.number.Goals as goal

same : TABLES ≡ tables
unfolding table lengths lists tables
same = refl

pub returns : goal.returns
returns c = ap (λ t. get_or t c.args.i 0) same
