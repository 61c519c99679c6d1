-- `Maps::link_first` meets its contract.
use borrow.Author.Tests.{ne_eqb}
use mathlib.Core.Path.{ap}
use Rattle.parts.specs.Moved.{moved_node}
use Rattle.packing.specs.Digits.{digit}
use Rattle.packing.proofs.Digits.{no_names}
use Rattle.packing.proofs.maps.Maps.link_first.Goals as goal

pub symbol-requires : goal.symbol-requires
symbol-requires c = c.requires.name (ap digit c.in-Names.is)

pub row-requires : goal.row-requires
row-requires c = c.requires.node (no_names c.in_default.not-Names)

pub returns-in-Names : goal.returns-in-Names
returns-in-Names c = rw c.in-Names.is c.symbol.ensures

pub returns-in_default : goal.returns-in_default
unfolding moved_node
returns-in_default c = rw (ne_eqb (digit c.args.role) 5 (no_names c.in_default.not-Names)) c.row.ensures
