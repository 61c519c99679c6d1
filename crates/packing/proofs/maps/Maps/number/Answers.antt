-- `Maps::number` meets its contract: one law for each kind of role.
use mathlib.Core.Path.{ap, sym, ◌∙◌}
use Rattle.parts.specs.Moved.{moved_node}
use Rattle.packing.specs.Digits.{digit}
use Rattle.packing.specs.Seen.{moves_of}
use Rattle.packing.proofs.Digits.{lists, symbols_least, symbols_most}
use Rattle.packing.proofs.Moving.{plain_moved, node_moved, first_moved, symbol_moved}
use Rattle.packing.proofs.maps.Maps.number.Goals as goal

pub returns-in-Plain : goal.returns-in-Plain
returns-in-Plain c = let a = c.args in sym (plain_moved (moves_of a.self) a.x (ap digit c.in-Plain.is))

pub returns-in-Child : goal.returns-in-Child
unfolding moved_node
returns-in-Child c = let a = c.args in c.row.ensures ∙ sym (node_moved (moves_of a.self) a.x (ap digit c.in-Child.is))

pub returns-in-Letters : goal.returns-in-Letters
returns-in-Letters c = let a = c.args in let e = c.in-Letters.is in c.symbol.ensures ∙ sym (symbol_moved (moves_of a.self) a.x (symbols_least e) (symbols_most e))

pub returns-in-Nodes : goal.returns-in-Nodes
returns-in-Nodes c = let a = c.args in sym (first_moved (moves_of a.self) a.x (lists c.in-Nodes.is))
