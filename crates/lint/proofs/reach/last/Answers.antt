-- `reach::last` meets its contract: the kind's number names it, or there is none.
use Rattle.children.proofs.Laws.{number_is}
use Rattle.lint.proofs.Laws.{takes_number, takes_nothing}
use Rattle.lint.proofs.reach.last.Goals as goal

pub returns-in-Some : goal.returns-in-Some
returns-in-Some c = takes_number _ _ (number_is c.node.ensures) c.in-Some.ensures (number_is c.node-in-Some.ensures)

pub returns-in-None : goal.returns-in-None
returns-in-None c = takes_nothing _ _ (number_is c.node.ensures) c.in-None.ensures
