-- `find` meets its contract: a search in the names' index answers the grammar's.
use Rattle.builtins.proofs.Naming.{known_sought}
use Rattle.builtins.proofs.find.Goals as goal

pub returns : goal.returns
returns c = known_sought c.requires c.find.ensures
