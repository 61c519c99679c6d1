-- `tree` meets its contract: each profile has its reader.
use Rattle.syntax.proofs.tree.Goals as goal

pub returns-in-Script : goal.returns-in-Script
returns-in-Script c = rw c.in-Script.is c.whole.ensures

pub returns-in-Guard : goal.returns-in-Guard
returns-in-Guard c = rw c.in-Guard.is c.guarded.ensures
