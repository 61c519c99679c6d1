-- `within` meets its contract: a script has any token, and of a guard the search tells.
use Rattle.door.specs.Entry.{ProfileChecked}
use Rattle.door.proofs.within.Goals as goal

pub returns-in-Script : goal.returns-in-Script
returns-in-Script c = rw c.in-Script.is (ProfileChecked.inside (λ i h. tt))

pub returns-in-Some : goal.returns-in-Some
returns-in-Some c = rw (c.in-Guard.is, c.at_token.ensures) (ProfileChecked.outside c.in-Some.ensures)

pub returns-in-None : goal.returns-in-None
returns-in-None c = rw c.in-Guard.is (ProfileChecked.inside c.in-None.ensures)
