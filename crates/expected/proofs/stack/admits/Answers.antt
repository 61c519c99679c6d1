-- `admits` meets its contract: the kind stands where no cell stops it, or the first that does takes it.
use Rattle.expected.proofs.Passing.{as_stop, as_nowhere, admits_over, admits_taken, admits_other}
use Rattle.expected.proofs.stack.admits.Goals as goal

pub returns-in-Takes : goal.returns-in-Takes
returns-in-Takes c = admits_taken (as_stop c.in-Some.ensures) c.in-Takes.is

pub returns-in_default : goal.returns-in_default
returns-in_default c = admits_other (as_stop c.in-Some.ensures) c.in_default.not-Takes

pub returns-in-None : goal.returns-in-None
returns-in-None c = admits_over (as_nowhere c.in-None.ensures)
