-- `Row::say` ends, since a child's number is below its parent's.
use Rattle.showing.proofs.Row.+say.Given as goal

abbrev pub decreases-say : goal.decreases-say
decreases-say l = l.self.id
