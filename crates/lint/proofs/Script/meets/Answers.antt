-- `Script::meets` meets its contract: each rule has its own function.
use Rattle.lint.specs.Rules.{Meets}
use Rattle.lint.proofs.Script.meets.Goals as goal

pub returns-in-ReachingNot : goal.returns-in-ReachingNot
unfolding Meets
returns-in-ReachingNot c = rw c.in-ReachingNot.is c.is_reaching.ensures

pub returns-in-CutOff : goal.returns-in-CutOff
unfolding Meets
returns-in-CutOff c = rw c.in-CutOff.is c.is_cut_off.ensures

pub returns-in-GoingOn : goal.returns-in-GoingOn
unfolding Meets
returns-in-GoingOn c = rw c.in-GoingOn.is c.is_going_on.ensures

pub returns-in-LongString : goal.returns-in-LongString
unfolding Meets
returns-in-LongString c = rw c.in-LongString.is c.is_long.ensures

pub returns-in-Any : goal.returns-in-Any
unfolding Meets
returns-in-Any c = rw c.in-Any.is c.is_any.ensures
