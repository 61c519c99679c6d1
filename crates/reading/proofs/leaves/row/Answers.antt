-- `leaves::row` meets its contract: each arm's row is that of its kind.
use Rattle.reading.proofs.leaves.row.Goals as goal

pub returns-in-31 : goal.returns-in-31
returns-in-31 c = rw c.in-31.is c.break_.ensures

pub returns-in-32 : goal.returns-in-32
returns-in-32 c = rw c.in-32.is c.continue_.ensures

pub returns-in-37 : goal.returns-in-37
returns-in-37 c = rw c.in-37.is c.boolean.ensures

pub returns-in-38 : goal.returns-in-38
returns-in-38 c = rw c.in-38.is c.boolean-in-38.ensures

pub returns-in-39 : goal.returns-in-39
returns-in-39 c = rw c.in-39.is c.nil.ensures
