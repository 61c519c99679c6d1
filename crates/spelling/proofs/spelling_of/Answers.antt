-- `spelling_of` meets its contract: past the table there is no spelling, and else the table has it from where it starts to where it ends.
use mathlib.Core.Path.{sym}
use native.Mathlib.Omega.{arith}
use Rattle.spelling.proofs.Spellings.{Entry, whole, entry, cut, no_spelling}
use Rattle.spelling.proofs.spelling_of.Goals as goal
use Rattle.spelling.proofs.spelling_of.Goals.{Else-kind-gt41}

-- the table at a kind that it has
row : (c : Else-kind-gt41) → let a = c.args in Entry a.words.now a.kind
row c = entry c.requires c.args.kind (omega arith)

pub returns-then-kind-gt41 : goal.returns-then-kind-gt41
returns-then-kind-gt41 c = sym (no_spelling c.args.kind (omega arith))

pub bounds-words-at : goal.bounds-words-at
bounds-words-at c = omega (arith, whole c.requires)

pub bounds-words-at-2 : goal.bounds-words-at-2
bounds-words-at-2 c = omega (arith, whole c.requires)

pub slice_bounds-result-end-2 : goal.slice_bounds-result-end-2
slice_bounds-result-end-2 c = omega (arith, row (goal.at.slice_bounds-result-end-2 c).Else-kind-gt41)

pub returns : goal.returns
returns c = cut (row (goal.at.returns c).Else-kind-gt41)
