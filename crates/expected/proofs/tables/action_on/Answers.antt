-- `action_on` is the table's rule.
use Prim.Native.Nat.{◌+◌, ◌*◌, ◌<◌}
use native.Mathlib.Omega.{arith}
use borrow.Author.Rules.{rules}
use Rattle.grammar.specs.Edition.{edition}
use Rattle.expected.specs.Cells.{column_of, Acts}
use Rattle.expected.proofs.Lent.{in_table}
use Rattle.expected.proofs.Numbering.{column_small, acts}
use Rattle.expected.proofs.tables.action_on.Goals as goal
use Rattle.expected.proofs.tables.action_on.Goals.{After-from}
use Prim.Native.Nat.{◌-◌}
use mathlib.Core.Path.{◌≡◌}

pub overflow_add-state : goal.overflow_add-state
overflow_add-state c = let a = c.args in omega (arith, column_small (edition a.edition) a.kind (search rules), c.column.ensures)

pub number-requires : goal.number-requires
number-requires c = let a = c.args in omega (arith, column_small (edition a.edition) a.kind (search rules), c.column.ensures)

-- what the table says of the number that is read
says : (c : After-from) → Acts (edition c.args.edition) c.args.state c.args.kind c.from.result
says c =
    let a = c.args in
    let e = edition a.edition in
    let i : a.state * 49 + column_of e a.kind < 2646 = omega (arith, column_small e a.kind c.requires.kind_bound) in
    rw (c.from.ensures, c.number.ensures, c.column.ensures, in_table (a.state * 49 + column_of e a.kind) i) (acts e a.state a.kind c.requires.state_bound c.requires.kind_bound)

pub returns-in-0 : goal.returns-in-0
returns-in-0 c = rw c.in-0.is at (says (goal.at.returns-in-0 c).After-from)

pub returns-in-1 : goal.returns-in-1
returns-in-1 c = rw c.in-1.is at (says (goal.at.returns-in-1 c).After-from)

pub returns-in-2 : goal.returns-in-2
returns-in-2 c = rw c.in-2.is at (says (goal.at.returns-in-2 c).After-from)

pub returns-in-3 : goal.returns-in-3
returns-in-3 c = rw c.in-3.is at (says (goal.at.returns-in-3 c).After-from)

pub returns-in-4 : goal.returns-in-4
returns-in-4 c = rw c.in-4.is at (says (goal.at.returns-in-4 c).After-from)

pub returns-in-5 : goal.returns-in-5
returns-in-5 c = rw c.in-5.is at (says (goal.at.returns-in-5 c).After-from)

pub returns-in_default : goal.returns-in_default
returns-in_default c = let e : 6 + (c.from.result - 6) ≡ c.from.result = omega arith in rw e (says (goal.at.returns-in_default c).After-from)
