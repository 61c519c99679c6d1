-- `linked` meets its contract: none, one or two children for each link row.
use borrow.Author.Rules.{rules}
use mathlib.Core.Path.{refl, sym}
use Rattle.children.specs.Below.{many_of}
use Rattle.children.proofs.Laws.{many_two}
use Rattle.children.proofs.linked.Goals as goal

pub returns-in-0 : goal.returns-in-0
unfolding many_of
returns-in-0 c = (rw c.in-0.is refl, search rules)

pub returns-in-1 : goal.returns-in-1
unfolding many_of
returns-in-1 c = (rw c.in-1.is refl, search rules)

pub returns-in_default : goal.returns-in_default
returns-in_default c = let b = c.args.b in (sym (many_two b.each b.count c.in_default.in_default-own.rest.0.1 c.in_default.in_default-own.rest.1), search rules)
