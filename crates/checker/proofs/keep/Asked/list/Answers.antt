-- `list` meets its contract: a list that has nothing to do with the rule, or whose links are walked, with the marks of their sort.
use Rattle.std.proofs.Common.{sym}
use Rattle.checker.proofs.Holding.{unasked_list, second_kept, first_kept}
use Rattle.checker.proofs.keep.Asked.list.Goals as goal

pub returns-then-not-concerned : goal.returns-then-not-concerned
returns-then-not-concerned c = unasked_list _ _ _ _ _ _ _ _ c.if-from-count.false (sym c.if-not-concerned.ensures) c.requires

pub returns-in-Entries : goal.returns-in-Entries
returns-in-Entries c = second_kept c.requires _ _ c.if-from-count.false _ c.in-Entries.is c.linked.auto.marks c.linked.ensures

pub returns-in_default : goal.returns-in_default
returns-in_default c = first_kept c.requires _ _ c.if-from-count.false _ (sym c.if-not-concerned.ensures) c.in_default.not-Entries c.linked-in_default.auto.marks c.linked-in_default.ensures
