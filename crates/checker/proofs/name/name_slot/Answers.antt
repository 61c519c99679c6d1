-- `name_slot` meets its contract: a row that is named, or a list by its sort.
use Rattle.std.proofs.Common.{true, false, inl, inr}
use Rattle.checker.proofs.Noting.{noted_none, noted_one}
use Rattle.checker.proofs.Walking.{list_noted, names_noted}
use Rattle.checker.proofs.name.name_slot.Goals as goal

pub returns-in-Nodes : goal.returns-in-Nodes
returns-in-Nodes c = rw (← c.content.ensures, c.in-List.is, c.in-Nodes.is) (list_noted _ _ c.requires.0 false c.name_links.ensures)

pub returns-in-Names : goal.returns-in-Names
returns-in-Names c = let p = c.requires in rw (← c.content.ensures, c.in-List.is, c.in-Names.is) (names_noted _ _ p.0 (noted_none p.0 p.2))

pub returns-in-Entries : goal.returns-in-Entries
returns-in-Entries c = rw (← c.content.ensures, c.in-List.is, c.in-Entries.is) (list_noted _ _ c.requires.0 true c.name_links-in-Entries.ensures)

pub returns-in-Child : goal.returns-in-Child
returns-in-Child c = let p = c.requires in rw c.mark.ensures (elim c.in-Child.is [ inl e ↦ rw (← c.content.ensures, e) (noted_one _ p.0 p.2) | inr e ↦ rw (← c.content.ensures, e) (noted_one _ p.0 p.2) ])
