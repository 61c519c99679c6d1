-- `push_number` meets its contract: each arm is what a number of its role holds.
use native.Mathlib.Omega.{arith}
use mathlib.Core.Path.{ap}
use Rattle.packing.specs.Digits.{digit}
use Rattle.packing.specs.Seen.{seen}
use Rattle.packing.proofs.Digits.{lists}
use Rattle.packing.proofs.Stacking.{pushed_none, none_present, pushed_one, name_waits, string_waits, next_at, child_number, string_number, name_number, list_number, plain_number, child_room, string_room, name_number_room, list_number_room}
use Rattle.packing.proofs.stack.push_number.Goals as goal

pub push_row-requires : goal.push_row-requires
push_row-requires c = let a = c.args in omega (arith, c.requires.1, child_room a.rows.nodes.now a.rows.links.now a.row a.j (ap digit c.in-Child.is))

pub push-requires : goal.push-requires
push-requires c = let a = c.args in omega (arith, c.requires.1, string_room a.rows.nodes.now a.rows.links.now a.row a.j (ap digit c.in-Letters.is))

pub push-requires-in-Name : goal.push-requires-in-Name
push-requires-in-Name c = let a = c.args in omega (arith, c.requires.1, name_number_room a.rows.nodes.now a.rows.links.now a.row a.j (ap digit c.in-Name.is))

pub push_list-requires : goal.push_list-requires
push_list-requires c =
    let a = c.args in
    let h = lists c.in-Nodes.is in
    let p = c.requires.0 in
    let n = next_at a.rows.nodes.now a.row a.j in
    (rw n at (p.list h), rw n at (p.few h), omega (arith, c.requires.1, list_number_room a.rows.nodes.now a.rows.links.now a.row a.j h))

pub returns-in-Plain : goal.returns-in-Plain
returns-in-Plain c = let a = c.args in pushed_none _ _ _ (rw (plain_number a.rows.nodes.now a.rows.links.now a.row a.j (ap digit c.in-Plain.is)) none_present)

pub returns-in-Child : goal.returns-in-Child
returns-in-Child c = let a = c.args in rw (child_number a.rows.nodes.now a.rows.links.now a.row a.j (ap digit c.in-Child.is)) (c.push_row.ensures (seen c.args.rows))

pub returns-in-Letters : goal.returns-in-Letters
returns-in-Letters c =
    let a = c.args in
    let e = ap digit c.in-Letters.is in
    rw (string_number a.rows.nodes.now a.rows.links.now a.row a.j e) (pushed_one _ _ _ _ (omega (arith, c.requires.1, string_room a.rows.nodes.now a.rows.links.now a.row a.j e)) (string_waits (seen a.rows) _ _) c.push.ensures)

pub returns-in-Name : goal.returns-in-Name
returns-in-Name c =
    let a = c.args in
    let e = ap digit c.in-Name.is in
    rw (name_number a.rows.nodes.now a.rows.links.now a.row a.j e) (pushed_one _ _ _ _ (omega (arith, c.requires.1, name_number_room a.rows.nodes.now a.rows.links.now a.row a.j e)) (name_waits (seen a.rows) _ _ (c.requires.0.name e) (omega (arith, c.requires.0.inside))) c.push-in-Name.ensures)

pub returns-in-Nodes : goal.returns-in-Nodes
returns-in-Nodes c = let a = c.args in rw (list_number a.rows.nodes.now a.rows.links.now a.row a.j (lists c.in-Nodes.is)) c.push_list.ensures
