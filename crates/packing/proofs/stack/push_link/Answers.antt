-- `push_link` meets its contract: a name; a value and then its key; a row.
use native.Mathlib.Omega.{arith}
use mathlib.Core.List.{[], ◌∷◌}
use mathlib.Core.Path.{ap}
use Rattle.packing.specs.Digits.{digit}
use Rattle.packing.specs.Seen.{seen}
use Rattle.packing.proofs.Digits.{no_names, no_entries}
use Rattle.packing.proofs.Stacking.{pushed_one, pushed_both, link_waits, name_link, entry_link, node_link, name_room, entry_room, node_room}
use Rattle.packing.proofs.stack.push_link.Goals as goal

pub push-requires : goal.push-requires
push-requires c = omega (arith, c.requires.1, name_room c.args.rows.links.now c.args.k (ap digit c.in-Names.is))

pub returns-in-Names : goal.returns-in-Names
returns-in-Names c =
    let e = ap digit c.in-Names.is in
    rw (name_link c.args.rows.links.now c.args.k e) (pushed_one _ _ _ _ (omega (arith, c.requires.1, name_room c.args.rows.links.now c.args.k e)) (link_waits _ _) c.push.ensures)

pub push_row-above-requires : goal.push_row-above-requires
push_row-above-requires c = omega (arith, c.requires.1, entry_room c.args.rows.links.now c.args.k (ap digit c.in-Entries.is))

pub push_row-requires : goal.push_row-requires
push_row-requires c =
    omega (arith, c.requires.1, entry_room c.args.rows.links.now c.args.k (ap digit c.in-Entries.is), (c.push_row-above.ensures (seen c.args.rows)).many, c.push_row-above.auto.stack)

pub returns-in-Entries : goal.returns-in-Entries
returns-in-Entries c = rw (entry_link c.args.rows.links.now c.args.k (ap digit c.in-Entries.is)) (pushed_both (_ ∷ []) (_ ∷ []) (c.push_row-above.ensures (seen c.args.rows)) (c.push_row.ensures (seen c.args.rows)))

pub push_row-requires-in_default : goal.push_row-requires-in_default
push_row-requires-in_default c = omega (arith, c.requires.1, node_room c.args.rows.links.now c.args.k (no_names c.in_default.not-Names) (no_entries c.in_default.not-Entries))

pub returns-in_default : goal.returns-in_default
returns-in_default c = rw (node_link c.args.rows.links.now c.args.k (no_names c.in_default.not-Names) (no_entries c.in_default.not-Entries)) (c.push_row-in_default.ensures (seen c.args.rows))
