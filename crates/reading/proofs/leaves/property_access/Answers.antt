-- `leaves::property_access` goes on with a dot and a name.
use mathlib.Core.Path.{ap}
use native.Mathlib.Omega.{arith}
use Rattle.grammar.specs.Edition.{edition}
use Rattle.grammar.specs.Kaori.{calls, rules, kaori}
use Rattle.reading.proofs.Chains.{stops_lacking}
use Rattle.reading.proofs.Leaf.{property_read, property_refused}
use Rattle.reading.proofs.Refusals as Refuses
use Rattle.reading.proofs.Replies.{token_taken, success, further}
use Rattle.reading.proofs.Taking.{ready_led, free}
use Rattle.reading.proofs.leaves.property_access.Goals as goal

pub returns-in_default : goal.returns-in_default
unfolding kaori rules
returns-in_default c p =
    stops_lacking c.in_default.is c.consume-read.ensures (λ s b n. further b (ap (kaori (edition c.args.terms.edition) calls) c.requires.at_value) (Refuses.missing n))

pub name-read-requires : goal.name-read-requires
name-read-requires c = ready_led c.requires.ready (token_taken c.in-Node.is c.consume-read.ensures) (λ e. omega arith)

pub returns-in_default-read : goal.returns-in_default-read
returns-in_default-read c p = property_refused c.requires.ready (token_taken c.in-Node.is c.consume-read.ensures) c.in_default-read.is c.name-read.ensures

pub property_access-node-requires : goal.property_access-node-requires
property_access-node-requires c = free c.requires.ready.lent (success c.in-Node-read.is c.name-read.ensures).within

pub made-requires : goal.made-requires
made-requires c = free c.requires.ready.lent (success c.in-Node-read.is c.name-read.ensures).within

pub returns : goal.returns
returns c p =
    property_read c.requires.ready (token_taken c.in-Node.is c.consume-read.ensures) c.made.ensures (success c.in-Node-read.is c.name-read.ensures)
    c.property_access-node.ensures
