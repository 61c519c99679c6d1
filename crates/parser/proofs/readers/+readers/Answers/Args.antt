-- The arguments of a call, up to what ends them: the loop keeps a listing, and each turn holds one argument more.
use native.Mathlib.Omega.{arith}
use mathlib.Core.Path.{refl}
use Rattle.grammar.specs.Kaori.{rules as form_rules, arguments as table}
use Rattle.grammar.proofs.Halves.{arguments_list}
use Rattle.grammar.proofs.Tables.{items_end, items_on}
use Rattle.reading.proofs.Listings.{listing_none, listing_more, listing_end, lists, item_refused, item_less, hold_room, hold_number}
use Rattle.reading.proofs.Replies.{success}
use Rattle.parser.proofs.readers.+readers.Goals as goal

pub args-list-init : goal.args-list-init
args-list-init t c = listing_none (arguments_list _) c.requires

pub args-returns-in_default-read : goal.args-returns-in_default-read
unfolding form_rules
args-returns-in_default-read t c =
    let on = items_on _ table _ refl (rw c.kind_at-kind.ensures at c.in_default.in_default-own.rest.1) in
    item_refused c.list.invariant
    on c.in_default-read.is
    c.arg-read.ensures

pub args-push-requires : goal.args-push-requires
args-push-requires t c =
    let item = success c.in-Node.is c.arg-read.ensures in
    hold_room item.within

pub args-overflow_add-now : goal.args-overflow_add-now
args-overflow_add-now t c =
    let item = success c.in-Node.is c.arg-read.ensures in
    omega (arith, hold_number item.within c.requires.ready.lent)

pub args-list-smaller : goal.args-list-smaller
unfolding form_rules
args-list-smaller t c =
    let on = items_on _ table _ refl (rw c.kind_at-kind.ensures at c.in_default.in_default-own.rest.1) in
    let item = success c.in-Node.is c.arg-read.ensures in
    item_less c.list.invariant on item

pub args-list-preserved : goal.args-list-preserved
unfolding form_rules
args-list-preserved t c =
    let on = items_on _ table _ refl (rw c.kind_at-kind.ensures at c.in_default.in_default-own.rest.1) in
    let item = success c.in-Node.is c.arg-read.ensures in
    listing_more c.list.invariant on item c.push.ensures refl

pub args-returns : goal.args-returns
unfolding form_rules
args-returns t c = lists (listing_end c.list.invariant (items_end _ table _ refl (rw c.kind_at-kind.ensures at c.in-18.is)))
