-- The entries of a map, up to what ends them: the loop keeps a listing, and each turn holds one entry more.
use native.Mathlib.Omega.{arith}
use mathlib.Core.Path.{refl}
use Rattle.grammar.specs.Kaori.{rules as form_rules, entries as table}
use Rattle.grammar.proofs.Halves.{entries_list}
use Rattle.grammar.proofs.Tables.{items_end, items_on}
use Rattle.reading.proofs.Listings.{listing_none, listing_more, listing_end, lists, item_refused, item_less, hold_room, hold_number}
use Rattle.reading.proofs.Replies.{success}
use Rattle.parser.proofs.readers.+readers.Goals as goal

pub pairs-list-init : goal.pairs-list-init
pairs-list-init t c = listing_none (entries_list _) c.requires

pub pairs-returns-in_default-read : goal.pairs-returns-in_default-read
unfolding form_rules
pairs-returns-in_default-read t c =
    let on = items_on _ table _ refl (rw c.kind_at-kind.ensures at c.in_default.in_default-own.rest.1) in
    item_refused c.list.invariant
    on c.in_default-read.is
    c.pair-read.ensures

pub pairs-push-requires : goal.pairs-push-requires
pairs-push-requires t c =
    let item = success c.in-Node.is c.pair-read.ensures in
    hold_room item.within

pub pairs-overflow_add-now : goal.pairs-overflow_add-now
pairs-overflow_add-now t c =
    let item = success c.in-Node.is c.pair-read.ensures in
    omega (arith, hold_number item.within c.requires.ready.lent)

pub pairs-list-smaller : goal.pairs-list-smaller
unfolding form_rules
pairs-list-smaller t c =
    let on = items_on _ table _ refl (rw c.kind_at-kind.ensures at c.in_default.in_default-own.rest.1) in
    let item = success c.in-Node.is c.pair-read.ensures in
    item_less c.list.invariant on item

pub pairs-list-preserved : goal.pairs-list-preserved
unfolding form_rules
pairs-list-preserved t c =
    let on = items_on _ table _ refl (rw c.kind_at-kind.ensures at c.in_default.in_default-own.rest.1) in
    let item = success c.in-Node.is c.pair-read.ensures in
    listing_more c.list.invariant on item c.push.ensures refl

pub pairs-returns : goal.pairs-returns
unfolding form_rules
pairs-returns t c = lists (listing_end c.list.invariant (items_end _ table _ refl (rw c.kind_at-kind.ensures at c.in-21.is)))
