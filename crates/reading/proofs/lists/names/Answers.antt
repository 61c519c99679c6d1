-- Names up to a closer: the loop keeps a listing, and each turn holds one name more.
use mathlib.Core.Logic.{inl, inr, ⊎_elim}
use mathlib.Core.Path.{refl}
use native.Mathlib.Omega.{arith}
use Rattle.grammar.proofs.Halves.{names_list}
use Rattle.grammar.proofs.Tables.{items_end, items_on}
use Rattle.grammar.specs.Kaori.{name, comma, names, rules}
use Rattle.grammar.specs.Phrase.{part, choice}
use Rattle.reading.proofs.Listings.{listing_none, listing_more, listing_end, lists, ItemOf, item_refused, item_less, hold_room, hold_number}
use Rattle.reading.proofs.Replies.{success}
use Rattle.reading.proofs.lists.names.Goals as goal
use Rattle.reading.proofs.lists.names.Goals.{After-listed-read}

-- where the loop goes on: what the table has there
on : (c : After-listed-read) → ItemOf c.list.invariant (part name (choice (comma c.args.closer)))
unfolding rules
on c =
    let k = c.kind_at-kind.ensures in
    items_on _ (names _) _ refl (⊎_elim (rw k at c.if-kind-closer.false) (rw k at c.if-kind-eq-EOF.false))

pub list-init : goal.list-init
list-init c = listing_none (names_list _ _) c.requires.opened

pub returns-in_default : goal.returns-in_default
returns-in_default c = item_refused c.list.invariant (on (goal.at.returns-in_default c).After-listed-read) c.in_default.is c.listed-read.ensures

pub push-requires : goal.push-requires
push-requires c = hold_room (success c.in-Node.is c.listed-read.ensures).within

pub overflow_add-now : goal.overflow_add-now
overflow_add-now c = omega (arith, hold_number (success c.in-Node.is c.listed-read.ensures).within c.requires.opened.ready.lent)

pub list-smaller : goal.list-smaller
list-smaller c = item_less c.list.invariant (on (goal.at.list-smaller c).After-listed-read) (success c.in-Node.is c.listed-read.ensures)

pub list-preserved : goal.list-preserved
list-preserved c = listing_more c.list.invariant (on (goal.at.list-preserved c).After-listed-read) (success c.in-Node.is c.listed-read.ensures) c.push.ensures refl

pub returns : goal.returns
unfolding rules
returns c =
    let k = c.kind_at-kind.ensures in
    lists (listing_end c.list.invariant (items_end _ (names _) _ refl (⊎_elim (λ e. inl (rw k at e)) (λ e. inr (rw k at e.1)) c.then-kind-closer.either)))
