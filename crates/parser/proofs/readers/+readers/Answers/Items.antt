-- The statements of a block, up to what ends them: the loop keeps a list of them, and the row of the last if it may be the tail.
use Prim.Native.Nat.{ℕ}
use native.Mathlib.Omega.{arith}
use mathlib.Core.List.{List}
use mathlib.Core.Path.{◌≡◌, refl}
use Rattle.grammar.specs.Kaori.{rules as form_rules, statement as a_statement, block_items}
use Rattle.grammar.specs.Phrase.{empty, choice, chain}
use Rattle.grammar.specs.Refusal.{Refused}
use Rattle.grammar.proofs.Tables.{items_end, items_on}
use Rattle.reading.specs.Answers.{StateCase, States, FillCase, Fills}
use Rattle.reading.specs.Reading.{refusal, Refusing}
use Rattle.reading.specs.State.{State}
use Rattle.reading.specs.declared.Read.{Read}
use Rattle.reading.specs.declared.Refusal.{Refusal}
use Rattle.reading.specs.declared.Terms.{Terms}
use Rattle.reading.proofs.Listings.{item_less, hold_room, hold_number}
use Rattle.reading.proofs.Refusals.{lowered}
use Rattle.reading.proofs.Replies.{stated, further}
use Rattle.parser.proofs.Statements.{statements_none, statements_more, tail_held, block_ends}
use Rattle.parser.proofs.readers.+readers.Goals as goal

-- a statement is refused
passed : {ts : List ℕ} {terms : Terms} {o o' : ℕ} {s s' : State} {ns ls ss : List ℕ} {r : Read} {q : Refusal} → r ≡ Read.Refused q → States ts terms o' s' ns ls ss r →
    ((x : Refused) → Refusing ts terms (choice a_statement) o' s' x → Refusing ts terms (chain empty block_items) o s x) → Fills ts terms o s ns ls ss r
unfolding StateCase FillCase
passed {q = q} e a up = rw e (record { says = up (refusal q) (rw e at a).says })

pub items-list-init : goal.items-list-init
items-list-init t c = statements_none c.requires

pub items-returns-in_default-read : goal.items-returns-in_default-read
unfolding form_rules
items-returns-in_default-read t c =
    let on = items_on _ block_items _ refl (rw c.kind_at-kind.ensures at c.in_default.in_default-own.rest.1) in
    passed c.in_default-read.is c.statement-read.ensures
    (λ x h. further c.list.invariant.listing.listed.reading
    on (lowered h))

pub items-push-requires : goal.items-push-requires
items-push-requires t c =
    hold_room
    (stated c.in-Node.is c.statement-read.ensures).success.within

pub items-overflow_add-now : goal.items-overflow_add-now
items-overflow_add-now t c =
    omega (
      arith,
      hold_number
          (stated c.in-Node.is
          c.statement-read.ensures).success.within
          c.requires.ready.lent,
    )

pub items-list-smaller : goal.items-list-smaller
unfolding form_rules
items-list-smaller t c =
    let on = items_on _ block_items _ refl (rw c.kind_at-kind.ensures at c.in_default.in_default-own.rest.1) in
    item_less
    c.list.invariant.listing
    on
    (stated c.in-Node.is
    c.statement-read.ensures).success

pub items-list-preserved : goal.items-list-preserved
unfolding form_rules
items-list-preserved t c =
    let on = items_on _ block_items _ refl (rw c.kind_at-kind.ensures at c.in_default.in_default-own.rest.1) in
    statements_more c.list.invariant
    on
    (stated c.in-Node.is
    c.statement-read.ensures) c.push.ensures

pub items-untailed-requires : goal.items-untailed-requires
items-untailed-requires t c =
    let i = c.list.invariant in tail_held i.listing.listed i.last

pub items-returns : goal.items-returns
unfolding form_rules
items-returns t c =
    let i = c.list.invariant in block_ends i.listing.listed i.last c.requires.ready
    (items_end _ block_items _ refl (rw c.kind_at-kind.ensures at c.in-21.is)) c.untailed.ensures
