-- The statements up to Eof: the loop keeps a listing, as that of any list, and the kind of the token after it; each turn holds one statement more.
use Prim.Native.Nat.{ℕ}
use native.Mathlib.Omega.{arith}
use mathlib.Core.List.{List, [], ◌∷◌}
use mathlib.Core.Path.{◌≡◌, refl, sym, ap, ◌∙◌}
use Rattle.ast.specs.declared.Node.{Node}
use Rattle.grammar.specs.Handle.{link}
use Rattle.grammar.specs.Kaori.{rules, script_items, statement as a_statement}
use Rattle.grammar.specs.Phrase.{empty, choice, chain, whole}
use Rattle.grammar.specs.Refusal.{Refused}
use Rattle.grammar.proofs.Halves.{Lists as List-table}
use Rattle.grammar.proofs.Tables.{keyed, unkeyed}
use Rattle.reading.specs.Answers.{StateCase, States, Stated, ListCase, Lists}
use Rattle.reading.specs.Reading.{refusal, Refusing}
use Rattle.reading.specs.State.{State, Within}
use Rattle.reading.specs.declared.Read.{Read}
use Rattle.reading.specs.declared.Refusal.{Refusal}
use Rattle.reading.specs.declared.Terms.{Terms}
use Rattle.reading.proofs.Listings.{ItemOf, listing_none, listing_more, listing_end, lists, item_less, hold_room, hold_number}
use Rattle.reading.proofs.Refusals.{lowered}
use Rattle.reading.proofs.Replies.{stated, further}
use Rattle.parser.proofs.Sorts.{statement_link}
use Rattle.syntax.proofs.statements.Goals as goal
use Rattle.syntax.proofs.statements.Goals.{After-statement-read}

-- a statement is refused
passed : {ts : List ℕ} {terms : Terms} {o o' : ℕ} {s s' : State} {ns ls ss : List ℕ} {r : Read} {q : Refusal} → r ≡ Read.Refused q → States ts terms o' s' ns ls ss r →
    ((x : Refused) → Refusing ts terms (choice a_statement) o' s' x → Refusing ts terms (chain empty script_items) o s x) → Lists ts terms (whole (chain empty script_items)) o s ns ls ss r
unfolding StateCase ListCase
passed {q = q} e a up = rw e (record { says = up (refusal q) (rw e at a).says })

-- the row that is held for a statement is its link row
row_held : {ts : List ℕ} {terms : Terms} {o : ℕ} {s s' : State} {n : Node} → Within ts s → (z : Stated ts terms o s n s') → n.id ∷ 0 ∷ 0 ∷ [] ≡ link z.handle
row_held w z = sym (statement_link w z.success.reading ∙ ap (λ i. i ∷ 0 ∷ 0 ∷ []) z.row_is)

-- where the script goes on: what its table has there
on : (c : After-statement-read) → ItemOf c.list.invariant.listing (choice a_statement)
unfolding rules
on c = unkeyed _ script_items _ refl (rw c.list.invariant.next_is at c.if-kind-eq-EOF.false)

pub list-init : goal.list-init
list-init c = record { listing = listing_none List-table.script c.requires; next_is = c.kind_at-kind.ensures }

pub returns-in_default : goal.returns-in_default
returns-in_default c =
    passed c.in_default.is c.statement-read.ensures
    (λ x h. further c.list.invariant.listing.listed.reading (on (goal.at.returns-in_default c).After-statement-read) (lowered h))

pub push-requires : goal.push-requires
push-requires c = hold_room (stated c.in-Node.is c.statement-read.ensures).success.within

pub overflow_add-now : goal.overflow_add-now
overflow_add-now c = omega (arith, hold_number (stated c.in-Node.is c.statement-read.ensures).success.within c.requires.ready.lent)

pub kind_at-kind-requires-in-list : goal.kind_at-kind-requires-in-list
kind_at-kind-requires-in-list c = (stated c.in-Node.is c.statement-read.ensures).success.within.at

pub list-smaller : goal.list-smaller
list-smaller c =
    item_less c.list.invariant.listing (on (goal.at.list-smaller c).After-statement-read) (stated c.in-Node.is c.statement-read.ensures).success

pub list-preserved : goal.list-preserved
list-preserved c =
    let l = c.list.invariant.listing in
    let z = stated c.in-Node.is c.statement-read.ensures in
    record {
      listing = listing_more l (on (goal.at.list-preserved c).After-statement-read) z.success c.push.ensures (row_held l.listed.within z);
      next_is = c.kind_at-kind-in-list.ensures;
    }

pub returns : goal.returns
unfolding rules
returns c = lists (listing_end c.list.invariant.listing (keyed _ script_items _ refl (rw c.list.invariant.next_is at c.if-kind-eq-EOF.true)))
