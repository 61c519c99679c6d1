-- A path is a step, and steps after dots: the loop keeps that whatever is held where it begins is held, and more.
use mathlib.Core.Path.{◌≡◌, refl}
use native.Mathlib.Omega.{arith}
use Rattle.grammar.proofs.Tables.{keyed, unkeyed}
use Rattle.grammar.specs.Kaori.{path_name, dots, rules}
use Rattle.grammar.specs.Kind.{Dot}
use Rattle.grammar.specs.Label.{Label}
use Rattle.grammar.specs.Phrase.{token, node, choice}
use Rattle.grammar.specs.Token.{kind}
use Rattle.reading.proofs.Laws.{opened_next, ready_on}
use Rattle.reading.proofs.Listings.{longer_none, longer_on, listed_first, listed_taken, listed_ended, lists, lists_passed_list}
use Rattle.reading.proofs.Refusals as Refuses
use Rattle.reading.proofs.Replies.{listed, further}
use Rattle.reading.proofs.lists.path.Goals as goal
use Rattle.reading.proofs.lists.path.Goals.{After-step-turn}
use Rattle.reading.specs.Reading.{tables}

-- where the loop goes on: a dot
dot : (c : After-step-turn) → kind c.args.tokens.now c.path.now.at ≡ Dot
dot c = rw c.kind_at.ensures at c.if-kind_at-ne-DOT.false

link : (c : After-step-turn) → tables c.args.terms dots (kind c.args.tokens.now c.path.now.at) ≡ node Label.Item (token Dot (choice path_name))
unfolding rules
link c = keyed _ dots _ refl (dot c)

pub returns-in_default : goal.returns-in_default
returns-in_default c = lists_passed_list c.in_default.is c.step-read.ensures (λ x h. Refuses.in_start h)

pub path-init : goal.path-init
path-init c = longer_none (listed c.in-Node.is c.step-read.ensures).within

pub overflow_add-next : goal.overflow_add-next
overflow_add-next c = omega (arith, c.path.invariant.within.at, c.requires.ready.lent.whole.most)

pub step-turn-requires : goal.step-turn-requires
step-turn-requires c =
    opened_next (ready_on c.requires.ready c.path.invariant.within) (rw c.kind_at.ensures at c.if-kind_at-ne-DOT.false) (λ e. omega arith)

pub returns-in_default-turn : goal.returns-in_default-turn
returns-in_default-turn c =
    let b = listed c.in-Node.is c.step-read.ensures in
    lists_passed_list c.in_default-turn.is c.step-turn.ensures
    (λ x h. further (c.path.invariant.grown _ (listed_first b)).reading (link (goal.at.returns-in_default-turn c).After-step-turn) (Refuses.lowered (Refuses.past_token (dot (goal.at.returns-in_default-turn c).After-step-turn) h)))

pub path-smaller : goal.path-smaller
path-smaller c = let z = listed c.in-Node-turn.is c.step-turn.ensures in omega (arith, z.past, z.within.at)

pub path-preserved : goal.path-preserved
path-preserved c = longer_on c.path.invariant (link (goal.at.path-preserved c).After-step-turn) (listed_taken (dot (goal.at.path-preserved c).After-step-turn) (listed c.in-Node-turn.is c.step-turn.ensures))

pub returns : goal.returns
unfolding rules
returns c =
    let b = listed c.in-Node.is c.step-read.ensures in
    lists (listed_ended (unkeyed _ dots _ refl (rw c.kind_at.ensures at c.if-kind_at-ne-DOT.true)) (c.path.invariant.grown _ (listed_first b)))
