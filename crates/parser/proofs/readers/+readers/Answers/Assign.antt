-- An expression, and if a `=` comes, another: an Assign of the two.
use Prim.Native.Nat.{ℕ}
use native.Mathlib.Omega.{arith}
use mathlib.Core.Path.{◌≡◌, refl, sym, ap, ◌∙◌}
use Rattle.grammar.specs.Edition.{Edition}
use Rattle.grammar.specs.Kaori.{above, kaori, rules as form_rules, row, expression, assigned}
use Rattle.grammar.specs.Kind.{Assign}
use Rattle.grammar.specs.Label.{Node}
use Rattle.grammar.specs.Phrase.{token}
use Rattle.grammar.specs.Rows.{make, put, fill, numbers, write}
use Rattle.grammar.specs.Rule.{rule}
use Rattle.grammar.specs.Space.{has_word}
use Rattle.grammar.proofs.Room.{paid, spare}
use Rattle.grammar.proofs.Tables.{unkeyed}
use Rattle.reading.proofs.Entering.{row_tried}
use Rattle.reading.proofs.Laws.{plain, alone, taken, ready_next, ready_on}
use Rattle.reading.proofs.Refusals as Refuses
use Rattle.reading.proofs.Replies.{success, passed, answer, after_once, built_once}
use Rattle.reading.proofs.Taking.{free}
use Rattle.parser.proofs.readers.+readers.Goals as goal

-- a `=` after an expression is an assignment
assigned_link : (e : Edition) {x : ℕ} → x ≡ Assign → kaori e assigned x ≡ row Node.Assign (token Assign expression)
unfolding kaori form_rules
assigned_link e k = ap (kaori e assigned) k

pub assign-returns-in_default : goal.assign-returns-in_default
assign-returns-in_default t c = passed c.in_default.is c.expression-read.ensures (λ x h. Refuses.in_only h)

pub assign-kind_at-requires : goal.assign-kind_at-requires
assign-kind_at-requires t c =
    let left = success c.in-Node.is c.expression-read.ensures in
    left.within.at

pub assign-returns-then-kind_at-ne-ASSIGN : goal.assign-returns-then-kind_at-ne-ASSIGN
unfolding paid spare above form_rules
assign-returns-then-kind_at-ne-ASSIGN t c =
    let left = success c.in-Node.is c.expression-read.ensures in
    answer c.requires (record { pays = tt }) left.within.at
    (alone (unkeyed _ assigned _ refl (rw c.kind_at.ensures at c.if-kind_at-ne-ASSIGN.true)) left.reading)

pub assign-overflow_add-next : goal.assign-overflow_add-next
assign-overflow_add-next t c =
    let left = success c.in-Node.is c.expression-read.ensures in
    let w = left.within in omega (arith, w.at, c.requires.lent.whole.most)

pub assign-expression-turn-requires : goal.assign-expression-turn-requires
assign-expression-turn-requires t c =
    let left = success c.in-Node.is c.expression-read.ensures in (
      omega (arith, left.past, left.within.at),
      ready_next (ready_on c.requires left.within)
          (sym c.kind_at.ensures ∙ c.if-kind_at-ne-ASSIGN.false) (λ e. omega arith),
    )

pub assign-returns-in_default-turn : goal.assign-returns-in_default-turn
assign-returns-in_default-turn t c =
    let left = success c.in-Node.is c.expression-read.ensures in
    let k = sym c.kind_at.ensures ∙
    c.if-kind_at-ne-ASSIGN.false in
    passed c.in_default-turn.is c.expression-turn.ensures
    (λ x h. after_once left.reading (assigned_link _ k)
    (Refuses.past_token k h))

pub assign-assign-node-requires : goal.assign-assign-node-requires
assign-assign-node-requires t c =
    let right = success c.in-Node-turn.is c.expression-turn.ensures in
    free c.requires.lent right.within

pub assign-made-requires : goal.assign-made-requires
assign-made-requires t c =
    let right = success c.in-Node-turn.is c.expression-turn.ensures in
    free c.requires.lent right.within

pub assign-returns : goal.assign-returns
unfolding paid spare above make put fill numbers write rule has_word
assign-returns t c =
    let left = success c.in-Node.is c.expression-read.ensures in
    let right = success c.in-Node-turn.is c.expression-turn.ensures in
    let k = sym c.kind_at.ensures ∙ c.if-kind_at-ne-ASSIGN.false in
    let w = right.within in
    built_once c.requires (record { pays = tt }) w.at left.reading (assigned_link _ k) (taken k right.reading)
    (row_tried w c.requires.lent (λ h e. plain refl h) refl c.made.ensures c.assign-node.ensures)
