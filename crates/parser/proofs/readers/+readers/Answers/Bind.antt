-- A `let`, `const` or `ref`, a name, a `=` and an expression: a row of the name and the expression.
use Prim.Native.Nat.{ℕ}
use native.Mathlib.Omega.{arith}
use lib.Dec.{eqb}
use mathlib.Core.Bool.{Bool, true, false, cond}
use mathlib.Core.List.{List, [], ◌∷◌}
use mathlib.Core.Path.{◌≡◌, refl, ap}
use Rattle.ast.specs.Inserted.{Tried}
use Rattle.ast.specs.declared.Node.{Node as Entry}
use Rattle.grammar.specs.Handle.{Handle, upto}
use Rattle.grammar.specs.Kaori.{Form, above}
use Rattle.grammar.specs.Kind.{Let, Const}
use Rattle.grammar.specs.Label.{Node, Label, number_of}
use Rattle.grammar.specs.Phrase.{node, whole}
use Rattle.grammar.specs.Rows.{make, put, fill, numbers, write}
use Rattle.grammar.specs.Rule.{child, named, writes, rule}
use Rattle.grammar.specs.Space.{has_word}
use Rattle.grammar.specs.Token.{start as start_of}
use Rattle.grammar.proofs.Room.{paid, spare}
use Rattle.names.specs.Resolved.{names_of}
use Rattle.reading.specs.Answers.{node_of, Answered}
use Rattle.reading.specs.Parts.{Makes, binding_node}
use Rattle.reading.specs.Reading.{Reading}
use Rattle.reading.specs.State.{State, state, written, Within, Ready}
use Rattle.reading.specs.declared.Cursor.{Cursor}
use Rattle.reading.specs.declared.Read.{Read}
use Rattle.reading.specs.declared.Terms.{Terms}
use Rattle.reading.proofs.Bound.{Paid}
use Rattle.reading.proofs.Laws.{both, ready_on}
use Rattle.reading.proofs.Refusals as Refuses
use Rattle.reading.proofs.Replies.{success, token_taken, passed, lacks, after}
use Rattle.reading.proofs.Taking.{starts, past_at, led, led_refused, ready_led, free, tried_as, row_answered, binder_low}
use Rattle.parser.proofs.readers.+readers.Goals as goal

-- the rows of the three differ in their kind alone
binds : (ts : List ℕ) (σ : ℕ → ℕ) (a b : ℕ) (xs ys : List Handle) (x y : Handle)
    (is-let is-const : Bool) → rule ts σ (cond is-let Node.Variable (cond is-const Node.Constant Node.Ref)) a b xs ys x y ≡ writes (start_of ts a) (upto y) (named x ∷ child y ∷ [])
unfolding rule
binds ts σ a b xs ys x y true is-const = refl
binds ts σ a b xs ys x y false true = refl
binds ts σ a b xs ys x y false false = refl

bound_plain : (is-let is-const : Bool) → has_word (Label.Row (cond is-let Node.Variable (cond is-const Node.Constant Node.Ref))) ≡ false
unfolding has_word
bound_plain true is-const = refl
bound_plain false true = refl
bound_plain false false = refl

bound_answered : (k : ℕ) {ts ns ns' ls ss : List ℕ} {terms : Terms} {o i u v j f e : ℕ} {s : State} {p : Form} {c : Cursor} {n : Entry} {q : Read} → Makes n c q → Ready ts terms o s →
    Paid (node (Label.Row (binding_node k)) p) → Reading ts terms (whole p) o s (Handle.name i u v ∷ []) (Handle.node j f e ∷ []) (state ns ls ss c) → Within ts (state ns ls ss c) →
    Tried c.nodes (number_of (binding_node k)) (start_of ts s.cursor.at) e (i ∷ u ∷ v ∷ j ∷ []) ns ns' n → Answered ts terms node_of (whole (node (Label.Row (binding_node k)) p)) o
    s ns' ls ss q
unfolding make put fill numbers write
bound_answered k {ts} {ns} {ls = ls} {ss = ss} {i = i} {u} {v} {j} {f} {e} {s} {c = c} m h p r w z =
    let x : Handle = Handle.name i u v in
    let y : Handle = Handle.node j f e in
    row_answered m h p r w z
    (ap (λ q. put (number_of (binding_node k)) q (written (state ns ls ss c))) (binds ts (names_of ts ss) s.cursor.at c.at (x ∷ []) (y ∷ []) x y (eqb k Let) (eqb k Const))) (bound_plain (eqb k Let) (eqb k Const))

pub bind-returns-in_default : goal.bind-returns-in_default
bind-returns-in_default t c =
    let l = binder_low c.requires.binder in
    lacks c.in_default.is c.consume-read.ensures (λ h. Refuses.in_node (Refuses.missing h))

pub bind-name-read-requires : goal.bind-name-read-requires
bind-name-read-requires t c =
    let lead = token_taken c.in-Node.is c.consume-read.ensures in
    let l = binder_low c.requires.binder in
    ready_led c.requires.ready lead (λ e. omega arith)

pub bind-returns-in_default-read : goal.bind-returns-in_default-read
bind-returns-in_default-read t c =
    let lead = token_taken c.in-Node.is c.consume-read.ensures in
    let l = binder_low c.requires.binder in
    passed c.in_default-read.is c.name-read.ensures (λ x h. Refuses.in_node (led_refused lead (Refuses.in_first h)))

pub bind-consume-read-requires-2 : goal.bind-consume-read-requires-2
bind-consume-read-requires-2 t c =
    let word = success c.in-Node-read.is c.name-read.ensures in
    word.within.at

pub bind-returns-in_default-read-2 : goal.bind-returns-in_default-read-2
bind-returns-in_default-read-2 t c =
    let lead = token_taken c.in-Node.is c.consume-read.ensures in
    let word = success c.in-Node-read.is c.name-read.ensures in
    let l = binder_low c.requires.binder in
    lacks c.in_default-read-2.is c.consume-read-2.ensures
    (λ h. Refuses.in_node (led_refused lead (after word.reading (Refuses.missing h))))

pub bind-expression-read-requires : goal.bind-expression-read-requires
bind-expression-read-requires t c =
    let lead = token_taken c.in-Node.is c.consume-read.ensures in
    let word = success c.in-Node-read.is c.name-read.ensures in
    let sign = token_taken c.in-Node-read-2.is c.consume-read-2.ensures in (
      omega (arith, past_at lead, word.past, word.within.at, past_at sign),
      ready_led (ready_on c.requires.ready word.within) sign (λ e. omega arith),
    )

pub bind-returns-in_default-read-3 : goal.bind-returns-in_default-read-3
bind-returns-in_default-read-3 t c =
    let lead = token_taken c.in-Node.is c.consume-read.ensures in
    let word = success c.in-Node-read.is c.name-read.ensures in
    let sign = token_taken c.in-Node-read-2.is c.consume-read-2.ensures in
    let l = binder_low c.requires.binder in
    passed c.in_default-read-3.is c.expression-read.ensures
    (λ x h. Refuses.in_node (led_refused lead (after word.reading (led_refused sign h))))

pub bind-bound-node-requires : goal.bind-bound-node-requires
bind-bound-node-requires t c =
    let right = success c.in-Node-read-3.is c.expression-read.ensures in
    free c.requires.ready.lent right.within

pub bind-made-requires : goal.bind-made-requires
bind-made-requires t c =
    let right = success c.in-Node-read-3.is c.expression-read.ensures in
    free c.requires.ready.lent right.within

pub bind-returns : goal.bind-returns
unfolding paid spare above
bind-returns t c =
    let lead = token_taken c.in-Node.is c.consume-read.ensures in
    let word = success c.in-Node-read.is c.name-read.ensures in
    let sign = token_taken c.in-Node-read-2.is c.consume-read-2.ensures in
    let right = success c.in-Node-read-3.is c.expression-read.ensures in
    let l = binder_low c.requires.binder in
    bound_answered c.args.kind c.made.ensures c.requires.ready (record { pays = tt })
    (led lead (both word.reading (led sign right.reading))) right.within
    (tried_as (starts lead) refl refl c.bound-node.ensures)
