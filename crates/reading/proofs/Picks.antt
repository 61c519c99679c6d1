-- Which form a kind picks.
use Prim.Native.Nat.{ℕ, ◌≤◌, ◌<◌}
use native.Mathlib.Decide.{ℕ_discrete}
use native.Mathlib.Omega.{arith}
use mathlib.Core.Bool.{Bool, true, false, cond}
use mathlib.Core.List.{List, [], ◌∷◌}
use mathlib.Core.Logic.{◌⊎◌, inl, inr, ⊎_elim}
use mathlib.Core.Path.{◌≡◌, refl, sym, ap, ◌∙◌}
use lib.Dec.{eqb}
use borrow.Author.Tests.{eq-eqb, ne_eqb}
use Rattle.ast.specs.Inserted.{Tried}
use Rattle.ast.specs.declared.Node.{Node}
use Rattle.grammar.specs.Edition.{Edition, edition}
use Rattle.grammar.specs.Handle.{Handle}
use Rattle.grammar.specs.Kaori.{Form, Table, kaori, rules, above, unary, leaf, expression, group, grouping, reference, operand, returned, calls, operators}
use Rattle.grammar.specs.Kind.{Dot, Pipe, LeftParen, Hash, LeftBrace, And, Or, If, True, False, Nil, NumberLiteral, Identifier, Eof}
use Rattle.grammar.specs.Label.{Label, number_of}
use Rattle.grammar.specs.Label as label
use Rattle.grammar.specs.Operator.{joining, place, binary_operators}
use Rattle.grammar.specs.Phrase.{empty, token, node, choice, refusal, whole}
use Rattle.grammar.specs.Refusal.{Refused}
use Rattle.grammar.specs.Rows.{make, put, fill, numbers, write}
use Rattle.grammar.specs.Rule.{rule}
use Rattle.grammar.specs.Space.{has_word}
use Rattle.grammar.specs.Token.{kind}
use Rattle.grammar.proofs.Room.{paid, spare}
use Rattle.grammar.proofs.Tables.{unlisted}
use Rattle.token.specs.Level.{level}
use Rattle.token.proofs.Operators.{operator_link}
use Rattle.names.specs.Resolved.{names_of}
use Rattle.reading.specs.Answers.{node_of, Answered}
use Rattle.reading.specs.Parts.{Makes, Bare, head_form, chained_form, Sign, Other, Single, single_node, joined_fields}
use Rattle.reading.specs.State.{State, state, written, Lent, Within}
use Rattle.reading.specs.declared.Cursor.{Cursor}
use Rattle.reading.specs.declared.Read.{Read}
use Rattle.reading.specs.declared.Terms.{Terms}
use Rattle.reading.proofs.Bound.{Paid}
use Rattle.reading.proofs.Entering.{entered_alone, Tries, row_tried}
use Rattle.reading.proofs.Laws.{plain, chosen}
use Rattle.reading.proofs.Refusals as Refuses
use Rattle.reading.proofs.Replies.{mapped}
use Rattle.reading.specs.Reading.{tables, Refusing}

-- an answer of the form that the table has for the next token
pub picked : {ts : List ℕ} {terms : Terms} {h : Node → Handle} {t : Table} {p : Form} {o : ℕ} {s : State} {ns ls ss : List ℕ} (r : Read) → tables terms t (kind ts s.cursor.at) ≡ p →
    Answered ts terms h (whole p) o s ns ls ss r → Answered ts terms h (whole (choice t)) o s ns ls ss r
picked r e a = mapped r (omega arith) a (λ n c z. chosen e z) (λ x y. Refuses.in_choice e y)

-- the kinds from `true` to `nil`
spelt : {A : Type 0} (x : ℕ) → True ≤ x → x < NumberLiteral → (x ≡ True → A) → (x ≡ False → A) → (x ≡ Nil → A) → A
spelt x h k f g n = elim (ℕ_discrete x True) [ yes e ↦ f e | no e ↦ elim (ℕ_discrete x False) [ yes d ↦ g d | no d ↦ n (omega arith) ] ]

pub a_single : {x : ℕ} → True ≤ x → x < NumberLiteral → Single x
a_single {x} h k = record { known = spelt x h k (λ e. inr (inr (inl e))) (λ e. inr (inr (inr (inl e)))) (λ e. inr (inr (inr (inr (inl e))))) }

pub signed : (e : Edition) {x : ℕ} → Sign x → kaori e operand x ≡ unary x
unfolding kaori rules
signed e s = ⊎_elim (λ e. rw e) (λ e. rw e) s.known

pub one_token : (e : Edition) {x : ℕ} → True ≤ x → x < NumberLiteral → kaori e operand x ≡ leaf (single_node x) x
unfolding kaori rules
one_token e {x} h i = spelt x h i (λ e. rw e) (λ e. rw e) (λ e. rw e)

pub one_number : (e : Edition) {x : ℕ} → x ≡ NumberLiteral → kaori e operand x ≡ leaf (single_node x) x
unfolding kaori rules
one_number e h = rw h

-- what a table has for a kind that it does not list
pub no_call : (e : Edition) {x : ℕ} → (x ≡ Dot → ⊥) → (x ≡ LeftParen → ⊥) → kaori e calls x ≡ empty
unfolding rules
no_call e {x} h k = unlisted e calls x (k, (h, tt))

-- no operand starts with it: what a `match` over the rarer kinds of operands says of its last arm
pub no_operand : (d : Edition) {x y : ℕ} → x ≡ y → Other y → ((((Unit {0} × (x ≡ Pipe → ⊥)) × (x ≡ Hash → ⊥)) × (x ≡ LeftBrace → ⊥)) × (x ≡ If → ⊥)) → (True ≤ x → NumberLiteral ≤ x) → kaori d operand y ≡ refusal 9
unfolding rules
no_operand d {x} {y} k s r h =
    unlisted d operand y (
      s.not_plus,
      (
        s.not_not,
        (
          s.not_minus,
          (
            s.not_caret,
            (
              (λ e. r.1 (k ∙ e)),
              (
                (λ e. r.0.0.0.1 (k ∙ e)),
                (
                  s.not_paren,
                  (
                    (λ e. r.0.1 (k ∙ e)),
                    (
                      s.not_number,
                      (
                        (λ e. spelt_out (omega (arith, e, k)) (omega (arith, e, k))),
                        (
                          (λ e. spelt_out (omega (arith, e, k)) (omega (arith, e, k))),
                          ((λ e. spelt_out (omega (arith, e, k)) (omega (arith, e, k))), (s.not_string, (s.not_name, ((λ e. r.0.0.1 (k ∙ e)), tt)))),
                        ),
                      ),
                    ),
                  ),
                ),
              ),
            ),
          ),
        ),
      ),
    )
  where
    spelt_out : True ≤ x → x < NumberLiteral → ⊥
    spelt_out i j = let d : NumberLiteral ≤ x = h i in omega (arith, d, j)

-- the edition that a number names
pub is_second : {n : ℕ} → n ≡ 2 → edition n ≡ Edition.second
unfolding edition
is_second {n} e = rw (eq-eqb n 2 e)

pub is_first : {n : ℕ} → (n ≡ 2 → ⊥) → edition n ≡ Edition.first
unfolding edition
is_first {n} h = rw (ne_eqb n 2 h)

-- what follows a `return`, from its edition and the kind after it
module _ {n x y : ℕ} {r : Bool} (k : x ≡ y) (b : Bare n x r) where
  pub stands_alone : r ≡ true → kaori (edition n) returned y ≡ empty
  stands_alone e = ap (kaori (edition n) returned) (sym k) ∙ rw e at b.form

  pub takes_expression : r ≡ false → kaori (edition n) returned y ≡ expression
  takes_expression e = ap (kaori (edition n) returned) (sym k) ∙ rw e at b.form

-- parentheses and names are what a chain may start with
pub head_entry : (e : Edition) {x : ℕ} → (x ≡ LeftParen) ⊎ (x ≡ Identifier) → kaori e operand x ≡ chained_form e x
unfolding kaori rules chained_form
head_entry e = ⊎_elim (λ h. rw h) (λ h. rw h)

-- it has a token for its node, and what refuses it refuses it with what may follow
pub head_paid : (x : ℕ) → Paid (head_form x)
unfolding head_form paid spare above
head_paid x = pick (eqb x LeftParen)
  where
    pick : (b : Bool) → Paid (cond b group (leaf label.Node.Identifier Identifier))
    pick true = record { pays = tt }
    pick false = record { pays = tt }

pub head_refused : {ts : List ℕ} {terms : Terms} {o : ℕ} {s : State} {q : Refused} (e : Edition) (x : ℕ) → Refusing ts terms (head_form x) o s q → Refusing ts terms (chained_form e x) o s q
unfolding head_form chained_form
head_refused {ts} {terms} {o} {s} {q} e x = pick (eqb x LeftParen) e
  where
    pick : (b : Bool) (e : Edition) → Refusing ts terms (cond b group (leaf label.Node.Identifier Identifier)) o s q → Refusing ts terms (cond b (grouping e) reference) o s q
    pick true Edition.first h = h
    pick true Edition.second h = Refuses.in_start h
    pick false e h = Refuses.in_start h

-- an operator, from its kind and its level
module _ {x y l : ℕ} (k : x ≡ y) (e : l ≡ level x) where
  pub level_is : level y ≡ l
  level_is = ap level (sym k) ∙ sym e

  pub level_most : {n : ℕ} → n ≤ l → n ≤ level y
  level_most h = let z = level_is in omega (arith, z)

  pub operator_form : (d : Edition) → l < 6 → kaori d (operators l) y ≡ node (Label.Row (joining y)) (token y (above l))
  operator_form d h = operator_link d l y h level_is

pub operator_goes : {x l : ℕ} → l ≡ level x → l < 6 → x ≡ Eof → ⊥
operator_goes {x} {l} e h d = let z : l ≡ 6 = e ∙ ap level d in omega (arith, z)

-- the kind that was read is one that the table lists
pub picked_as : {ts : List ℕ} {terms : Terms} {h : Node → Handle} {p : Form} {o x k : ℕ} {s : State} {ns ls ss : List ℕ} (r : Read) (t : Table) → k ≡ kind ts s.cursor.at → k ≡ x →
    tables terms t x ≡ p → Answered ts terms h (whole p) o s ns ls ss r → Answered ts terms h (whole (choice t)) o s ns ls ss r
picked_as r t k e z a = picked r (ap (kaori _ t) (sym k ∙ e) ∙ z) a

-- two operands and the operator between them make what `joined` writes
joined_row : (ts : List ℕ) (a b : ℕ) (n m : Node) (c : Cursor) (ns ls ss : List ℕ) →
    make ts (names_of ts ss) (Label.Row (joining (kind ts a))) a b (written (state ns ls ss c)) (node_of n ∷ []) (node_of m ∷ []) ≡ entered_alone c ns ls (number_of (joining (kind ts a)))
    n.start m.end (joined_fields (kind ts a) n.id m.id)
unfolding make put fill numbers write rule
joined_row ts a b n m c ns ls ss = pick (eqb (kind ts a) And) (eqb (kind ts a) Or)
  where
    pick : (d e : Bool) →
        make ts (names_of ts ss) (Label.Row (cond d label.Node.LogicalAnd (cond e label.Node.LogicalOr label.Node.Binary))) a b (written (state ns ls ss c)) (node_of n ∷ []) (node_of m ∷ []) ≡
        entered_alone c ns ls (number_of (cond d label.Node.LogicalAnd (cond e label.Node.LogicalOr label.Node.Binary))) n.start m.end
        (cond d (n.id ∷ m.id ∷ []) (cond e (n.id ∷ m.id ∷ []) (place (kind ts a) binary_operators ∷ n.id ∷ m.id ∷ [])))
    pick true e = refl
    pick false true = refl
    pick false false = refl

joined_plain : (x : ℕ) → has_word (Label.Row (joining x)) ≡ false
unfolding has_word
joined_plain x = pick (eqb x And) (eqb x Or)
  where
    pick : (d e : Bool) → has_word (Label.Row (cond d label.Node.LogicalAnd (cond e label.Node.LogicalOr label.Node.Binary))) ≡ false
    pick true e = refl
    pick false true = refl
    pick false false = refl

pub operator_tried : {ts : List ℕ} {a x : ℕ} {n m k : Node} {c : Cursor} {ns ns' ls ss : List ℕ} {r : Read} → x ≡ kind ts a → Within ts (state ns ls ss c) → Lent ts → Makes k c r →
    Tried c.nodes (number_of (joining x)) n.start m.end (joined_fields x n.id m.id) ns ns' k →
    Tries ts (Label.Row (joining (kind ts a))) a (state ns ls ss c) (node_of n ∷ []) (node_of m ∷ []) ns' ls ss r
operator_tried {ts} {a} {n = n} {m = m} {c = c} {ns = ns} {ls = ls} {ss = ss} e w l o i =
    row_tried w l (λ h z. plain (joined_plain (kind ts a)) h) (joined_row ts a c.at n m c ns ls ss) o (rw e at i)
