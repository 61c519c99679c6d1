-- Statements and blocks: a statement's form and what ends it, and a block's tail, which is no list item.
use Prim.Native.Nat.{ℕ, ◌+◌, ◌-◌, ◌*◌, ◌≤◌, ◌<◌}
use native.Mathlib.Omega.{arith}
use mathlib.Core.Bool.{Bool, true, false, cond, false≢true}
use mathlib.Core.List.{List, [], ◌∷◌, ◌++◌, append_assoc, map}
use mathlib.Core.Logic.{◌⊎◌, inl, inr, ⊎_elim}
use mathlib.Core.Path.{◌≡◌, refl, sym, ap, ◌∙◌}
use lib.Dec.{eqb}
use lib.ListN.{length, take, length-append}
use lib.Seq.{take-take, take_at, length-take-le}
use borrow.Author.Tests.{eqb-true, eqb-false, ne_eqb}
use Rattle.ast.specs.Written.{Written}
use Rattle.ast.specs.declared.Node.{Node}
use Rattle.grammar.specs.Edition.{Edition}
use Rattle.grammar.specs.Handle.{Handle, absent, row, link, last, is_tail, block_tail, block_list}
use Rattle.grammar.specs.Kaori.{Form, Table, statement, block_items, may_end, must_end, assignment, semicolon, rules, look, kaori}
use Rattle.grammar.specs.Kind.{LeftBrace, RightBrace, Function, While, If, Semicolon}
use Rattle.grammar.specs.Label.{Label}
use Rattle.grammar.specs.Phrase.{empty, node, choice, once, whole, begun}
use Rattle.grammar.specs.Rows.{links_of, make}
use Rattle.grammar.specs.Space.{has_word}
use Rattle.grammar.specs.Token.{kind, end}
use Rattle.grammar.proofs.Halves.{Lists as List-table}
use Rattle.grammar.proofs.Room.{links_length}
use Rattle.grammar.proofs.Tables.{Unlisted, keyed, unkeyed}
use Rattle.reading.specs.Answers.{next, node_of, tail_of, AnswerCase, Answered, Listed, FillCase, Fills, Stated, StateCase, States}
use Rattle.reading.specs.Parts.{forms, form_of, ending, Ends, Ended, Untailed}
use Rattle.reading.specs.Reading.{tables, refusal, Success, Refusing}
use Rattle.reading.specs.State.{State, state, held, Ready, Opened}
use Rattle.reading.specs.declared.Cursor.{Cursor}
use Rattle.reading.specs.declared.Read.{Read}
use Rattle.reading.specs.declared.Refusal.{Refusal}
use Rattle.reading.specs.declared.Terms.{Terms}
use Rattle.reading.proofs.Laws.{plain, Made, unwritten, nothing, chosen, ended, alone, joined, taken, ready_next, ready_on}
use Rattle.reading.proofs.Listings.{pushed, links_append, Statements, listing_none, none_items, listing_more, more_items}
use Rattle.reading.proofs.Refusals as Refuses
use Rattle.reading.proofs.Replies.{after_once}
use Rattle.parser.proofs.Sorts.{tail_present, statement_link}

-- a table whose entries are made alike
ended_look : (end : ℕ → Table) (es : List (ℕ × Form)) (p : Form) (x : ℕ) {t : Table} → (Unlisted x es → end x ≡ t) →
    look (map (λ e. (e.0, once e.1 (end e.0))) es) (once p t) x ≡ once (look es p x) (end x)
ended_look end [] p x h = rw (h tt)
ended_look end (e ∷ es) p x {t} h = go (eqb x e.0) refl (λ n. ended_look end es p x (λ u. h (n, u)))
  where
    go : (b : Bool) → eqb x e.0 ≡ b → ((x ≡ e.0 → ⊥) → look (map (λ e. (e.0, once e.1 (end e.0))) es) (once p t) x ≡ once (look es p x) (end x)) →
        cond (eqb x e.0) (once e.1 (end e.0)) (look (map (λ e. (e.0, once e.1 (end e.0))) es) (once p t) x) ≡ once (cond (eqb x e.0) e.1 (look es p x)) (end x)
    go true z f = let y = eqb-true x e.0 z in rw (z, y)
    go false z f = rw z (f (eqb-false x e.0 z))

unlisted_ending : (x : ℕ) → Unlisted x forms → ending x ≡ must_end
unfolding ending
unlisted_ending x u = simp (ne_eqb x LeftBrace u.1.0, ne_eqb x If u.1.1.0, ne_eqb x Function u.1.1.1.0, ne_eqb x While u.1.1.1.1.0)

-- what a statement is that starts with a token of kind x
pub statement_form : (e : Edition) (x : ℕ) → kaori e statement x ≡ once (form_of x) (ending x)
unfolding kaori rules form_of ending
statement_form e x = ended_look ending forms assignment x (unlisted_ending x)

-- what may end a statement
ending_is : (x : ℕ) → (ending x ≡ may_end) ⊎ (ending x ≡ must_end)
unfolding ending
ending_is x = go (eqb x LeftBrace) (eqb x If) (eqb x Function) (eqb x While)
  where
    go : (a b c d : Bool) → (cond a may_end (cond b may_end (cond c may_end (cond d may_end must_end))) ≡ may_end) ⊎
        (cond a may_end (cond b may_end (cond c may_end (cond d may_end must_end))) ≡ must_end)
    go true b c d = inl refl
    go false true b c = inl refl
    go false false true b = inl refl
    go false false false true = inl refl
    go false false false false = inr refl

-- what the end's table has for the token after the form: y is its kind, x that of the statement's first
module _ (e : Edition) (y x : ℕ) where
  taken_end : y ≡ Semicolon → kaori e (ending x) y ≡ semicolon
  unfolding kaori rules
  taken_end h = ap (kaori e (ending x)) h ∙ ⊎_elim (λ z. ap (λ t. kaori e t Semicolon) z) (λ z. ap (λ t. kaori e t Semicolon) z) (ending_is x)

  no_end : (y ≡ Semicolon → ⊥) → (y ≡ RightBrace) ⊎ (ending x ≡ may_end) → kaori e (ending x) y ≡ empty
  unfolding rules
  no_end n i = ⊎_elim may (λ z. ⊎_elim (brace z) may i) (ending_is x)
    where
      may : ending x ≡ may_end → kaori e (ending x) y ≡ empty
      may z = ap (λ t. kaori e t y) z ∙ unkeyed _ may_end y refl n

      brace : ending x ≡ must_end → y ≡ RightBrace → kaori e (ending x) y ≡ empty
      brace z h = ap (λ t. kaori e t y) z ∙ keyed _ must_end y refl h

  lacking_end : (y ≡ RightBrace → ⊥) → ending x ≡ must_end → kaori e (ending x) y ≡ semicolon
  unfolding rules
  lacking_end n z = ap (λ t. kaori e t y) z ∙ unkeyed _ must_end y refl n

-- a statement's form was read, and then its end; or it was refused
module _ {ts : List ℕ} {terms : Terms} {o : ℕ} {s : State} {ns ls ss : List ℕ} where
  states_refused : {q : Refusal} → Refusing ts terms (choice statement) o s (refusal q) → States ts terms o s ns ls ss (Read.Refused q)
  unfolding StateCase
  states_refused h = record { says = h }

  ended_by : {n m : Node} {c d : Cursor} → Ready ts terms o s → Success ts terms (whole (form_of (kind ts s.cursor.at))) o s (node_of n ∷ []) (state ns ls ss c) →
      (kind ts c.at ≡ Semicolon) × (m ≡ record { id = n.id; start = 0; end = absent }) × (d ≡ next c) → States ts terms o s ns ls ss (Read.Node m d)
  unfolding StateCase make has_word
  ended_by {n} {c = c} r z (k, em, ed) =
      let made : Made ts Label.Ended c.at (state ns ls ss (next c)) (node_of n ∷ []) [] (Handle.ended n.id ∷ []) (state ns ls ss (next c)) = unwritten (λ h e. plain refl h) refl in
      let v = chosen (statement_form _ (kind ts s.cursor.at)) (joined z.reading (taken_end _ (kind ts c.at) (kind ts s.cursor.at) k) (taken k (nothing r.deep)) made) in
      rw (em, ed)
      (record {
        says = record {
          handle = Handle.ended n.id;
          row_is = refl;
          start_is = refl;
          tail_is = refl;
          success = record { reading = v; within = (ready_next (ready_on r z.within) k (λ y. omega arith)).within; past = omega (arith, z.past) };
        };
      })

  alone_by : {n m : Node} {c d : Cursor} → Success ts terms (whole (form_of (kind ts s.cursor.at))) o s (node_of n ∷ []) (state ns ls ss c) →
      (kind ts c.at ≡ Semicolon → ⊥) × ((kind ts c.at ≡ RightBrace) ⊎ (ending (kind ts s.cursor.at) ≡ may_end)) × (m ≡ record { id = n.id; start = 0; end = n.id }) × (d ≡ c) →
      States ts terms o s ns ls ss (Read.Node m d)
  unfolding StateCase
  alone_by {n} {c = c} z (k, b, em, ed) =
      let v = chosen (statement_form _ (kind ts s.cursor.at)) (alone (no_end _ (kind ts c.at) (kind ts s.cursor.at) k b) z.reading) in
      rw (em, ed) (record { says = record { handle = node_of n; row_is = refl; start_is = refl; tail_is = refl; success = record { reading = v; within = z.within; past = z.past } } })

  pub statement_ends : {n : Node} {c : Cursor} {x : ℕ} (r : Read) → Ready ts terms o s →
      Success ts terms (whole (form_of (kind ts s.cursor.at))) o s (node_of n ∷ []) (state ns ls ss c) → x ≡ kind ts s.cursor.at → Ended ts n c x r → States ts terms o s ns ls ss r
  unfolding Ends
  statement_ends (Read.Node m d) i z e w = ⊎_elim (ended_by i z) (alone_by z) (rw e at w).says
  statement_ends {c = c} (Read.Refused q) i z e w =
      let (k, b, y, v) = (rw e at w).says in
      rw v (states_refused (Refuses.in_choice (statement_form _ (kind ts s.cursor.at)) (after_once z.reading (lacking_end _ (kind ts c.at) (kind ts s.cursor.at) b y) (Refuses.missing k))))

  pub statement_refused : {r : Read} {q : Refusal} → r ≡ Read.Refused q → Answered ts terms node_of (whole (form_of (kind ts s.cursor.at))) o s ns ls ss r → States ts terms o s ns ls ss r
  unfolding AnswerCase
  statement_refused {q = q} e a = rw e (states_refused (Refuses.in_choice (statement_form _ (kind ts s.cursor.at)) (Refuses.in_only (rw e at a).says)))

-- a block's tail: after one more item, and what is left of the items without it
last_more : (hs : List Handle) (h : Handle) → last (hs ++ (h ∷ [])) ≡ h
last_more [] h = refl
last_more (g ∷ []) h = refl
last_more (g ∷ f ∷ hs) h = last_more (f ∷ hs) h

pub tail_none : row (block_tail []) ≡ absent
unfolding block_tail
tail_none = refl

pub tail_next : (hs : List Handle) (h : Handle) → row (block_tail (hs ++ (h ∷ []))) ≡ row (tail_of h)
unfolding block_tail
tail_next hs h = rw (last_more hs h)

no_tail : (hs : List Handle) → is_tail (last hs) ≡ false → block_list hs ≡ hs
unfolding block_list
no_tail [] e = refl
no_tail (h ∷ []) e = rw e
no_tail (h ∷ g ∷ hs) e = ap (λ l. h ∷ l) (no_tail (g ∷ hs) e)

one_tail : (hs : List Handle) → is_tail (last hs) ≡ true → hs ≡ block_list hs ++ (last hs ∷ [])
unfolding block_list
one_tail [] e = absurd (false≢true e)
one_tail (h ∷ []) e = rw e
one_tail (h ∷ g ∷ hs) e = ap (λ l. h ∷ l) (one_tail (g ∷ hs) e)

-- what is held without the last
shorter : (n : ℕ) (ss xs : List ℕ) (hs : List Handle) (h : Handle) → 3 * n ≤ length ss → take (3 * n) ss ≡ xs ++ links_of (hs ++ (h ∷ [])) → take (3 * (n - 1)) ss ≡ xs ++ links_of hs
shorter n ss xs hs h i e =
    let split : take (3 * n) ss ≡ (xs ++ links_of hs) ++ links_of (h ∷ []) = e ∙ rw (links_append hs (h ∷ [])) (sym (append_assoc xs (links_of hs) (links_of (h ∷ [])))) in
    let l = length-take-le (3 * n) ss i in
    let k = simp length-append at (ap length split) in
    let m : length (xs ++ links_of hs) ≡ 3 * (n - 1) = simp length-append (omega (arith, links_length (h ∷ []), k, l)) in
    sym (take-take (3 * (n - 1)) (3 * n) ss (omega arith)) ∙ ap (take (3 * (n - 1))) split ∙ take_at (xs ++ links_of hs) (links_of (h ∷ [])) (3 * (n - 1)) m

-- a block's items are read: a tail is held no more
module _ {ts : List ℕ} {terms : Terms} {o : ℕ} {s : State} {ns ls ss : List ℕ} {c : Cursor} {tail : ℕ} (l : Listed ts terms (begun empty block_items) o s (state ns ls ss c))
    (t : tail ≡ row (block_tail l.items)) where
  pub tail_held : (tail ≡ absent → ⊥) → 1 ≤ c.held
  unfolding block_tail
  tail_held n = go l.items t l.count
    where
      go : (hs : List Handle) → tail ≡ row (block_tail hs) → c.held ≡ s.cursor.held + length hs → 1 ≤ c.held
      go [] e k = absurd (n e)
      go (h ∷ hs) e k = omega arith

  pub block_ends : {r : Read} → Ready ts terms o s → tables terms block_items (kind ts c.at) ≡ empty → Untailed tail c r → Fills ts terms o s ns ls ss r
  unfolding FillCase block_tail
  block_ends {r} i e u = go (is_tail (last l.items)) refl
    where
      go : (b : Bool) → is_tail (last l.items) ≡ b → Fills ts terms o s ns ls ss r
      go false z =
          let y = no_tail l.items z in
          let a : tail ≡ absent = t ∙ rw z in
          rw (u.none a)
          (record {
            says = record {
              items = l.items;
              reading = ended e l.reading;
              tail = t;
              start_is = refl;
              end_is = refl;
              count = rw y l.count;
              rows = rw y l.rows;
              within = l.within;
              past = l.past;
            };
          })
      go true z =
          let y = one_tail l.items z in
          let a : tail ≡ row (last l.items) = t ∙ rw z in
          let hs = block_list l.items in
          let h = last l.items in
          let n : length l.items ≡ length hs + 1 = ap length y ∙ length-append hs (h ∷ []) in
          let w = l.within in
          let room : 3 * c.held ≤ length ss = omega (arith, w.links, w.at, w.roomy.scratch) in
          let rows : held (state ns ls ss c) ≡ held s ++ links_of (hs ++ (h ∷ [])) = l.rows ∙ ap (λ k. held s ++ links_of k) y in
          let few : c.nodes < absent = omega (arith, w.rows, w.at, i.lent.whole.most) in
          rw (u.one (λ x. tail_present few i.within l.reading z (sym a ∙ x))) (record {
            says = record {
              items = l.items;
              reading = ended e l.reading;
              tail = t;
              start_is = refl;
              end_is = refl;
              count = omega (arith, l.count);
              rows = shorter c.held ss (held s) hs h room rows;
              within =
                  record {
                    roomy = record { scratch = w.roomy.scratch };
                    stands = w.stands;
                    at = w.at;
                    rows = w.rows;
                    links = omega (arith, w.links);
                    stack = omega (arith, w.stack);
                  };
              past = l.past;
            };
          })

-- what the loop over a block's statements keeps: at its start, and after one more
module _ {ts : List ℕ} {terms : Terms} {o : ℕ} {s : State} where
  pub statements_none : Opened ts terms o s → Statements ts terms o s s absent
  statements_none r = record { listing = listing_none List-table.block r; last = sym (ap (λ k. row (block_tail k)) (none_items List-table.block r) ∙ tail_none) }

  pub statements_more : {s₁ : State} {tail : ℕ} {n : Node} {ns ls ss ss' : List ℕ} {c : Cursor} → Statements ts terms o s s₁ tail →
      tables terms block_items (kind ts s₁.cursor.at) ≡ node Label.Item (choice statement) → Stated ts terms o s₁ n (state ns ls ss c) →
      Written (3 * c.held) (3 * (c.held + 1)) (n.id ∷ 0 ∷ 0 ∷ []) ss ss' → Statements ts terms o s (state ns ls ss' (pushed c)) n.end
  statements_more {n = n} x e z w =
      let l = x.listing in
      let f : n.id ∷ 0 ∷ 0 ∷ [] ≡ link z.handle = sym (statement_link l.listed.within z.success.reading ∙ ap (λ i. i ∷ 0 ∷ 0 ∷ []) z.row_is) in
      record { listing = listing_more l e z.success w f; last = sym (ap (λ k. row (block_tail k)) (more_items l e z.success w f) ∙ tail_next l.listed.items z.handle ∙ z.tail_is) }
