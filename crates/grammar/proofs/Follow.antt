-- In edition 1 neither `(` nor `.` follows an operand, and no operand begins with `;` or `}`. So what edition 1 reads is read, as the same tree, by a grammar in the
-- middle, which has edition 2's tables but for `not`; and by edition 2 where there is no `not`.
use Prim.Native.Nat.{ℕ, zero, suc, ◌≤◌, ◌<◌}
use mathlib.Core.Bool.{Bool, true, false, cond, not, ◌&&◌, ◌||◌}
use mathlib.Core.Logic.{◌⊎◌, inl, inr}
use mathlib.Core.Path.{◌≡◌, refl, sym, ◌∙◌}
use native.Mathlib.Decide.{ℕ_discrete}
use native.Mathlib.Omega.{arith}
use lib.Dec.{eqb, T}
use borrow.Author.Tests.{eq-eqb, ne_eqb, eqb-true}
use Rattle.grammar.specs.Edition.{Edition}
use Rattle.grammar.specs.Kaori.{Table, Form, above, expression, denial, group, rules, kaori, script, semicolon, Script}
use Rattle.grammar.specs.Kind.{Comma, Dot, LeftParen, RightBrace, Not, Semicolon}
use Rattle.grammar.specs.Label.{Label}
use Rattle.grammar.specs.Phrase.{empty, token, part, nested, node, choice, chain, once, refusal, Grammar, Tree, Aim, whole, begun, Reads}
use Rattle.grammar.proofs.Machine.{asked}
use Rattle.grammar.proofs.Tables.{each, in_tables}
use Rattle.grammar.proofs.Tests.{both, all, as_true}

-- neither `(` nor `.`
unfoldable pub calm : ℕ → Bool
calm x = not (eqb x LeftParen) && not (eqb x Dot)

-- of a table: whether it is that of operands; whether what it has may end in an operand; whether it may have nothing at a token that is not calm; whether all
-- that it has begins with a calm token; and whether it is one of operators
unfoldable pub traits : Table → Bool × Bool × Bool × Bool × Bool
traits Table.statement = (false, false, true, false, false)
traits Table.returned = (false, true, true, false, false)
traits Table.bindings = (false, false, true, false, false)
traits Table.path_name = (false, false, true, false, false)
traits Table.otherwise = (false, false, true, true, false)
traits Table.branch = (false, false, true, false, false)
traits Table.operand = (true, true, true, false, false)
traits Table.body = (false, true, true, false, false)
traits Table.value = (false, true, true, true, false)
traits (Table.comma z) = (false, false, not (calm z), true, false)
traits Table.script_items = (false, false, true, false, false)
traits Table.block_items = (false, false, true, false, false)
traits Table.arguments = (false, false, true, false, false)
traits Table.entries = (false, false, true, false, false)
traits (Table.names z) = (false, false, true, false, false)
traits Table.may_end = (false, false, true, false, false)
traits Table.must_end = (false, false, false, true, false)
traits Table.assigned = (false, true, true, true, false)
traits Table.dots = (false, false, true, false, false)
traits Table.calls = (false, false, true, false, false)
traits (Table.operators n) = (false, true, true, true, true)

-- edition 2 with the `not` of edition 1
unfoldable pub middle : Grammar Table Label
middle n x = cond ((traits n).0 && eqb x Not) (denial Edition.first) (kaori Edition.second n x)

-- of a form: whether it may be empty where the token after it is not calm; and whether what it reads begins with a calm token, if it is not empty
unfoldable thin : Form → Bool
thin empty = true
thin (token x p) = false
thin (part p q) = thin p && thin q
thin (nested k p) = thin p
thin (node f p) = thin p
thin (choice n) = (traits n).2
thin (chain p n) = true
thin (once p n) = true
thin (refusal e) = false

unfoldable leads : Form → Bool
leads empty = true
leads (token x p) = calm x
leads (part p q) = leads p && leads q
leads (nested k p) = leads p
leads (node f p) = leads p
leads (choice n) = (traits n).3
leads (chain p n) = false
leads (once p n) = false
leads (refusal e) = true

-- whether it may end in an operand, and so asks for a calm token after it
unfoldable ends : Form → Bool
ends empty = false
ends (token x p) = ends p
ends (part p q) = ends q || (ends p && thin q)
ends (nested k p) = ends p
ends (node f p) = ends p
ends (choice n) = (traits n).1
ends (chain p n) = (ends p || (traits n).1) && (traits n).2
ends (once p n) = (traits n).1 || (ends p && (traits n).2)
ends (refusal e) = false

-- and whether all that stands after an operand in it begins with a calm token
unfoldable fit : Form → Bool
fit empty = true
fit (token x p) = fit p
fit (part p q) = cond (ends p) (leads q) true && (fit p && fit q)
fit (nested k p) = fit p
fit (node f p) = fit p
fit (choice n) = true
fit (chain p n) = cond (ends p || (traits n).1) (traits n).3 true && fit p
fit (once p n) = cond (ends p) (traits n).3 true && fit p
fit (refusal e) = true

fit_entry : Table → Form → Bool
fit_entry n p = cond (ends p) (traits n).1 true && (cond (traits n).3 (leads p) true && fit p)

-- how edition 1 and the middle agree on what a table has
data Agrees (n : Table) (x : ℕ) : Type 0 where
  same : kaori Edition.first n x ≡ middle n x → Agrees n x
  grouped : kaori Edition.first n x ≡ group → middle n x ≡ chain group Table.calls → T (traits n).1 → Agrees n x
  bare : kaori Edition.first n x ≡ expression → kaori Edition.first Table.operand x ≡ refusal 9 → Agrees n x

agrees_operand : (x : ℕ) → Agrees Table.operand x
unfolding kaori rules middle traits
agrees_operand x = elim (ℕ_discrete x Not) [
  | yes e ↦ Agrees.same (rw e)
  | no e ↦ elim (ℕ_discrete x LeftParen) [ yes f ↦ Agrees.grouped (rw f) (rw f) tt | no f ↦ Agrees.same (rw (ne_eqb x Not e, ne_eqb x LeftParen f)) ]
]

agrees_returned : (x : ℕ) → Agrees Table.returned x
unfolding kaori rules middle traits
agrees_returned x = elim (ℕ_discrete x Semicolon) [
  | yes e ↦ Agrees.bare refl (rw e)
  | no e ↦ elim (ℕ_discrete x RightBrace) [ yes f ↦ Agrees.bare refl (rw f) | no f ↦ Agrees.same (rw (ne_eqb x Semicolon e, ne_eqb x RightBrace f)) ]
]

-- where what a table has may be empty the table says so, or the token is calm
abbrev Closed : Table → ℕ → Type 0
Closed n x = T (thin (kaori Edition.first n x)) → T (traits n).2 ⊎ T (calm x)

closed_comma : (z x : ℕ) → Closed (Table.comma z) x
unfolding kaori rules thin traits
closed_comma z x = pick (eqb x z) refl (calm z) refl
  where
    pick : (b : Bool) → eqb x z ≡ b → (c : Bool) → calm z ≡ c → T (thin (cond b empty (token Comma empty))) → T (not c) ⊎ T (calm x)
    pick true e true f h = inr (let g : x ≡ z = eqb-true x z e in rw (g, f) tt)
    pick true e false f h = inl tt
    pick false e c f h = absurd h

closed_end : (x : ℕ) → Closed Table.must_end x
unfolding kaori rules thin traits calm
closed_end x = pick (eqb x RightBrace) refl
  where
    pick : (b : Bool) → eqb x RightBrace ≡ b → T (thin (cond b empty semicolon)) → T false ⊎ T (calm x)
    pick true e h = inr (let g : x ≡ RightBrace = eqb-true x RightBrace e in rw g tt)
    pick false e h = absurd h

tables_pass : (n : Table) → T (each (fit_entry n) (rules Edition.first n).0 (rules Edition.first n).1) × ((x : ℕ) → Agrees n x) × ((x : ℕ) → Closed n x)
unfolding kaori rules middle traits thin leads ends fit fit_entry above calm
tables_pass Table.statement = (tt, λ x. Agrees.same refl, λ x h. inl tt)
tables_pass Table.returned = (tt, agrees_returned, λ x h. inl tt)
tables_pass Table.bindings = (tt, λ x. Agrees.same refl, λ x h. inl tt)
tables_pass Table.path_name = (tt, λ x. Agrees.same refl, λ x h. inl tt)
tables_pass Table.otherwise = (tt, λ x. Agrees.same refl, λ x h. inl tt)
tables_pass Table.branch = (tt, λ x. Agrees.same refl, λ x h. inl tt)
tables_pass Table.operand = (tt, agrees_operand, λ x h. inl tt)
tables_pass Table.body = (tt, λ x. Agrees.same refl, λ x h. inl tt)
tables_pass Table.value = (tt, λ x. Agrees.same refl, λ x h. inl tt)
tables_pass (Table.comma z) = (tt, λ x. Agrees.same refl, closed_comma z)
tables_pass Table.script_items = (tt, λ x. Agrees.same refl, λ x h. inl tt)
tables_pass Table.block_items = (tt, λ x. Agrees.same refl, λ x h. inl tt)
tables_pass Table.arguments = (tt, λ x. Agrees.same refl, λ x h. inl tt)
tables_pass Table.entries = (tt, λ x. Agrees.same refl, λ x h. inl tt)
tables_pass (Table.names z) = (tt, λ x. Agrees.same refl, λ x h. inl tt)
tables_pass Table.may_end = (tt, λ x. Agrees.same refl, λ x h. inl tt)
tables_pass Table.must_end = (tt, λ x. Agrees.same refl, closed_end)
tables_pass Table.assigned = (tt, λ x. Agrees.same refl, λ x h. inl tt)
tables_pass Table.dots = (tt, λ x. Agrees.same refl, λ x h. inl tt)
tables_pass Table.calls = (tt, λ x. Agrees.same refl, λ x h. inl tt)
tables_pass (Table.operators zero) = (tt, λ x. Agrees.same refl, λ x h. inl tt)
tables_pass (Table.operators (suc zero)) = (tt, λ x. Agrees.same refl, λ x h. inl tt)
tables_pass (Table.operators (suc (suc zero))) = (tt, λ x. Agrees.same refl, λ x h. inl tt)
tables_pass (Table.operators (suc (suc (suc zero)))) = (tt, λ x. Agrees.same refl, λ x h. inl tt)
tables_pass (Table.operators (suc (suc (suc (suc zero))))) = (tt, λ x. Agrees.same refl, λ x h. inl tt)
tables_pass (Table.operators (suc (suc (suc (suc (suc zero)))))) = (tt, λ x. Agrees.same refl, λ x h. inl tt)
tables_pass (Table.operators (suc (suc (suc (suc (suc (suc n))))))) = (tt, λ x. Agrees.same refl, λ x h. inl tt)

implied : (a b : Bool) → T (cond a b true) → T a → T b
implied true b h i = h
implied false b h i = absurd i

left : (a b : Bool) → T a → T (a || b)
left true b h = tt
left false b h = absurd h

right : (a b : Bool) → T b → T (a || b)
right true b h = tt
right false b h = h

settle : (c : Bool) {P Q R : Type 0} → (T c → P ⊎ R) → (P → Q) → ((T c → Q) → R) → R
settle true f i g = elim (f tt) [ inl j ↦ g (λ k. i j) | inr j ↦ j ]
settle false f i g = g (λ k. absurd k)

-- what a table has passes the tests
record Passes (n : Table) (p : Form) : Type 0 where
  pub ends_so : T (ends p) → T (traits n).1
  pub leads_so : T (traits n).3 → T (leads p)
  pub is_fit : T (fit p)

entry : (n : Table) (x : ℕ) {p : Form} → kaori Edition.first n x ≡ p → Passes n p
unfolding fit_entry
entry n x {p} e =
    let h : T (fit_entry n p) = rw e at (in_tables Edition.first fit_entry (λ m. (tables_pass m).0) n x) in
    let (u, v) = both (cond (ends p) (traits n).1 true) _ h in
    let (y, z) = both (cond (traits n).3 (leads p) true) (fit p) v in
    record { ends_so = implied (ends p) _ u; leads_so = implied (traits n).3 _ y; is_fit = z }

-- and so does a link
linked : (n : Table) (x : ℕ) {f : Label} {q : Form} → kaori Edition.first n x ≡ node f q → Passes n q
unfolding ends leads fit
linked n x e = let h = entry n x e in record { ends_so = h.ends_so; leads_so = h.leads_so; is_fit = h.is_fit }

closed : (n : Table) (x : ℕ) {p : Form} → kaori Edition.first n x ≡ p → T (thin p) → T (traits n).2 ⊎ T (calm x)
closed n x e = rw e at ((tables_pass n).2 x)

-- where a table of links has nothing, the token is calm if the table does not say otherwise
stands : (n : Table) (x : ℕ) → kaori Edition.first n x ≡ empty → (T (traits n).2 → T (calm x)) → T (calm x)
unfolding thin
stands n x e i = elim (closed n x e tt) [ inl j ↦ i j | inr j ↦ j ]

-- the middle has the links of edition 1
same_end : (n : Table) (x : ℕ) → kaori Edition.first n x ≡ empty → middle n x ≡ empty
same_end n x e = elim ((tables_pass n).1 x) [
  | Agrees.same f ↦ sym f ∙ e
  | Agrees.grouped f g h ↦ absurd (let z : ◌≡◌ {A = ℕ} 0 1 = cc in omega arith)
  | Agrees.bare f g ↦ absurd (let z : ◌≡◌ {A = ℕ} 0 1 = cc in omega arith)
]

same_link : (n : Table) (x : ℕ) {f : Label} {q : Form} → kaori Edition.first n x ≡ node f q → middle n x ≡ node f q
same_link n x e = elim ((tables_pass n).1 x) [
  | Agrees.same f ↦ sym f ∙ e
  | Agrees.grouped f g h ↦ absurd (let z : ◌≡◌ {A = ℕ} 0 1 = cc in omega arith)
  | Agrees.bare f g ↦ absurd (let z : ◌≡◌ {A = ℕ} 0 1 = cc in omega arith)
]

-- a chain may follow a group in the middle, and there is none at a calm token
calls_end : (x : ℕ) → T (calm x) → middle Table.calls x ≡ empty
unfolding calm middle traits kaori rules
calls_end x = pick (eqb x LeftParen) (eqb x Dot) _ _
  where
    pick : (a b : Bool) (p q : Form) → T (not a && not b) → cond a p (cond b q empty) ≡ empty
    pick true b p q h = absurd h
    pick false true p q h = absurd h
    pick false false p q h = refl

-- whether a reading so far asks for a calm token
unfoldable asks : Aim Table Label → Bool
asks (whole p) = ends p
asks (begun p n) = ends p || (traits n).1

-- an expression begins with an operand
module _ {G : Grammar Table Label} {kind : ℕ → ℕ} where
  starts : {p : Form} {n : Table} {a b : ℕ} {t : Tree Label} → Reads G kind (begun p n) a b t → (c : ℕ) × (u : Tree Label) × Reads G kind (whole p) a c u
  starts (Reads.first x) = (_, _, x)
  starts (Reads.link l e x) = starts l

  operand_first : (n : ℕ) {a b : ℕ} {t : Tree Label} → Reads G kind (whole (above n)) a b t → (c : ℕ) × (u : Tree Label) × Reads G kind (whole (choice Table.operand)) a c u
  unfolding above
  operand_first zero x = (_, _, x)
  operand_first (suc n) (Reads.ended l e) = let (c, u, x) = starts l in operand_first n x

  no_operand : {a b : ℕ} {t : Tree Label} → G Table.operand (kind a) ≡ refusal 9 → Reads G kind (whole (choice Table.operand)) a b t → ⊥
  no_operand r (Reads.chosen f x) = never (sym f ∙ r) x
    where
      never : {q : Form} {a b : ℕ} {t : Tree Label} → q ≡ refusal 9 → Reads G kind (whole q) a b t → ⊥
      never r x = elim (rw r at x) [ ]

  pub no_expression : {a b : ℕ} {t : Tree Label} → G Table.operand (kind a) ≡ refusal 9 → Reads G kind (whole expression) a b t → ⊥
  no_expression r (Reads.opened x) = let (c, u, y) = operand_first 6 x in no_operand r y

module _ {kind : ℕ → ℕ} where
  -- what begins with a calm token, if it is not empty, stands at one
  leading : {q : Form} {a b : ℕ} {t : Tree Label} → Reads (kaori Edition.first) kind (whole q) a b t → T (leads q) → (T (thin q) → T (calm (kind b))) → T (calm (kind a))
  unfolding leads thin
  leading Reads.nothing h i = i tt
  leading (Reads.taken e r) h i = rw e h
  leading (Reads.both {p = p} {q = q} x y) h i = let (u, v) = both (leads p) (leads q) h in leading x u (λ j. leading y v (λ k. i (all (thin p) (thin q) j k)))
  leading (Reads.opened x) h i = leading x h i
  leading (Reads.labelled x) h i = leading x h i
  leading (Reads.chosen {n = n} {a = a} {b = b} {p = p} e x) h i = settle (thin p) (closed n (kind a) e) i (leading x ((entry n (kind a) e).leads_so h))
  leading (Reads.ended l e) h i = absurd h
  leading (Reads.alone x e) h i = absurd h
  leading (Reads.joined x e y) h i = absurd h

  -- what follows what is read in edition 1 is calm where it has to be, so it is read in the middle
  follow : {m : Aim Table Label} {a b : ℕ} {t : Tree Label} → Reads (kaori Edition.first) kind m a b t → T (fit (asked m)) → (T (asks m) → T (calm (kind b))) → Reads middle kind m a b t
  unfolding fit ends asks leads thin
  follow Reads.nothing h i = Reads.nothing
  follow (Reads.taken e r) h i = Reads.taken e (follow r h i)
  follow (Reads.both {p = p} {q = q} x y) h i =
      let (u, v) = both (cond (ends p) (leads q) true) (fit p && fit q) h in
      let (j, k) = both (fit p) (fit q) v in
      Reads.both (follow x j (λ o. leading y (implied (ends p) (leads q) u o) (λ z. i (right (ends q) _ (all (ends p) (thin q) o z))))) (follow y k (λ o. i (left (ends q) _ o)))
  follow (Reads.opened x) h i = Reads.opened (follow x h i)
  follow (Reads.labelled x) h i = Reads.labelled (follow x h i)
  follow (Reads.chosen {n = n} {a = a} e x) h i =
      let o = entry n (kind a) e in
      let r = follow x o.is_fit (λ z. i (o.ends_so z)) in
      elim ((tables_pass n).1 (kind a)) [
        | Agrees.same f ↦ Reads.chosen (sym f ∙ e) r
        | Agrees.grouped f g z ↦ Reads.chosen g (Reads.ended (Reads.first (rw (sym e ∙ f) at r)) (calls_end _ (i z)))
        | Agrees.bare f g ↦ absurd (no_expression g (rw (sym e ∙ f) at x))
      ]
  follow (Reads.first {n = n} {p = p} x) h i = Reads.first (follow x (both (cond (ends p || (traits n).1) (traits n).3 true) (fit p) h).1 (λ o. i (left (ends p) _ o)))
  follow (Reads.link {n = n} {b = b} {p = p} l e x) h i =
      let (u, v) = both (cond (ends p || (traits n).1) (traits n).3 true) (fit p) h in
      let o = linked n (kind b) e in
      Reads.link (follow l h (λ z. leading x (o.leads_so (implied (ends p || (traits n).1) (traits n).3 u z)) (λ k. i z))) (same_link n (kind b) e) (follow x o.is_fit (λ z. i (right (ends p) _ (o.ends_so z))))
  follow (Reads.ended {n = n} {b = b} {p = p} l e) h i = Reads.ended (follow l h (λ z. stands n (kind b) e (λ k. i (all (ends p || (traits n).1) (traits n).2 z k)))) (same_end n (kind b) e)
  follow (Reads.alone {n = n} {b = b} {p = p} x e) h i =
      let (u, v) = both (cond (ends p) (traits n).3 true) (fit p) h in
      Reads.alone (follow x v (λ z. stands n (kind b) e (λ k. i (right (traits n).1 _ (all (ends p) (traits n).2 z k))))) (same_end n (kind b) e)
  follow (Reads.joined {n = n} {b = b} {p = p} {q = q} x e y) h i =
      let (u, v) = both (cond (ends p) (traits n).3 true) (fit p) h in
      let o = linked n (kind b) e in
      Reads.joined (follow x v (λ z. settle (thin q) (closed n (kind b) e) (λ k. i (right (traits n).1 _ (all (ends p) (traits n).2 z k))) (leading y (o.leads_so (implied (ends p) (traits n).3 u z))))) (same_link n (kind b) e) (follow y o.is_fit (λ z. i (left (traits n).1 _ (o.ends_so z))))

-- the middle differs from edition 2 at a `not` alone
pub middle_same : (n : Table) (x : ℕ) → (T (traits n).0 → x ≡ Not → ⊥) → middle n x ≡ kaori Edition.second n x
unfolding middle
middle_same n x h = pick (traits n).0 (eqb x Not) (λ b e. h b (eqb-true x Not e))
  where
    pick : (b c : Bool) → (T b → c ≡ true → ⊥) → cond (b && c) (denial Edition.first) (kaori Edition.second n x) ≡ kaori Edition.second n x
    pick true true k = absurd (k tt refl)
    pick true false k = refl
    pick false c k = refl

-- a reading goes forth
pub forth : {G : Grammar Table Label} {kind : ℕ → ℕ} {m : Aim Table Label} {a b : ℕ} {t : Tree Label} → Reads G kind m a b t → a ≤ b
forth Reads.nothing = omega arith
forth (Reads.taken e x) = omega (arith, forth x)
forth (Reads.both x y) = omega (arith, forth x, forth y)
forth (Reads.opened x) = forth x
forth (Reads.labelled x) = forth x
forth (Reads.chosen e x) = forth x
forth (Reads.first x) = forth x
forth (Reads.link l e x) = omega (arith, forth l, forth x)
forth (Reads.ended l e) = forth l
forth (Reads.alone x e) = forth x
forth (Reads.joined x e y) = omega (arith, forth x, forth y)

-- at a `not` it has that of edition 1, which takes a token
middle_not : (n : Table) (x : ℕ) → T (traits n).0 → x ≡ Not → middle n x ≡ denial Edition.first
unfolding middle
middle_not n x h e = rw (as_true (traits n).0 h, eq-eqb x Not e)

pub end_same : (n : Table) (x : ℕ) → middle n x ≡ empty → kaori Edition.second n x ≡ empty
end_same n x e = sym (middle_same n x (λ i k. let f = middle_not n x i k in let z : ◌≡◌ {A = ℕ} 0 1 = cc in omega arith)) ∙ e

module _ {kind : ℕ → ℕ} where
  denied : {a b : ℕ} {t : Tree Label} → Reads middle kind (whole (denial Edition.first)) a b t → a < b
  denied (Reads.labelled (Reads.taken e x)) = omega (arith, forth x)

  -- so what is read where no `not` stands is read in edition 2
  chosen_same : (n : Table) {p : Form} {a b : ℕ} {t : Tree Label} → middle n (kind a) ≡ p → Reads middle kind (whole p) a b t → (a < b → kind a ≡ Not → ⊥) → kaori Edition.second n (kind a) ≡ p
  chosen_same n {a = a} e x h = sym (middle_same n (kind a) (λ i k. h (denied (rw (sym e ∙ middle_not n (kind a) i k) at x)) k)) ∙ e

  without : {m : Aim Table Label} {a b : ℕ} {t : Tree Label} → Reads middle kind m a b t → ((i : ℕ) → a ≤ i → i < b → kind i ≡ Not → ⊥) → Reads (kaori Edition.second) kind m a b t
  without Reads.nothing h = Reads.nothing
  without (Reads.taken e x) h = Reads.taken e (without x (λ i k. h i (omega arith)))
  without (Reads.both x y) h = let j = forth x in let k = forth y in Reads.both (without x (λ i u v. h i u (omega arith))) (without y (λ i u. h i (omega arith)))
  without (Reads.opened x) h = Reads.opened (without x h)
  without (Reads.labelled x) h = Reads.labelled (without x h)
  without (Reads.chosen {n = n} e x) h = Reads.chosen (chosen_same n e x (h _ (omega arith))) (without x h)
  without (Reads.first x) h = Reads.first (without x h)
  without (Reads.link {n = n} {f = f} l e x) h = let j = forth l in let k = forth x in Reads.link (without l (λ i u v. h i u (omega arith))) (chosen_same n e (Reads.labelled {f = f} x) (h _ j)) (without x (λ i u. h i (omega arith)))
  without (Reads.ended {n = n} {b = b} l e) h = Reads.ended (without l h) (end_same n (kind b) e)
  without (Reads.alone {n = n} {b = b} x e) h = Reads.alone (without x h) (end_same n (kind b) e)
  without (Reads.joined {n = n} {f = f} x e y) h = let j = forth x in let k = forth y in Reads.joined (without x (λ i u v. h i u (omega arith))) (chosen_same n e (Reads.labelled {f = f} y) (h _ j)) (without y (λ i u. h i (omega arith)))

  -- of a script
  pub script_middle : {n : ℕ} {t : Tree Label} → Script Edition.first kind n t → Reads middle kind (whole script) 0 n t
  unfolding fit ends asks traits
  script_middle x = follow x tt (λ h. absurd h)

  pub script_without : {n : ℕ} {t : Tree Label} → Script Edition.first kind n t → ((i : ℕ) → i < n → kind i ≡ Not → ⊥) → Script Edition.second kind n t
  script_without x h = without (script_middle x) (λ i k. h i)
