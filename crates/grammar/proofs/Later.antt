-- What the grammar in the middle reads, edition 2 reads too, no deeper and with as many rows. A `not` that takes a whole expression takes its first operand instead,
-- and leaves the operators to the expression around it; everything else is read as it was.
use Prim.Native.Nat.{ℕ, zero, suc, ◌+◌, ◌≤◌, ◌<◌}
use mathlib.Core.Bool.{Bool, true, false, cond, not, ◌||◌}
use mathlib.Core.List.{List, [], ◌∷◌}
use mathlib.Core.Logic.{◌⊎◌, inl, inr}
use mathlib.Core.Path.{◌≡◌, refl, sym, ap, ◌∙◌}
use native.Mathlib.Decide.{ℕ_discrete}
use native.Mathlib.Omega.{arith}
use lib.Dec.{eqb, T}
use Rattle.grammar.specs.Edition.{Edition}
use Rattle.grammar.specs.Kaori.{an_expression, a_sign, Table, Form, above, expression, denial, unary, rules, look, kaori, script}
use Rattle.grammar.specs.Kind.{Plus, Minus, Caret, Not}
use Rattle.grammar.specs.Label.{Node, Label}
use Rattle.grammar.specs.Operator.{joining}
use Rattle.grammar.specs.Phrase.{Phrase, Tree, none, more, deeper, made, Aim, whole, begun, Reads, depth}
use Rattle.grammar.proofs.Follow.{traits, middle, middle_same, end_same}
use Rattle.grammar.proofs.Operands.{Operator, operator, Joins, Flat, Operands, sum_signed, raised, following, signed, all_joined, counted_joining, closes}
use Rattle.grammar.proofs.Tallies.{Tally, row_more, together, counted, tally}

-- a table of neither operands nor operators
abbrev other : Table → Bool
other n = not ((traits n).0 || (traits n).4)

-- how a form stands to operands: it has them in expressions alone, or it is one of a level, or an operator's with its right side
data Role : Type 0 where
  plain : Role
  level joint : ℕ → Role

data Sort : Role → Aim Table Label → Type 0 where
  empty : Sort plain (whole Phrase.empty)
  token : {x : ℕ} {p : Form} → Sort plain (whole p) → Sort plain (whole (Phrase.token x p))
  part : {p q : Form} → Sort plain (whole p) → Sort plain (whole q) → Sort plain (whole (Phrase.part p q))
  nested : {s : ℕ} {p : Form} → Sort plain (whole p) → Sort plain (whole (Phrase.nested s p))
  phrase : {s : ℕ} {p : Form} → p ≡ above 6 → Sort (level 6) (whole p) → Sort plain (whole (Phrase.nested s p))
  node : {f : Label} {p : Form} → Sort plain (whole p) → Sort plain (whole (Phrase.node f p))
  choice : {n : Table} → T (other n) → Sort plain (whole (Phrase.choice n))
  chain : {n : Table} {p : Form} → T (other n) → Sort plain (whole p) → Sort plain (whole (Phrase.chain p n))
  going : {n : Table} {p : Form} → T (other n) → Sort plain (whole p) → Sort plain (begun p n)
  once : {n : Table} {p : Form} → T (other n) → Sort plain (whole p) → Sort plain (whole (Phrase.once p n))
  refusal : {e : ℕ} → Sort plain (whole (Phrase.refusal e))
  operand : Sort (level zero) (whole (Phrase.choice Table.operand))
  plus : Sort (level zero) (whole (Phrase.nested a_sign (Phrase.token Plus (Phrase.choice Table.operand))))
  sign : {x : ℕ} {f : Label} → kaori Edition.second Table.operand x ≡ Phrase.nested a_sign (Phrase.node f (Phrase.token x (Phrase.choice Table.operand))) → ((t : Tally) → counted f t ≡ row_more t 0) → Sort (level zero) (whole (Phrase.nested a_sign (Phrase.node f (Phrase.token x (Phrase.choice Table.operand)))))
  denied : {p : Form} → Sort (level 6) (whole p) → Sort (level zero) (whole (Phrase.node (Label.Row (Node.LogicalNot Edition.first)) (Phrase.token Not (Phrase.nested an_expression p))))
  climb : {k : ℕ} {p : Form} → Sort (level k) (whole p) → Sort (level (suc k)) (whole (Phrase.chain p (Table.operators k)))
  climbing : {k : ℕ} {p : Form} → Sort (level k) (whole p) → Sort (level k) (begun p (Table.operators k))
  right : {k x : ℕ} {p : Form} → Sort (level k) (whole p) → Sort (joint k) (whole (Phrase.token x p))

above_sort : (k : ℕ) → Sort (level k) (whole (above k))
unfolding above
above_sort zero = Sort.operand
above_sort (suc k) = Sort.climb (above_sort k)

expression_sort : Sort plain (whole expression)
expression_sort = Sort.phrase refl (above_sort 6)

ruleset sorted = (Sort.empty, Sort.token, Sort.part, Sort.node, Sort.choice, Sort.chain, Sort.once, Sort.refusal, expression_sort, Sort.nested)

-- of each form of a table
module _ (P : Form → Type 0) where
  abbrev Each : List (ℕ × Form) → Form → Type 0
  Each [] p = P p
  Each (e ∷ es) p = P e.1 × Each es p

  found : (es : List (ℕ × Form)) (p : Form) (x : ℕ) → Each es p → P (look es p x)
  found [] p x h = h
  found (e ∷ es) p x h = pick (eqb x e.0) h.0 (found es p x h.1)
    where
      pick : (b : Bool) {q r : Form} → P q → P r → P (cond b q r)
      pick true y z = y
      pick false y z = z

sorts : (n : Table) → T (other n) → Each (λ p. Sort plain (whole p)) (rules Edition.second n).0 (rules Edition.second n).1
unfolding rules traits
sorts Table.statement o = search sorted depth 20
sorts Table.returned o = search sorted depth 20
sorts Table.bindings o = search sorted depth 20
sorts Table.path_name o = search sorted depth 20
sorts Table.otherwise o = search sorted depth 20
sorts Table.branch o = search sorted depth 20
sorts Table.operand o = absurd o
sorts Table.body o = search sorted depth 20
sorts Table.value o = search sorted depth 20
sorts (Table.comma z) o = search sorted depth 20
sorts Table.script_items o = search sorted depth 20
sorts Table.block_items o = search sorted depth 20
sorts Table.arguments o = search sorted depth 20
sorts Table.entries o = search sorted depth 20
sorts (Table.names z) o = search sorted depth 20
sorts Table.may_end o = search sorted depth 20
sorts Table.must_end o = search sorted depth 20
sorts Table.assigned o = search sorted depth 20
sorts Table.dots o = search sorted depth 20
sorts Table.calls o = search sorted depth 20
sorts (Table.operators n) o = absurd o

plain_entry : (n : Table) (x : ℕ) {p : Form} → T (other n) → middle n x ≡ p → (kaori Edition.second n x ≡ p) × Sort plain (whole p)
unfolding kaori
plain_entry n x o e = let f : kaori Edition.second n x ≡ _ = sym (middle_same n x (λ i k. either (traits n).0 (traits n).4 o i)) ∙ e in (f, rw f at (found (λ p. Sort plain (whole p)) (rules Edition.second n).0 (rules Edition.second n).1 x (sorts n o)))
  where
    either : (a b : Bool) → T (not (a || b)) → T a → ⊥
    either true b h i = h
    either false b h i = i

plain_link : (n : Table) (x : ℕ) {f : Label} {q : Form} → T (other n) → middle n x ≡ Phrase.node f q → (kaori Edition.second n x ≡ Phrase.node f q) × Sort plain (whole q)
plain_link n x o e = let (g, h) = plain_entry n x o e in (g, by h)
  where
    by : {f : Label} {q : Form} → Sort plain (whole (Phrase.node f q)) → Sort plain (whole q)
    by (Sort.node h) = h

-- what an operand begins with: a sign, or else a plain form
data Operand (p : Form) : Type 0 where
  led : Sort (level zero) (whole p) → Operand p
  bare : Sort plain (whole p) → Operand p

operands : (x : ℕ) → Operand (kaori Edition.second Table.operand x)
unfolding kaori rules traits counted
operands x =
    let minus : Operand (unary Minus) = Operand.led (Sort.sign refl (λ t. refl)) in
    let caret : Operand (unary Caret) = Operand.led (Sort.sign refl (λ t. refl)) in
    let not_so : Operand (denial Edition.second) = Operand.led (Sort.sign refl (λ t. refl)) in
    found Operand (rules Edition.second Table.operand).0 (rules Edition.second Table.operand).1 x (Operand.led Sort.plus, (not_so, (minus, (caret, search (sorted, Operand.bare) depth 20))))

operand_entry : (x : ℕ) {p : Form} → middle Table.operand x ≡ p → Sort (level zero) (whole p) ⊎ ((kaori Edition.second Table.operand x ≡ p) × Sort plain (whole p))
unfolding middle traits
operand_entry x e = elim (ℕ_discrete x Not) [
  | yes i ↦ inl (let f : denial Edition.first ≡ _ = rw i at e in rw f at (Sort.denied (above_sort 6)))
  | no i ↦ let f : kaori Edition.second Table.operand x ≡ _ = sym (middle_same Table.operand x (λ j. i)) ∙ e in elim (operands x) [ Operand.led h ↦ inl (rw f at h) | Operand.bare h ↦ inr (f, rw f at h) ]
]

-- what an operator's link reads
right_sort : (k x : ℕ) {f : Label} {q : Form} → kaori Edition.second (Table.operators k) x ≡ Phrase.node f q → (f ≡ Label.Row (joining x)) × Sort (joint k) (whole q)
right_sort k x {f} {q} e = elim (operator k x) [
  | Operator.none o ↦ absurd (let z : ◌≡◌ {A = ℕ} 0 1 = cc in omega arith)
  | Operator.join o ↦ let g : Phrase.token x (above k) ≡ q = cc in (cc, rw g at (Sort.right {x = x} (above_sort k)))
]

module _ (kind : ℕ → ℕ) where
  -- edition 2 reads it too
  pub record Later (m : Aim Table Label) (a b : ℕ) (t : Tree Label) : Type 0 where
    pub tree : Tree Label
    pub reads : Reads (kaori Edition.second) kind m a b tree
    pub deep : depth tree ≤ depth t
    pub is : tally tree ≡ tally t

  -- as operands joined, up to where no operator of the first k levels stands
  record Level (k a b : ℕ) (t : Tree Label) : Type 0 where
    pub operands : Operands kind (depth t) a b (tally t)
    pub stops : (j : ℕ) → j < k → kaori Edition.second (Table.operators j) (kind b) ≡ Phrase.empty

  unfoldable Gives : Role → Aim Table Label → (a b : ℕ) → Tree Label → Type 0
  Gives plain m a b t = Later m a b t
  Gives (level k) m a b t = Level k a b t
  Gives (joint k) m a b t = Level k (a + 1) b t

both_same : (t u v w : Tree Label) → tally t ≡ tally v → tally u ≡ tally w → tally (more t u) ≡ tally (more v w)
unfolding tally
both_same t u v w e f = rw (e, f)

module _ {kind : ℕ → ℕ} where
  -- an operand alone
  alone : {a b : ℕ} {p : Form} {t : Tree Label} → kaori Edition.second Table.operand (kind a) ≡ p → Later kind (whole p) a b t → Level kind zero a b t
  alone e l = record { operands = record { joints = 0; flat = Flat.last (Reads.chosen e l.reads) l.deep l.is }; stops = λ j i. absurd (omega arith) }

  -- operands on both sides of an operator
  joined : (k : ℕ) {a b c : ℕ} {f : Label} {q : Form} {t u : Tree Label} → kaori Edition.second (Table.operators k) (kind b) ≡ Phrase.node f q → f ≡ Label.Row (joining (kind b)) → Level kind k a b t → Level kind k (b + 1) c u → Level kind k a c (made f b c (more t u))
  unfolding depth tally
  joined k {b = b} {t = t} {u = u} e g l r =
      let j : Joins kind b = (k, λ h. let z : ◌≡◌ {A = ℕ} 0 1 = cc in omega arith) in
      record { operands = rw (g, counted_joining (kind b) (together (tally t) (tally u))) (following (raised (omega arith) l.operands) j (raised (omega arith) r.operands)); stops = r.stops }

  -- a sign before operands
  sign_before : (x : ℕ) {f : Label} {d a b : ℕ} {s : Tally} → kaori Edition.second Table.operand x ≡ Phrase.nested a_sign (Phrase.node f (Phrase.token x (Phrase.choice Table.operand))) → ((s : Tally) → counted f s ≡ row_more s 0) → kind a ≡ x → Operands kind d (a + 1) b s → Operands kind (suc d) a b (row_more s 0)
  unfolding depth tally
  sign_before x {f} {a} e g h o = signed (λ s. row_more s 0) sum_signed (λ c u r. record { tree = deeper (made f a c u); reads = Reads.chosen (ap (kaori Edition.second Table.operand) h ∙ e) (Reads.opened (Reads.labelled (Reads.taken h r))); deep = omega arith; is = g (tally u) }) o

  plus_before : {d a b : ℕ} {s : Tally} → kind a ≡ Plus → Operands kind d (a + 1) b s → Operands kind (suc d) a b s
  unfolding depth tally kaori rules
  plus_before h o = signed (λ s. s) (λ x y. refl) (λ c u r. record { tree = deeper u; reads = Reads.chosen (ap (kaori Edition.second Table.operand) h) (Reads.opened (Reads.taken h r)); deep = omega arith; is = refl }) o

  denial_before : {d a b : ℕ} {s : Tally} → kind a ≡ Not → Operands kind d (a + 1) b s → Operands kind (suc d) a b (counted (Label.Row (Node.LogicalNot Edition.first)) s)
  unfolding kaori rules counted
  denial_before h o = sign_before Not {f = Label.Row (Node.LogicalNot Edition.second)} refl (λ s. refl) h o

  -- all of them are an expression
  expressed : {s a b : ℕ} {p : Form} {t : Tree Label} → p ≡ above 6 → Level kind 6 a b t → Later kind (whole (Phrase.nested s p)) a b (deeper t)
  unfolding depth tally
  expressed e l = let j = all_joined l.stops l.operands in rw e (record { tree = deeper j.tree; reads = Reads.opened j.reads; deep = omega (arith, j.deep); is = j.is })

  -- the translation
  later : {m : Aim Table Label} {a b : ℕ} {t : Tree Label} → Reads middle kind m a b t → {r : Role} → Sort r m → Gives kind r m a b t
  unfolding Gives depth tally traits
  later Reads.nothing Sort.empty = record { tree = none; reads = Reads.nothing; deep = omega arith; is = refl }
  later (Reads.taken e x) (Sort.token h) = let l = later x h in record { tree = l.tree; reads = Reads.taken e l.reads; deep = l.deep; is = l.is }
  later (Reads.taken e x) (Sort.right h) = later x h
  later (Reads.both {t = t} {u = u} x y) (Sort.part h i) = let l = later x h in let r = later y i in record { tree = more l.tree r.tree; reads = Reads.both l.reads r.reads; deep = omega (arith, l.deep, r.deep); is = both_same l.tree r.tree t u l.is r.is }
  later (Reads.opened x) (Sort.nested h) = let l = later x h in record { tree = deeper l.tree; reads = Reads.opened l.reads; deep = omega (arith, l.deep); is = l.is }
  later (Reads.opened x) (Sort.phrase e h) = expressed e (later x h)
  later (Reads.opened (Reads.taken e x)) Sort.plus = record { operands = plus_before e (later x Sort.operand).operands; stops = λ j i. absurd (omega arith) }
  later (Reads.opened (Reads.labelled {f = f} {t = t} (Reads.taken {x = x} e y))) (Sort.sign g h) = record { operands = rw (h (tally t)) (sign_before x {f = f} g h e (later y Sort.operand).operands); stops = λ j i. absurd (omega arith) }
  later (Reads.labelled {f = f} x) (Sort.node h) = let l = later x h in record { tree = made f _ _ l.tree; reads = Reads.labelled l.reads; deep = l.deep; is = ap (counted f) l.is }
  later (Reads.labelled (Reads.taken e (Reads.opened x))) (Sort.denied h) = record { operands = denial_before e (later x h).operands; stops = λ j i. absurd (omega arith) }
  later (Reads.chosen {n = n} e x) (Sort.choice o) = let (f, h) = plain_entry n _ o e in let l = later x h in record { tree = l.tree; reads = Reads.chosen f l.reads; deep = l.deep; is = l.is }
  later (Reads.chosen e x) Sort.operand = elim (operand_entry _ e) [ inl h ↦ later x h | inr h ↦ alone h.0 (later x h.1) ]
  later (Reads.first x) (Sort.going o h) = let l = later x h in record { tree = l.tree; reads = Reads.first l.reads; deep = l.deep; is = l.is }
  later (Reads.first x) (Sort.climbing h) = later x h
  later (Reads.link {n = n} {f = f} {t = t} {u = u} x e y) (Sort.going o h) = let (g, i) = plain_link n _ o e in let l = later x (Sort.going o h) in let r = later y i in record { tree = made f _ _ (more l.tree r.tree); reads = Reads.link l.reads g r.reads; deep = omega (arith, l.deep, r.deep); is = ap (counted f) (both_same l.tree r.tree t u l.is r.is) }
  later (Reads.link {b = b} x e y) (Sort.climbing {k = k} h) = let f = sym (middle_same (Table.operators k) (kind b) (λ i. absurd i)) ∙ e in let (g, i) = right_sort k (kind b) f in joined k f g (later x (Sort.climbing h)) (later y i)
  later (Reads.ended {n = n} x e) (Sort.chain o h) = let l = later x (Sort.going o h) in record { tree = l.tree; reads = Reads.ended l.reads (end_same n _ e); deep = l.deep; is = l.is }
  later (Reads.ended x e) (Sort.climb {k = k} h) = let l = later x (Sort.climbing h) in record { operands = l.operands; stops = closes k _ l.stops (end_same (Table.operators k) _ e) }
  later (Reads.alone {n = n} x e) (Sort.once o h) = let l = later x h in record { tree = l.tree; reads = Reads.alone l.reads (end_same n _ e); deep = l.deep; is = l.is }
  later (Reads.joined {n = n} {f = f} {t = t} {u = u} x e y) (Sort.once o h) = let (g, i) = plain_link n _ o e in let l = later x h in let r = later y i in record { tree = made f _ _ (more l.tree r.tree); reads = Reads.joined l.reads g r.reads; deep = omega (arith, l.deep, r.deep); is = ap (counted f) (both_same l.tree r.tree t u l.is r.is) }

  -- of a script
  pub script_later : {n : ℕ} {t : Tree Label} → Reads middle kind (whole script) 0 n t → Later kind (whole script) 0 n t
  unfolding Gives traits
  script_later x = later x (Sort.node (Sort.chain tt Sort.empty))
