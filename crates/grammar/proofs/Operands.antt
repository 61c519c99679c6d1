-- Operands joined by operators, level by level: however many there are, they read as one expression up to where no operator stands, no deeper than the deepest of
-- them, and with a row more for each operator.
use Prim.Native.Nat.{ℕ, zero, suc, ◌+◌, ◌≤◌, ◌<◌}
use mathlib.Core.Bool.{Bool, true, false, cond}
use mathlib.Core.List.{List, [], ◌∷◌, map}
use mathlib.Core.Path.{◌≡◌, refl, sym, ap, ◌∙◌}
use native.Mathlib.Decide.{ℕ_discrete}
use native.Mathlib.Omega.{arith}
use lib.Dec.{eqb}
use lib.ListN.{get_or}
use borrow.Author.Tests.{eqb-true}
use Rattle.grammar.specs.Edition.{Edition}
use Rattle.grammar.specs.Kaori.{Table, Form, row, above, rules, look, kaori}
use Rattle.grammar.specs.Kind.{And, Or}
use Rattle.grammar.specs.Label.{Node, Label}
use Rattle.grammar.specs.Operator.{levels, joining}
use Rattle.grammar.specs.Phrase.{empty, token, choice, Tree, more, made, whole, begun, Reads, depth}
use Rattle.grammar.proofs.Tallies.{Tally, row_more, together, counted, tally}

-- two joined by an operator
abbrev pub sum : Tally → Tally → Tally
sum x y = row_more (together x y) 0

same_row : {m n k l : ℕ} → m ≡ n → k ≡ l → ◌≡◌ {A = Tally} (record { nodes = m; links = k; first = true ∷ []; rest = [] }) (record { nodes = n; links = l; first = true ∷ []; rest = [] })
same_row e f = cc

pub sum_grouped : (x y z : Tally) → sum (sum x y) z ≡ sum x (sum y z)
sum_grouped x y z = same_row (omega arith) (omega arith)

-- a sign before the first of two is one before both
pub sum_signed : (x y : Tally) → sum (row_more x 0) y ≡ row_more (sum x y) 0
sum_signed x y = same_row (omega arith) (omega arith)

pub counted_joining : (x : ℕ) (t : Tally) → counted (Label.Row (joining x)) t ≡ row_more t 0
unfolding counted
counted_joining x t = either (eqb x And) (eqb x Or)
  where
    either : (a b : Bool) → counted (Label.Row (cond a Node.LogicalAnd (cond b Node.LogicalOr Node.Binary))) t ≡ row_more t 0
    either true b = refl
    either false true = refl
    either false false = refl

joined : (x b c : ℕ) (t u : Tree Label) → tally (made (Label.Row (joining x)) b c (more t u)) ≡ sum (tally t) (tally u)
unfolding tally
joined x b c t u = counted_joining x _

-- what the operators of a level have for a kind
pub data Operator (k x : ℕ) (p : Form) : Type 0 where
  none : p ≡ empty → Operator k x p
  join : p ≡ row (joining x) (token x (above k)) → Operator k x p

among : (k x : ℕ) (ys : List ℕ) → Operator k x (look (map (λ y. (y, row (joining y) (token y (above k)))) ys) empty x)
among k x [] = Operator.none refl
among k x (y ∷ ys) = pick (eqb x y) refl (among k x ys)
  where
    pick : (b : Bool) → eqb x y ≡ b → {p : Form} → Operator k x p → Operator k x (cond b (row (joining y) (token y (above k))) p)
    pick true e h = let f : y ≡ x = sym (eqb-true x y e) in Operator.join (rw f)
    pick false e h = h

pub operator : (k x : ℕ) → Operator k x (kaori Edition.second (Table.operators k) x)
unfolding kaori rules
operator k x = among k x (get_or levels k [])

-- there are six levels
pub beyond : (k x : ℕ) → ((j : ℕ) → j < 6 → kaori Edition.second (Table.operators j) x ≡ empty) → kaori Edition.second (Table.operators k) x ≡ empty
unfolding kaori rules
beyond zero x h = h 0 (omega arith)
beyond (suc zero) x h = h 1 (omega arith)
beyond (suc (suc zero)) x h = h 2 (omega arith)
beyond (suc (suc (suc zero))) x h = h 3 (omega arith)
beyond (suc (suc (suc (suc zero)))) x h = h 4 (omega arith)
beyond (suc (suc (suc (suc (suc zero))))) x h = h 5 (omega arith)
beyond (suc (suc (suc (suc (suc (suc k)))))) x h = refl

pub closes : (k x : ℕ) → ((j : ℕ) → j < k → kaori Edition.second (Table.operators j) x ≡ empty) → kaori Edition.second (Table.operators k) x ≡ empty → (j : ℕ) → j < suc k → kaori Edition.second (Table.operators j) x ≡ empty
closes k x h e j l = elim (ℕ_discrete j k) [ yes f ↦ rw f e | no f ↦ h j (omega arith) ]

module _ (kind : ℕ → ℕ) where
  -- an operator stands at i
  abbrev pub Joins : ℕ → Type 0
  Joins i = (k : ℕ) × (kaori Edition.second (Table.operators k) (kind i) ≡ empty → ⊥)

  -- n operators between operands of edition 2 that are no deeper than d, with the tally of all of them joined
  pub data Flat (d : ℕ) : (n a b : ℕ) → Tally → Type 0 where
    last : {a b : ℕ} {u : Tree Label} {s : Tally} → Reads (kaori Edition.second) kind (whole (choice Table.operand)) a b u → depth u ≤ d → tally u ≡ s → Flat d zero a b s
    next : {n a b c : ℕ} {u : Tree Label} {r s : Tally} → Reads (kaori Edition.second) kind (whole (choice Table.operand)) a c u → depth u ≤ d → Joins c → Flat d n (c + 1) b r → sum (tally u) r ≡ s → Flat d (suc n) a b s

  pub record Operands (d a b : ℕ) (s : Tally) : Type 0 where
    pub joints : ℕ
    pub flat : Flat d joints a b s

  -- what a sign makes of an operand
  pub record Signs (turn : Tally → Tally) (a c : ℕ) (u : Tree Label) : Type 0 where
    pub tree : Tree Label
    pub reads : Reads (kaori Edition.second) kind (whole (choice Table.operand)) a c tree
    pub deep : depth tree ≤ suc (depth u)
    pub is : tally tree ≡ turn (tally u)

  -- what is read of them at a level: all, or up to an operator of a looser one
  data Climbed (d k n a b : ℕ) (s : Tally) : Type 0 where
    all : {u : Tree Label} → Reads (kaori Edition.second) kind (whole (above k)) a b u → depth u ≤ d → tally u ≡ s → Climbed d k n a b s
    some : {m c : ℕ} {u : Tree Label} {r : Tally} → Reads (kaori Edition.second) kind (whole (above k)) a c u → depth u ≤ d → Joins c → ((j : ℕ) → j < k → kaori Edition.second (Table.operators j) (kind c) ≡ empty) → Flat d m (c + 1) b r → m < n → sum (tally u) r ≡ s → Climbed d k n a b s

  -- all of them as one expression
  pub record Joined (d a b : ℕ) (s : Tally) : Type 0 where
    pub tree : Tree Label
    pub reads : Reads (kaori Edition.second) kind (whole (above 6)) a b tree
    pub deep : depth tree ≤ d
    pub is : tally tree ≡ s

module _ {kind : ℕ → ℕ} where
  raise : {d e n a b : ℕ} {s : Tally} → d ≤ e → Flat kind d n a b s → Flat kind e n a b s
  raise l (Flat.last x h e) = Flat.last x (omega arith) e
  raise l (Flat.next x h j f e) = Flat.next x (omega arith) j (raise l f) e

  follow : {d n a b c : ℕ} {r s : Tally} → Flat kind d n a c s → Joins kind c → Operands kind d (c + 1) b r → Operands kind d a b (sum s r)
  follow {r = r} (Flat.last x h e) j g = record { joints = _; flat = Flat.next x h j g.flat (ap (λ z. sum z r) e) }
  follow {r = r} (Flat.next {u = u} {r = q} x h i f e) j g = record { joints = _; flat = Flat.next x h i (follow f j g).flat (sym (sum_grouped (tally u) q r) ∙ ap (λ z. sum z r) e) }

  pub raised : {d e a b : ℕ} {s : Tally} → d ≤ e → Operands kind d a b s → Operands kind e a b s
  raised l f = record { joints = f.joints; flat = raise l f.flat }

  -- operands, an operator, and more of them
  pub following : {d a b c : ℕ} {r s : Tally} → Operands kind d a c s → Joins kind c → Operands kind d (c + 1) b r → Operands kind d a b (sum s r)
  following f j g = follow f.flat j g

  -- a sign takes the first operand, and leaves the others
  pub signed : (turn : Tally → Tally) {d a b : ℕ} {s : Tally} → ((x y : Tally) → sum (turn x) y ≡ turn (sum x y)) → ((c : ℕ) (u : Tree Label) → Reads (kaori Edition.second) kind (whole (choice Table.operand)) (a + 1) c u → Signs kind turn a c u) → Operands kind d (a + 1) b s → Operands kind (suc d) a b (turn s)
  signed turn {d} {a} k w f = by f.flat
    where
      by : {n b : ℕ} {s : Tally} → Flat kind d n (a + 1) b s → Operands kind (suc d) a b (turn s)
      by (Flat.last x h e) = let z = w _ _ x in record { joints = _; flat = Flat.last z.reads (omega arith) (z.is ∙ ap turn e) }
      by (Flat.next {u = u} {r = r} x h j f e) = let z = w _ _ x in record { joints = _; flat = Flat.next z.reads (omega arith) j (raise (omega arith) f) (ap (λ y. sum y r) z.is ∙ k (tally u) r ∙ ap turn e) }

  ampler : {d k n a b : ℕ} {s : Tally} → Climbed kind d k n a b s → Climbed kind d k (suc n) a b s
  ampler (Climbed.all x h e) = Climbed.all x h e
  ampler (Climbed.some x h j q f l e) = Climbed.some x h j q f (omega arith) e

  -- up to b, where no operator stands
  module _ {d b : ℕ} (stop : (j : ℕ) → kaori Edition.second (Table.operators j) (kind b) ≡ empty) where
    -- from operator to operator of a level, and from level to level
    climb_on : (k : ℕ) → ((n a : ℕ) (s : Tally) → Flat kind d n a b s → Climbed kind d k n a b s) → (n : ℕ) {m a c : ℕ} {u : Tree Label} {r s : Tally} → Reads (kaori Edition.second) kind (begun (above k) (Table.operators k)) a c u → depth u ≤ d → Joins kind c → ((j : ℕ) → j < k → kaori Edition.second (Table.operators j) (kind c) ≡ empty) → Flat kind d m (c + 1) b r → m < n → sum (tally u) r ≡ s → Climbed kind d (suc k) n a b s
    unfolding above depth
    climb_on k below zero l h j q f i e = absurd (omega arith)
    climb_on k below (suc n) {c = c} {u = u} l h j q f i e = elim (operator k (kind c)) [
      | Operator.none o ↦ Climbed.some (Reads.ended l o) h j (closes k (kind c) q o) f i e
      | Operator.join o ↦ elim (below _ _ _ f) [
        | Climbed.all {u = v} x g z ↦ Climbed.all (Reads.ended (Reads.link l o (Reads.taken refl x)) (stop k)) (omega arith) (joined (kind c) c b u v ∙ ap (sum (tally u)) z ∙ e)
        | Climbed.some {c = c'} {u = v} {r = w} x g i' q' f' l' z ↦ ampler (climb_on k below n (Reads.link l o (Reads.taken refl x)) (omega arith) i' q' f' (omega arith) (ap (λ y. sum y w) (joined (kind c) c c' u v) ∙ sum_grouped (tally u) (tally v) w ∙ ap (sum (tally u)) z ∙ e))
      ]
    ]

    climb : (k : ℕ) {n a : ℕ} {s : Tally} → Flat kind d n a b s → Climbed kind d k n a b s
    unfolding above
    climb zero (Flat.last x h e) = Climbed.all x h e
    climb zero (Flat.next x h j f e) = Climbed.some x h j (λ i l. absurd (omega arith)) f (omega arith) e
    climb (suc k) {n} f = elim (climb k f) [
      | Climbed.all x h e ↦ Climbed.all (Reads.ended (Reads.first x) (stop k)) h e
      | Climbed.some x h j q g l e ↦ climb_on k (λ m a s. climb k) n (Reads.first x) h j q g l e
    ]

  pub all_joined : {d a b : ℕ} {s : Tally} → ((j : ℕ) → j < 6 → kaori Edition.second (Table.operators j) (kind b) ≡ empty) → Operands kind d a b s → Joined kind d a b s
  all_joined stop f = elim (climb (λ j. beyond j _ stop) 6 f.flat) [
    | Climbed.all {u = u} x h e ↦ record { tree = u; reads = x; deep = h; is = e }
    | Climbed.some x h j q g l e ↦ absurd (j.1 (beyond j.0 _ q))
  ]
