-- The levels of binary operators: an operand and the operators after it stand as every level up to the next operator's.
use Prim.Native.Nat.{ℕ, zero, suc, ◌+◌, ◌-◌, ◌<◌, ◌≤◌}
use native.Mathlib.Omega.{arith}
use mathlib.Core.List.{List, [], ◌∷◌}
use mathlib.Core.Path.{◌≡◌, refl, sym, ◌∙◌}
use native.Mathlib.Decide.{ℕ_discrete}
use Rattle.ast.specs.declared.Node.{Node}
use Rattle.grammar.specs.Edition.{Edition}
use Rattle.grammar.specs.Kaori.{Form, above, operand, operators, kaori}
use Rattle.grammar.specs.Label.{Label}
use Rattle.grammar.specs.Phrase.{token, node, choice, chain, Tree, whole, begun, Reads}
use Rattle.grammar.specs.Refusal.{Refused}
use Rattle.grammar.specs.Token.{kind}
use Rattle.token.specs.Level.{level}
use Rattle.token.proofs.Operators.{operator_link, no_operator}
use Rattle.reading.specs.Answers.{node_of}
use Rattle.reading.specs.Chains.{Going}
use Rattle.reading.specs.Reading.{Reading, Refusing}
use Rattle.reading.specs.State.{State, Within, Rooms}
use Rattle.reading.specs.declared.Terms.{Terms}
use Rattle.reading.proofs.Laws.{first, ended, rooms_same, rooms_on}
use Rattle.reading.proofs.Refusals.{in_start}

-- what a table of operators has is an operator of its level, with a right operand of it
link_form : (d : Edition) (n x : ℕ) → n < 6 → {f : Label} {q : Form} → kaori d (operators n) x ≡ node f q → q ≡ token x (above n)
link_form d n x h {f} {q} e = elim (ℕ_discrete (level x) n) [ yes z ↦ let y = operator_link d n x h z in cc | no z ↦ let y = no_operator d n x z in absurd (let w : ◌≡◌ {A = ℕ} 0 1 = cc in omega arith) ]

-- where a level is read whole, no operator of it or of a tighter one comes next
module _ (d : Edition) {k : ℕ → ℕ} where
  tail : {x a b : ℕ} {p : Form} {t : Tree Label} → Reads (kaori d) k (whole (token x p)) a b t → Reads (kaori d) k (whole p) (a + 1) b t
  tail (Reads.taken e r) = r

  last_of : {n a b : ℕ} {t : Tree Label} → n < 6 → ((c : ℕ) (u : Tree Label) → Reads (kaori d) k (whole (above n)) c b u → n ≤ level (k b)) →
      Reads (kaori d) k (begun (above n) (operators n)) a b t → n ≤ level (k b)
  last_of i h (Reads.first r) = h _ _ r
  last_of {n} i h (Reads.link {b = b} l e r) = h _ _ (tail (rw (link_form d n (k b) i e) at r))

  pub settled : (n : ℕ) → n ≤ 6 → {a b : ℕ} {t : Tree Label} → Reads (kaori d) k (whole (above n)) a b t → n ≤ level (k b)
  unfolding above
  settled zero i r = omega arith
  settled (suc n) i {b = b} (Reads.ended l e) =
      let h = last_of (omega arith) (λ c u r. settled n (omega arith) r) l in
      let apart : level (k b) ≡ n → ⊥ = λ z. let y = sym (operator_link d n (k b) (omega arith) z) ∙ e in let x : ◌≡◌ {A = ℕ} 0 1 = cc in omega (arith, x) in
      omega (arith, h, apart)

-- a tighter level that is not followed by an operator of it is the next
module _ {ts : List ℕ} {terms : Terms} {o : ℕ} {s s₁ : State} {m : Node} where
  step : {l : ℕ} → l < level (kind ts s₁.cursor.at) → Reading ts terms (begun (above l) (operators l)) o s (node_of m ∷ []) [] s₁ →
      Reading ts terms (whole (above (suc l))) o s (node_of m ∷ []) [] s₁
  unfolding above
  step {l} h r = ended (no_operator _ l (kind ts s₁.cursor.at) (λ e. omega arith)) r

  climb : (d n : ℕ) {l : ℕ} → n - l ≡ d → l ≤ n → n ≤ level (kind ts s₁.cursor.at) → Reading ts terms (begun (above l) (operators l)) o s (node_of m ∷ []) [] s₁ →
      Reading ts terms (begun (above n) (operators n)) o s (node_of m ∷ []) [] s₁
  climb zero n {l} e h z r = let y : l ≡ n = omega arith in rw y at r
  climb (suc d) zero e h z r = absurd (omega arith)
  climb (suc d) (suc n) e h z r = first (step (omega arith) (climb d n (omega arith) (omega arith) (omega arith) r))

  begun_at : {l n : ℕ} → l ≤ n → n ≤ level (kind ts s₁.cursor.at) → Reading ts terms (begun (above l) (operators l)) o s (node_of m ∷ []) [] s₁ →
      Reading ts terms (begun (above n) (operators n)) o s (node_of m ∷ []) [] s₁
  begun_at {l} {n} h z r = climb (n - l) n refl h z r

  whole_at : {l n : ℕ} → l < n → n ≤ level (kind ts s₁.cursor.at) → Reading ts terms (begun (above l) (operators l)) o s (node_of m ∷ []) [] s₁ →
      Reading ts terms (whole (above n)) o s (node_of m ∷ []) [] s₁
  whole_at {n = zero} h z r = absurd (omega arith)
  whole_at {n = suc n} h z r = step (omega arith) (begun_at (omega arith) (omega arith) r)

-- a refusal within a tighter level
module _ {ts : List ℕ} {terms : Terms} {o : ℕ} {s : State} {q : Refused} where
  looser : (d n l : ℕ) → n - l ≡ d → l ≤ n → Refusing ts terms (above l) o s q → Refusing ts terms (above n) o s q
  unfolding above
  looser zero n l e h r = let y : l ≡ n = omega arith in rw y at r
  looser (suc d) zero l e h r = absurd (omega arith)
  looser (suc d) (suc n) l e h r = in_start (looser d n l (omega arith) (omega arith) r)

  pub refused_link : {l n : ℕ} → l < n → Refusing ts terms (chain (above l) (operators l)) o s q → Refusing ts terms (above n) o s q
  unfolding above
  refused_link {l} {n} h z = looser (n - suc l) n (suc l) refl (omega arith) z

  pub refused_operand : (n : ℕ) → Refusing ts terms (choice operand) o s q → Refusing ts terms (above n) o s q
  unfolding above
  refused_operand zero h = h
  refused_operand (suc n) h = in_start (refused_operand n h)

module _ (ts : List ℕ) (terms : Terms) (level-asked o : ℕ) where
  -- from s to s₁ stands what the next operator links to, and a whole level where none of its operators comes next
  pub record Standing (s s₁ : State) (m : Node) : Type 0 where
    pub link : (l : ℕ) → l < level-asked → level (kind ts s₁.cursor.at) ≡ l → Reading ts terms (begun (above l) (operators l)) o s (node_of m ∷ []) [] s₁
    pub end : level-asked ≤ level (kind ts s₁.cursor.at) → Reading ts terms (whole (above level-asked)) o s (node_of m ∷ []) [] s₁

  -- whatever operand stands at s₀ with the node n, from wherever it began, this stands at s₁ with the node m
  pub record Climbing (s₀ : State) (n : Node) (s₁ : State) (m : Node) : Type 0 where
    pub grown : (s : State) → Reading ts terms (whole (choice operand)) o s (node_of n ∷ []) [] s₀ → Standing s s₁ m
    pub within : Within ts s₁
    pub rooms : Rooms s₀ s₁
    pub past : s₀.cursor.at ≤ s₁.cursor.at

module _ {ts : List ℕ} {terms : Terms} {o : ℕ} where
  unlinked : {s s₁ : State} {m : Node} (n : ℕ) → Reading ts terms (whole (choice operand)) o s (node_of m ∷ []) [] s₁ → Standing ts terms n o s s₁ m
  unfolding above
  unlinked zero r = record { link = λ l h e. absurd (omega arith); end = λ h. r }
  unlinked (suc n) r = record { link = λ l h e. begun_at {l = 0} {n = l} (omega arith) (omega arith) (first r); end = λ h. whole_at {l = 0} (omega arith) h (first r) }

  pub climbing_none : {n : ℕ} {s₀ : State} {m : Node} → Within ts s₀ → Climbing ts terms n o s₀ m s₀ m
  climbing_none w = record { grown = λ s r. unlinked _ r; within = w; rooms = rooms_same; past = omega arith }

  -- an operator, and a right operand that leaves only looser ones
  pub climbing_on : {n l : ℕ} {s₀ s₁ s₂ : State} {first-node m k : Node} → Climbing ts terms n o s₀ first-node s₁ m → level (kind ts s₁.cursor.at) ≡ l → l < n →
      l ≤ level (kind ts s₂.cursor.at) →
      Going ts terms (above l) (operators l) (begun (above l) (operators l)) o s₁ m s₂ k → Climbing ts terms n o s₀ first-node s₂ k
  climbing_on {n} {l} {s₂ = s₂} {k = k} a e h z b =
      record { grown = λ s r. linked s (b.grown s ((a.grown s r).link l h e)); within = b.within; rooms = rooms_on a.rooms b.rooms; past = omega (arith, a.past, b.past) }
    where
      linked : (s : State) → Reading ts terms (begun (above l) (operators l)) o s (node_of k ∷ []) [] s₂ → Standing ts terms n o s s₂ k
      linked s r = record { link = λ j y x. begun_at {n = j} (omega arith) (omega arith) r; end = λ y. whole_at h y r }
