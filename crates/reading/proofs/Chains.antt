-- A chain goes on: links, and what is answered for them.
use Prim.Native.Nat.{ℕ, ◌<◌, ◌≤◌}
use native.Mathlib.Omega.{arith}
use mathlib.Core.List.{List, [], ◌∷◌}
use mathlib.Core.Path.{◌≡◌}
use Rattle.ast.specs.declared.Node.{Node}
use Rattle.grammar.specs.Handle.{Handle}
use Rattle.grammar.specs.Kaori.{Form, Table}
use Rattle.grammar.specs.Label.{Label}
use Rattle.grammar.specs.Phrase.{empty, node, chain, Aim, whole, begun}
use Rattle.grammar.specs.Refusal.{Refused, refused}
use Rattle.grammar.specs.Token.{kind, count}
use Rattle.reading.specs.Answers.{node_of, Took, Consumed, AnswerCase, Answered, ListCase, Lists}
use Rattle.reading.specs.Chains.{Going, Gone, Further, Onward}
use Rattle.reading.specs.Reading.{tables, form, refusal, Reading, Refusing}
use Rattle.reading.specs.State.{State, state, Within}
use Rattle.reading.specs.declared.Cursor.{Cursor}
use Rattle.reading.specs.declared.Read.{Read}
use Rattle.reading.specs.declared.Refusal.{Refusal}
use Rattle.reading.specs.declared.Terms.{Terms}
use Rattle.reading.proofs.Bound.{bound, link_within, paid_link, paid_inside}
use Rattle.reading.proofs.Entering.{Tries}
use Rattle.reading.proofs.Laws.{rooms_on, Made, linked, ended, full_linked}

module _ {ts : List ℕ} {terms : Terms} {p : Form} {t : Table} {o : ℕ} {s₀ : State} {n : Node} where
  -- one link after others
  pub going_on : {g : Aim Table Label} {s₁ s₂ : State} {m k : Node} → Going ts terms p t (begun p t) o s₀ n s₁ m → Going ts terms p t g o s₁ m s₂ k → Going ts terms p t g o s₀ n s₂ k
  going_on a b = record { grown = λ s z. b.grown s (a.grown s z); within = b.within; rooms = rooms_on a.rooms b.rooms; past = omega (arith, a.past, b.past) }

  pub going_end : {s₁ : State} {m : Node} → tables terms t (kind ts s₁.cursor.at) ≡ empty → Going ts terms p t (begun p t) o s₀ n s₁ m → Going ts terms p t (whole (chain p t)) o s₀ n s₁ m
  going_end e a = record { grown = λ s z. ended e (a.grown s z); within = a.within; rooms = a.rooms; past = a.past }

  -- a link for which a row is written
  pub going_link : {f : Label} {q : Form} {ys : List Handle} {s₁ s₂ : State} {m : Node} → Within ts s₀ → tables terms t (kind ts s₀.cursor.at) ≡ node f q →
      Reading ts terms (whole q) o s₀ ys [] s₁ → Made ts f s₀.cursor.at s₁ (node_of n ∷ []) ys (node_of m ∷ []) s₂ → s₁.cursor.at < count ts →
      Going ts terms p t (begun p t) o s₀ n s₂ m
  going_link {f} {q} {s₂ = s₂} w g r i h =
      let pay = paid_link _ t (kind ts s₀.cursor.at) g in
      record { grown = λ s b. linked b g r i; within = link_within w pay h r i; rooms = rooms_on r.rooms i.rooms; past = omega (arith, i.at, (bound w (paid_inside pay) h r).past) }

  module _ {g : Aim Table Label} {a : ℕ} {ns ls ss : List ℕ} where
    pub gone : {r : Read} {m : Node} {c : Cursor} → r ≡ Read.Node m c → Onward ts terms p t g o s₀ n a ns ls ss r → Gone ts terms p t g o s₀ n a (state ns ls ss c) m
    unfolding Further
    gone e z = (rw e at z).says

    pub goes : {m : Node} {c : Cursor} → a ≤ c.at → Going ts terms p t g o s₀ n (state ns ls ss c) m → Onward ts terms p t g o s₀ n a ns ls ss (Read.Node m c)
    unfolding Further
    goes h z = record { says = record { going = z; far = h } }

    -- a required token is missing
    pub stops_lacking : {c : Cursor} {x : ℕ} {r : Read} {q : Refusal} → r ≡ Read.Refused q → Consumed ts c x r →
        ((s : State) → Reading ts terms (begun p t) o s (node_of n ∷ []) [] s₀ → (kind ts c.at ≡ x → ⊥) → Refusing ts terms (chain p t) o s (refused 8 c.at x)) →
        Onward ts terms p t g o s₀ n a ns ls ss r
    unfolding Further Took
    stops_lacking e z up = let y = (rw e at z).says in rw (e, y.1) (record { says = λ s d. up s d y.0 })

    -- a refusal of a part, of a list, and of a later link
    pub stopped : {h : Node → Handle} {r : Read} {q : Refusal} {g' : Aim Table Label} {o' : ℕ} {s' : State} → r ≡ Read.Refused q → Answered ts terms h g' o' s' ns ls ss r →
        ((s : State) (x : Refused) → Reading ts terms (begun p t) o s (node_of n ∷ []) [] s₀ → Refusing ts terms (form g') o' s' x → Refusing ts terms (chain p t) o s x) →
        Onward ts terms p t g o s₀ n a ns ls ss r
    unfolding Further AnswerCase
    stopped {q = q} e z up = rw e (record { says = λ s b. up s (refusal q) b (rw e at z).says })

    pub stopped_list : {r : Read} {q : Refusal} {g' : Aim Table Label} {o' : ℕ} {s' : State} → r ≡ Read.Refused q → Lists ts terms g' o' s' ns ls ss r →
        ((s : State) (x : Refused) → Reading ts terms (begun p t) o s (node_of n ∷ []) [] s₀ → Refusing ts terms (form g') o' s' x → Refusing ts terms (chain p t) o s x) →
        Onward ts terms p t g o s₀ n a ns ls ss r
    unfolding Further ListCase
    stopped_list {q = q} e z up = rw e (record { says = λ s b. up s (refusal q) b (rw e at z).says })

    pub stopped_later : {r : Read} {q : Refusal} {g' : Aim Table Label} {s₁ : State} {m : Node} {b : ℕ} → r ≡ Read.Refused q → Going ts terms p t (begun p t) o s₀ n s₁ m →
        Onward ts terms p t g' o s₁ m b ns ls ss r → Onward ts terms p t g o s₀ n a ns ls ss r
    unfolding Further
    stopped_later e y z = rw e (record { says = λ s b. (rw e at z).says s (y.grown s b) })

    -- the answer for what the chain began with
    pub onward : {s : State} (r : Read) → s.cursor.at ≤ s₀.cursor.at → Reading ts terms (begun p t) o s (node_of n ∷ []) [] s₀ → Onward ts terms p t g o s₀ n a ns ls ss r →
        form g ≡ chain p t → Answered ts terms node_of g o s ns ls ss r
    unfolding Further AnswerCase
    onward (Read.Node m c) i b z e = record { says = record { reading = z.says.going.grown _ b; within = z.says.going.within; past = omega (arith, z.says.going.past) } }
    onward (Read.Refused q) i b z e = record { says = rw e (z.says _ b) }

  -- a link whose row is made, or lacks room
  pub tried : {a : ℕ} {ns ls ss : List ℕ} {f : Label} {q : Form} {ys : List Handle} {s₁ : State} {r : Read} → Within ts s₀ → tables terms t (kind ts s₀.cursor.at) ≡ node f q →
      Reading ts terms (whole q) o s₀ ys [] s₁ → s₁.cursor.at < count ts → a ≤ s₁.cursor.at → Tries ts f s₀.cursor.at s₁ (node_of n ∷ []) ys ns ls ss r →
      Onward ts terms p t (begun p t) o s₀ n a ns ls ss r
  unfolding Further
  tried w e y h i (Tries.made m) = goes (rw m.at i) (going_link w e y m h)
  tried w e y h i (Tries.lacking l) = record { says = λ s b. full_linked b e y l }
