-- Answers of parts make an answer of the whole.
use Prim.Native.Nat.{ℕ, ◌+◌, ◌≤◌, ◌<◌}
use native.Mathlib.Omega.{arith}
use mathlib.Core.List.{List, [], ◌∷◌}
use mathlib.Core.Path.{◌≡◌}
use Rattle.ast.specs.declared.Node.{Node}
use Rattle.grammar.specs.Handle.{Handle}
use Rattle.grammar.specs.Kaori.{Form, Table, block_items}
use Rattle.grammar.specs.Label.{Label}
use Rattle.grammar.specs.Phrase.{empty, part, nested, node, chain, once, Aim, whole, begun}
use Rattle.grammar.specs.Refusal.{Refused, refused, Refuses}
use Rattle.grammar.specs.Token.{kind, start, end, count}
use Rattle.reading.specs.Answers.{next, node_of, Took, Consumed, AnswerCase, Answered, Listed, ListCase, Lists, Filled, FillCase, Fills, Stated, StateCase, States}
use Rattle.reading.specs.Reading.{tables, form, refusal, Reading, Success, Refusing}
use Rattle.reading.specs.State.{State, state, Ready}
use Rattle.reading.specs.declared.Cursor.{Cursor}
use Rattle.reading.specs.declared.Read.{Read}
use Rattle.reading.specs.declared.Refusal.{Refusal}
use Rattle.reading.specs.declared.Terms.{Terms}
use Rattle.reading.proofs.Bound.{Paid, bound, arrived}
use Rattle.reading.proofs.Entering.{Tries}
use Rattle.reading.proofs.Laws.{opened, labelled, joined, pass, onto, full, full_joined}
use Rattle.reading.proofs.Refusals.{inside}

-- a token was taken
pub record Taken (ts : List ℕ) (c : Cursor) (x : ℕ) (n : Node) (d : Cursor) : Type 0 where
  pub kind_is : kind ts c.at ≡ x
  pub node_is : n ≡ record { id = 0; start = start ts c.at; end = end ts c.at }
  pub after : d ≡ next c

module _ {ts : List ℕ} {c : Cursor} {x : ℕ} {r : Read} where
  pub token_taken : {n : Node} {d : Cursor} → r ≡ Read.Node n d → Consumed ts c x r → Taken ts c x n d
  unfolding Took
  token_taken e z = let y = (rw e at z).says in record { kind_is = y.0; node_is = y.1; after = y.2 }

-- what was learnt of a node, named by the answer that it is read from
-- a reading of a form that has a token for each of its nodes gets somewhere
pub arrives : {ts : List ℕ} {terms : Terms} {g : Aim Table Label} {o : ℕ} {s s' : State} {hs : List Handle} → Ready ts terms o s → Paid (form g) → s'.cursor.at < count ts →
    Reading ts terms g o s hs [] s' → Success ts terms g o s hs s'
arrives w p a r = record { reading = r; within = arrived w.within p a r; past = (bound w.within p a r).past }

module _ {ts : List ℕ} {terms : Terms} where
  module _ {h : Node → Handle} {g : Aim Table Label} {o : ℕ} {s : State} {ns ls ss : List ℕ} where
    pub success : {r : Read} {n : Node} {c : Cursor} → r ≡ Read.Node n c → Answered ts terms h g o s ns ls ss r → Success ts terms g o s (h n ∷ []) (state ns ls ss c)
    unfolding AnswerCase
    success e a = (rw e at a).says

    abbrev pub Told : {r : Read} → Answered ts terms h g o s ns ls ss r → Node → Cursor → Type 0
    Told a n c = Success ts terms g o s (h n ∷ []) (state ns ls ss c)

    pub refuse : {q : Refusal} → Refusing ts terms (form g) o s (refusal q) → Answered ts terms h g o s ns ls ss (Read.Refused q)
    unfolding AnswerCase
    refuse z = record { says = z }

    pub answered : {n : Node} {c : Cursor} → Success ts terms g o s (h n ∷ []) (state ns ls ss c) → Answered ts terms h g o s ns ls ss (Read.Node n c)
    unfolding AnswerCase
    answered z = record { says = z }

    -- a reading that has a token for each of its nodes
    pub answer : {n : Node} {c : Cursor} → Ready ts terms o s → Paid (form g) → c.at < count ts → Reading ts terms g o s (h n ∷ []) [] (state ns ls ss c) →
        Answered ts terms h g o s ns ls ss (Read.Node n c)
    answer w p a r = answered (arrives w p a r)

    -- a required token is missing
    pub lacks : {c : Cursor} {x : ℕ} {r : Read} {q : Refusal} → r ≡ Read.Refused q → Consumed ts c x r →
        ((kind ts c.at ≡ x → ⊥) → Refusing ts terms (form g) o s (refused 8 c.at x)) → Answered ts terms h g o s ns ls ss r
    unfolding AnswerCase Took
    lacks {q = q} e z up = let y = (rw e at z).says in rw (e, y.1) (record { says = up y.0 })

    module _ {h' : Node → Handle} {g' : Aim Table Label} {o' : ℕ} {s' : State} where
      -- a refusal of a part
      pub passed : {r : Read} {q : Refusal} → r ≡ Read.Refused q → Answered ts terms h' g' o' s' ns ls ss r →
          ((x : Refused) → Refusing ts terms (form g') o' s' x → Refusing ts terms (form g) o s x) → Answered ts terms h g o s ns ls ss r
      unfolding AnswerCase
      passed {q = q} e a up = rw e (record { says = up (refusal q) (rw e at a).says })

    -- of a list
    pub passed_list : {g' : Aim Table Label} {o' : ℕ} {s' : State} {r : Read} {q : Refusal} → r ≡ Read.Refused q → Lists ts terms g' o' s' ns ls ss r →
        ((x : Refused) → Refusing ts terms (form g') o' s' x → Refusing ts terms (form g) o s x) → Answered ts terms h g o s ns ls ss r
    unfolding AnswerCase ListCase
    passed_list {q = q} e a up = rw e (record { says = up (refusal q) (rw e at a).says })

    pub passed_fill : {o' : ℕ} {s' : State} {r : Read} {q : Refusal} → r ≡ Read.Refused q → Fills ts terms o' s' ns ls ss r →
        ((x : Refused) → Refusing ts terms (chain empty block_items) o' s' x → Refusing ts terms (form g) o s x) → Answered ts terms h g o s ns ls ss r
    unfolding AnswerCase FillCase
    passed_fill {q = q} e a up = rw e (record { says = up (refusal q) (rw e at a).says })

    -- an answer of a part that is an answer of the whole, from the same place
    pub mapped : {g' : Aim Table Label} {o' : ℕ} {s' : State} (r : Read) → s.cursor.at ≤ s'.cursor.at → Answered ts terms h g' o' s' ns ls ss r →
        ((n : Node) (c : Cursor) → Reading ts terms g' o' s' (h n ∷ []) [] (state ns ls ss c) → Reading ts terms g o s (h n ∷ []) [] (state ns ls ss c)) →
        ((x : Refused) → Refusing ts terms (form g') o' s' x → Refusing ts terms (form g) o s x) → Answered ts terms h g o s ns ls ss r
    unfolding AnswerCase
    mapped (Read.Node n c) i a f up = record { says = record { reading = f n c a.says.reading; within = a.says.within; past = omega (arith, a.says.past) } }
    mapped (Read.Refused q) i a f up = record { says = up (refusal q) a.says }

  pub listed : {g : Aim Table Label} {o : ℕ} {s : State} {ns ls ss : List ℕ} {r : Read} {n : Node} {c : Cursor} → r ≡ Read.Node n c → Lists ts terms g o s ns ls ss r →
      Listed ts terms g o s (state ns ls ss c)
  unfolding ListCase
  listed e a = (rw e at a).says.1

  pub filled : {o : ℕ} {s : State} {ns ls ss : List ℕ} {r : Read} {n : Node} {c : Cursor} → r ≡ Read.Node n c → Fills ts terms o s ns ls ss r → Filled ts terms o s n (state ns ls ss c)
  unfolding FillCase
  filled e a = (rw e at a).says

  pub stated : {o : ℕ} {s : State} {ns ls ss : List ℕ} {r : Read} {n : Node} {c : Cursor} → r ≡ Read.Node n c → States ts terms o s ns ls ss r → Stated ts terms o s n (state ns ls ss c)
  unfolding StateCase
  stated e a = (rw e at a).says

-- a refusal after what was read
module _ {ts : List ℕ} {terms : Terms} {o : ℕ} {q : Refused} {xs ys : List Handle} {s s' : State} where
  pub after : {p r : Form} → Reading ts terms (whole p) o s xs ys s' → Refusing ts terms r o s' q → Refusing ts terms (part p r) o s q
  after r h = record { refuses = Refuses.in_second (pass r) (onto r h) }

  pub further : {t : Table} {f : Label} {p r : Form} → Reading ts terms (begun p t) o s xs ys s' → tables terms t (kind ts s'.cursor.at) ≡ node f r → Refusing ts terms r o s' q →
      Refusing ts terms (chain p t) o s q
  further b e h = record { refuses = Refuses.in_link (pass b) e (onto b h) }

  pub after_once : {t : Table} {f : Label} {p r : Form} → Reading ts terms (whole p) o s xs ys s' → tables terms t (kind ts s'.cursor.at) ≡ node f r → Refusing ts terms r o s' q →
      Refusing ts terms (once p t) o s q
  after_once b e h = record { refuses = Refuses.in_joined (pass b) e (onto b h) }

-- a node of what was read: its row is made, or lacks room
module _ {ts : List ℕ} {terms : Terms} {o : ℕ} {s s₁ : State} {f : Label} {p : Form} {xs ys : List Handle} {ns ls ss : List ℕ} where
  pub built : {r : Read} → Ready ts terms o s → Paid (node f p) → s₁.cursor.at < count ts → Reading ts terms (whole p) o s xs ys s₁ → Tries ts f s.cursor.at s₁ xs ys ns ls ss r →
      Answered ts terms node_of (whole (node f p)) o s ns ls ss r
  built h u a z (Tries.made m) = answer h u (rw m.at a) (labelled z m)
  built h u a z (Tries.lacking l) = refuse (full z l)

  -- and of one link at most
  pub built_once : {t : Table} {q : Form} {s₀ : State} {r : Read} → Ready ts terms o s → Paid (once p t) → s₁.cursor.at < count ts → Reading ts terms (whole p) o s xs [] s₀ →
      tables terms t (kind ts s₀.cursor.at) ≡ node f q → Reading ts terms (whole q) o s₀ ys [] s₁ → Tries ts f s₀.cursor.at s₁ xs ys ns ls ss r →
      Answered ts terms node_of (whole (once p t)) o s ns ls ss r
  built_once h u a z g y (Tries.made m) = answer h u (rw m.at a) (joined z g y m)
  built_once h u a z g y (Tries.lacking l) = refuse (full_joined z g y l)

-- one opening deeper
pub nested_answer : {ts : List ℕ} {terms : Terms} {k o : ℕ} {s : State} {p : Form} {ns ls ss : List ℕ} (r : Read) → o < terms.limit → Answered ts terms node_of (whole p) (o + 1) s ns ls ss r →
    Answered ts terms node_of (whole (nested k p)) o s ns ls ss r
nested_answer r h a = mapped r (omega arith) a (λ n c z. opened z) (λ x y. inside h y)
