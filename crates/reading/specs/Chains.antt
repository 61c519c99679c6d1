-- What the readers of a chain's links answer: whatever stands where they begin, from wherever it began.
use Rattle.std.specs.Prelude.{ℕ, ◌≤◌, List, [], ◌∷◌}
use Rattle.ast.specs.declared.Node.{Node}
use Rattle.grammar.specs.Kaori.{Form, Table}
use Rattle.grammar.specs.Label.{Label}
use Rattle.grammar.specs.Phrase.{chain, Aim, begun}
use Rattle.reading.specs.Answers.{node_of}
use Rattle.reading.specs.Reading.{refusal, Reading, Refusing}
use Rattle.reading.specs.State.{State, state, Within, Rooms}
use Rattle.reading.specs.declared.Read.{Read}
use Rattle.reading.specs.declared.Terms.{Terms}

module _ (ts : List ℕ) (terms : Terms) where
  -- whatever chain stands at s₀ with the node n stands at s₁ with the node m, as the aim says
  pub record Going (p : Form) (t : Table) (g : Aim Table Label) (o : ℕ) (s₀ : State) (n : Node) (s₁ : State) (m : Node) : Type 0 where
    pub grown : (s : State) → Reading ts terms (begun p t) o s (node_of n ∷ []) [] s₀ → Reading ts terms g o s (node_of m ∷ []) [] s₁
    pub within : Within ts s₁
    pub rooms : Rooms s₀ s₁
    pub past : s₀.cursor.at ≤ s₁.cursor.at

  -- and comes as far as a
  pub record Gone (p : Form) (t : Table) (g : Aim Table Label) (o : ℕ) (s₀ : State) (n : Node) (a : ℕ) (s₁ : State) (m : Node) : Type 0 where
    pub going : Going p t g o s₀ n s₁ m
    pub far : a ≤ s₁.cursor.at

  unfoldable pub Further : Form → Table → Aim Table Label → ℕ → State → Node → ℕ → (nodes links scratch : List ℕ) → Read → Type 0
  Further p t g o s₀ n a ns ls ss (Read.Node m c) = Gone p t g o s₀ n a (state ns ls ss c) m
  Further p t g o s₀ n a ns ls ss (Read.Refused q) = (s : State) → Reading ts terms (begun p t) o s (node_of n ∷ []) [] s₀ → Refusing ts terms (chain p t) o s (refusal q)

  -- the chain at s₀ goes on as r answers, and the rooms are these then
  pub record Onward (p : Form) (t : Table) (g : Aim Table Label) (o : ℕ) (s₀ : State) (n : Node) (a : ℕ) (ns ls ss : List ℕ) (r : Read) : Type 0 where
    pub says : Further p t g o s₀ n a ns ls ss r
