-- Statements whose tokens stand elsewhere: what the proofs about parts of a script share. A root statement's tokens are read alike wherever they stand, so its tree is
-- the same but for the tokens' numbers.
use Prim.Native.Nat.{ℕ, ◌+◌, ◌≤◌, ◌<◌}
use mathlib.Core.Bool.{Bool, true, false, cond}
use mathlib.Core.List.{List}
use mathlib.Core.Path.{◌≡◌}
use lib.Dec.{T, eqb}
use Rattle.grammar.specs.Edition.{Edition}
use Rattle.grammar.specs.Kaori.{Table, kaori}
use Rattle.grammar.specs.Kind.{Else, RightBrace, Semicolon}
use Rattle.grammar.specs.Label.{Node, Label, number_of}
use Rattle.grammar.specs.Phrase.{choice, Tree, none, more, deeper, made, whole, Reads}
use Rattle.grammar.specs.Token.{kind, start, end}
use Rattle.grammar.proofs.Room.{cost}
use Rattle.parts.specs.Dropped.{items}

-- a tree whose token i now stands at f i
unfoldable pub replaced : {L : Type 0} → (ℕ → ℕ) → Tree L → Tree L
replaced f none = none
replaced f (more t u) = more (replaced f t) (replaced f u)
replaced f (deeper t) = deeper (replaced f t)
replaced f (made l a b t) = made l (f a) (f b) (replaced f t)

-- the statements of these items that are kept, by their numbers, after those of s; token i now stands at f i
unfoldable pub kept : (ℕ → Bool) → (ℕ → ℕ) → (s items : Tree Label) → Tree Label
kept c f s none = s
kept c f s (more t u) = s
kept c f s (deeper t) = s
kept c f s (made l a b none) = s
kept c f s (made l a b (more t u)) = cond (c (items t)) (made l (f a) (f b) (more (kept c f s t) (replaced f u))) (kept c f s t)
kept c f s (made l a b (deeper t)) = s
kept c f s (made l a b (made k x y t)) = s

-- a token and its like in another list, where places in the text go by `span`
pub record Kin (ts ts' : List ℕ) (f span : ℕ → ℕ) (i : ℕ) : Type 0 where
  pub step : f (i + 1) ≡ f i + 1
  pub kind_is : kind ts' (f i) ≡ kind ts i
  pub start_is : start ts' (f i) ≡ span (start ts i)
  pub end_is : end ts' (f i) ≡ span (end ts i)

-- the tokens before n read as these statements, one after another
pub data Items (e : Edition) (k : ℕ → ℕ) : ℕ → Tree Label → Type 0 where
  nil : Items e k 0 none
  next : {b c : ℕ} {t u : Tree Label} → Items e k b t → Reads (kaori e) k (whole (choice Table.statement)) b c u → Items e k c (made Label.Item b c (more t u))

-- what may follow a statement: a token that could not go on with it
pub record Fresh (x : ℕ) : Type 0 where
  pub no_brace : x ≡ RightBrace → ⊥
  pub no_else : x ≡ Else → ⊥
  pub no_semicolon : x ≡ Semicolon → ⊥

-- where the tokens of the kept statements go, and that the others leave no gap
pub data Keeps (ts ts' : List ℕ) (c : ℕ → Bool) (f span : ℕ → ℕ) : Tree Label → Type 0 where
  nil : Keeps ts ts' c f span none
  stays : {l : Label} {a b : ℕ} {t u : Tree Label} → c (items t) ≡ true → ((i : ℕ) → a ≤ i → i < b → Kin ts ts' f span i) → Keeps ts ts' c f span t → Keeps ts ts' c f span (made l a b (more t u))
  goes : {l : Label} {a b : ℕ} {t u : Tree Label} → c (items t) ≡ false → f b ≡ f a → Keeps ts ts' c f span t → Keeps ts ts' c f span (made l a b (more t u))

abbrev pub is_import : Label → Bool
is_import (Label.Row n) = eqb (number_of n) (number_of Node.Import)
is_import Label.Script = false
is_import Label.Ended = false
is_import Label.Item = false
is_import Label.Entry = false
is_import Label.Name = false

-- a node's tokens lie from a on and up to z: some, where it takes one; and an import, whose span reaches the token after it, is followed by one of them
pub record Lies (a z : ℕ) (l : Label) (x y : ℕ) : Type 0 where
  pub from : a ≤ x
  pub some : 1 ≤ cost l → x < y
  pub upto : y ≤ z
  pub after : T (is_import l) → y < z

pub data All (P : Label → ℕ → ℕ → Type 0) : Tree Label → Type 0 where
  nothing : All P none
  two : {t u : Tree Label} → All P t → All P u → All P (more t u)
  under : {t : Tree Label} → All P t → All P (deeper t)
  at : {l : Label} {x y : ℕ} {t : Tree Label} → P l x y → All P t → All P (made l x y t)
