-- The kinds that items at the top of a stack take, pass on to those below and bar, computed.
use Prim.Native.Nat.{ℕ, zero, suc}
use mathlib.Core.Bool.{Bool}
use mathlib.Core.List.{[], ◌∷◌, ◌++◌, append_assoc}
use mathlib.Core.Path.{◌≡◌, refl, subst}
use native.Mathlib.Decide.{ℕ_discrete}
use Rattle.grammar.specs.Edition.{Edition}
use Rattle.grammar.specs.Kaori.{Table, Form, kaori}
use Rattle.grammar.specs.Label.{Label}
use Rattle.grammar.specs.Phrase.{empty, token, part, nested, node, choice, chain, once, refusal}
use Rattle.grammar.proofs.Stack.{Item, want, links, mark, Stack, Turn, Result, took, bars, Goes}

-- it takes the kind, and this stands for it then; it passes it on; or it bars it, with this at the top
pub data Verdict : Type 0 where
  takes : Stack Table Label → Verdict
  passes : Verdict
  refuses : Stack Table Label → Verdict
  unknown : Verdict

-- what comes of an item before a token of kind x
pub data Move (e : Edition) (x c : ℕ) : Item Table Label → Type 0 where
  turns : {i : Item Table Label} (J : Stack Table Label) → Turn (kaori e) x c i J → Move e x c i
  needs : {y : ℕ} {p : Form} → Move e x c (want (token y p))
  stops : {k : ℕ} → Move e x c (want (refusal k))
  strays : {i : Item Table Label} → Move e x c i

module _ (e : Edition) (x c : ℕ) where
  unfoldable pub link_move : (g : Bool) (n : Table) (p : Form) → kaori e n x ≡ p → Move e x c (links g n)
  link_move g n empty k = turns _ (Turn.ends k)
  link_move g n (token y p) k = strays
  link_move g n (part p q) k = strays
  link_move g n (nested j p) k = strays
  link_move g n (node f q) k = turns _ (Turn.joins k)
  link_move g n (choice m) k = strays
  link_move g n (chain p m) k = strays
  link_move g n (once p m) k = strays
  link_move g n (refusal j) k = strays

  unfoldable pub move : (i : Item Table Label) → Move e x c i
  move (want empty) = turns _ Turn.nothing
  move (want (token y p)) = needs
  move (want (part p q)) = turns _ Turn.both
  move (want (nested k p)) = turns _ Turn.opens
  move (want (node f p)) = turns _ Turn.labels
  move (want (choice n)) = turns _ (Turn.chooses refl)
  move (want (chain p n)) = turns _ Turn.starts
  move (want (once p n)) = turns _ Turn.only
  move (want (refusal k)) = stops
  move (links g n) = link_move g n (kaori e n x) refl
  move (mark k o) = strays

  -- what it means for items at the top of a stack
  abbrev pub Sees : Verdict → Stack Table Label → Type 0
  Sees (takes J) P = (K : Stack Table Label) → Goes (kaori e) x c (P ++ K) (took (J ++ K))
  Sees passes P = (K : Stack Table Label) (r : Result Table Label) → Goes (kaori e) x c K r → Goes (kaori e) x c (P ++ K) r
  Sees (refuses J) P = (K : Stack Table Label) → Goes (kaori e) x c (P ++ K) (bars (J ++ K))
  Sees unknown P = Unit {0}

  pub record Seen (P : Stack Table Label) : Type 0 where
    pub verdict : Verdict
    pub sees : Sees verdict P

  pub turned : {i : Item Table Label} (J P : Stack Table Label) → Turn (kaori e) x c i J → (v : Verdict) → Sees v (J ++ P) → Sees v (i ∷ P)
  turned J P t (takes M) s = λ K. Goes.turn t (subst (λ S. Goes (kaori e) x c S (took (M ++ K))) (append_assoc J P K) (s K))
  turned J P t passes s = λ K r g. Goes.turn t (subst (λ S. Goes (kaori e) x c S r) (append_assoc J P K) (s K r g))
  turned J P t (refuses M) s = λ K. Goes.turn t (subst (λ S. Goes (kaori e) x c S (bars (M ++ K))) (append_assoc J P K) (s K))
  turned J P t unknown s = tt

  unfoldable pub needed : (y : ℕ) (p : Form) (P : Stack Table Label) → Dec (x ≡ y) → Seen (want (token y p) ∷ P)
  needed y p P (yes k) = record { verdict = takes (want p ∷ P); sees = λ K. Goes.now k }
  needed y p P (no k) = record { verdict = refuses (want (token y p) ∷ P); sees = λ K. Goes.lacks k }

  unfoldable pub moved : {i : Item Table Label} (P : Stack Table Label) → Move e x c i → ((J : Stack Table Label) → Seen (J ++ P)) → Seen (i ∷ P)
  moved P (turns J t) f = record { verdict = (f J).verdict; sees = turned J P t (f J).verdict (f J).sees }
  moved P (needs {y = y} {p = p}) f = needed y p P (ℕ_discrete x y)
  moved P (stops {k = k}) f = record { verdict = refuses (want (refusal k) ∷ P); sees = λ K. Goes.stops }
  moved P strays f = record { verdict = unknown; sees = tt }

  -- with fuel enough to decide
  unfoldable pub look : ℕ → (P : Stack Table Label) → Seen P
  look zero P = record { verdict = unknown; sees = tt }
  look (suc k) [] = record { verdict = passes; sees = λ K r g. g }
  look (suc k) (i ∷ P) = moved P (move i) (λ J. look k (J ++ P))
