-- A refusal drives what is left to read to one end: the item that bars, and below it the marks of what is open. So what is open at a refusal is one chain. Rows and
-- rooms have no part in it, but for a refusal by 4.
use Prim.Native.Nat.{ℕ, suc, ◌+◌, ◌≤◌, ◌<◌}
use mathlib.Core.Bool.{true, false}
use mathlib.Core.List.{List, [], ◌∷◌, ◌++◌, append_assoc, append-nil}
use mathlib.Core.Path.{◌≡◌, refl, sym, ap, ◌∙◌}
use native.Mathlib.Omega.{arith}
use Rattle.grammar.specs.Expected.{Opening, opening, openings}
use Rattle.grammar.specs.Label.{Label}
use Rattle.grammar.specs.Phrase.{Phrase, token, nested, refusal, Grammar, Tree, Aim, whole, begun, Reads, depth}
use Rattle.grammar.specs.Refusal.{Refused, refused, Refuses}
use Rattle.grammar.specs.Rows.{Rows}
use Rattle.grammar.specs.Space.{Space}
use Rattle.grammar.proofs.Machine.{asked}
use Rattle.grammar.proofs.Places.{code_of}
use Rattle.grammar.proofs.Stack.{Item, want, links, mark, Stack, forward, Turn, Result, took, bars, Goes, After}

-- the marks of a stack, outermost first, and how many
abbrev pub opened : {N L : Type 0} → Stack N L → List Opening
opened [] = []
opened (want p ∷ K) = opened K
opened (links g n ∷ K) = opened K
opened (mark k o ∷ K) = opened K ++ (opening k o ∷ [])

abbrev pub marks : {N L : Type 0} → Stack N L → ℕ
marks [] = 0
marks (want p ∷ K) = marks K
marks (links g n ∷ K) = marks K
marks (mark k o ∷ K) = suc (marks K)

-- with a stack left at token a, and no more marks than the limit, reading is refused by q, with M left
pub data Meets {N L : Type 0} (G : Grammar N L) (kind : ℕ → ℕ) (limit : ℕ) : Stack N L → ℕ → Refused → Stack N L → Type 0 where
  lacks : {x a : ℕ} {p : Phrase N L} {K : Stack N L} → (kind a ≡ x → ⊥) → Meets G kind limit (want (token x p) ∷ K) a (refused 8 a x) (want (token x p) ∷ K)
  full : {k a : ℕ} {p : Phrase N L} {K : Stack N L} → limit ≤ marks K → Meets G kind limit (want (nested k p) ∷ K) a (refused 11 a 255) (want (nested k p) ∷ K)
  stops : {e a : ℕ} {K : Stack N L} → Meets G kind limit (want (refusal e) ∷ K) a (refused e a 255) (want (refusal e) ∷ K)
  take : {x a : ℕ} {p : Phrase N L} {K M : Stack N L} {q : Refused} → kind a ≡ x → Meets G kind limit (want p ∷ K) (a + 1) q M → Meets G kind limit (want (token x p) ∷ K) a q M
  turn : {a : ℕ} {i : Item N L} {J K M : Stack N L} {q : Refused} → Turn G (kind a) a i J → marks (J ++ K) ≤ limit → Meets G kind limit (J ++ K) a q M → Meets G kind limit (i ∷ K) a q M

-- an opening is next
pub data Opens {N L : Type 0} : Stack N L → Type 0 where
  opens : {k : ℕ} {p : Phrase N L} {K : Stack N L} → Opens (want (nested k p) ∷ K)

-- an item turns one way
pub one_turn : {N L : Type 0} {G : Grammar N L} {x c : ℕ} {i : Item N L} {J K : Stack N L} → Turn G x c i J → Turn G x c i K → J ≡ K
one_turn Turn.nothing Turn.nothing = refl
one_turn Turn.both Turn.both = refl
one_turn Turn.opens Turn.opens = refl
one_turn Turn.labels Turn.labels = refl
one_turn (Turn.chooses d) (Turn.chooses e) = cc
one_turn Turn.starts Turn.starts = refl
one_turn Turn.only Turn.only = refl
one_turn (Turn.joins d) (Turn.joins e) = cc
one_turn (Turn.joins d) (Turn.ends e) = cc
one_turn (Turn.ends d) (Turn.joins e) = cc
one_turn (Turn.ends d) (Turn.ends e) = refl
one_turn Turn.shuts Turn.shuts = refl

turned : {N L : Type 0} {G : Grammar N L} {kind : ℕ → ℕ} {a b : ℕ} {i : Item N L} {J K M O : Stack N L} → Turn G (kind a) a i J → After G kind (J ++ K) a O b → Goes G (kind b) b O (bars M) → (P : Stack N L) × After G kind (i ∷ K) a P b × Goes G (kind b) b P (bars M)
turned t After.here g = (_, After.here, Goes.turn t g)
turned t (After.on h x) g = (_, After.on (Goes.turn t h) x, g)

pub data Went {N L : Type 0} (G : Grammar N L) (kind : ℕ → ℕ) (limit a : ℕ) (q : Refused) (M : Stack N L) : Result N L → Type 0 where
  went : {K : Stack N L} → Meets G kind limit K (a + 1) q M → marks K ≤ limit → Went G kind limit a q M (took K)

-- what is left of an aim
abbrev left : {N L : Type 0} → Aim N L → Stack N L → Stack N L
left (whole p) K = K
left (begun p n) K = links true n ∷ K

module _ {N L : Type 0} {G : Grammar N L} {kind : ℕ → ℕ} {limit : ℕ} where
  module _ {q : Refused} {M : Stack N L} where
    go : {a : ℕ} {i : Item N L} {J : Stack N L} → Turn G (kind a) a i J → (K : Stack N L) → marks (J ++ K) ≤ limit → Meets G kind limit (J ++ K) a q M → Meets G kind limit (i ∷ K) a q M
    go t K h c = turn t h c

    over : {m : Aim N L} {a b : ℕ} {t : Tree L} → Reads G kind m a b t → (K : Stack N L) → marks K + depth t ≤ limit → Meets G kind limit (left m K) b q M → Meets G kind limit (want (asked m) ∷ K) a q M
    unfolding depth
    over Reads.nothing K h c = go Turn.nothing K (omega arith) c
    over (Reads.taken e x) K h c = take e (over x K h c)
    over (Reads.both {q = r} x y) K h c = go Turn.both K (omega arith) (over x (want r ∷ K) (omega arith) (over y K (omega arith) c))
    over (Reads.opened {s = k} {a = a} x) K h c = go Turn.opens K (omega arith) (over x (mark k a ∷ K) (omega arith) (go Turn.shuts K (omega arith) c))
    over (Reads.labelled x) K h c = go Turn.labels K (omega arith) (over x K h c)
    over (Reads.chosen e x) K h c = go (Turn.chooses e) K (omega arith) (over x K h c)
    over (Reads.first {n = n} x) K h c = go Turn.starts K (omega arith) (over x (links true n ∷ K) h c)
    over (Reads.link {n = n} l e x) K h c = over l K (omega arith) (go (Turn.joins e) K (omega arith) (over x (links true n ∷ K) (omega arith) c))
    over (Reads.ended l e) K h c = over l K h (go (Turn.ends e) K (omega arith) c)
    over (Reads.alone {n = n} x e) K h c = go Turn.only K (omega arith) (over x (links false n ∷ K) h (go (Turn.ends e) K (omega arith) c))
    over (Reads.joined {n = n} x e y) K h c = go Turn.only K (omega arith) (over x (links false n ∷ K) (omega arith) (go (Turn.joins e) K (omega arith) (over y K (omega arith) c)))

  -- what is left at a refusal is one stack, and the refusal is one
  pub one_met : {K M O : Stack N L} {a : ℕ} {q r : Refused} → Meets G kind limit K a q M → Meets G kind limit K a r O → (q ≡ r) × (M ≡ O)
  one_met (lacks d) (lacks e) = (refl, refl)
  one_met (lacks d) (take e y) = absurd (d e)
  one_met (lacks d) (turn t h y) = elim t [ ]
  one_met (full d) (full e) = (refl, refl)
  one_met (full d) (turn Turn.opens h y) = absurd (omega arith)
  one_met stops stops = (refl, refl)
  one_met stops (turn t h y) = elim t [ ]
  one_met (take d x) (lacks e) = absurd (e d)
  one_met (take d x) (take e y) = one_met x y
  one_met (take d x) (turn t h y) = elim t [ ]
  one_met (turn t h x) (lacks e) = elim t [ ]
  one_met (turn Turn.opens h x) (full e) = absurd (omega arith)
  one_met (turn t h x) stops = elim t [ ]
  one_met (turn t h x) (take e y) = elim t [ ]
  one_met (turn t h x) (turn u i y) = one_met x (rw (one_turn u t) at y)

  pub one_stop : {K M O : Stack N L} {a : ℕ} {q r : Refused} → Meets G kind limit K a q M → Meets G kind limit K a r O → M ≡ O
  one_stop x y = (one_met x y).1

  -- a mark at the top is passed
  pub under_mark : {k o a : ℕ} {K M : Stack N L} {q : Refused} → Meets G kind limit (mark k o ∷ K) a q M → Meets G kind limit K a q M × (marks K ≤ limit)
  under_mark (turn Turn.shuts h x) = (x, h)

  -- before the place each token is taken, within the limit
  pub onward : {K M : Stack N L} {a code place expected : ℕ} {r : Result N L} → Meets G kind limit K a (refused code place expected) M → a < place → marks K ≤ limit → Goes G (kind a) a K r → Went G kind limit a (refused code place expected) M r
  onward (lacks d) h l g = absurd (omega arith)
  onward (full d) h l g = absurd (omega arith)
  onward stops h l g = absurd (omega arith)
  onward (take d x) h l (Goes.now e) = went x l
  onward (take d x) h l (Goes.lacks e) = absurd (e d)
  onward (take d x) h l (Goes.turn t g) = elim t [ ]
  onward (turn t i x) h l (Goes.now e) = elim t [ ]
  onward (turn t i x) h l (Goes.lacks e) = elim t [ ]
  onward (turn t i x) h l Goes.stops = elim t [ ]
  onward (turn {K = K} t i x) h l (Goes.turn u g) = onward x h i (rw (one_turn u t) at g)

  on_from : {K M : Stack N L} {a : ℕ} {q : Refused} {A : Type 0} → Went G kind limit a q M (took K) → (Meets G kind limit K (a + 1) q M → marks K ≤ limit → A) → A
  on_from (went m l) f = f m l

  pub onward_over : {J K M : Stack N L} {a b code place expected : ℕ} → After G kind J a K b → Meets G kind limit J a (refused code place expected) M → marks J ≤ limit → b ≤ place → Meets G kind limit K b (refused code place expected) M × (marks K ≤ limit)
  onward_over After.here m l h = (m, l)
  onward_over (After.on g x) m l h = let i = forward x in on_from (onward m (omega arith) l g) (λ n k. onward_over x n k h)

  pub ahead : {K M : Stack N L} {a code place expected : ℕ} → Meets G kind limit K a (refused code place expected) M → a ≤ place
  ahead (lacks d) = omega arith
  ahead (full d) = omega arith
  ahead stops = omega arith
  ahead (take d x) = omega (arith, ahead x)
  ahead (turn t i x) = ahead x

  -- and at the place it is barred, with what is left at the refusal
  pub stood : {K M : Stack N L} {a code place expected : ℕ} {r : Result N L} → Meets G kind limit K a (refused code place expected) M → (code ≡ 11 → ⊥) → place ≤ a → Goes G (kind a) a K r → r ≡ bars M
  stood (lacks d) n h (Goes.now e) = absurd (d e)
  stood (lacks d) n h (Goes.lacks e) = refl
  stood (lacks d) n h (Goes.turn t g) = elim t [ ]
  stood (full d) n h g = absurd (n refl)
  stood stops n h Goes.stops = refl
  stood stops n h (Goes.turn t g) = elim t [ ]
  stood (take d x) n h g = let l = ahead x in absurd (omega arith)
  stood (turn t i x) n h (Goes.now e) = elim t [ ]
  stood (turn t i x) n h (Goes.lacks e) = elim t [ ]
  stood (turn t i x) n h Goes.stops = elim t [ ]
  stood (turn t i x) n h (Goes.turn u g) = stood x n h (rw (one_turn u t) at g)

  -- the stack after the tokens before the place, and that it bars what stands there
  pub splits : {K M : Stack N L} {a code place expected : ℕ} → Meets G kind limit K a (refused code place expected) M → (code ≡ 11 → ⊥) → (J : Stack N L) × After G kind K a J place × Goes G (kind place) place J (bars M)
  splits (lacks e) h = (_, After.here, Goes.lacks e)
  splits (full e) h = absurd (h refl)
  splits stops h = (_, After.here, Goes.stops)
  splits (take e x) h = let (J, y, g) = splits x h in (J, After.on (Goes.now e) y, g)
  splits (turn t l x) h = let (J, y, g) = splits x h in turned t y g

-- a refusal is met, and what is open then is what was, and what it lies inside of
module _ {ts : List ℕ} {symbol : ℕ → ℕ} {limit : ℕ} {space : Space} {N : Type 0} {G : Grammar N Label} {kind : ℕ → ℕ} where
  pub meets : {p : Phrase N Label} {o a : ℕ} {w : Rows} {q : Refused} (x : Refuses ts symbol limit space G kind p o a w q) → (code_of q ≡ 4 → ⊥) → (K : Stack N Label) → marks K ≡ o → o ≤ limit → (M : Stack N Label) × Meets G kind limit (want p ∷ K) a q M × (opened M ≡ opened K ++ openings x)
  unfolding openings
  meets (Refuses.missing e) n K h l = (_, Meets.lacks e, sym (append-nil (opened K)))
  meets (Refuses.past_token e x) n K h l = let (M, c, d) = meets x n K h l in (M, Meets.take e c, d)
  meets (Refuses.in_first {r = r} x) n K h l = let (M, c, d) = meets x n (want r ∷ K) h l in (M, go Turn.both K (omega arith) c, d)
  meets (Refuses.in_second {r = r} y x) n K h l = let (M, c, d) = meets x n K h l in (M, go Turn.both K (omega arith) (over y.reads (want r ∷ K) (omega (arith, y.deep)) c), d)
  meets (Refuses.too_deep i) n K h l = let j : limit ≤ marks K = omega arith in (_, Meets.full j, sym (append-nil (opened K)))
  meets (Refuses.inside {s = s} {a = a} i x) n K h l = let (M, c, d) = meets x n (mark s a ∷ K) (ap suc h) (omega arith) in (M, go Turn.opens K (omega arith) c, d ∙ append_assoc (opened K) (opening s a ∷ []) (openings x))
  meets (Refuses.in_node x) n K h l = let (M, c, d) = meets x n K h l in (M, go Turn.labels K (omega arith) c, d)
  meets (Refuses.no_room y i) n K h l = absurd (n refl)
  meets (Refuses.in_choice e x) n K h l = let (M, c, d) = meets x n K h l in (M, go (Turn.chooses e) K (omega arith) c, d)
  meets (Refuses.in_start {n = m} x) n K h l = let (M, c, d) = meets x n (links true m ∷ K) h l in (M, go Turn.starts K (omega arith) c, d)
  meets (Refuses.in_link {n = m} y e x) n K h l = let (M, c, d) = meets x n (links true m ∷ K) h l in (M, over y.reads K (omega (arith, y.deep)) (go (Turn.joins e) K (omega arith) c), d)
  meets (Refuses.no_room_linked y e z i) n K h l = absurd (n refl)
  meets (Refuses.in_only {n = m} x) n K h l = let (M, c, d) = meets x n (links false m ∷ K) h l in (M, go Turn.only K (omega arith) c, d)
  meets (Refuses.in_joined {n = m} y e x) n K h l = let (M, c, d) = meets x n K h l in (M, go Turn.only K (omega arith) (over y.reads (links false m ∷ K) (omega (arith, y.deep)) (go (Turn.joins e) K (omega arith) c)), d)
  meets (Refuses.no_room_joined y e z i) n K h l = absurd (n refl)
  meets Refuses.stopped n K h l = (_, Meets.stops, sym (append-nil (opened K)))

-- what a phrase meets is its refusal, and what is open then is the refusal's chain
pub met_chain : {ts : List ℕ} {symbol : ℕ → ℕ} {limit : ℕ} {space : Space} {N : Type 0} {G : Grammar N Label} {kind : ℕ → ℕ} {p : Phrase N Label} {a : ℕ} {w : Rows} {q r : Refused} {M : Stack N Label} (x : Refuses ts symbol limit space G kind p 0 a w q) → (code_of q ≡ 4 → ⊥) → Meets G kind limit (want p ∷ []) a r M → (q ≡ r) × (openings x ≡ opened M)
met_chain x n m =
    let (O, c, e) = meets x n [] refl (omega arith) in
    let (i, j) = one_met c m in
    (i, sym e ∙ ap opened j)

-- the chain of a refusal is one, and so is the refusal, in whatever rooms it is met
pub one_chain : {ts us : List ℕ} {σ τ : ℕ → ℕ} {limit : ℕ} {s z : Space} {N : Type 0} {G : Grammar N Label} {kind : ℕ → ℕ} {p : Phrase N Label} {a : ℕ} {w v : Rows} {q r : Refused} (x : Refuses ts σ limit s G kind p 0 a w q) (y : Refuses us τ limit z G kind p 0 a v r) → (code_of q ≡ 4 → ⊥) → (code_of r ≡ 4 → ⊥) → (q ≡ r) × (openings x ≡ openings y)
one_chain x y m n =
    let (O, d, f) = meets y n [] refl (omega arith) in
    let (i, j) = met_chain x m d in
    (i, j ∙ f)
