-- How a stack within the limit fares at a token: the limit is passed there, the kind is taken and what is refused later is refused from here, or it is refused here.
-- And so over many tokens, with one more at the end.
use Prim.Native.Nat.{ℕ, ◌+◌, ◌≤◌}
use mathlib.Core.Bool.{true, false}
use mathlib.Core.List.{◌∷◌, ◌++◌}
use native.Mathlib.Decide.{dec_lt}
use native.Mathlib.Omega.{arith}
use Rattle.grammar.specs.Phrase.{Phrase, token, refusal, Grammar}
use Rattle.grammar.specs.Refusal.{Refused, refused}
use Rattle.grammar.proofs.Stack.{Item, want, Stack, Turn, Result, took, over, bars, Goes, After, one_more}
use Rattle.grammar.proofs.Stopping.{marks, Meets, Opens}

-- the code that the top of a stack bars by, and the kind that it asks for
pub data Barring {N L : Type 0} : Stack N L → (code expected : ℕ) → Type 0 where
  lack : {x : ℕ} {p : Phrase N L} {K : Stack N L} → Barring (want (token x p) ∷ K) 8 x
  stop : {e : ℕ} {K : Stack N L} → Barring (want (refusal e) ∷ K) e 255

module _ {N L : Type 0} (G : Grammar N L) (kind : ℕ → ℕ) (limit : ℕ) where
  -- what is refused with J left at token a is refused with K left at token b
  abbrev pub Before : Stack N L → ℕ → Stack N L → ℕ → Type 0
  Before K b J a = (q : Refused) (M : Stack N L) → Meets G kind limit J a q M → Meets G kind limit K b q M

  -- from K at token a on, and then at token b
  pub data Fares (K : Stack N L) (a b : ℕ) : Result N L → Type 0 where
    deep : {r : Result N L} {M : Stack N L} → Opens M → Meets G kind limit K a (refused 11 b 255) M → Fares K a b r
    on : {J : Stack N L} → marks J ≤ limit → Before K a J (b + 1) → Fares K a b (took J)
    stuck : {M : Stack N L} {code expected : ℕ} → Barring M code expected → marks M ≤ limit → Meets G kind limit K a (refused code b expected) M → Fares K a b (bars M)
    done : Fares K a b over

  -- the tokens from a up to b are taken within the limit, and K is left of J
  pub record Within (J : Stack N L) (a : ℕ) (K : Stack N L) (b : ℕ) : Type 0 where
    pub after : After G kind J a K b
    pub marked : marks K ≤ limit
    pub back : Before J a K b

module _ {N L : Type 0} {G : Grammar N L} {kind : ℕ → ℕ} {limit : ℕ} where
  -- what goes on from J at token b goes on from K at token a
  pub from : {J K : Stack N L} {a b c : ℕ} {r : Result N L} → Before G kind limit K a J b → Fares G kind limit J b c r → Fares G kind limit K a c r
  from f (Fares.deep o m) = Fares.deep o (f _ _ m)
  from f (Fares.on l g) = Fares.on l (λ q M m. f q M (g q M m))
  from f (Fares.stuck s l m) = Fares.stuck s l (f _ _ m)
  from f Fares.done = Fares.done

  turned : {i : Item N L} {J K : Stack N L} {a : ℕ} {r : Result N L} → Turn G (kind a) a i J → marks (J ++ K) ≤ limit → Fares G kind limit (J ++ K) a a r → Fares G kind limit (i ∷ K) a a r
  turned t l = from (λ q M m. Meets.turn t l m)

  -- an opening may pass the limit, and nothing else does
  falls : {i : Item N L} {J K : Stack N L} {a : ℕ} {r : Result N L} → Turn G (kind a) a i J → marks (i ∷ K) ≤ limit → (marks (J ++ K) ≤ limit → Fares G kind limit (J ++ K) a a r) → Fares G kind limit (i ∷ K) a a r
  falls Turn.nothing l f = turned Turn.nothing l (f l)
  falls Turn.both l f = turned Turn.both l (f l)
  falls {K = K} Turn.opens l f = elim (dec_lt (marks K) limit) [ yes h ↦ turned Turn.opens (omega arith) (f (omega arith)) | no h ↦ let j : limit ≤ marks K = omega arith in Fares.deep Opens.opens (Meets.full j) ]
  falls Turn.labels l f = turned Turn.labels l (f l)
  falls (Turn.chooses e) l f = turned (Turn.chooses e) l (f l)
  falls Turn.starts l f = turned Turn.starts l (f l)
  falls Turn.only l f = turned Turn.only l (f l)
  falls (Turn.joins {g = true} e) l f = turned (Turn.joins e) l (f l)
  falls (Turn.joins {g = false} e) l f = turned (Turn.joins e) l (f l)
  falls (Turn.ends e) l f = turned (Turn.ends e) l (f l)
  falls Turn.shuts l f = turned Turn.shuts (omega arith) (f (omega arith))

  pub fares : {a : ℕ} {r : Result N L} {K : Stack N L} → Goes G (kind a) a K r → marks K ≤ limit → Fares G kind limit K a a r
  fares (Goes.now e) l = Fares.on l (λ q M m. Meets.take e m)
  fares Goes.done l = Fares.done
  fares (Goes.lacks e) l = Fares.stuck Barring.lack l (Meets.lacks e)
  fares Goes.stops l = Fares.stuck Barring.stop l Meets.stops
  fares (Goes.turn t g) l = falls t l (fares g)

  -- no token yet, and one more
  pub start : {K : Stack N L} {a : ℕ} → marks K ≤ limit → Within G kind limit K a K a
  start l = record { after = After.here; marked = l; back = λ q M m. m }

  pub fares_on : {J K : Stack N L} {a b : ℕ} {r : Result N L} → Within G kind limit J a K b → Goes G (kind b) b K r → Fares G kind limit J a b r
  fares_on w g = from w.back (fares g w.marked)

  pub one_on : {J K M : Stack N L} {a b : ℕ} → Within G kind limit J a K b → Goes G (kind b) b K (took M) → marks M ≤ limit → Before G kind limit J a M (b + 1) → Within G kind limit J a M (b + 1)
  one_on w g l f = record { after = one_more w.after g; marked = l; back = f }
