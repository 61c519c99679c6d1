-- What is told of some refusals is right, by computation: the certified reader gives the refusal and with it the chain, and the stack of what is left decides each kind.
use Prim.Native.Nat.{ℕ, zero, suc, ◌+◌, ◌*◌, ◌/◌, ◌≤◌, ◌<◌, zero-le}
use mathlib.Core.Bool.{Bool, true, false, ◌&&◌}
use mathlib.Core.List.{List, [], ◌∷◌, ◌++◌}
use mathlib.Core.Logic.{◌↔◌, inl, inr}
use mathlib.Core.Path.{◌≡◌, refl, sym, ap, subst, ◌∙◌}
use native.Mathlib.Decide.{ℕ_discrete, dec_le, dec_lt}
use native.Mathlib.Omega.{arith}
use lib.Dec.{T, leb, leb→le, le→leb}
use lib.ListN.{length}
use Rattle.grammar.specs.Door.{RightEdition, Whole}
use Rattle.grammar.specs.Edition.{Edition, edition}
use Rattle.grammar.specs.Expected.{CouldStand, Opening, opening, openings, Met, Expects, gathered, how_many, lowest_from}
use Rattle.grammar.specs.Handle.{block_tail, block_list}
use Rattle.grammar.specs.Kaori.{Table, above, rules, kaori, script}
use Rattle.grammar.specs.Kind.{Eof}
use Rattle.grammar.specs.Label.{Label}
use Rattle.grammar.specs.Pattern.{among}
use Rattle.grammar.specs.Phrase.{token}
use Rattle.grammar.specs.Refusal.{Refused, refused, Refuses}
use Rattle.grammar.specs.Rows.{blank, links_of, numbers, write, fill, put, make, walk}
use Rattle.grammar.specs.Rule.{rule}
use Rattle.grammar.specs.Space.{has_word}
use Rattle.grammar.specs.Token.{kind, count}
use Rattle.grammar.specs.Told.{Telling, tokens_of, ToldSo, NumbersSo, AllTold, tellings}
use Rattle.grammar.proofs.Expected.{could, stands}
use Rattle.grammar.proofs.Reader.{Answer, read, refuse, unknown, fit_rows, fit_word, fit, reader}
use Rattle.grammar.proofs.Stack.{Item, want, links, mark, Stack, Turn, Result, took, over, bars, Goes, After, one_more}
use Rattle.grammar.proofs.Stopping.{one_chain}
use Rattle.grammar.proofs.Tests.{both, all, passes, within}
use Rattle.grammar.proofs.Verdicts.{Move, turns, needs, stops, strays, link_move, move}

-- a proof, or none was found
pub data Found (A : Type 0) : Type 0 where
  found : A → Found A
  lost : Found A

abbrev pub is_found : {A : Type 0} → Found A → Bool
is_found (found a) = true
is_found lost = false

the_proof : {A : Type 0} (f : Found A) → T (is_found f) → A
the_proof (found a) t = a
the_proof lost t = absurd t

asked : {A B : Type 0} → Dec A → (A → Found B) → Found B
asked (yes a) f = f a
asked (no h) f = lost

got : {A B : Type 0} → Found A → (A → Found B) → Found B
got (found a) f = f a
got lost f = lost

tested : {B : Type 0} (b : Bool) → (T b → Found B) → Found B
tested true f = f tt
tested false f = lost

passing : (p : ℕ → Bool) (a n : ℕ) → ((i : ℕ) → a ≤ i → i < a + n → T (p i)) → T (passes p a n)
passing p a zero f = tt
passing p a (suc n) f = all (p a) (passes p (suc a) n) (f a (omega arith) (omega arith)) (passing p (suc a) n (λ i h l. f i (omega arith) (omega arith)))

no_test : (b : Bool) → b ≡ false → T b → ⊥
no_test true e t = let z : ◌≡◌ {A = ℕ} 0 1 = cc in omega (arith, z)
no_test false e t = t

-- what comes of a kind before a stack
module _ (e : Edition) where
  abbrev Ran : ℕ → ℕ → Stack Table Label → Type 0
  Ran x c K = Found ((r : Result Table Label) × Goes (kaori e) x c K r)

  turned : {x c : ℕ} {i : Item Table Label} {J : Stack Table Label} (K : Stack Table Label) → Turn (kaori e) x c i J → Ran x c (J ++ K) → Ran x c (i ∷ K)
  turned K t (found g) = found (g.0, Goes.turn t g.1)
  turned K t lost = lost

  moved : {x c : ℕ} {i : Item Table Label} (K : Stack Table Label) → Move e x c i → ((J : Stack Table Label) → Ran x c (J ++ K)) → Ran x c (i ∷ K)
  moved K (turns J t) f = turned K t (f J)
  moved {x} K (needs {y = y} {p = p}) f = elim (ℕ_discrete x y) [ yes h ↦ found (took (want p ∷ K), Goes.now h) | no h ↦ found (bars (want (token y p) ∷ K), Goes.lacks h) ]
  moved K (stops {k = k}) f = found (bars _, Goes.stops)
  moved K strays f = lost

  run : ℕ → (x c : ℕ) (K : Stack Table Label) → Ran x c K
  run zero x c K = lost
  run (suc n) x c [] = found (over, Goes.done)
  run (suc n) x c (want p ∷ K) = moved K (move e x c (want p)) (λ J. run n x c (J ++ K))
  run (suc n) x c (links g m ∷ K) = moved K (move e x c (links g m)) (λ J. run n x c (J ++ K))
  run (suc n) x c (mark k o ∷ K) = turned K Turn.shuts (run n x c K)

  -- what is left after so many tokens
  module _ (kinds : ℕ → ℕ) where
    data Left : Type 0 where
      left : (K : Stack Table Label) (i : ℕ) → After (kaori e) kinds (want script ∷ []) 0 K i → Left
      none : Left

    taken : {K : Stack Table Label} {i : ℕ} → After (kaori e) kinds (want script ∷ []) 0 K i → Ran (kinds i) i K → Left
    taken w (found (took M, g)) = left M _ (one_more w g)
    taken w (found (over, g)) = none
    taken w (found (bars M, g)) = none
    taken w lost = none

    next : Left → Left
    next (left K i w) = taken w (run 60 (kinds i) i K)
    next none = none

    lefts : ℕ → Left
    lefts zero = left (want script ∷ []) 0 After.here
    lefts (suc n) = next (lefts n)

    -- whether a kind could stand there, as a test says
    decided : {K : Stack Table Label} {place x : ℕ} → After (kaori e) kinds (want script ∷ []) 0 K place → (b : Bool) → Ran x place K → Found (T b ↔ CouldStand e kinds place x)
    decided w true (found (took M, g)) = found (λ t. could e w (took M) g tt, λ c. tt)
    decided w true (found (over, g)) = found (λ t. could e w over g tt, λ c. tt)
    decided w true (found (bars M, g)) = lost
    decided w true lost = lost
    decided w false (found (took M, g)) = lost
    decided w false (found (over, g)) = lost
    decided w false (found (bars M, g)) = found (λ t. absurd t, λ c. stands e w (bars M) g c)
    decided w false lost = lost

    module _ (set : List ℕ) {K : Stack Table Label} {place : ℕ} (w : After (kaori e) kinds (want script ∷ []) 0 K place) where
      both_found : (n : ℕ) → Found ((x : ℕ) → x < n → T (among set x) ↔ CouldStand e kinds place x) → Found (T (among set n) ↔ CouldStand e kinds place n) → Found ((x : ℕ) → x < suc n → T (among set x) ↔ CouldStand e kinds place x)
      both_found n (found f) (found s) = found (λ x h. elim (ℕ_discrete n x) [ yes d ↦ subst (λ y. T (among set y) ↔ CouldStand e kinds place y) d s | no d ↦ f x (omega (arith, d)) ])
      both_found n (found f) lost = lost
      both_found n lost s = lost

      all_decided : (n : ℕ) → Found ((x : ℕ) → x < n → T (among set x) ↔ CouldStand e kinds place x)
      all_decided zero = found (λ x h. absurd (omega arith))
      all_decided (suc n) = both_found n (all_decided n) (decided w (among set n) (run 60 n place K))

-- one of two lists of openings
same_openings : (os ps : List Opening) → Found (os ≡ ps)
same_openings [] [] = found refl
same_openings [] (p ∷ ps) = lost
same_openings (o ∷ os) [] = lost
same_openings (opening s a ∷ os) (opening k b ∷ ps) = asked (ℕ_discrete s k) (λ d. asked (ℕ_discrete a b) (λ e. on d e (same_openings os ps)))
  where
    on : s ≡ k → a ≡ b → Found (os ≡ ps) → Found (opening s a ∷ os ≡ opening k b ∷ ps)
    on d e (found f) = found cc
    on d e lost = lost

which_edition : (n : ℕ) → Found (RightEdition n)
which_edition n = elim (ℕ_discrete n 1) [ yes e ↦ found (inl e) | no h ↦ elim (ℕ_discrete n 2) [ yes e ↦ found (inr e) | no k ↦ lost ] ]

-- a list, a limit and kinds that the door lets in
whole : (ts : List ℕ) → Found (Whole ts)
whole ts = asked (ℕ_discrete (length ts) (3 * (length ts / 3))) (λ a. asked (dec_le 1 (length ts / 3)) (λ b. asked (dec_le (length ts / 3) 4096) (λ c. found (record { rows = a; some = b; most = c }))))

module _ (t : Telling) where
  abbrev ts : List ℕ
  ts = tokens_of t.kinds

  abbrev Refusing : Refused → Type 0
  Refusing q = Refuses ts (λ i. 0) t.limit (record { nodes = 1000; links = 1000 }) (kaori (edition t.edition)) (kind ts) script 0 0 blank q

  -- the refusal is met by this code at this token
  met : {expected : ℕ} → Refusing (refused t.code t.place expected) → Found (Met t.edition ts t.limit t.code t.place)
  met {expected} r = the (whole ts) (which_edition t.edition)
    where
      the : Found (Whole ts) → Found (RightEdition t.edition) → Found (Met t.edition ts t.limit t.code t.place)
      the (found w) (found n) = asked (dec_le 1 t.limit) (λ a. asked (dec_le t.limit 64) (λ b. asked (dec_le (suc t.place) (count ts)) (λ c. tested (passes (λ i. leb (kind ts i) Eof) 0 (suc t.place)) (λ d. found (record {
        whole = w;
        some_depth = a;
        least_depth = b;
        right = n;
        inside = c;
        known = λ i h. leb→le (kind ts i) Eof (within (λ i. leb (kind ts i) Eof) 0 (suc t.place) i d (omega arith) (omega arith));
        symbol = λ i. 0;
        space = record { nodes = 1000; links = 1000 };
        expected = expected;
        refusal = r;
      })))))
      the (found w) lost = lost
      the lost n = lost

  -- another refusal is met, or none can be
  other : {code place expected : ℕ} → Refusing (refused code place expected) → (code ≡ 4 → ⊥) → (code ≡ t.code → place ≡ t.place → ⊥) → 8 ≤ t.code → t.code ≤ 11 → Met t.edition ts t.limit t.code t.place → ⊥
  other {code} {place} r f h a b m = let (e, o) = one_chain r m.refusal f (λ k. absurd (omega (arith, k, a))) in let i : code ≡ t.code = cc in let j : place ≡ t.place = cc in h i j

  nothing_told : (8 ≤ t.code → t.code ≤ 11 → Met t.edition ts t.limit t.code t.place → ⊥) → (xs : List ℕ) → t.set ≡ xs → (os : List Opening) → t.chain ≡ os → Found (ToldSo t)
  nothing_told f [] e [] d = found (subst (Expects t.edition ts t.limit t.code t.place (among t.set)) (sym d) (Expects.nothing f (λ x h. ap (λ xs. among xs x) e)))
  nothing_told f [] e (o ∷ os) d = lost
  nothing_told f (x ∷ xs) e os d = lost

  -- the kinds of the set
  abbrev RightSet : Type 0
  RightSet = (x : ℕ) → x < 45 → T (among t.set x) ↔ CouldStand (edition t.edition) (kind ts) t.place x

  set_right : Left (edition t.edition) (kind ts) → Found RightSet
  set_right (left K i w) = asked (ℕ_discrete i t.place) (λ d. all_decided (edition t.edition) (kind ts) t.set (subst (After (kaori (edition t.edition)) (kind ts) (want script ∷ []) 0 K) d w) 45)
  set_right none = lost

  -- the refusal is the one that is asked for. `moved_on`, `unread_so` and `deep_so` stay shut when the samples are computed: to compute with a refusal so moved takes more memory than one proof may have
  moved_on : {c p expected : ℕ} (r : Refusing (refused c p expected)) → c ≡ t.code → p ≡ t.place → openings r ≡ t.chain → (s : Refusing (refused t.code t.place expected)) × (openings s ≡ t.chain)
  moved_on {p = p} {expected = x} r d e k = subst (λ y. (s : Refusing (refused t.code y x)) × (openings s ≡ t.chain)) e (subst (λ y. (s : Refusing (refused y p x)) × (openings s ≡ t.chain)) d (r, k))

  module _ {expected : ℕ} (r : Refusing (refused t.code t.place expected)) (l : 8 ≤ t.code) (d : openings r ≡ t.chain) where
    chained : (m : Met t.edition ts t.limit t.code t.place) → openings m.refusal ≡ t.chain
    chained m = (one_chain m.refusal r (λ k. absurd (omega (arith, k, l))) (λ k. absurd (omega (arith, k, l)))).1 ∙ d

    unread_so : t.code ≤ 10 → Met t.edition ts t.limit t.code t.place → RightSet → ToldSo t
    unread_so u m f = subst (Expects t.edition ts t.limit t.code t.place (among t.set)) (chained m) (Expects.unread l u m (λ x h. f x (omega arith)))

    deep_so : t.code ≡ 11 → Met t.edition ts t.limit t.code t.place → t.set ≡ [] → ToldSo t
    deep_so e m k = subst (Expects t.edition ts t.limit t.code t.place (among t.set)) (chained m) (Expects.too_deep e m (λ x h. ap (λ xs. among xs x) k))

    deep_told : t.code ≡ 11 → Met t.edition ts t.limit t.code t.place → (xs : List ℕ) → t.set ≡ xs → Found (ToldSo t)
    deep_told e m [] k = found (deep_so e m k)
    deep_told e m (x ∷ xs) k = lost

    here : Found (ToldSo t)
    here = got (met r) (λ m. elim (dec_le t.code 10) [
      | yes u ↦ got (set_right (lefts (edition t.edition) (kind ts) t.place)) (λ f. found (unread_so u m f))
      | no u ↦ asked (ℕ_discrete t.code 11) (λ e. deep_told e m t.set refl)
    ])

  right_one : {c p expected : ℕ} (r : Refusing (refused c p expected)) → c ≡ t.code → p ≡ t.place → Found (ToldSo t)
  right_one r d e = asked (dec_le 8 t.code) (λ l. got (same_openings (openings r) t.chain) (λ k. let (s, o) = moved_on r d e k in here s l o))

  answered : Answer ts (λ i. 0) t.limit (record { nodes = 1000; links = 1000 }) (kaori (edition t.edition)) (kind ts) script 0 0 blank → Found (ToldSo t)
  answered (read r) = lost
  answered (refuse {q = refused c p x} r) = elim (ℕ_discrete c 4) [
    | yes h ↦ lost
    | no h ↦ elim (ℕ_discrete c t.code) [
      | yes d ↦ elim (ℕ_discrete p t.place) [
        | yes e ↦ right_one r d e
        | no e ↦ nothing_told (other r h (λ i j. e j)) t.set refl t.chain refl
      ]
      | no d ↦ nothing_told (other r h (λ i j. d i)) t.set refl t.chain refl
    ]
  ]
  answered unknown = lost

  neither : (t.edition ≡ 1 → ⊥) → (t.edition ≡ 2 → ⊥) → RightEdition t.edition → ⊥
  neither f g (inl e) = f e
  neither f g (inr e) = g e

  -- a token of the list, and kinds that there are
  right_kinds : (b : Bool) → passes (λ i. leb (kind ts i) Eof) 0 (suc t.place) ≡ b → Found (ToldSo t) → Found (ToldSo t)
  right_kinds true e f = f
  right_kinds false e f = nothing_told (λ l u m. no_test (passes (λ i. leb (kind ts i) Eof) 0 (suc t.place)) e (passing (λ i. leb (kind ts i) Eof) 0 (suc t.place) (λ i h k. le→leb (kind ts i) Eof (m.known i (omega arith))))) t.set refl t.chain refl

  read_so : Found (ToldSo t)
  read_so = answered (reader ts (λ i. 0) t.limit (record { nodes = 1000; links = 1000 }) (kaori (edition t.edition)) (kind ts) 400 script 0 0 blank zero-le (record { nodes = zero-le; links = zero-le }))

  told : Found (ToldSo t)
  told = elim (ℕ_discrete t.edition 1) [
    | yes e ↦ go
    | no f ↦ elim (ℕ_discrete t.edition 2) [ yes e ↦ go | no g ↦ nothing_told (λ l u m. neither f g m.right) t.set refl t.chain refl ]
  ]
    where
      go : Found (ToldSo t)
      go = elim (dec_le (suc t.place) (count ts)) [ yes h ↦ right_kinds (passes (λ i. leb (kind ts i) Eof) 0 (suc t.place)) refl read_so | no h ↦ nothing_told (λ l u m. absurd (h m.inside)) t.set refl t.chain refl ]

  numbered : Found (NumbersSo t)
  numbered = asked (ℕ_discrete (gathered (among t.set) 45) t.number) (λ a. asked (ℕ_discrete (how_many (among t.set) 45) t.count) (λ b. asked (ℕ_discrete (lowest_from (among t.set) 0 45) t.lowest) (λ c. found (record { number = a; count = b; lowest = c }))))

abbrev each : List Telling → Bool
each [] = true
each (u ∷ us) = is_found (told u) && (is_found (numbered u) && each us)

all_told : (us : List Telling) → T (each us) → AllTold us
all_told [] h = tt
all_told (u ∷ us) h =
    let (a, b) = both (is_found (told u)) (is_found (numbered u) && each us) h in
    let (c, d) = both (is_found (numbered u)) (each us) b in
    (the_proof (told u) a, the_proof (numbered u) c, all_told us d)

pub told_right : AllTold tellings
unfolding told numbered read_so right_kinds no_test passing gathered how_many lowest_from answered neither right_one here deep_told set_right nothing_told other met whole which_edition same_openings all_decided both_found decided lefts next taken run moved turned asked got tested the_proof openings reader fit fit_word fit_rows has_word kaori rules above edition ℕ_discrete dec_le dec_lt move link_move walk make put fill write numbers links_of rule block_list block_tail
told_right = all_told tellings tt
