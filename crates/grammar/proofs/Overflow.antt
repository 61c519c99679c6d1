-- Where an opening would pass the limit: the marks there are the first of those that stand once the token is taken or barred, and these pass it.
use Prim.Native.Nat.{ℕ, zero, suc, ◌+◌, ◌≤◌, ◌<◌}
use mathlib.Core.Bool.{Bool, true, false}
use mathlib.Core.List.{List, [], ◌∷◌, ◌++◌, append_assoc, append-nil}
use mathlib.Core.Path.{◌≡◌, refl, sym, ap, ◌∙◌}
use native.Mathlib.Decide.{ℕ_discrete}
use native.Mathlib.Omega.{arith}
use lib.Dec.{leb, T, leb→le}
use lib.ListN.{length, take, length-append}
use lib.Seq.{take_at}
use Rattle.grammar.specs.Edition.{Edition}
use Rattle.grammar.specs.Expected.{Opening, opening}
use Rattle.grammar.specs.Kaori.{Table, Form, kaori, script}
use Rattle.grammar.specs.Label.{Label}
use Rattle.grammar.specs.Phrase.{token, refusal, Grammar}
use Rattle.grammar.specs.Refusal.{Refused, refused}
use Rattle.grammar.proofs.Places.{proper, proper_entry, proper_link, rest, code_of, place_of}
use Rattle.grammar.proofs.Stack.{Item, want, links, mark, Stack, Turn}
use Rattle.grammar.proofs.Stopping.{opened, marks, Meets, Opens, one_turn, ahead}
use Rattle.grammar.proofs.Tests.{both}
use Rattle.grammar.proofs.Verdicts.{Verdict, takes, passes, refuses, unknown, Move, Seen, look, moved, move, needed}

-- no form refuses by 11: where a stack of them is refused so, an opening is next
data Fit : Stack Table Label → Type 0 where
  nil : Fit []
  wants : {p : Form} {K : Stack Table Label} → T (proper p) → Fit K → Fit (want p ∷ K)
  linked : {g : Bool} {n : Table} {K : Stack Table Label} → Fit K → Fit (links g n ∷ K)
  marked : {s o : ℕ} {K : Stack Table Label} → Fit K → Fit (mark s o ∷ K)

fit_turn : (e : Edition) {x c : ℕ} {i : Item Table Label} {J K : Stack Table Label} → Turn (kaori e) x c i J → Fit (i ∷ K) → Fit (J ++ K)
unfolding proper
fit_turn e Turn.nothing (Fit.wants h k) = k
fit_turn e (Turn.both {p = p} {q = q}) (Fit.wants h k) = let (u, v) = both (proper p) (proper q) h in Fit.wants u (Fit.wants v k)
fit_turn e Turn.opens (Fit.wants h k) = Fit.wants h (Fit.marked k)
fit_turn e Turn.labels (Fit.wants h k) = Fit.wants h k
fit_turn e {x = x} (Turn.chooses {n = n} d) (Fit.wants h k) = Fit.wants (proper_entry e n x d) k
fit_turn e Turn.starts (Fit.wants h k) = Fit.wants h (Fit.linked k)
fit_turn e Turn.only (Fit.wants h k) = Fit.wants h (Fit.linked k)
fit_turn e {x = x} (Turn.joins {g = true} {n = n} d) (Fit.linked k) = Fit.wants (proper_link e n x d) (Fit.linked k)
fit_turn e {x = x} (Turn.joins {g = false} {n = n} d) (Fit.linked k) = Fit.wants (proper_link e n x d) k
fit_turn e (Turn.ends d) (Fit.linked k) = k
fit_turn e Turn.shuts (Fit.marked k) = k

no_refusal : {k : ℕ} {K : Stack Table Label} → Fit (want (refusal k) ∷ K) → k ≡ 11 → ⊥
unfolding proper
no_refusal {k} (Fit.wants h f) e = omega (arith, leb→le k 10 (both (leb 9 k) (leb k 10) h).1)

fit_opens : (e : Edition) {kind : ℕ → ℕ} {limit a : ℕ} {K M : Stack Table Label} {q : Refused} → Meets (kaori e) kind limit K a q M → Fit K → code_of q ≡ 11 → Opens M
fit_opens e (Meets.lacks d) f h = absurd (omega arith)
fit_opens e (Meets.full d) f h = Opens.opens
fit_opens e Meets.stops f h = absurd (no_refusal f h)
fit_opens e (Meets.take {x = x} {p = p} d m) (Fit.wants i f) h = fit_opens e m (Fit.wants (rest x p i) f) h
fit_opens e (Meets.turn t l m) f h = fit_opens e m (fit_turn e t f) h

pub script_opens : (e : Edition) {kind : ℕ → ℕ} {limit a : ℕ} {M : Stack Table Label} {q : Refused} → Meets (kaori e) kind limit (want script ∷ []) a q M → code_of q ≡ 11 → Opens M
unfolding proper
script_opens e m h = fit_opens e m (Fit.wants tt Fit.nil) h

-- the marks of items that are looked at only grow; and what passes a kind on has none
abbrev Grows : Stack Table Label → Verdict → Type 0
Grows P (takes J) = (os : List Opening) × (opened J ≡ opened P ++ os)
Grows P passes = opened P ≡ []
Grows P (refuses J) = (os : List Opening) × (opened J ≡ opened P ++ os)
Grows P unknown = Unit {0}

abbrev Unmarked : Item Table Label → Type 0
Unmarked (want p) = Unit {0}
Unmarked (links g n) = Unit {0}
Unmarked (mark k o) = ⊥

same_opened : (i : Item Table Label) (P : Stack Table Label) → Unmarked i → opened (i ∷ P) ≡ opened P
same_opened (want p) P h = refl
same_opened (links g n) P h = refl
same_opened (mark k o) P h = absurd h

turn_opens : {G : Grammar Table Label} {x c : ℕ} {i : Item Table Label} {J : Stack Table Label} → Turn G x c i J → (P : Stack Table Label) → Unmarked i → (os : List Opening) × (opened (J ++ P) ≡ opened P ++ os)
turn_opens Turn.nothing P h = ([], sym (append-nil (opened P)))
turn_opens Turn.both P h = ([], sym (append-nil (opened P)))
turn_opens Turn.opens P h = (_, refl)
turn_opens Turn.labels P h = ([], sym (append-nil (opened P)))
turn_opens (Turn.chooses e) P h = ([], sym (append-nil (opened P)))
turn_opens Turn.starts P h = ([], sym (append-nil (opened P)))
turn_opens Turn.only P h = ([], sym (append-nil (opened P)))
turn_opens (Turn.joins {g = true} e) P h = ([], sym (append-nil (opened P)))
turn_opens (Turn.joins {g = false} e) P h = ([], sym (append-nil (opened P)))
turn_opens (Turn.ends e) P h = ([], sym (append-nil (opened P)))
turn_opens Turn.shuts P h = absurd h

no_first : {A : Type 0} (xs ys : List A) → xs ++ ys ≡ [] → xs ≡ []
no_first [] ys e = refl
no_first (x ∷ xs) ys e = absurd (let z : ◌≡◌ {A = ℕ} 0 1 = cc in omega arith)

grow_from : (P Q : Stack Table Label) (os : List Opening) → opened Q ≡ opened P ++ os → (v : Verdict) → Grows Q v → Grows P v
grow_from P Q os e (takes J) (ps, d) = (os ++ ps, d ∙ ap (λ qs. qs ++ ps) e ∙ append_assoc (opened P) os ps)
grow_from P Q os e passes d = no_first (opened P) os (sym e ∙ d)
grow_from P Q os e (refuses J) (ps, d) = (os ++ ps, d ∙ ap (λ qs. qs ++ ps) e ∙ append_assoc (opened P) os ps)
grow_from P Q os e unknown d = tt

module _ (e : Edition) (x c : ℕ) where
  grow_needed : (y : ℕ) (p : Form) (P : Stack Table Label) (d : Dec (x ≡ y)) → Grows (want (token y p) ∷ P) (needed e x c y p P d).verdict
  unfolding needed
  grow_needed y p P (yes h) = ([], sym (append-nil (opened P)))
  grow_needed y p P (no h) = ([], sym (append-nil (opened P)))

  grow_moved : {i : Item Table Label} (P : Stack Table Label) (m : Move e x c i) (f : (J : Stack Table Label) → Seen e x c (J ++ P)) → ((J : Stack Table Label) → Grows (J ++ P) (f J).verdict) → Unmarked i → Grows (i ∷ P) (moved e x c P m f).verdict
  unfolding moved
  grow_moved {i} P (Move.turns J t) f g h = let (os, d) = turn_opens t P h in grow_from (i ∷ P) (J ++ P) os (d ∙ ap (λ qs. qs ++ os) (sym (same_opened i P h))) (f J).verdict (g J)
  grow_moved P (Move.needs {y = y} {p = p}) f g h = grow_needed y p P (ℕ_discrete x y)
  grow_moved P Move.stops f g h = ([], sym (append-nil (opened P)))
  grow_moved P Move.strays f g h = tt

  grow : (k : ℕ) (P : Stack Table Label) → Grows P (look e x c k P).verdict
  unfolding look moved move
  grow zero P = tt
  grow (suc k) [] = refl
  grow (suc k) (want p ∷ P) = grow_moved P (move e x c (want p)) (λ J. look e x c k (J ++ P)) (λ J. grow k (J ++ P)) tt
  grow (suc k) (links g n ∷ P) = grow_moved P (move e x c (links g n)) (λ J. look e x c k (J ++ P)) (λ J. grow k (J ++ P)) tt
  grow (suc k) (mark s o ∷ P) = tt

pub opened_append : (P K : Stack Table Label) → opened (P ++ K) ≡ opened K ++ opened P
opened_append [] K = sym (append-nil (opened K))
opened_append (want p ∷ P) K = opened_append P K
opened_append (links g n ∷ P) K = opened_append P K
opened_append (mark s o ∷ P) K = rw (opened_append P K) (append_assoc (opened K) (opened P) (opening s o ∷ []))

pub opened_length : (K : Stack Table Label) → length (opened K) ≡ marks K
opened_length [] = refl
opened_length (want p ∷ K) = opened_length K
opened_length (links g n ∷ K) = opened_length K
opened_length (mark s o ∷ K) = length-append (opened K) (opening s o ∷ []) ∙ (let e = opened_length K in omega arith)

-- the marks of N pass the limit, and those of M are the first of them
pub record Overflows (limit : ℕ) (M N : Stack Table Label) : Type 0 where
  pub past : limit < marks N
  pub first : opened M ≡ take limit (opened N)

-- the limit is reached, and more would be opened
filled : (limit : ℕ) (M P J K : Stack Table Label) (o : Opening) (os : List Opening) → marks (P ++ K) ≡ limit → opened M ≡ opened (P ++ K) → opened J ≡ (opened P ++ (o ∷ [])) ++ os → Overflows limit M (J ++ K)
filled limit M P J K o os h m e =
    let d : opened (J ++ K) ≡ opened (P ++ K) ++ (o ∷ os) = opened_append J K ∙ ap (λ qs. opened K ++ qs) (e ∙ append_assoc (opened P) (o ∷ []) os) ∙ sym (append_assoc (opened K) (opened P) (o ∷ os)) ∙ ap (λ qs. qs ++ (o ∷ os)) (sym (opened_append P K)) in
    let n = ap length d in
    record { past = omega (arith, n, length-append (opened (P ++ K)) (o ∷ os), opened_length (J ++ K), opened_length (P ++ K)); first = m ∙ sym (ap (take limit) d ∙ take_at (opened (P ++ K)) (o ∷ os) limit (opened_length (P ++ K) ∙ h)) }

-- what comes of an opening that passes the limit at this token
module _ (e : Edition) (kind : ℕ → ℕ) (limit a : ℕ) (K : Stack Table Label) where
  abbrev pub Comes : Refused → Stack Table Label → Verdict → Type 0
  Comes q M (takes J) = Overflows limit M (J ++ K)
  Comes q M passes = Meets (kaori e) kind limit K a q M × (marks K ≤ limit)
  Comes q M (refuses J) = Overflows limit M (J ++ K)
  Comes q M unknown = Unit {0}

  -- the opening
  passed : (q : Refused) (M P : Stack Table Label) (o : Opening) (v : Verdict) (Q : Stack Table Label) → opened Q ≡ opened P ++ (o ∷ []) → Grows Q v → marks (P ++ K) ≡ limit → opened M ≡ opened (P ++ K) → Comes q M v
  passed q M P o (takes J) Q h (os, d) l m = filled limit M P J K o os l m (d ∙ ap (λ qs. qs ++ os) h)
  passed q M P o passes Q h d l m = let z = ap length (sym d ∙ h) in absurd (omega (arith, z, length-append (opened P) (o ∷ [])))
  passed q M P o (refuses J) Q h (os, d) l m = filled limit M P J K o os l m (d ∙ ap (λ qs. qs ++ os) h)
  passed q M P o unknown Q h d l m = tt

  over_turn : {i : Item Table Label} {J : Stack Table Label} {q : Refused} {M : Stack Table Label} (P : Stack Table Label) → Turn (kaori e) (kind a) a i J → (v : Verdict) → Grows (J ++ P) v → (Meets (kaori e) kind limit ((J ++ P) ++ K) a q M → marks ((J ++ P) ++ K) ≤ limit → Comes q M v) → Meets (kaori e) kind limit (i ∷ P ++ K) a q M → marks (i ∷ P ++ K) ≤ limit → Comes q M v
  over_turn P t v g f (Meets.lacks d) l = elim t [ ]
  over_turn {q = q} P Turn.opens v g f (Meets.full {k = s} {p = p} d) l = passed q _ P (opening s a) v (want p ∷ mark s a ∷ P) refl g (omega arith) refl
  over_turn P t v g f Meets.stops l = elim t [ ]
  over_turn P t v g f (Meets.take d m) l = elim t [ ]
  over_turn {J = J} {q = q} {M = M} P t v g f (Meets.turn u h m) l =
      let d = append_assoc J P K in
      let m' : Meets (kaori e) kind limit (J ++ (P ++ K)) a q M = rw (one_turn u t) at m in
      let h' : marks (J ++ (P ++ K)) ≤ limit = rw (one_turn u t) at h in
      f (rw d m') (rw d h')

  later : {q : Refused} {N M : Stack Table Label} → place_of q ≤ a → Meets (kaori e) kind limit N (a + 1) q M → ⊥
  later {q = refused code at expected} l m = omega (arith, ahead m)

  over_needed : {y : ℕ} {p : Form} {q : Refused} {M : Stack Table Label} (P : Stack Table Label) (d : Dec (kind a ≡ y)) → Opens M → place_of q ≤ a → Meets (kaori e) kind limit (want (token y p) ∷ P ++ K) a q M → Comes q M (needed e (kind a) a y p P d).verdict
  over_needed P d o l (Meets.lacks h) = elim o [ ]
  over_needed P d o l (Meets.take h m) = absurd (later l m)
  over_needed P d o l (Meets.turn t h m) = elim t [ ]

  over_stop : {k : ℕ} {q : Refused} {M : Stack Table Label} (N : Stack Table Label) → Opens M → Meets (kaori e) kind limit (want (refusal k) ∷ N) a q M → ⊥
  over_stop N o Meets.stops = elim o [ ]
  over_stop N o (Meets.turn t h m) = elim t [ ]

  over_moved : {i : Item Table Label} {q : Refused} {M : Stack Table Label} (P : Stack Table Label) (v : Move e (kind a) a i) (f : (J : Stack Table Label) → Seen e (kind a) a (J ++ P)) → ((J : Stack Table Label) → Grows (J ++ P) (f J).verdict) → ((J : Stack Table Label) → Meets (kaori e) kind limit ((J ++ P) ++ K) a q M → marks ((J ++ P) ++ K) ≤ limit → Comes q M (f J).verdict) → Opens M → place_of q ≤ a → Meets (kaori e) kind limit (i ∷ P ++ K) a q M → marks (i ∷ P ++ K) ≤ limit → Comes q M (moved e (kind a) a P v f).verdict
  unfolding moved
  over_moved P (Move.turns J t) f g h o l m n = over_turn P t (f J).verdict (g J) (h J) m n
  over_moved P (Move.needs {y = y} {p = p}) f g h o l m n = over_needed P (ℕ_discrete (kind a) y) o l m
  over_moved P (Move.stops {k = k}) f g h o l m n = absurd (over_stop (P ++ K) o m)
  over_moved P Move.strays f g h o l m n = tt

  pub overflow : {q : Refused} {M : Stack Table Label} (k : ℕ) (P : Stack Table Label) → Opens M → place_of q ≤ a → Meets (kaori e) kind limit (P ++ K) a q M → marks (P ++ K) ≤ limit → Comes q M (look e (kind a) a k P).verdict
  unfolding look
  overflow zero P o l m n = tt
  overflow (suc k) [] o l m n = (m, n)
  overflow (suc k) (i ∷ P) o l m n = over_moved P (move e (kind a) a i) (λ J. look e (kind a) a k (J ++ P)) (λ J. grow e (kind a) a k (J ++ P)) (λ J. overflow k (J ++ P) o l) o l m n
