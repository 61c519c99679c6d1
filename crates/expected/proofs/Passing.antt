-- The cells that a kind leaves behind pass it on, and nothing is opened by them: what comes of it before the cells that are left comes of it before all. So too where
-- an opening passes the limit.
use Prim.Native.Nat.{ℕ, zero, suc, ◌+◌, ◌-◌, ◌/◌, ◌%◌, ◌≤◌, ◌<◌}
use mathlib.Core.Bool.{Bool, true, false, ◌||◌}
use mathlib.Core.List.{List, [], ◌∷◌, ◌++◌}
use mathlib.Core.Path.{◌≡◌, refl, sym, ap, subst, ◌∙◌}
use native.Mathlib.Omega.{arith}
use lib.Dec.{T, ltb, ltb→lt}
use lib.ListN.{length, get_or, drop, drop_of_length-le}
use lib.Seq.{drop-cons, drop-drop}
use borrow.Author.Tests.{lt-ltb, le-ltb}
use Rattle.grammar.specs.Edition.{Edition}
use Rattle.grammar.specs.Kaori.{Table, kaori}
use Rattle.grammar.specs.Label.{Label}
use Rattle.grammar.specs.Refusal.{Refused}
use Rattle.grammar.proofs.Overflow.{Comes, overflow}
use Rattle.grammar.proofs.Stack.{want, links, mark, Stack, Turn, Result, took, over, bars, Goes}
use Rattle.grammar.proofs.Stopping.{marks, under_mark}
use Rattle.grammar.proofs.Tests.{within}
use Rattle.grammar.proofs.Verdicts.{Verdict, takes, passes, refuses, unknown, Sees, look}
use Rattle.expected.specs.Cells.{states, cell, joined, list, opens_of, entry, taken, passed, barred, plain, barred_by, only_marks, decoded, sound, Sound, more, Acts, Pushed, bar_number, number_of}
use Rattle.expected.specs.Steps.{TooDeep, Fills, Taken, Ends, Bars, Deepens, Passing, Above, StopsAt, StopCase, Stops, Admits}
use Rattle.expected.specs.declared.stack.Stop.{Stop}
use Rattle.expected.specs.declared.tables.Action.{Action}
use Rattle.expected.specs.declared.tables.Bar.{Bar}
use Rattle.expected.proofs.Laws.{opens_right}
use Rattle.std.specs.Prelude.{Some, None}

-- an opening passes the limit before P and K: what comes of it, by what P is seen to do
deep_comes : {e : Edition} {x c limit : ℕ} {kind : ℕ → ℕ} {q : Refused} {M : Stack Table Label} (P K : Stack Table Label) → TooDeep e x c kind limit q M (P ++ K) → Comes e kind limit c K q M (look e x c 40 P).verdict
deep_comes {e} {x} {c} {limit} {kind} {q} {M} P K d = subst (λ y. Comes e kind limit c K q M (look e y c 40 P).verdict) d.here (overflow e kind limit c K 40 P d.opens d.there d.meets d.within)

-- that two numbers are the same which are not
apart : {A : Type 0} → ◌≡◌ {A = ℕ} 0 1 → A
apart z = absurd (omega (arith, z))

-- what a verdict means, once the code and the marks alone are kept of what bars: the items P take the kind, pass it on or bar it
module _ (e : Edition) (x c : ℕ) (P : Stack Table Label) where
  record Passes : Type 0 where
    on : (K : Stack Table Label) (r : Result Table Label) → Goes (kaori e) x c K r → Goes (kaori e) x c (P ++ K) r
    deepens : (K : Stack Table Label) → Deepens e x c (P ++ K) K

  record Takes (J : Stack Table Label) : Type 0 where
    goes : (K : Stack Table Label) → Goes (kaori e) x c (P ++ K) (took (J ++ K))
    fills : (K : Stack Table Label) → Fills e x c (P ++ K) (J ++ K)

  record Refuses (code : ℕ) (M : Stack Table Label) : Type 0 where
    stands : Stack Table Label
    goes : (K : Stack Table Label) → Goes (kaori e) x c (P ++ K) (bars (stands ++ K))
    fills : (K : Stack Table Label) → Fills e x c (P ++ K) (stands ++ K)
    marked : barred code M ≡ barred (barred_by stands) (only_marks stands)

  -- what a verdict says of an opening that passes the limit
  record Deep (v : Verdict) : Type 0 where
    comes : {limit : ℕ} {kind : ℕ → ℕ} {q : Refused} {M : Stack Table Label} (K : Stack Table Label) → TooDeep e x c kind limit q M (P ++ K) → Comes e kind limit c K q M v

  as_passes : (v : Verdict) → Sees e x c v P → Deep v → plain v ≡ passed → Passes
  as_passes (takes J) s d k = apart cc
  as_passes passes s d k = record { on = s; deepens = λ K. record { deeper = λ t. let (m, l) = d.comes K t in record { here = t.here; opens = t.opens; there = t.there; within = l; meets = m } } }
  as_passes (refuses J) s d k = apart cc
  as_passes unknown s d k = apart cc

  as_takes : (v : Verdict) {J : Stack Table Label} → Sees e x c v P → Deep v → plain v ≡ taken J → Takes J
  as_takes (takes M) {J} s d k = let z : M ≡ J = cc in subst Takes z (record { goes = s; fills = λ K. record { full = λ t. d.comes K t } })
  as_takes passes s d k = apart cc
  as_takes (refuses M) s d k = apart cc
  as_takes unknown s d k = apart cc

  as_refuses : (v : Verdict) {code : ℕ} {M : Stack Table Label} → Sees e x c v P → Deep v → plain v ≡ barred code M → Refuses code M
  as_refuses (takes J) s d k = apart cc
  as_refuses passes s d k = apart cc
  as_refuses (refuses J) s d k = record { stands = J; goes = s; fills = λ K. record { full = λ t. d.comes K t }; marked = sym k }
  as_refuses unknown s d k = apart cc

barred_at : (c a : ℕ) → a < 5 → (code : ℕ) × (M : Stack Table Label) × (entry c a ≡ barred code M)
unfolding entry
barred_at c zero h = (_, _, refl)
barred_at c (suc zero) h = (_, _, refl)
barred_at c (suc (suc zero)) h = (_, _, refl)
barred_at c (suc (suc (suc zero))) h = (_, _, refl)
barred_at c (suc (suc (suc (suc zero)))) h = (_, _, refl)
barred_at c (suc (suc (suc (suc (suc a))))) h = absurd (omega arith)

taken_at : (c a : ℕ) → 5 < a → entry c a ≡ taken (joined c (list (a - 6)))
unfolding entry
taken_at c zero h = absurd (omega arith)
taken_at c (suc zero) h = absurd (omega arith)
taken_at c (suc (suc zero)) h = absurd (omega arith)
taken_at c (suc (suc (suc zero))) h = absurd (omega arith)
taken_at c (suc (suc (suc (suc zero)))) h = absurd (omega arith)
taken_at c (suc (suc (suc (suc (suc zero))))) h = absurd (omega arith)
taken_at c (suc (suc (suc (suc (suc (suc a)))))) h = let k : a ≡ suc (suc (suc (suc (suc (suc a))))) - 6 = omega arith in ap (λ k. taken (joined c (list k))) k

pub sound_state : (v : ℕ) → v < 64 → T (sound v) → v < 54
unfolding sound
sound_state v h t = pick (ltb v 54) refl (rw (le-ltb 63 v (omega arith)) at t)
  where
    pick : (b : Bool) → ltb v 54 ≡ b → T (b || false) → v < 54
    pick true e u = ltb→lt v 54 (rw e tt)
    pick false e u = absurd u

pub marks_append : (P K : Stack Table Label) → marks (P ++ K) ≡ marks P + marks K
marks_append [] K = omega arith
marks_append (want p ∷ P) K = marks_append P K
marks_append (links g n ∷ P) K = marks_append P K
marks_append (mark k o ∷ P) K = omega (arith, marks_append P K)

-- lower down are no more marks
fewer_in : (n : ℕ) (vs : List ℕ) → marks (decoded (drop n vs)) ≤ marks (decoded vs)
unfolding decoded
fewer_in zero vs = omega arith
fewer_in (suc n) [] = omega arith
fewer_in (suc n) (v ∷ vs) = let e = marks_append (cell v) (decoded vs) in omega (arith, e, fewer_in n vs)

pub fewer : (top t : ℕ) (room : List ℕ) → top ≤ t → marks (decoded (drop t room)) ≤ marks (decoded (drop top room))
fewer top t room h =
    let e : top + (t - top) ≡ t = omega arith in
    subst (λ n. marks (decoded (drop n room)) ≤ marks (decoded (drop top room))) e (subst (λ vs. marks (decoded vs) ≤ marks (decoded (drop top room))) (drop-drop (t - top) top room) (fewer_in (t - top) (drop top room)))

-- a state has none
unmarked : Stack Table Label → Bool
unmarked [] = true
unmarked (want p ∷ K) = unmarked K
unmarked (links g n ∷ K) = unmarked K
unmarked (mark k o ∷ K) = false

no_marks : (P : Stack Table Label) → T (unmarked P) → marks P ≡ 0
unfolding unmarked
no_marks [] t = refl
no_marks (want p ∷ P) t = no_marks P t
no_marks (links g n ∷ P) t = no_marks P t
no_marks (mark k o ∷ P) t = absurd t

pub state_unmarked : (v : ℕ) → v < 64 → marks (get_or states v []) ≡ 0
unfolding states unmarked
state_unmarked v h = no_marks (get_or states v []) (within (λ v. unmarked (get_or states v [])) 0 64 v tt (omega arith) h)

heads : {v : ℕ} {vs : List ℕ} → Sound (v ∷ vs) → T (sound v) × Sound vs
heads (more h s) = (h, s)

module _ {e : Edition} {x c top : ℕ} {before room : List ℕ} {t : ℕ} (p : Passing e x c top before room t) (h : t < length room) where
  top_first : Sound (get_or room t 0 ∷ drop (suc t) room)
  top_first = rw (drop-cons room t 0 h) at p.sounds

  next_is : drop (suc t) room ≡ drop (t + 1) room
  next_is = let e : suc t ≡ t + 1 = omega arith in ap (λ n. drop n room) e

  split : decoded (drop t room) ≡ cell (get_or room t 0) ++ decoded (drop (suc t) room)
  unfolding decoded
  split = ap decoded (drop-cons room t 0 h)

  going : (r : Result Table Label) → Goes (kaori e) x c (cell (get_or room t 0) ++ decoded (drop (suc t) room)) r → Goes (kaori e) x c (decoded (drop top before)) r
  going r g = p.on r (rw split g)

  deep_in : {limit : ℕ} {kind : ℕ → ℕ} {q : Refused} {M : Stack Table Label} → TooDeep e x c kind limit q M (decoded (drop top before)) → TooDeep e x c kind limit q M (cell (get_or room t 0) ++ decoded (drop (suc t) room))
  deep_in {limit} {kind} {q} {M} d = subst (TooDeep e x c kind limit q M) split (p.deepens.deeper d)

  pub state_number : get_or room t 0 < 64 → get_or room t 0 < 54
  state_number l = sound_state (get_or room t 0) l (heads top_first).0

  -- the cell is left behind
  pass : ((r : Result Table Label) → Goes (kaori e) x c (decoded (drop (suc t) room)) r → Goes (kaori e) x c (cell (get_or room t 0) ++ decoded (drop (suc t) room)) r) → Deepens e x c (cell (get_or room t 0) ++ decoded (drop (suc t) room)) (decoded (drop (suc t) room)) → Passing e x c top before room (t + 1)
  pass f g = record {
    same = p.same;
    past = omega (arith, p.past);
    upto = omega arith;
    sounds = rw next_is at (heads top_first).1;
    on = λ r k. going r (f r (rw next_is k));
    deepens = subst (λ vs. Deepens e x c (decoded (drop top before)) (decoded vs)) next_is (record { deeper = λ d. g.deeper (deep_in d) });
  }

  mark_cell : 64 ≤ get_or room t 0 → cell (get_or room t 0) ≡ mark (get_or room t 0 % 4) (get_or room t 0 / 4 - 16) ∷ []
  unfolding cell
  mark_cell l = rw (le-ltb (get_or room t 0) 64 l)

  pub pass_mark : 64 ≤ get_or room t 0 → Passing e x c top before room (t + 1)
  pass_mark l = pass (λ r g. rw (mark_cell l) (shut r g)) (subst (λ P. Deepens e x c (P ++ decoded (drop (suc t) room)) (decoded (drop (suc t) room))) (sym (mark_cell l)) (record { deeper = λ d. under d }))
    where
      shut : {k o : ℕ} {K : Stack Table Label} (r : Result Table Label) → Goes (kaori e) x c K r → Goes (kaori e) x c (mark k o ∷ K) r
      shut r g = Goes.turn Turn.shuts g

      under : {k o limit : ℕ} {K M : Stack Table Label} {kind : ℕ → ℕ} {q : Refused} → TooDeep e x c kind limit q M (mark k o ∷ K) → TooDeep e x c kind limit q M K
      under d = let (m, l) = under_mark d.meets in record { here = d.here; opens = d.opens; there = d.there; within = l; meets = m }

  pub mark_less : 64 ≤ get_or room t 0 → marks (decoded (drop t room)) ≡ suc (marks (decoded (drop (t + 1) room)))
  mark_less l = ap marks (split ∙ ap (λ P. P ++ decoded (drop (suc t) room)) (mark_cell l)) ∙ ap (λ vs. suc (marks (decoded vs))) next_is

  -- the cell is a state
  module _ (l : get_or room t 0 < 64) where
    state_is : cell (get_or room t 0) ≡ get_or states (get_or room t 0) []
    unfolding cell
    state_is = rw (lt-ltb (get_or room t 0) 64 l)

    filling : {J : Stack Table Label} → Fills e x c (get_or states (get_or room t 0) [] ++ decoded (drop (suc t) room)) J → Fills e x c (decoded (drop top before)) J
    filling {J} f = let g = subst (λ P. Fills e x c (P ++ decoded (drop (suc t) room)) J) (sym state_is) f in record { full = λ z. g.full (deep_in z) }

    state_same : marks (decoded (drop t room)) ≡ marks (decoded (drop (suc t) room))
    state_same = ap marks (split ∙ ap (λ P. P ++ decoded (drop (suc t) room)) state_is) ∙ marks_append (get_or states (get_or room t 0) []) (decoded (drop (suc t) room)) ∙ ap (λ n. n + marks (decoded (drop (suc t) room))) (state_unmarked (get_or room t 0) l) ∙ omega arith

    pub state_next : marks (decoded (drop t room)) ≡ marks (decoded (drop (t + 1) room))
    state_next = state_same ∙ ap (λ vs. marks (decoded vs)) next_is

    module _ {a : ℕ} (k : Acts e (get_or room t 0) x a) where
      seen : (v : Verdict) × Sees e x c v (get_or states (get_or room t 0) []) × Deep e x c (get_or states (get_or room t 0) []) v × (plain v ≡ entry c a)
      seen = let s = look e x c 40 (get_or states (get_or room t 0) []) in (s.verdict, s.sees, record { comes = λ K d. deep_comes (get_or states (get_or room t 0) []) K d }, k.says c)

      pub pass_state : a ≡ 5 → Passing e x c top before room (t + 1)
      unfolding entry
      pass_state i =
          let (v, s, d, m) = seen in
          let u = as_passes e x c (get_or states (get_or room t 0) []) v s d (m ∙ ap (entry c) i) in
          pass (λ r g. rw state_is (u.on (decoded (drop (suc t) room)) r g)) (subst (λ P. Deepens e x c (P ++ decoded (drop (suc t) room)) (decoded (drop (suc t) room))) (sym state_is) (u.deepens (decoded (drop (suc t) room))))

      -- it bars the kind
      pub bar : {d : ℕ} → a < 5 → d ≡ marks (decoded (drop t room)) → Bars e x c top before room t d a
      bar {d} i j =
          let (v, s, w, m) = seen in
          let (code, M, n) = barred_at c a i in
          let u = as_refuses e x c (get_or states (get_or room t 0) []) v s w (m ∙ n) in
          let f = fewer top t room p.past in
          let b : marks (decoded (drop top room)) ≡ marks (decoded (drop top before)) = ap (λ r. marks (decoded (drop top r))) p.same in
          record {
            stands = u.stands;
            goes = going _ (rw state_is (u.goes (decoded (drop (suc t) room))));
            fills = filling (u.fills (decoded (drop (suc t) room)));
            marked = n ∙ u.marked;
            deep = j ∙ state_same;
            fewer = omega (arith, f, b, j);
            sounds = (heads top_first).1;
            fits = h;
            number = i;
            kept = p.same;
          }

      -- it takes it
      module _ (i : 5 < a) where
        takes_it : Takes e x c (get_or states (get_or room t 0) []) (joined c (list (a - 6)))
        takes_it = let (v, s, w, m) = seen in as_takes e x c (get_or states (get_or room t 0) []) v s w (m ∙ taken_at c a i)

        pub goes_on : Goes (kaori e) x c (decoded (drop top before)) (took (joined c (list (a - 6)) ++ decoded (drop (suc t) room)))
        goes_on = going _ (rw state_is (takes_it.goes (decoded (drop (suc t) room))))

        pub take : {after : List ℕ} {d r : ℕ} → 8 ≤ top → d ≡ marks (decoded (drop t room)) → Pushed (a - 6) c (t + 1) room after r → Taken e x c top before after r (d + opens_of (a - 6))
        take {after} {d} {r} n j u =
            let f : decoded (drop r after) ≡ joined c (list (a - 6)) ++ decoded (drop (suc t) room) = u.stack ∙ ap (λ D. joined c (list (a - 6)) ++ decoded D) (sym next_is) in
            let b = k.bound in
            record {
              goes = rw f goes_on;
              fills = rw f (filling (takes_it.fills (decoded (drop (suc t) room))));
              deep = let m = ap marks f in omega (arith, m, marks_append (joined c (list (a - 6))) (decoded (drop (suc t) room)), opens_right c (a - 6) (omega (arith, b)), j, state_same);
              sounds = u.sounds (rw next_is at (heads top_first).1);
              near = omega (arith, u.near, p.past);
              fits = omega (arith, u.fits, u.same_length);
            }

pub finished : {e : Edition} {x c top : ℕ} {before room : List ℕ} {t : ℕ} → Passing e x c top before room t → length room ≤ t → Ends e x c (decoded (drop top before))
unfolding decoded
finished {e} {x} {c} {top} {before} {room} {t} p h =
    let d : drop t room ≡ [] = drop_of_length-le room h in
    record { goes = p.on over (rw d Goes.done); never = λ z. none ((subst (λ vs. Deepens e x c (decoded (drop top before)) (decoded vs)) d p.deepens).deeper z) }
  where
    none : {limit : ℕ} {kind : ℕ → ℕ} {q : Refused} {M : Stack Table Label} → TooDeep e x c kind limit q M [] → ⊥
    none d = let m = d.meets in elim m [ ]

-- nothing is left behind, and one cell more: a state that passes the kind on, and a mark
pub none_above : {e : Edition} {x top : ℕ} {room : List ℕ} → top ≤ length room → Sound (drop top room) → Above e x top room top 0
none_above h s = record { passing = λ c. record { same = refl; past = omega arith; upto = h; sounds = s; on = λ r g. g; deepens = record { deeper = λ d. d } }; counted = omega arith; few = omega arith }

module _ {e : Edition} {x top : ℕ} {room : List ℕ} {t n : ℕ} (p : Above e x top room t n) (h : t < length room) where
  pub one_state : (l : get_or room t 0 < 64) {a : ℕ} → Acts e (get_or room t 0) x a → a ≡ 5 → Above e x top room (t + 1) n
  one_state l k i = record { passing = λ c. pass_state (p.passing c) h l k i; counted = omega (arith, p.counted, state_next (p.passing 0) h l); few = omega (arith, p.few) }

  pub one_mark : 64 ≤ get_or room t 0 → Above e x top room (t + 1) (n + 1)
  one_mark l = record { passing = λ c. pass_mark (p.passing c) h l; counted = omega (arith, p.counted, mark_less (p.passing 0) h l); few = omega (arith, p.few) }

pub bar_few : (b : Bar) → bar_number b < 5
bar_few Bar.Token = omega arith
bar_few Bar.Operand = omega arith
bar_few Bar.For = omega arith
bar_few Bar.OpenedOperand = omega arith
bar_few Bar.OpenedBlock = omega arith

-- what a state is said to do, by another name of it
pub met : {e : Edition} {v x : ℕ} {a b : Action} → a ≡ b → Acts e v x (number_of (Some a)) → Acts e v x (number_of (Some b))
met z k = rw z at k

-- what the first stop says
pub as_stop : {e : Edition} {x top : ℕ} {room : List ℕ} {s : Stop} → Stops e x top room (Some s) → StopsAt e x top room s
unfolding StopCase
as_stop s = s.says

pub as_nowhere : {e : Edition} {x top : ℕ} {room : List ℕ} → Stops e x top room None → (c : ℕ) → Passing e x c top room room (length room)
unfolding StopCase
as_nowhere s = s.says

-- wherever the token is: the kind stands before nothing, and before a cell that takes it
module _ {e : Edition} {x top : ℕ} {room : List ℕ} where
  pub admits_over : ((c : ℕ) → Passing e x c top room room (length room)) → Admits e x (decoded (drop top room)) true
  admits_over p = record { result = λ c. over; goes = λ c. (finished (p c) (omega arith)).goes; yes = λ t c. tt; no = λ c t. tt }

  pub admits_taken : {s : Stop} {k : ℕ} → StopsAt e x top room s → s.action ≡ Action.Takes k → Admits e x (decoded (drop top room)) true
  admits_taken {s} {k} w z =
      let i : 5 < 6 + k = omega arith in
      record { result = λ c. took (joined c (list (6 + k - 6)) ++ decoded (drop (suc s.at) room)); goes = λ c. goes_on (w.above.passing c) w.inside w.state (met z w.acts) i; yes = λ t c. tt; no = λ c t. tt }

  pub admits_other : {s : Stop} → StopsAt e x top room s → ((k : ℕ) → s.action ≡ Action.Takes k → ⊥) → Admits e x (decoded (drop top room)) false
  admits_other {s} w n = go s.action refl
    where
      go : (a : Action) → s.action ≡ a → Admits e x (decoded (drop top room)) false
      go (Action.Takes k) z = absurd (n k z)
      go (Action.Bars a) z =
          let b : (c : ℕ) → Bars e x c top room room s.at (marks (decoded (drop s.at room))) (bar_number a) = λ c. bar (w.above.passing c) w.inside w.state (met z w.acts) (bar_few a) refl in
          record { result = λ c. bars ((b c).stands ++ decoded (drop (suc s.at) room)); goes = λ c. (b c).goes; yes = λ t c. absurd t; no = λ c t. t }
