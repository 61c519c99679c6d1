-- What is left after the tokens before a place, token by token: each is taken within the limit, or reading is not refused at the place. And that the room suffices:
-- each cell is at least an item, and there are 12 items for an opening and 11 more at most.
use Prim.Native.Nat.{ℕ, ◌+◌, ◌-◌, ◌/◌, ◌%◌, ◌≤◌, ◌<◌}
use mathlib.Core.Bool.{Bool, true, false, cond}
use mathlib.Core.List.{List, [], ◌∷◌}
use mathlib.Core.Path.{◌≡◌, refl, subst, ◌∙◌}
use native.Mathlib.Decide.{dec_lt}
use native.Mathlib.Omega.{arith}
use lib.Dec.{T, ltb, leb, leb→le}
use lib.ListN.{length, get_or, drop, set, length-append, length-drop, length-set, drop_of_length-le}
use lib.Seq.{drop-cons, get_or-set_same, drop-set-lt}
use borrow.Author.Tests.{ltb-true}
use Rattle.grammar.specs.Edition.{Edition, edition}
use Rattle.grammar.specs.Expected.{Met}
use Rattle.grammar.specs.Kaori.{Table, kaori, script}
use Rattle.grammar.specs.Kind.{Eof}
use Rattle.grammar.specs.Label.{Label}
use Rattle.grammar.specs.Phrase.{Grammar}
use Rattle.grammar.specs.Refusal.{Refused, refused}
use Rattle.grammar.specs.Token.{kind}
use Rattle.grammar.proofs.Fares.{Fares, Within, start, fares_on, one_on}
use Rattle.grammar.proofs.Height.{Low, script_low, goes_low, height}
use Rattle.grammar.proofs.Stack.{want, mark, Stack, Result, took, Goes}
use Rattle.grammar.proofs.Stopping.{meets, marks, Went, went, onward, onward_over}
use Rattle.grammar.proofs.Tests.{within}
use Rattle.expected.specs.Cells.{states, cell, decoded, sound, Sound, bare, more}
use Rattle.expected.specs.Steps.{Taken, Ends, Bars, Case, Stepped}
use Rattle.expected.specs.declared.stack.Step.{Step}
use Rattle.expected.proofs.Passing.{sound_state}

state_long : (v : ℕ) → v < 54 → 1 ≤ length (get_or states v [])
unfolding states
state_long v h = leb→le 1 (length (get_or states v [])) (within (λ v. leb 1 (length (get_or states v []))) 0 54 v tt (omega arith) h)

cell_long : (v : ℕ) → T (sound v) → 1 ≤ length (cell v)
unfolding cell
cell_long v t = go (ltb v 64) refl
  where
    go : (b : Bool) → ltb v 64 ≡ b → 1 ≤ length (cond b (get_or states v []) (mark (v % 4) (v / 4 - 16) ∷ []))
    go true e = state_long v (sound_state v (ltb-true v 64 e) t)
    go false e = omega arith

long : {vs : List ℕ} → Sound vs → length vs ≤ length (decoded vs)
unfolding decoded
long bare = omega arith
long (more {v = v} {vs = vs} h s) = let e = length-append (cell v) (decoded vs) in omega (arith, e, cell_long v h, long s)

pub record Leaving (e : Edition) (ts : List ℕ) (limit : ℕ) (room : List ℕ) (top depth i : ℕ) : Type 0 where
  pub within : Within (kaori e) (kind ts) limit (want script ∷ []) 0 (decoded (drop top room)) i
  pub known : (j : ℕ) → j < i → kind ts j ≤ Eof
  pub deep : depth ≡ marks (decoded (drop top room))
  pub sounds : Sound (drop top room)
  pub low : Low (decoded (drop top room))
  pub fits : top ≤ length room
  pub whole_room : length room ≡ 1024

-- the script is wanted
pub leaving : {e : Edition} {ts : List ℕ} {limit : ℕ} (room : List ℕ) → length room ≡ 1024 → Leaving e ts limit (set room 1023 0) 1023 0 0
unfolding decoded cell states sound
leaving {e} {ts} {limit} room h =
    let d : drop 1023 (set room 1023 0) ≡ 0 ∷ [] = drop-cons (set room 1023 0) 1023 0 (omega (arith, h, length-set room 1023 0)) ∙ (rw (get_or-set_same room 1023 0 0 (omega (arith, h)), drop-set-lt 1024 room 1023 0 (omega arith), drop_of_length-le room {i = 1024} (omega (arith, h)))) in
    record {
      within = rw d (start (omega arith));
      known = λ j l. absurd (omega arith);
      deep = rw d refl;
      sounds = rw d (more tt bare);
      low = rw d script_low;
      fits = omega (arith, h, length-set room 1023 0);
      whole_room = length-set room 1023 0 ∙ h;
    }

module _ {e : Edition} {ts : List ℕ} {limit : ℕ} {room : List ℕ} {top depth i : ℕ} (l : Leaving e ts limit room top depth i) where
  -- there is room for a list more
  pub spare : limit ≤ 64 → 8 ≤ top
  spare h = omega (arith, h, long l.sounds, height l.low, length-drop top room, l.whole_room, l.within.marked)

  pub shallow : limit ≤ 64 → depth ≤ 64
  shallow h = omega (arith, h, l.deep, l.within.marked)

  -- one token more
  pub leaving_on : {after : List ℕ} {t d : ℕ} → kind ts i ≤ Eof → Taken e (kind ts i) i top room after t d → length after ≡ length room → d ≤ limit → Leaving e ts limit after t d (i + 1)
  leaving_on {after} {t} {d} k s n h = record {
    within = on (fares_on l.within s.goes);
    known = λ j p. known_on j p;
    deep = s.deep;
    sounds = s.sounds;
    low = goes_low e s.goes l.low;
    fits = s.fits;
    whole_room = n ∙ l.whole_room;
  }
    where
      known_on : (j : ℕ) → j < i + 1 → kind ts j ≤ Eof
      known_on j n = elim (dec_lt j i) [ yes p ↦ l.known j p | no p ↦ let q : i ≡ j = omega arith in rw q at k ]

      on : Fares (kaori e) (kind ts) limit (want script ∷ []) 0 i (took (decoded (drop t after))) → Within (kaori e) (kind ts) limit (want script ∷ []) 0 (decoded (drop t after)) (i + 1)
      on (Fares.deep o m) =
          let (c, w) = onward_over l.within.after m (omega arith) (omega arith) in
          let f = s.fills.full (record { here = refl; opens = o; there = omega arith; within = w; meets = c }) in
          absurd (omega (arith, f.past, s.deep))
      on (Fares.on n b) = one_on l.within s.goes n b

marked : {G : Grammar Table Label} {kind : ℕ → ℕ} {limit a : ℕ} {q : Refused} {M J : Stack Table Label} → Went G kind limit a q M (took J) → marks J ≤ limit
marked (went m l) = l

-- before the place a refusal goes on
module _ {n : ℕ} {ts : List ℕ} {limit code place : ℕ} (m : Met n ts limit code place) (h : 8 ≤ code) where
  module _ {room : List ℕ} {top depth i : ℕ} (l : Leaving (edition n) ts limit room top depth i) (b : i < place) where
    goes_on : {r : Result Table Label} → Goes (kaori (edition n)) (kind ts i) i (decoded (drop top room)) r → (M : Stack Table Label) × Went (kaori (edition n)) (kind ts) limit i (refused code place m.expected) M r
    goes_on g =
        let (M, c, e) = meets m.refusal (λ k. omega arith) [] refl (omega arith) in
        let (d, k) = onward_over l.within.after c (omega arith) (omega arith) in
        (M, onward d b k g)

    not_over : Ends (edition n) (kind ts i) i (decoded (drop top room)) → ⊥
    not_over s = let (M, w) = goes_on s.goes in elim w [ ]

    not_barred : {after : List ℕ} {t d a : ℕ} → Bars (edition n) (kind ts i) i top room after t d a → ⊥
    not_barred s = let (M, w) = goes_on s.goes in elim w [ ]

    pub not_deep : {after : List ℕ} {t d : ℕ} → Taken (edition n) (kind ts i) i top room after t d → limit < d → ⊥
    not_deep s k = let (M, w) = goes_on s.goes in omega (arith, k, marked w, s.deep)

    -- so the token is taken
    pub must_take : {after : List ℕ} (r : Step) → Stepped (edition n) (kind ts i) i top room after r → (t : ℕ) × (d : ℕ) × (r ≡ Step.Took t d)
    unfolding Case
    must_take (Step.Took t d) s = (t, d, refl)
    must_take Step.Over s = absurd (not_over s.says)
    must_take (Step.Barred t d a) s = absurd (not_barred s.says)

pub as_took : {e : Edition} {x c top t d : ℕ} {before after : List ℕ} (r : Step) → r ≡ Step.Took t d → Stepped e x c top before after r → Taken e x c top before after t d
unfolding Case
as_took {e} {x} {c} {top} {t} {d} {before} {after} r k s = (subst (Stepped e x c top before after) k s).says
