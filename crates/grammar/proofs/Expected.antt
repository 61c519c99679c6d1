-- What could have stood at a place, by what is left to read there: exactly the kinds that it does not bar.
use Prim.Native.Nat.{ℕ, suc, ◌+◌, ◌-◌, ◌≤◌, ◌<◌}
use mathlib.Core.Bool.{cond}
use mathlib.Core.List.{List, [], ◌∷◌}
use mathlib.Core.Path.{◌≡◌, refl}
use native.Mathlib.Omega.{arith}
use lib.Dec.{ltb}
use lib.ListN.{get_or}
use borrow.Author.Tests.{lt-ltb, le-ltb}
use Rattle.grammar.specs.Edition.{Edition}
use Rattle.grammar.specs.Expected.{CouldStand}
use Rattle.grammar.specs.Kaori.{Table, kaori, script, Script}
use Rattle.grammar.specs.Kind.{Eof}
use Rattle.grammar.specs.Label.{Label}
use Rattle.grammar.specs.Phrase.{Tree}
use Rattle.grammar.proofs.Finish.{At, stop, next, can_end}
use Rattle.grammar.proofs.Stack.{want, Stack, Result, took, over, bars, Goes, After, All, end, then, Left, back, forth, back_over, forth_over}

abbrev pub Stands : {N L : Type 0} → Result N L → Type 0
Stands (took K) = Unit {0}
Stands over = Unit {0}
Stands (bars K) = ⊥

-- the kinds before a place, and then others
splice : (ℕ → ℕ) → ℕ → List ℕ → ℕ → ℕ
splice kind place w i = cond (ltb i place) (kind i) (get_or w (i - place) Eof)

module _ (kind : ℕ → ℕ) (place : ℕ) (w : List ℕ) where
  splice_before : (i : ℕ) → i < place → splice kind place w i ≡ kind i
  unfolding splice
  splice_before i h = simp lt-ltb

  splice_after : (i j : ℕ) → i ≡ place + j → splice kind place w i ≡ get_or w j Eof
  unfolding splice
  splice_after i j e = let h : place ≤ i = omega arith in let d : i - place ≡ j = omega arith in simp (le-ltb, d)

at_list : {kind : ℕ → ℕ} (w : List ℕ) (a : ℕ) → ((i j : ℕ) → j ≡ a + i → kind j ≡ get_or w i Eof) → At kind a w
at_list [] a h = stop (h 0 a (omega arith))
at_list (x ∷ w) a h = next (h 0 a (omega arith)) (at_list w (a + 1) (λ i j e. h (suc i) j (omega arith)))

whole_script : (e : Edition) {kinds : ℕ → ℕ} {b : ℕ} → All (kaori e) kinds (want script ∷ []) 0 b → (t : Tree Label) × Script e kinds b t
whole_script e (then r end) = (_, r)

module _ (e : Edition) {kind : ℕ → ℕ} {place x : ℕ} {K : Stack Table Label} (left : After (kaori e) kind (want script ∷ []) 0 K place) where
  found : {r : Result Table Label} → Goes (kaori e) x place K r → (w : List ℕ) (b : ℕ) → place ≤ b → Left (kaori e) (splice kind place (x ∷ w)) r place b → CouldStand e kind place x
  found g w b h k =
      let there = splice_after kind place (x ∷ w) place 0 (omega arith) in
      let (t, r) = whole_script e (back_over left (splice_before kind place (x ∷ w)) (back g there k)) in
      record { kinds = splice kind place (x ∷ w); before = splice_before kind place (x ∷ w); there = there; end = b; reaches = h; tree = t; script = r }

  pub could : (r : Result Table Label) → Goes (kaori e) x place K r → Stands r → CouldStand e kind place x
  could (took M) g s =
      let f = can_end e left g in
      let (b, h, k) = f.finish (at_list f.tokens (place + 1) (λ i j d. splice_after kind place (x ∷ f.tokens) j (suc i) (omega arith))) in
      found g f.tokens b (omega arith) k
  could over g s = found g [] place (omega arith) refl
  could (bars M) g s = absurd s

  pub stands : (r : Result Table Label) → Goes (kaori e) x place K r → CouldStand e kind place x → Stands r
  stands (took M) g c = tt
  stands over g c = tt
  stands (bars M) g c = forth g c.there (forth_over left c.before (then c.script end))
