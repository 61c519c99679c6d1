-- Symbols that become known: the built-in ones first, and then each when it is first said.
use Prim.Native.Nat.{ℕ, suc, ◌+◌, ◌*◌, ◌≤◌, ◌<◌}
use native.Mathlib.Decide.{dec_lt}
use native.Mathlib.Omega.{arith}
use mathlib.Core.Bool.{Bool, true, false, cond, not, ◌||◌}
use mathlib.Core.List.{List, [], ◌∷◌, ◌++◌, append-nil, append_assoc}
use mathlib.Core.Path.{◌≡◌, refl, sym, ap, ◌∙◌}
use lib.Dec.{eqb}
use lib.ListN.{length, get_or, set, take, length-set, length-append}
use lib.Seq.{get_or-set_same, get_or-set_other}
use borrow.Author.Tests.{eqb-true, eqb-false, eq-eqb, ne_eqb}
use Rattle.grammar.specs.Naming.{times}
use Rattle.grammar.specs.Operator.{place}
use Rattle.grammar.specs.Pattern.{among}
use Rattle.grammar.specs.Room.{symbol_width}
use Rattle.grammar.proofs.Forest.{times_append}
use Rattle.ast.proofs.Rooms.{stored, joined}
use Rattle.foreign.specs.Check.{nil, cons}
use Rattle.foreign.proofs.Each.{each_both}
use Rattle.parts.specs.Spoken.{Word, heard, first_places}
use Rattle.parts.proofs.Words.{place_all, place_new, among_new}
use Rattle.parts.proofs.Symbols.{different_most, unamong_times}
use Rattle.packing.specs.Known.{numbered, Hearing, Noted, Built}

pub built_none : (xs : List ℕ) → Built 0 xs xs
built_none xs = record { known = λ x h. absurd (omega arith); others = λ x h. refl }

pub built_one : {x : ℕ} {xs ys : List ℕ} → Built x xs ys → x < length ys → Built (x + 1) xs (set ys x (x + 1))
built_one {x} {xs} {ys} b l = record {
  known = λ i h. elim (dec_lt i x) [ yes p ↦ get_or-set_other ys x i (x + 1) 0 (λ e. omega arith) ∙ b.known i p | no p ↦ (let z : i ≡ x = omega arith in rw z (get_or-set_same ys x (x + 1) 0 l ∙ omega arith)) ];
  others = λ i h. get_or-set_other ys x i (x + 1) 0 (λ e. omega arith) ∙ b.others i (omega arith);
}

-- a number says whether a symbol is known
unknown : (ks : List ℕ) (x : ℕ) → numbered ks x ≡ 0 → among ks x ≡ false
unfolding numbered
unknown ks x e = pick (among ks x) refl e
  where
    pick : (b : Bool) → among ks x ≡ b → cond b (suc (place x ks)) 0 ≡ 0 → among ks x ≡ false
    pick true q e = absurd (omega arith)
    pick false q e = q

known : (ks : List ℕ) (x : ℕ) → (numbered ks x ≡ 0 → ⊥) → among ks x ≡ true
unfolding numbered
known ks x e = pick (among ks x) refl e
  where
    pick : (b : Bool) → among ks x ≡ b → (cond b (suc (place x ks)) 0 ≡ 0 → ⊥) → among ks x ≡ true
    pick true q e = q
    pick false q e = absurd (e refl)

-- what one symbol more does to the numbers: it comes last
numbered_new : (ks : List ℕ) (x : ℕ) → among ks x ≡ false → numbered (ks ++ (x ∷ [])) x ≡ suc (length ks)
unfolding numbered
numbered_new ks x e = rw (among_new x ks, place_new x ks e, eqb-true (place x ks) (length ks) (place_all x ks ∙ ap not e)) refl

numbered_old : (ks : List ℕ) (x y : ℕ) → (y ≡ x → ⊥) → numbered (ks ++ (x ∷ [])) y ≡ numbered ks y
unfolding numbered
numbered_old [] x y n = rw (ne_eqb y x n) refl
numbered_old (k ∷ ks) x y n = pick (eqb y k) (numbered_old ks x y n)
  where
    pick : (b : Bool) → cond (among (ks ++ (x ∷ [])) y) (suc (place y (ks ++ (x ∷ [])))) 0 ≡ cond (among ks y) (suc (place y ks)) 0 → cond (b || among (ks ++ (x ∷ [])) y) (suc (cond b 0 (suc (place y (ks ++ (x ∷ [])))))) 0 ≡ cond (b || among ks y) (suc (cond b 0 (suc (place y ks)))) 0
    pick true h = refl
    pick false h = more (among (ks ++ (x ∷ [])) y) (among ks y) h
      where
        more : (a b : Bool) → cond a (suc (place y (ks ++ (x ∷ [])))) 0 ≡ cond b (suc (place y ks)) 0 → cond a (suc (suc (place y (ks ++ (x ∷ []))))) 0 ≡ cond b (suc (suc (place y ks))) 0
        more true true h = ap suc h
        more true false h = absurd (omega arith)
        more false true h = absurd (omega arith)
        more false false h = refl

-- a symbol that is not known, put last
once_more : (ks : List ℕ) (x : ℕ) → ((y : ℕ) → times y ks ≤ 1) → among ks x ≡ false → (y : ℕ) → times y (ks ++ (x ∷ [])) ≤ 1
once_more ks x h n y = pick (eqb y x) refl
  where
    pick : (b : Bool) → eqb y x ≡ b → times y (ks ++ (x ∷ [])) ≤ 1
    pick true q = let z = eqb-true y x q in let o : times x (x ∷ []) ≡ 1 = rw (eq-eqb x x refl) (omega arith) in rw z (omega (arith, times_append x ks (x ∷ []), unamong_times ks x n))
    pick false q = let o : times y (x ∷ []) ≡ 0 = rw q (omega arith) in omega (arith, times_append y ks (x ∷ []), h y)

module _ {s b : ℕ} {ss ks ps symbols scratch : List ℕ} {count : ℕ} (h : Hearing s b ss ks ps symbols scratch count) where
  -- there is room for it: all that are known differ and are below s
  pub room_left : (x : ℕ) → x < s → get_or scratch x 0 ≡ 0 → count < s
  room_left x l e =
      let n = unknown ks x (sym (h.numbers x l) ∙ e) in
      let m = different_most s (ks ++ (x ∷ [])) (record { once = once_more ks x h.once n; low = each_both h.below (cons l nil) }) in
      omega (arith, h.many, length-append ks (x ∷ []))

  -- a word is said
  pub hear_one : (w : Word) {symbols' scratch' : List ℕ} {r : ℕ} → w.symbol < s → s ≤ length scratch → Noted count w symbols scratch symbols' scratch' r → Hearing s b ss (heard (w ∷ []) ks) (ps ++ first_places (w ∷ []) ks) symbols' scratch' r
  unfolding heard first_places
  hear_one w {symbols'} {scratch'} {r} l q n = pick (eqb (get_or scratch w.symbol 0) 0) refl
    where
      fresh : get_or scratch w.symbol 0 ≡ 0 → eqb (get_or scratch w.symbol 0) 0 ≡ true → Hearing s b ss (heard (w ∷ []) ks) (ps ++ first_places (w ∷ []) ks) symbols' scratch' r
      fresh z e =
          let o = unknown ks w.symbol (sym (h.numbers w.symbol l) ∙ z) in
          let c = room_left w.symbol l z in
          let sc : scratch' ≡ set scratch w.symbol (count + 1) = n.numbers ∙ rw e refl in
          let sy : symbols' ≡ set (set symbols (symbol_width * count) w.from) (symbol_width * count + 1) w.upto = n.rows ∙ rw e refl in
          let m : r ≡ count + 1 = n.many ∙ rw e refl in
          rw (o, sc, sy, m) (record {
            numbers = λ y k. numbers_then y k o;
            many = omega (arith, h.many, length-append ks (w.symbol ∷ []));
            rows = rows_then;
            room = length-set (set symbols (symbol_width * count) w.from) (symbol_width * count + 1) w.upto ∙ length-set symbols (symbol_width * count) w.from ∙ h.room;
            once = once_more ks w.symbol h.once o;
            below = each_both h.below (cons l nil);
          })
        where
          numbers_then : (y : ℕ) → y < s → among ks w.symbol ≡ false → get_or (set scratch w.symbol (count + 1)) y 0 ≡ numbered (ks ++ (w.symbol ∷ [])) y
          numbers_then y k o = at (eqb y w.symbol) refl
            where
              at : (t : Bool) → eqb y w.symbol ≡ t → get_or (set scratch w.symbol (count + 1)) y 0 ≡ numbered (ks ++ (w.symbol ∷ [])) y
              at true i = let z = eqb-true y w.symbol i in rw z (get_or-set_same scratch w.symbol (count + 1) 0 (omega arith) ∙ omega (arith, h.many, numbered_new ks w.symbol o))
              at false i = let z = eqb-false y w.symbol i in get_or-set_other scratch w.symbol y (count + 1) 0 z ∙ h.numbers y k ∙ sym (numbered_old ks w.symbol y z)

          rows_then : take (symbol_width * (count + 1)) (set (set symbols (symbol_width * count) w.from) (symbol_width * count + 1) w.upto) ≡ take (symbol_width * b) ss ++ (ps ++ (w.from ∷ w.upto ∷ []))
          rows_then =
              let i = symbol_width * count in
              let c : count < s = room_left w.symbol l z in
              let p = joined (omega arith) (stored symbols i w.from (omega (arith, h.room))) (stored (set symbols i w.from) (i + 1) w.upto (omega (arith, h.room, length-set symbols i w.from))) in
              let e : symbol_width * (count + 1) ≡ i + 1 + 1 = omega arith in
              rw e (p.rows ∙ ap (λ l. l ++ (w.from ∷ w.upto ∷ [])) h.rows ∙ append_assoc (take (symbol_width * b) ss) ps (w.from ∷ w.upto ∷ []))

      pick : (t : Bool) → eqb (get_or scratch w.symbol 0) 0 ≡ t → Hearing s b ss (heard (w ∷ []) ks) (ps ++ first_places (w ∷ []) ks) symbols' scratch' r
      pick true e = fresh (eqb-true (get_or scratch w.symbol 0) 0 e) e
      pick false e =
          let o = known ks w.symbol (λ z. eqb-false (get_or scratch w.symbol 0) 0 e (h.numbers w.symbol l ∙ z)) in
          let sc : scratch' ≡ scratch = n.numbers ∙ rw e refl in
          let sy : symbols' ≡ symbols = n.rows ∙ rw e refl in
          let m : r ≡ count = n.many ∙ rw e refl in
          rw (o, sc, sy, m, append-nil ps) h
