-- The token list without some statements: where each token goes, and what stands at each place.
use Prim.Native.Nat.{ℕ, ◌+◌, ◌-◌, ◌*◌, ◌≤◌, ◌<◌}
use mathlib.Core.Bool.{Bool, true, false, cond}
use mathlib.Core.List.{List, [], ◌++◌, append_assoc}
use mathlib.Core.Path.{◌≡◌, refl, sym, ap, ◌∙◌}
use native.Mathlib.Decide.{dec_lt}
use native.Mathlib.Omega.{arith}
use lib.Dec.{ltb}
use lib.ListN.{length, get_or, drop, length-append, length-drop, get_or-append}
use lib.Seq.{length-take-le, get_or-append-add, get_or-take, get_or-drop}
use borrow.Author.Tests.{lt-ltb, le-ltb}
use Rattle.grammar.specs.Edition.{Edition}
use Rattle.grammar.specs.Label.{Label}
use Rattle.grammar.specs.Phrase.{Tree, none, more, deeper, made}
use Rattle.grammar.proofs.Follow.{forth}
use Rattle.grammar.proofs.Forest.{Begins}
use Rattle.parts.specs.Dropped.{items, tokens_between, kept_tokens}
use Rattle.parts.proofs.Kinship.{Kin, Items, Keeps}

module _ (c : ℕ → Bool) where
  -- how many tokens are kept, and where token i goes: those that are left out go where the next one does
  unfoldable pub left : Tree Label → ℕ
  left none = 0
  left (more t u) = 0
  left (deeper t) = 0
  left (made l a b none) = 0
  left (made l a b (more t u)) = left t + cond (c (items t)) (b - a) 0
  left (made l a b (deeper t)) = 0
  left (made l a b (made k x y t)) = 0

  unfoldable pub landing : Tree Label → ℕ → ℕ
  landing none i = 0
  landing (more t u) i = 0
  landing (deeper t) i = 0
  landing (made l a b none) i = 0
  landing (made l a b (more t u)) i = cond (ltb i a) (landing t i) (left t + cond (c (items t)) (i - a) 0)
  landing (made l a b (deeper t)) i = 0
  landing (made l a b (made k x y t)) i = 0

  module _ {e : Edition} {k : ℕ → ℕ} where
    pub landing_end : {n : ℕ} {t : Tree Label} → Items e k n t → landing t n ≡ left t
    unfolding landing left
    landing_end Items.nil = refl
    landing_end (Items.next {b = b} {c = n} i x) = rw (le-ltb n b (forth x))

    landing_before : {b : ℕ} {t : Tree Label} → Items e k b t → (n : ℕ) (u : Tree Label) (i : ℕ) → i ≤ b → landing (made Label.Item b n (more t u)) i ≡ landing t i
    unfolding landing
    landing_before {b} {t} h n u i p = elim (dec_lt i b) [ yes q ↦ rw (lt-ltb i b q) | no q ↦ (let z : i ≡ b = omega arith in rw z (rw (le-ltb b b (omega arith)) (nothing_more (c (items t)) ∙ sym (landing_end h)))) ]
      where
        nothing_more : (d : Bool) → left t + cond d (b - b) 0 ≡ left t
        nothing_more true = omega arith
        nothing_more false = omega arith

    pub landing_zero : {n : ℕ} {t : Tree Label} → Items e k n t → landing t 0 ≡ 0
    unfolding landing
    landing_zero Items.nil = refl
    landing_zero (Items.next {c = n} {u = u} i x) = landing_before i n u 0 (omega arith) ∙ landing_zero i

    pub left_most : {n : ℕ} {t : Tree Label} → Items e k n t → left t ≤ n
    unfolding left
    left_most Items.nil = omega arith
    left_most (Items.next {b = b} {c = n} {t = t} i x) = pick (c (items t)) (left_most i) (forth x)
      where
        pick : (h : Bool) → left t ≤ b → b ≤ n → left t + cond h (n - b) 0 ≤ n
        pick true p q = omega arith
        pick false p q = omega arith

    -- never back, and never past what is kept
    landing_most : {n : ℕ} {t : Tree Label} → Items e k n t → (i : ℕ) → i ≤ n → landing t i ≤ left t
    unfolding landing left
    landing_most Items.nil i p = omega arith
    landing_most (Items.next {b = b} {c = n} {t = t} h x) i p = elim (dec_lt i b) [ yes q ↦ rw (lt-ltb i b q) (omega (arith, landing_most h i (omega arith))) | no q ↦ rw (le-ltb i b (omega arith)) (so_far (c (items t))) ]
      where
        so_far : (d : Bool) → left t + cond d (i - b) 0 ≤ left t + cond d (n - b) 0
        so_far true = omega arith
        so_far false = omega arith

    pub landing_rises : {n : ℕ} {t : Tree Label} → Items e k n t → (i j : ℕ) → i ≤ j → j ≤ n → landing t i ≤ landing t j
    unfolding landing
    landing_rises Items.nil i j p q = omega arith
    landing_rises (Items.next {b = b} {c = n} {t = t} h x) i j p q = elim (dec_lt j b) [ yes u ↦ rw (lt-ltb j b u, lt-ltb i b (omega arith)) (landing_rises h i j p (omega arith)) | no u ↦ rw (le-ltb j b (omega arith)) (from_before (dec_lt i b)) ]
      where
        on : (d : Bool) → b ≤ i → left t + cond d (i - b) 0 ≤ left t + cond d (j - b) 0
        on true g = omega arith
        on false g = omega arith

        from_before : Dec (i < b) → cond (ltb i b) (landing t i) (left t + cond (c (items t)) (i - b) 0) ≤ left t + cond (c (items t)) (j - b) 0
        from_before (yes v) = rw (lt-ltb i b v) (omega (arith, landing_most h i (omega arith)))
        from_before (no v) = rw (le-ltb i b (omega arith)) (on (c (items t)) (omega arith))

-- a slice of tokens
pub between_length : (ts : List ℕ) (a b : ℕ) → 3 * b ≤ length ts → length (tokens_between ts a b) ≡ 3 * (b - a)
between_length ts a b h = elim (dec_lt b a) [ yes p ↦ (let z : b - a ≡ 0 = omega arith in rw z) | no p ↦ length-take-le (3 * (b - a)) (drop (3 * a) ts) (omega (arith, length-drop (3 * a) ts)) ]

between_at : (ts : List ℕ) (a b j : ℕ) → j < 3 * (b - a) → get_or (tokens_between ts a b) j 0 ≡ get_or ts (3 * a + j) 0
between_at ts a b j h = get_or-take (3 * (b - a)) (drop (3 * a) ts) j 0 h ∙ get_or-drop (3 * a) ts j 0

pub kept_length : (c : ℕ → Bool) (ts : List ℕ) {e : Edition} {k : ℕ → ℕ} {n : ℕ} {t : Tree Label} → Items e k n t → 3 * n ≤ length ts → length (kept_tokens c ts t) ≡ 3 * left c t
unfolding kept_tokens left
kept_length c ts Items.nil h = refl
kept_length c ts (Items.next {b = b} {c = n} {t = t} i x) h = let g = forth x in pick (c (items t)) (kept_length c ts i (omega arith))
  where
    pick : (d : Bool) → length (kept_tokens c ts t) ≡ 3 * left c t → length (kept_tokens c ts t ++ cond d (tokens_between ts b n) []) ≡ 3 * (left c t + cond d (n - b) 0)
    pick true q = omega (arith, length-append (kept_tokens c ts t) (tokens_between ts b n), between_length ts b n h)
    pick false q = omega (arith, length-append (kept_tokens c ts t) [])

-- the numbers of a kept token
pub number_at : (ts before ts' : List ℕ) (a b l : ℕ) → 3 * b ≤ length ts → length before ≡ 3 * l → Begins (before ++ tokens_between ts a b) ts' → (i o x y : ℕ) → a ≤ i → i < b → o < 3 → x ≡ 3 * (l + (i - a)) + o → y ≡ 3 * i + o → get_or ts' x 0 ≡ get_or ts y 0
number_at ts before ts' a b l h n g i o x y p q r u v =
    let slice = tokens_between ts a b in
    let j = 3 * (i - a) + o in
    let z : x ≡ length before + j = omega arith in
    let w : 3 * a + j ≡ y = omega arith in
    let len : j < length slice = omega (arith, between_length ts a b h) in
    rw (z, g.same, append_assoc before slice g.rest) (get_or-append-add before (slice ++ g.rest) j 0 ∙ get_or-append slice g.rest 0 j len ∙ between_at ts a b j (omega arith) ∙ ap (λ s. get_or ts s 0) w)

begins_first : (xs ys : List ℕ) {zs : List ℕ} → Begins (xs ++ ys) zs → Begins xs zs
begins_first xs ys g = record { rest = ys ++ g.rest; same = g.same ∙ append_assoc xs ys g.rest }

module _ (ts ts' : List ℕ) (c : ℕ → Bool) (f : ℕ → ℕ) where
  -- a token at its new place: its span is as it was
  kin_at : (before : List ℕ) (a b l : ℕ) → 3 * b ≤ length ts → length before ≡ 3 * l → Begins (before ++ tokens_between ts a b) ts' → ((i : ℕ) → a ≤ i → i ≤ b → f i ≡ l + (i - a)) → (i : ℕ) → a ≤ i → i < b → Kin ts ts' f (λ x. x) i
  kin_at before a b l h n g e i p q =
      let here = e i p (omega arith) in
      let next = e (i + 1) (omega arith) (omega arith) in
      record {
        step = omega arith;
        kind_is = number_at ts before ts' a b l h n g i 0 (3 * f i) (3 * i) p q (omega arith) (omega arith) (omega arith);
        start_is = number_at ts before ts' a b l h n g i 1 (3 * f i + 1) (3 * i + 1) p q (omega arith) (omega arith) refl;
        end_is = number_at ts before ts' a b l h n g i 2 (3 * f i + 2) (3 * i + 2) p q (omega arith) (omega arith) refl;
      }

  pub keeps_of : {e : Edition} {k : ℕ → ℕ} {n : ℕ} {t : Tree Label} → Items e k n t → ((i : ℕ) → i ≤ n → f i ≡ landing c t i) → Begins (kept_tokens c ts t) ts' → 3 * n ≤ length ts → Keeps ts ts' c f (λ x. x) t
  unfolding kept_tokens landing
  keeps_of Items.nil e g h = Keeps.nil
  keeps_of {n = n} (Items.next {b = b} {t = t} {u = u} i x) e g h =
      let less = forth x in
      at (c (items t)) refl less (λ j p q. e j q ∙ rw (le-ltb j b p)) g (keeps_of i (λ j p. e j (omega arith) ∙ landing_before c i n u j p) (begins_first (kept_tokens c ts t) (cond (c (items t)) (tokens_between ts b n) []) g) (omega arith)) (kept_length c ts i (omega arith))
    where
      at : (d : Bool) → c (items t) ≡ d → b ≤ n → ((j : ℕ) → b ≤ j → j ≤ n → f j ≡ left c t + cond (c (items t)) (j - b) 0) → Begins (kept_tokens c ts t ++ cond (c (items t)) (tokens_between ts b n) []) ts' → Keeps ts ts' c f (λ x. x) t → length (kept_tokens c ts t) ≡ 3 * left c t → Keeps ts ts' c f (λ x. x) (made Label.Item b n (more t u))
      at true z less y g' q l = Keeps.stays z (λ j p o. kin_at (kept_tokens c ts t) b n (left c t) h l (rw z at g') (λ m v w. y m v w ∙ rw z) j p o) q
      at false z less y g' q l = Keeps.goes z (let p : f n ≡ left c t + 0 = y n less (omega arith) ∙ rw z in let o : f b ≡ left c t + 0 = y b (omega arith) less ∙ rw z in p ∙ sym o) q

  -- which token stands at a place
  pub record Source (n j : ℕ) : Type 0 where
    pub at : ℕ
    pub below : at < n
    pub lands : f at ≡ j
    pub kin : Kin ts ts' f (λ x. x) at

  pub source : {e : Edition} {k : ℕ → ℕ} {n : ℕ} {t : Tree Label} → Items e k n t → ((i : ℕ) → i ≤ n → f i ≡ landing c t i) → Keeps ts ts' c f (λ x. x) t → (j : ℕ) → j < left c t → Source n j
  unfolding left landing
  source Items.nil e q j h = absurd (omega arith)
  source {n = n} (Items.next {b = b} {t = t} {u = u} i x) e (Keeps.stays z kin q) j h =
      let less = forth x in
      let most : j < left c t + (n - b) = rw z at h in
      elim (dec_lt j (left c t)) [ yes p ↦ (let r = source i (λ m v. e m (omega arith) ∙ landing_before c i n u m v) q j p in record { at = r.at; below = omega (arith, r.below); lands = r.lands; kin = r.kin }) | no p ↦ record { at = b + (j - left c t); below = omega arith; lands = e (b + (j - left c t)) (omega arith) ∙ rw (le-ltb (b + (j - left c t)) b (omega arith), z) (omega arith); kin = kin (b + (j - left c t)) (omega arith) (omega arith) } ]
  source {n = n} (Items.next {b = b} {t = t} {u = u} i x) e (Keeps.goes z w q) j h =
      let less = forth x in
      let most : j < left c t + 0 = rw z at h in
      let r = source i (λ m v. e m (omega arith) ∙ landing_before c i n u m v) q j (omega arith) in
      record { at = r.at; below = omega (arith, r.below); lands = r.lands; kin = r.kin }
