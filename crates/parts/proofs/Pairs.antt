-- Two token lists as one: what each token of the joined list is, and that the door lets it in, within the limits. A token before the first's Eof is the first's; those
-- behind are the second's, its Eof too, further on in the text.
use Prim.Native.Nat.{ℕ, zero, suc, ◌+◌, ◌-◌, ◌*◌, ◌≤◌, ◌<◌}
use mathlib.Core.Bool.{Bool, true, false, not}
use mathlib.Core.List.{List, [], ◌∷◌, ◌++◌}
use mathlib.Core.Path.{◌≡◌, refl, sym, ◌∙◌}
use native.Mathlib.Decide.{dec_lt}
use native.Mathlib.Omega.{arith}
use lib.Dec.{T}
use lib.ListN.{length, get_or, length-append, length-drop, get_or-append}
use lib.Seq.{length-take-le, take-append-le, drop-append-le, drop-append-add, get_or-append-add, get_or-take}
use Rattle.grammar.specs.Call.{Call}
use Rattle.grammar.specs.Derivative.{nullable, matches}
use Rattle.grammar.specs.Door.{Whole, Roomy, RightSymbols, Sound, Closed, Inside, Admitted}
use Rattle.grammar.specs.Kind.{Eof}
use Rattle.grammar.specs.Lexeme.{pattern, spelling}
use Rattle.grammar.specs.Pattern.{literal}
use Rattle.grammar.specs.Room.{Rooms}
use Rattle.grammar.specs.Token.{count, kind, start, end, lexeme}
use Rattle.grammar.proofs.Lexemes.{lexeme_none}
use Rattle.grammar.proofs.Patterns.{matches_whole}
use Rattle.grammar.proofs.Tests.{passes, within}
use Rattle.parts.specs.Joined.{moved_tokens, before_eof, joined_tokens, joined}
use Rattle.parts.proofs.Kinship.{Kin}

-- a token that is no Eof has a byte
spelled : T (passes (λ k. not (matches (pattern k) [])) 0 44)
unfolding matches nullable literal spelling
spelled = tt

contradiction : (b : Bool) → T b → T (not b) → ⊥
contradiction true p q = q
contradiction false p q = p

pub some_byte : {text ts : List ℕ} {i : ℕ} → Sound text ts i → kind ts i < Eof → start ts i < end ts i
some_byte {text} {ts} {i} s h = elim (dec_lt (start ts i) (end ts i)) [
  | yes p ↦ p
  | no p ↦ absurd (let e : start ts i ≡ end ts i = omega (arith, s.forward) in contradiction (matches (pattern (kind ts i)) []) (matches_whole (pattern (kind ts i)) [] (rw (lexeme_none text (start ts i) (end ts i) e) at (s.fits.lexeme h))) (within (λ k. not (matches (pattern k) [])) 0 44 (kind ts i) spelled (omega arith) (omega arith)))
]

-- parts of texts put together
module _ (text₁ text₂ : List ℕ) where
  pub in_first : (s e : ℕ) → e ≤ length text₁ → lexeme (text₁ ++ text₂) s e ≡ lexeme text₁ s e
  in_first s e h = elim (dec_lt (length text₁) s) [
    | yes p ↦ let z : e - s ≡ 0 = omega arith in rw z
    | no p ↦ rw (drop-append-le s text₁ text₂ (omega arith)) (take-append-le (e - s) _ text₂ (omega (arith, length-drop s text₁)))
  ]

  pub in_second : (s e : ℕ) → lexeme (text₁ ++ text₂) (s + length text₁) (e + length text₁) ≡ lexeme text₂ s e
  in_second s e =
      let z : s + length text₁ ≡ length text₁ + s = omega arith in
      let y : e + length text₁ - (s + length text₁) ≡ e - s = omega arith in
      rw (y, z, drop-append-add text₁ text₂ s)

-- three numbers a token
data Threes : List ℕ → Type 0 where
  nil : Threes []
  three : {k s e : ℕ} {ts : List ℕ} → Threes ts → Threes (k ∷ s ∷ e ∷ ts)

threes : (n : ℕ) (ts : List ℕ) → length ts ≡ 3 * n → Threes ts
threes zero [] h = Threes.nil
threes zero (k ∷ ts) h = absurd (omega arith)
threes (suc n) [] h = absurd (omega arith)
threes (suc n) (k ∷ []) h = absurd (omega arith)
threes (suc n) (k ∷ s ∷ []) h = absurd (omega arith)
threes (suc n) (k ∷ s ∷ e ∷ ts) h = Threes.three (threes n ts (omega arith))

module _ (d : ℕ) where
  moved_length : {ts : List ℕ} → Threes ts → length (moved_tokens d ts) ≡ length ts
  unfolding moved_tokens
  moved_length Threes.nil = refl
  moved_length (Threes.three h) = rw (moved_length h)

  -- token i of a list, and of the list moved
  record Moved (ts : List ℕ) (i : ℕ) : Type 0 where
    pub kind_is : kind (moved_tokens d ts) i ≡ kind ts i
    pub start_is : start (moved_tokens d ts) i ≡ start ts i + d
    pub end_is : end (moved_tokens d ts) i ≡ end ts i + d

  moved_at : {ts : List ℕ} → Threes ts → (i : ℕ) → 3 * i < length ts → Moved ts i
  unfolding moved_tokens
  moved_at Threes.nil i h = absurd (omega arith)
  moved_at (Threes.three r) zero h = record { kind_is = refl; start_is = refl; end_is = refl }
  moved_at (Threes.three r) (suc i) h =
      let g = moved_at r i (omega arith) in
      let a : 3 * suc i ≡ suc (suc (suc (3 * i))) = omega arith in
      let b : 3 * suc i + 1 ≡ suc (suc (suc (3 * i + 1))) = omega arith in
      let c : 3 * suc i + 2 ≡ suc (suc (suc (3 * i + 2))) = omega arith in
      record { kind_is = rw a g.kind_is; start_is = rw b g.start_is; end_is = rw c g.end_is }

module _ (d : ℕ) (ts₁ ts₂ : List ℕ) (whole₁ : Whole ts₁) (whole₂ : Whole ts₂) where
  abbrev ts' : List ℕ
  ts' = joined_tokens d ts₁ ts₂

  -- how many tokens of the first stay: all but the Eof
  abbrev n : ℕ
  n = count ts₁ - 1

  front_length : length (before_eof ts₁) ≡ 3 * n
  front_length = let p = whole₁.rows in let q = whole₁.some in length-take-le (3 * n) ts₁ (omega arith)

  pub joined_length : length ts' ≡ 3 * (n + count ts₂)
  unfolding joined_tokens
  joined_length = let p = whole₂.rows in omega (arith, length-append (before_eof ts₁) (moved_tokens d ts₂), front_length, moved_length d (threes (count ts₂) ts₂ p))

  pub joined_count : count ts' ≡ n + count ts₂
  joined_count = omega (arith, joined_length)

  early_number : (j : ℕ) → j < 3 * n → get_or ts' j 0 ≡ get_or ts₁ j 0
  unfolding joined_tokens
  early_number j h = get_or-append (before_eof ts₁) (moved_tokens d ts₂) 0 j (omega (arith, front_length)) ∙ get_or-take (3 * n) ts₁ j 0 h

  late_number : (j k : ℕ) → k ≡ 3 * n + j → get_or ts' k 0 ≡ get_or (moved_tokens d ts₂) j 0
  unfolding joined_tokens
  late_number j k e = let z : k ≡ length (before_eof ts₁) + j = omega (arith, front_length) in rw z (get_or-append-add (before_eof ts₁) (moved_tokens d ts₂) j 0)

  -- a token before the first's Eof is the first's
  pub early : (i : ℕ) → i < n → Kin ts₁ ts' (λ i. i) (λ x. x) i
  early i h = record { step = refl; kind_is = early_number (3 * i) (omega arith); start_is = early_number (3 * i + 1) (omega arith); end_is = early_number (3 * i + 2) (omega arith) }

  -- and one behind is the second's, moved
  pub late : (i : ℕ) → i < count ts₂ → Kin ts₂ ts' (λ i. i + n) (λ x. x + d) i
  late i h =
      let p = whole₂.rows in
      let g = moved_at d (threes (count ts₂) ts₂ p) i (omega arith) in
      record { step = omega arith; kind_is = late_number (3 * i) (3 * (i + n)) (omega arith) ∙ g.kind_is; start_is = late_number (3 * i + 1) (3 * (i + n) + 1) (omega arith) ∙ g.start_is; end_is = late_number (3 * i + 2) (3 * (i + n) + 2) (omega arith) ∙ g.end_is }

  -- so what holds of both holds of all
  pub of_both : (P : ℕ → Type 0) → ((i : ℕ) → i < n → P i) → ((j : ℕ) → j < count ts₂ → P (j + n)) → (i : ℕ) → i < count ts' → P i
  of_both P f b i h = elim (dec_lt i n) [ yes p ↦ f i p | no p ↦ (let e : i ≡ i - n + n = omega arith in rw e (b (i - n) (omega (arith, joined_count)))) ]

module _ (k₁ k₂ : Call) (rooms : Rooms) (d₁ : Admitted k₁) (d₂ : Admitted k₂) where
  abbrev t₁ : List ℕ
  t₁ = k₁.tokens

  abbrev t₂ : List ℕ
  t₂ = k₂.tokens

  abbrev x₁ : List ℕ
  x₁ = k₁.text

  abbrev x₂ : List ℕ
  x₂ = k₂.text

  abbrev t' : List ℕ
  t' = joined_tokens (length x₁) t₁ t₂

  abbrev m : ℕ
  m = count t₁ - 1

  first_of : (i : ℕ) → i < m → Kin t₁ t' (λ i. i) (λ x. x) i
  first_of = early (length x₁) t₁ t₂ d₁.whole d₂.whole

  second_of : (i : ℕ) → i < count t₂ → Kin t₂ t' (λ i. i + m) (λ x. x + length x₁) i
  second_of = late (length x₁) t₁ t₂ d₁.whole d₂.whole

  many : count t' ≡ m + count t₂
  many = joined_count (length x₁) t₁ t₂ d₁.whole d₂.whole

  sound_first : (i : ℕ) → i < m → Sound (x₁ ++ x₂) t' i
  sound_first i h =
      let g = first_of i h in
      let s = d₁.sound i (omega arith) in
      record {
        known = rw g.kind_is s.known;
        forward = rw (g.start_is, g.end_is) s.forward;
        inside = rw g.end_is (omega (arith, s.inside, length-append x₁ x₂));
        apart = λ j e. rw ((first_of j (omega arith)).end_is, g.start_is) (s.apart j e);
        fits = rw (g.kind_is, g.start_is, g.end_is, in_first x₁ x₂ (start t₁ i) (end t₁ i) s.inside) s.fits;
      }

  -- the second's first token stands behind the first's text, and the others behind each other
  apart_second : (j : ℕ) → j < count t₂ → (p : ℕ) → suc p ≡ j + m → end t' p ≤ start t' (j + m)
  apart_second zero h p e =
      let s = d₁.sound p (omega arith) in
      rw (first_of p (omega arith)).end_is (omega (arith, (second_of zero h).start_is, s.inside))
  apart_second (suc j) h p e =
      let z : p ≡ j + m = omega arith in
      rw z (omega (arith, (second_of (suc j) h).start_is, (second_of j (omega arith)).end_is, (d₂.sound (suc j) h).apart j refl))

  sound_second : (j : ℕ) → j < count t₂ → Sound (x₁ ++ x₂) t' (j + m)
  sound_second j h =
      let g = second_of j h in
      let s = d₂.sound j h in
      record {
        known = rw g.kind_is s.known;
        forward = omega (arith, g.start_is, g.end_is, s.forward);
        inside = omega (arith, g.end_is, s.inside, length-append x₁ x₂);
        apart = apart_second j h;
        fits = rw (g.kind_is, g.start_is, g.end_is, in_second x₁ x₂ (start t₂ j) (end t₂ j)) s.fits;
      }

  ascii_both : (i : ℕ) → i < length (x₁ ++ x₂) → get_or (x₁ ++ x₂) i 0 ≤ 127
  ascii_both i h = elim (dec_lt i (length x₁)) [
    | yes p ↦ rw (get_or-append x₁ x₂ 0 i p) (d₁.ascii i p)
    | no p ↦ let z : i ≡ length x₁ + (i - length x₁) = omega arith in rw z (rw (get_or-append-add x₁ x₂ (i - length x₁) 0) (d₂.ascii (i - length x₁) (omega (arith, length-append x₁ x₂))))
  ]

  closed_first : (i : ℕ) → i < m → Closed t' i
  closed_first i h =
      let some = d₂.whole.some in
      record { only = λ e. absurd (let z = (d₁.closed i (omega arith)).only (sym (first_of i h).kind_is ∙ e) in omega arith); last = λ e. absurd (omega (arith, many)) }

  closed_second : (j : ℕ) → j < count t₂ → Closed t' (j + m)
  closed_second j h =
      let g = (second_of j h).kind_is in
      let s = d₂.closed j h in
      record { only = λ e. (let z = s.only (sym g ∙ e) in omega (arith, many)); last = λ e. g ∙ s.last (omega (arith, many)) }

  -- within the limits and the rooms the joined call is let in
  pub let_in : k₁.profile ≡ k₂.profile → count t' ≤ 4096 → length (x₁ ++ x₂) ≤ 65536 → Roomy (joined k₁ k₂ rooms) → RightSymbols k₁.names (length rooms.symbols) → Admitted (joined k₁ k₂ rooms)
  let_in same few short roomy fit =
      let some = d₂.whole.some in
      let l = joined_length (length x₁) t₁ t₂ d₁.whole d₂.whole in
      let all = of_both (length x₁) t₁ t₂ d₁.whole d₂.whole in
      record {
        whole = record { rows = omega arith; some = omega (arith, many); most = few };
        short = short;
        some_depth = d₁.some_depth;
        least_depth = d₁.least_depth;
        edition = d₁.edition;
        roomy = roomy;
        named = d₁.named;
        names_fit = fit;
        ascii = ascii_both;
        sound = all (Sound (x₁ ++ x₂) t') sound_first sound_second;
        closed = all (Closed t') closed_first closed_second;
        inside = all (Inside k₁.profile t') (λ i h. rw (first_of i h).kind_is (d₁.inside i (omega arith))) (λ j h. rw ((second_of j h).kind_is, same) (d₂.inside j h));
      }
