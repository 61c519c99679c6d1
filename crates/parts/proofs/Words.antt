-- The words of tokens, with their symbols, in the order of the text: those of a run of tokens, and those of the statements that are kept. And what is heard of words:
-- a symbol that is known keeps its place, and one that is not comes last.
use Prim.Native.Nat.{ℕ, zero, suc, ◌+◌, ◌-◌, ◌≤◌, ◌<◌}
use mathlib.Core.Bool.{Bool, true, false, cond, not, ◌||◌}
use mathlib.Core.List.{List, [], ◌∷◌, ◌++◌, append_assoc, append-nil}
use mathlib.Core.Path.{◌≡◌, refl, sym, ap, ◌∙◌}
use native.Mathlib.Decide.{dec_lt}
use native.Mathlib.Omega.{arith}
use lib.Dec.{eqb, eqb-zero-suc, eqb-suc-suc}
use lib.ListN.{length, length-append}
use borrow.Author.Tests.{eq-eqb, ne_eqb}
use Rattle.grammar.specs.Label.{Label}
use Rattle.grammar.specs.Operator.{place}
use Rattle.grammar.specs.Pattern.{among}
use Rattle.grammar.specs.Phrase.{Tree, none, more, deeper, made}
use Rattle.grammar.specs.Symbol.{is_name, word_start, word_end}
use Rattle.parts.specs.Dropped.{items}
use Rattle.parts.specs.Packed.{upto}
use Rattle.parts.specs.Spoken.{Word, said, heard, first_places}

-- the words of n tokens from token a on, with their symbols by σ
unfoldable pub token_words : (ts : List ℕ) (σ : ℕ → ℕ) → (a n : ℕ) → List Word
token_words ts σ a zero = []
token_words ts σ a (suc n) = token_words ts σ a n ++ cond (is_name ts (a + n)) (said (σ (a + n)) (word_start ts (a + n)) (word_end ts (a + n)) ∷ []) []

-- those of the statements that are kept
unfoldable pub kept_words : (ℕ → Bool) → (ts : List ℕ) (σ : ℕ → ℕ) → (items : Tree Label) → List Word
kept_words c ts σ none = []
kept_words c ts σ (more t u) = []
kept_words c ts σ (deeper t) = []
kept_words c ts σ (made l a b none) = []
kept_words c ts σ (made l a b (more t u)) = kept_words c ts σ t ++ cond (c (items t)) (token_words ts σ a (b - a)) []
kept_words c ts σ (made l a b (deeper t)) = []
kept_words c ts σ (made l a b (made k x y t)) = []

-- a run after another
pub words_split : (ts : List ℕ) (σ : ℕ → ℕ) (a m n : ℕ) → token_words ts σ a (m + n) ≡ token_words ts σ a m ++ token_words ts σ (a + m) n
unfolding token_words
words_split ts σ a m zero = let e : m + 0 ≡ m = omega arith in rw e (sym (append-nil (token_words ts σ a m)))
words_split ts σ a m (suc n) =
    let e : a + (m + n) ≡ a + m + n = omega arith in
    let f : m + suc n ≡ suc (m + n) = omega arith in
    rw (f, words_split ts σ a m n, e) (append_assoc (token_words ts σ a m) (token_words ts σ (a + m) n) (cond (is_name ts (a + m + n)) (said (σ (a + m + n)) (word_start ts (a + m + n)) (word_end ts (a + m + n)) ∷ []) []))

-- words after others
pub heard_append : (xs ys : List Word) (ks : List ℕ) → heard (xs ++ ys) ks ≡ heard ys (heard xs ks)
unfolding heard
heard_append [] ys ks = refl
heard_append (x ∷ xs) ys ks = heard_append xs ys (cond (among ks x.symbol) ks (ks ++ (x.symbol ∷ [])))

pub first_places_append : (xs ys : List Word) (ks : List ℕ) → first_places (xs ++ ys) ks ≡ first_places xs ks ++ first_places ys (heard xs ks)
unfolding heard first_places
first_places_append [] ys ks = refl
first_places_append (x ∷ xs) ys ks = pick (among ks x.symbol) (first_places_append xs ys)
  where
    pick : (b : Bool) → ((zs : List ℕ) → first_places (xs ++ ys) zs ≡ first_places xs zs ++ first_places ys (heard xs zs)) → cond b (first_places (xs ++ ys) ks) (x.from ∷ x.upto ∷ first_places (xs ++ ys) (ks ++ (x.symbol ∷ []))) ≡ cond b (first_places xs ks) (x.from ∷ x.upto ∷ first_places xs (ks ++ (x.symbol ∷ []))) ++ first_places ys (heard xs (cond b ks (ks ++ (x.symbol ∷ []))))
    pick true f = f ks
    pick false f = ap (λ q. x.from ∷ x.upto ∷ q) (f (ks ++ (x.symbol ∷ [])))

-- one word
pub heard_one : (x : Word) (ks : List ℕ) → heard (x ∷ []) ks ≡ cond (among ks x.symbol) ks (ks ++ (x.symbol ∷ []))
unfolding heard
heard_one x ks = refl

pub places_one : (x : Word) (ks : List ℕ) → first_places (x ∷ []) ks ≡ cond (among ks x.symbol) [] (x.from ∷ x.upto ∷ [])
unfolding first_places
places_one x ks = refl

-- whether a number is one of these
pub among_append : (xs ys : List ℕ) (x : ℕ) → among (xs ++ ys) x ≡ (among xs x || among ys x)
among_append [] ys x = refl
among_append (y ∷ xs) ys x = pick (eqb x y) (among_append xs ys x)
  where
    pick : (t : Bool) → among (xs ++ ys) x ≡ (among xs x || among ys x) → (t || among (xs ++ ys) x) ≡ ((t || among xs x) || among ys x)
    pick true e = refl
    pick false e = e

or_true : (t : Bool) → (t || true) ≡ true
or_true true = refl
or_true false = refl

-- the place of a number in a list: a number that is in it has one, and keeps it
module _ (x : ℕ) where
  pub place_all : (ks : List ℕ) → eqb (place x ks) (length ks) ≡ not (among ks x)
  place_all [] = refl
  place_all (k ∷ ks) = pick (eqb x k) (place_all ks)
    where
      pick : (b : Bool) → eqb (place x ks) (length ks) ≡ not (among ks x) → eqb (cond b 0 (suc (place x ks))) (suc (length ks)) ≡ not (b || among ks x)
      pick true f = eqb-zero-suc (length ks)
      pick false f = eqb-suc-suc (place x ks) (length ks) ∙ f

  pub place_kept : (ks zs : List ℕ) → among ks x ≡ true → place x (ks ++ zs) ≡ place x ks
  place_kept [] zs h = absurd (let z : ◌≡◌ {A = ℕ} 0 1 = cc in omega arith)
  place_kept (k ∷ ks) zs h = pick (eqb x k) (place_kept ks zs) h
    where
      pick : (b : Bool) → (among ks x ≡ true → place x (ks ++ zs) ≡ place x ks) → (b || among ks x) ≡ true → cond b 0 (suc (place x (ks ++ zs))) ≡ cond b 0 (suc (place x ks))
      pick true f h = refl
      pick false f h = ap suc (f h)

  pub among_kept : (ks zs : List ℕ) → among ks x ≡ true → among (ks ++ zs) x ≡ true
  among_kept ks zs h = among_append ks zs x ∙ rw h refl

  pub place_new : (ks : List ℕ) → among ks x ≡ false → place x (ks ++ (x ∷ [])) ≡ place x ks
  place_new [] h = rw (eq-eqb x x refl)
  place_new (k ∷ ks) h = pick (eqb x k) (place_new ks) h
    where
      pick : (b : Bool) → (among ks x ≡ false → place x (ks ++ (x ∷ [])) ≡ place x ks) → (b || among ks x) ≡ false → cond b 0 (suc (place x (ks ++ (x ∷ [])))) ≡ cond b 0 (suc (place x ks))
      pick true f h = refl
      pick false f h = ap suc (f h)

  pub among_new : (ks : List ℕ) → among (ks ++ (x ∷ [])) x ≡ true
  among_new ks = among_append ks (x ∷ []) x ∙ rw (eq-eqb x x refl) (or_true (among ks x))

  -- the symbols below n have their own, and others come after them
  pub place_behind : (n : ℕ) (ks : List ℕ) → n ≤ x → place x (upto n ++ ks) ≡ n + place x ks
  unfolding upto
  place_behind zero ks l = omega arith
  place_behind (suc n) ks l = rw (append_assoc (upto n) (n ∷ []) ks) (place_behind n (n ∷ ks) (omega arith) ∙ after)
    where
      after : n + place x (n ∷ ks) ≡ suc n + place x ks
      after = rw (ne_eqb x n (λ e. omega arith)) (omega arith)

  pub place_own : (n : ℕ) (ks : List ℕ) → x < n → place x (upto n ++ ks) ≡ x
  unfolding upto
  place_own zero ks l = absurd (omega arith)
  place_own (suc n) ks l = rw (append_assoc (upto n) (n ∷ []) ks) (elim (dec_lt x n) [
    | yes p ↦ place_own n (n ∷ ks) p
    | no p ↦ let e : x ≡ n = omega arith in place_behind n (n ∷ ks) (omega arith) ∙ rw (eq-eqb x n e) (omega arith)
  ])

  -- what is known keeps its place when more is heard
  pub heard_known : (xs : List Word) (ks : List ℕ) → among ks x ≡ true → among (heard xs ks) x ≡ true
  unfolding heard
  heard_known [] ks h = h
  heard_known (y ∷ xs) ks h = heard_known xs (cond (among ks y.symbol) ks (ks ++ (y.symbol ∷ []))) (pick (among ks y.symbol))
    where
      pick : (b : Bool) → among (cond b ks (ks ++ (y.symbol ∷ []))) x ≡ true
      pick true = h
      pick false = among_kept ks (y.symbol ∷ []) h

  pub heard_place : (xs : List Word) (ks : List ℕ) → among ks x ≡ true → place x (heard xs ks) ≡ place x ks
  unfolding heard
  heard_place [] ks h = refl
  heard_place (y ∷ xs) ks h = pick (among ks y.symbol) (heard_place xs)
    where
      pick : (b : Bool) → ((zs : List ℕ) → among zs x ≡ true → place x (heard xs zs) ≡ place x zs) → place x (heard xs (cond b ks (ks ++ (y.symbol ∷ [])))) ≡ place x ks
      pick true f = f ks h
      pick false f = f (ks ++ (y.symbol ∷ [])) (among_kept ks (y.symbol ∷ []) h) ∙ place_kept ks (y.symbol ∷ []) h

pub upto_length : (n : ℕ) → length (upto n) ≡ n
unfolding upto
upto_length zero = refl
upto_length (suc n) = omega (arith, length-append (upto n) (n ∷ []), upto_length n)
