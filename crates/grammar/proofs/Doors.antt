-- A door that proves its answer: it finds the first check that finds something wrong, its code, and the place where it does. Run on a call, it decides the call.
use Prim.Native.Nat.{ℕ, zero, suc, ◌+◌, ◌*◌, ◌/◌, ◌≤◌, ◌<◌}
use mathlib.Core.Bool.{Bool, true, false}
use mathlib.Core.List.{List}
use mathlib.Core.Logic.{◌⊎◌, inl, inr, ⊎_elim}
use mathlib.Core.Path.{◌≡◌, refl, subst}
use native.Mathlib.Decide.{ℕ_discrete, dec_le, dec_lt}
use native.Mathlib.Omega.{arith}
use lib.Dec.{T}
use lib.ListN.{length, get_or}
use Rattle.grammar.specs.Builtin.{Builtins, built, RightNames}
use Rattle.grammar.specs.Call.{Call}
use Rattle.grammar.specs.Derivative.{matches}
use Rattle.grammar.specs.Door.{Whole, Roomy, RightSymbols, RightEdition, Ascii, Sound, Closed, Inside, Admitted, FirstWithout, Wrong, TurnedAway}
use Rattle.grammar.specs.Kind.{And, Nil, Identifier, Eof}
use Rattle.grammar.specs.Lexeme.{spelling, pattern, Fits}
use Rattle.grammar.specs.Pattern.{Pattern, Matches}
use Rattle.grammar.specs.Profile.{allowed}
use Rattle.grammar.specs.Room.{symbol_width, scratch_width}
use Rattle.grammar.specs.Symbol.{same}
use Rattle.grammar.specs.Table.{Part, start_of, end_of, word}
use Rattle.grammar.specs.Token.{count, kind, start, end, lexeme}
use Rattle.grammar.proofs.Patterns.{matches_sound, matches_whole}
use Rattle.grammar.proofs.Tests.{same_means, same_self}

-- decisions of what is made of others
unfoldable pub by_test : {A : Type 0} (b : Bool) → (T b → A) → (A → T b) → Dec A
by_test true f g = yes (f tt)
by_test false f g = no g

unfoldable pub carried : {A B : Type 0} → (A → B) → (B → A) → Dec A → Dec B
carried f g (yes a) = yes (f a)
carried f g (no z) = no (λ b. z (g b))

unfoldable pub also : {A B : Type 0} → Dec A → Dec B → Dec (A × B)
also (yes a) (yes b) = yes (a, b)
also (yes a) (no z) = no (λ p. z p.1)
also (no z) d = no (λ p. z p.0)

unfoldable pub either : {A B : Type 0} → Dec A → Dec B → Dec (A ⊎ B)
either (yes a) d = yes (inl a)
either (no z) (yes b) = yes (inr b)
either (no z) (no y) = no (⊎_elim z y)

unfoldable pub implies : {A B : Type 0} → Dec A → Dec B → Dec (A → B)
implies (yes a) (yes b) = yes (λ x. b)
implies (yes a) (no z) = no (λ f. z (f a))
implies (no z) d = yes (λ a. absurd (z a))

unfoldable pub denied : {A : Type 0} → Dec A → Dec (A → ⊥)
denied (yes a) = no (λ f. f a)
denied (no z) = yes z

-- all of the first n places have what is asked, or one is the first that has not
pub data Search (asked : ℕ → Type 0) (n : ℕ) : Type 0 where
  all : ((i : ℕ) → i < n → asked i) → Search asked n
  lacking : {i : ℕ} → FirstWithout asked n i → Search asked n

module _ (asked : ℕ → Type 0) where
  pub one_more : (n : ℕ) → ((i : ℕ) → i < n → asked i) → asked n → (i : ℕ) → i < suc n → asked i
  one_more n f a i h = elim (dec_lt i n) [ yes l ↦ f i l | no z ↦ let e : n ≡ i = omega arith in subst asked e a ]

  module _ (ask : (i : ℕ) → Dec (asked i)) where
    unfoldable pub look_through : (n : ℕ) → Search asked n
    look_through zero = Search.all (λ i h. absurd (omega arith))
    look_through (suc n) = elim (look_through n) [
      | all f ↦ elim (ask n) [
        | yes a ↦ Search.all (one_more n f a)
        | no z ↦ let l : n < suc n = omega arith in Search.lacking (record { place = l; lacks = z; before = f })
      ]
      | lacking {i = i} x ↦ let p = x.place in let l : i < suc n = omega arith in Search.lacking (record { place = l; lacks = x.lacks; before = x.before })
    ]

unfoldable pub each : {asked : ℕ → Type 0} {n : ℕ} → Search asked n → Dec ((i : ℕ) → i < n → asked i)
each (all f) = yes f
each (lacking {i = i} x) = no (λ f. x.lacks (f i x.place))

-- lexemes
unfoldable pub text_is : (xs ys : List ℕ) → Dec (xs ≡ ys)
text_is xs ys = by_test (same xs ys) (same_means xs ys) (λ e. subst (λ zs. T (same xs zs)) e (same_self xs))

unfoldable pub matched : (p : Pattern) (xs : List ℕ) → Dec (Matches p xs)
matched p xs = by_test (matches p xs) (matches_sound p xs) (matches_whole p xs)

abbrev pub NoKeyword : List ℕ → ℕ → Type 0
NoKeyword x w = And ≤ w → x ≡ spelling w → ⊥

unfoldable pub fitting : (k : ℕ) (x : List ℕ) → Dec (Fits k x)
fitting k x =
    carried (λ p. record { lexeme = p.0; no_keyword = λ e w l h. p.1 e w (omega arith) l })
    (λ f. (f.lexeme, λ e w h l. f.no_keyword e w l (omega arith)))
    (also (implies (dec_lt k Eof) (matched (pattern k) x)) (implies (ℕ_discrete k Identifier) (each (look_through (NoKeyword x) (λ w. implies (dec_le And w) (denied (text_is x (spelling w)))) (suc Nil)))))

-- what is asked of each byte and token
abbrev pub Low : List ℕ → ℕ → Type 0
Low text i = get_or text i 0 ≤ 127

unfoldable pub parted : (ts : List ℕ) (i : ℕ) → Dec ((j : ℕ) → suc j ≡ i → end ts j ≤ start ts i)
parted ts zero = yes (λ j e. absurd (omega arith))
parted ts (suc n) = carried (λ h j e. let z : n ≡ j = omega arith in subst (λ m. end ts m ≤ start ts (suc n)) z h) (λ f. f n refl) (dec_le (end ts n) (start ts (suc n)))

unfoldable pub sounds : (text ts : List ℕ) (i : ℕ) → Dec (Sound text ts i)
sounds text ts i =
    carried (λ p. record { known = p.0; forward = p.1.0; inside = p.1.1.0; apart = p.1.1.1.0; fits = p.1.1.1.1 })
    (λ s. (s.known, (s.forward, (s.inside, (s.apart, s.fits)))))
    (also (dec_le (kind ts i) Eof) (also (dec_le (start ts i) (end ts i)) (also (dec_le (end ts i) (length text)) (also (parted ts i) (fitting (kind ts i) (lexeme text (start ts i) (end ts i)))))))

unfoldable pub closes : (ts : List ℕ) (i : ℕ) → Dec (Closed ts i)
closes ts i =
    carried (λ p. record { only = p.0; last = p.1 }) (λ s. (s.only, s.last))
    (also (implies (ℕ_discrete (kind ts i) Eof) (ℕ_discrete (i + 1) (count ts))) (implies (ℕ_discrete (i + 1) (count ts)) (ℕ_discrete (kind ts i) Eof)))

-- what is asked of built-in names, row by row
module _ (names : Builtins) where
  abbrev pub name_of : ℕ → List ℕ
  name_of i = word names.text names.rows i

  abbrev pub Stands : ℕ → Type 0
  Stands i = Part names.text (start_of names.rows i) (end_of names.rows i)

  -- no earlier row has the same bytes
  abbrev pub New : ℕ → Type 0
  New j = (i : ℕ) → i < j → name_of i ≡ name_of j → ⊥

  unfoldable pub in_parts : Search Stands (built names)
  in_parts = look_through Stands (λ i. carried (λ p. record { ordered = p.0; inside = p.1 }) (λ p. (p.ordered, p.inside)) (also (dec_le (start_of names.rows i) (end_of names.rows i)) (dec_le (end_of names.rows i) (length names.text)))) (built names)

  unfoldable pub in_names : Search New (built names)
  in_names = look_through New (λ j. each (look_through (λ i. name_of i ≡ name_of j → ⊥) (λ i. denied (text_is (name_of i) (name_of j))) j)) (built names)

  unfoldable pub in_identifiers : Search (λ i. Fits Identifier (name_of i)) (built names)
  in_identifiers = look_through (λ i. Fits Identifier (name_of i)) (λ i. fitting Identifier (name_of i)) (built names)

  unfoldable pub right_names : Dec (RightNames names)
  right_names =
      carried
      (λ p. record { short = p.0; few = p.1.0; table = record { parts = λ i r. p.1.1.0 i (omega arith); different = λ i j l r. p.1.1.1.0 j (omega arith) i l }; identifiers = λ i r. p.1.1.1.1 i (omega arith) })
      (λ n. (n.short, (n.few, (λ i l. n.table.parts i (omega arith), (λ j l i h. n.table.different i j h (omega arith), λ i l. n.identifiers i (omega arith))))))
      (also (dec_le (length names.text) 65536) (also (dec_le (built names) 64) (also (each in_parts) (also (each in_names) (each in_identifiers)))))

module _ (c : Call) where
  unfoldable pub in_bytes : Search (Low c.text) (length c.text)
  in_bytes = look_through (Low c.text) (λ i. dec_le (get_or c.text i 0) 127) (length c.text)

  unfoldable pub in_tokens : Search (Sound c.text c.tokens) (count c.tokens)
  in_tokens = look_through (Sound c.text c.tokens) (sounds c.text c.tokens) (count c.tokens)

  unfoldable pub in_ends : Search (Closed c.tokens) (count c.tokens)
  in_ends = look_through (Closed c.tokens) (closes c.tokens) (count c.tokens)

  unfoldable pub in_profile : Search (Inside c.profile c.tokens) (count c.tokens)
  in_profile = look_through (Inside c.profile c.tokens) (λ i. by_test (allowed c.profile (kind c.tokens i)) (λ h. h) (λ h. h)) (count c.tokens)

  -- what each check asks
  abbrev pub Asked : (turn : ℕ) → Type 0
  Asked zero = Unit {0}
  Asked (suc zero) = Whole c.tokens
  Asked (suc (suc zero)) = length c.text ≤ 65536
  Asked (suc (suc (suc zero))) = (1 ≤ c.limit) × (c.limit ≤ 64)
  Asked (suc (suc (suc (suc zero)))) = RightEdition c.edition
  Asked (suc (suc (suc (suc (suc zero))))) = Roomy c
  Asked (suc (suc (suc (suc (suc (suc zero)))))) = RightNames c.names
  Asked (suc (suc (suc (suc (suc (suc (suc zero))))))) = RightSymbols c.names (length c.rooms.symbols)
  Asked (suc (suc (suc (suc (suc (suc (suc (suc zero)))))))) = Ascii c.text
  Asked (suc (suc (suc (suc (suc (suc (suc (suc (suc zero))))))))) = (i : ℕ) → i < count c.tokens → Sound c.text c.tokens i
  Asked (suc (suc (suc (suc (suc (suc (suc (suc (suc (suc zero)))))))))) = (i : ℕ) → i < count c.tokens → Closed c.tokens i
  Asked (suc (suc (suc (suc (suc (suc (suc (suc (suc (suc (suc zero))))))))))) = (i : ℕ) → i < count c.tokens → Inside c.profile c.tokens i
  Asked (suc (suc (suc (suc (suc (suc (suc (suc (suc (suc (suc (suc k)))))))))))) = Unit {0}

  unfoldable pub ask : (turn : ℕ) → Dec (Asked turn)
  ask zero = yes tt
  ask (suc zero) = carried (λ p. record { rows = p.0; some = p.1.0; most = p.1.1 }) (λ w. (w.rows, (w.some, w.most))) (also (ℕ_discrete (length c.tokens) (3 * count c.tokens)) (also (dec_le 1 (count c.tokens)) (dec_le (count c.tokens) 4096)))
  ask (suc (suc zero)) = dec_le (length c.text) 65536
  ask (suc (suc (suc zero))) = also (dec_le 1 c.limit) (dec_le c.limit 64)
  ask (suc (suc (suc (suc zero)))) = either (ℕ_discrete c.edition 1) (ℕ_discrete c.edition 2)
  ask (suc (suc (suc (suc (suc zero))))) = dec_le (count c.tokens) (length c.rooms.scratch / scratch_width)
  ask (suc (suc (suc (suc (suc (suc zero)))))) = right_names c.names
  ask (suc (suc (suc (suc (suc (suc (suc zero))))))) = dec_le (symbol_width * built c.names) (length c.rooms.symbols)
  ask (suc (suc (suc (suc (suc (suc (suc (suc zero)))))))) = each in_bytes
  ask (suc (suc (suc (suc (suc (suc (suc (suc (suc zero))))))))) = each in_tokens
  ask (suc (suc (suc (suc (suc (suc (suc (suc (suc (suc zero)))))))))) = each in_ends
  ask (suc (suc (suc (suc (suc (suc (suc (suc (suc (suc (suc zero))))))))))) = each in_profile
  ask (suc (suc (suc (suc (suc (suc (suc (suc (suc (suc (suc (suc k)))))))))))) = yes tt

  -- something is wrong exactly where a check asks for what there is not
  pub not_had : {n k at from upto : ℕ} → Wrong c n k at from upto → Asked n → ⊥
  not_had (Wrong.list x) a = x a
  not_had (Wrong.text x) a = omega arith
  not_had (Wrong.no_depth x) a = let l = a.0 in omega arith
  not_had (Wrong.deep x) a = let l = a.1 in omega arith
  not_had (Wrong.edition x) a = x a
  not_had (Wrong.room x) a = x a
  not_had (Wrong.names x) a = x a
  not_had (Wrong.names_room x) a = omega arith
  not_had (Wrong.byte {i = i} x) a = x.lacks (a i x.place)
  not_had (Wrong.token {i = i} x) a = x.lacks (a i x.place)
  not_had (Wrong.eof {i = i} x) a = x.lacks (a i x.place)
  not_had (Wrong.outside {i = i} x) a = x.lacks (a i x.place)

  abbrev pub Finding : ℕ → Type 0
  Finding n = (code at from upto : ℕ) × Wrong c n code at from upto

  unfoldable pub find : (turn : ℕ) → (Asked turn → ⊥) → Finding turn
  find zero z = absurd (z tt)
  find (suc zero) z = (1, 0, 0, 0, Wrong.list z)
  find (suc (suc zero)) z = (2, 0, 0, 0, let l : 65536 < length c.text = omega arith in Wrong.text l)
  find (suc (suc (suc zero))) z = (3, 0, 0, 0, elim (ℕ_discrete c.limit 0) [ yes e ↦ Wrong.no_depth e | no n ↦ elim (dec_lt 64 c.limit) [ yes l ↦ Wrong.deep l | no m ↦ absurd (z (omega arith, omega arith)) ] ])
  find (suc (suc (suc (suc zero)))) z = (21, 0, 0, 0, Wrong.edition z)
  find (suc (suc (suc (suc (suc zero))))) z = (4, 0, 0, 0, Wrong.room z)
  find (suc (suc (suc (suc (suc (suc zero)))))) z = (18, 0, 0, 0, Wrong.names z)
  find (suc (suc (suc (suc (suc (suc (suc zero))))))) z = (4, 0, 0, 0, let l : length c.rooms.symbols < symbol_width * built c.names = omega arith in Wrong.names_room l)
  find (suc (suc (suc (suc (suc (suc (suc (suc zero)))))))) z = elim in_bytes [ all f ↦ absurd (z f) | lacking {i = i} x ↦ (5, 0, i, i + 1, Wrong.byte x) ]
  find (suc (suc (suc (suc (suc (suc (suc (suc (suc zero))))))))) z = elim in_tokens [ all f ↦ absurd (z f) | lacking {i = i} x ↦ (6, i, start c.tokens i, end c.tokens i, Wrong.token x) ]
  find (suc (suc (suc (suc (suc (suc (suc (suc (suc (suc zero)))))))))) z = elim in_ends [ all f ↦ absurd (z f) | lacking {i = i} x ↦ (7, i, start c.tokens i, end c.tokens i, Wrong.eof x) ]
  find (suc (suc (suc (suc (suc (suc (suc (suc (suc (suc (suc zero))))))))))) z = elim in_profile [ all f ↦ absurd (z f) | lacking {i = i} x ↦ (17, i, start c.tokens i, end c.tokens i, Wrong.outside x) ]
  find (suc (suc (suc (suc (suc (suc (suc (suc (suc (suc (suc (suc k)))))))))))) z = absurd (z tt)

  -- what the door says of a call
  pub data Verdict : Type 0 where
    inside : Admitted c → Verdict
    turned : (code at from upto : ℕ) → TurnedAway c code at from upto → Verdict

  pub away : {turn code at from upto : ℕ} → FirstWithout Asked 12 turn → Wrong c turn code at from upto → TurnedAway c code at from upto
  away {turn} x w = record { turn = turn; wrong = w; first = λ {t} v. elim (dec_lt t turn) [ yes h ↦ absurd (not_had v (x.before t h)) | no h ↦ omega arith ] }

  unfoldable pub verdict : Verdict
  verdict = elim (look_through Asked ask 12) [
    | all f ↦ inside (record { whole = f 1 (omega arith); short = f 2 (omega arith); some_depth = (f 3 (omega arith)).0; least_depth = (f 3 (omega arith)).1; edition = f 4 (omega arith); roomy = f 5 (omega arith); named = f 6 (omega arith); names_fit = f 7 (omega arith); ascii = f 8 (omega arith); sound = f 9 (omega arith); closed = f 10 (omega arith); inside = f 11 (omega arith) })
    | lacking {i = i} x ↦ let f = find i x.lacks in turned f.0 f.1 f.2 f.3 (away x f.4)
  ]
