-- The symbol rows of a token list: the built-in names' come first, a token adds one at most, none is taken away, and each name has one. A token that has no word
-- has symbol 0. In a room for all of them every word has its symbol, and in a larger room those that it had. A word that is a built-in name's has its symbol and
-- leaves the rows as they are; the rows of other words, behind the built-in ones, are those beside no names.
use Prim.Native.Nat.{ℕ, zero, suc, ◌+◌, ◌*◌, ◌/◌, ◌≤◌, ◌<◌}
use mathlib.Core.Bool.{Bool, true, false, cond, not, ◌&&◌}
use mathlib.Core.List.{List, [], ◌∷◌, ◌++◌, append_assoc}
use mathlib.Core.Path.{◌≡◌, refl, fun_ext}
use native.Mathlib.Decide.{ℕ_discrete, dec_lt}
use native.Mathlib.Nat.{zero-add}
use native.Mathlib.Omega.{arith}
use lib.Dec.{eqb, leb}
use borrow.Author.Tests.{eqb-true, eqb-false, eq-eqb, ne_eqb, leb-true, leb-false}
use lib.ListN.{length, take, drop, length-append, length-drop, get_or-eq_default}
use lib.Seq.{length-take-le, drop_at}
use Rattle.grammar.specs.Builtin.{Builtins, none, built, built_rows}
use Rattle.grammar.specs.Door.{Whole}
use Rattle.grammar.specs.Handle.{absent}
use Rattle.grammar.specs.Label.{Label}
use Rattle.grammar.specs.Phrase.{Tree, more, deeper, made}
use Rattle.grammar.specs.Space.{Named}
use Rattle.grammar.specs.Symbol.{same, seek, look_up, interned, is_name, word_start, word_end, symbol_rows, symbol, symbol_in}
use Rattle.grammar.specs.Token.{kind, count, lexeme}

-- where no symbol is absent, every tree is named
pub named_all : {symbol : ℕ → ℕ} → ((i : ℕ) → symbol i ≡ absent → ⊥) → (t : Tree Label) → Named symbol t
unfolding Named
named_all h Tree.none = tt
named_all h (more t u) = (named_all h t, named_all h u)
named_all h (deeper t) = named_all h t
named_all h (made f a b t) = (named_all h t, λ _. h a)

-- a word is that of a token, and not past a list of whole ones
pub word_inside : (ts : List ℕ) → Whole ts → (i : ℕ) → is_name ts i ≡ true → i < count ts
word_inside ts w i e = elim (dec_lt i (count ts)) [
  | yes l ↦ l
  | no l ↦ let k : kind ts i ≡ 0 = get_or-eq_default ts 0 (omega (arith, w.rows)) in let f : false ≡ true = rw k at e in absurd (let z : ◌≡◌ {A = ℕ} 0 1 = cc in omega arith)
]

-- as many built-in rows as names
pub built_length : (names : Builtins) → length (built_rows names) ≡ 2 * built names
built_length names = length-take-le (2 * built names) names.rows (omega arith)

module _ (text x : List ℕ) where
  -- a row, or the next
  pub seek_below : (ss : List ℕ) → seek text x ss ≤ length ss / 2
  unfolding seek
  seek_below [] = omega arith
  seek_below (s ∷ []) = omega arith
  seek_below (s ∷ e ∷ ss) = either (same x (lexeme text s e)) (seek_below ss)
    where
      either : (b : Bool) → seek text x ss ≤ length ss / 2 → cond b 0 (suc (seek text x ss)) ≤ suc (suc (length ss)) / 2
      either true h = omega arith
      either false h = omega arith

  -- a number left over is not looked at
  pub seek_whole : (ss : List ℕ) → seek text x (take (2 * (length ss / 2)) ss) ≡ seek text x ss
  unfolding seek
  seek_whole [] = refl
  seek_whole (s ∷ []) = refl
  seek_whole (s ∷ e ∷ ss) = let z : 2 * (suc (suc (length ss)) / 2) ≡ suc (suc (2 * (length ss / 2))) = omega arith in rw (z, seek_whole ss)

  -- beside no names
  pub look_up_none : (ss : List ℕ) → look_up none text x ss ≡ seek text x ss
  unfolding look_up seek
  look_up_none ss = zero-add (seek text x ss)

module _ (names : Builtins) (text : List ℕ) where
  -- a word is a built-in name's or not
  module _ (x : List ℕ) where
    pub look_up_built : (ss : List ℕ) → seek names.text x names.rows < built names → look_up names text x ss ≡ seek names.text x names.rows
    unfolding look_up
    look_up_built ss h = rw (ne_eqb (seek names.text x names.rows) (built names) (λ e. omega arith))

    -- and then it is sought behind their rows
    pub look_up_behind : (ss : List ℕ) → seek names.text x names.rows ≡ built names → look_up names text x ss ≡ built names + seek text x (drop (2 * built names) ss)
    unfolding look_up
    look_up_behind ss h = rw (eq-eqb (seek names.text x names.rows) (built names) h)

    pub look_up_own : (u : List ℕ) → seek names.text x names.rows ≡ built names → look_up names text x (built_rows names ++ u) ≡ built names + seek text x u
    look_up_own u h = rw (look_up_behind (built_rows names ++ u) h, drop_at (built_rows names) u (2 * built names) (built_length names))

    -- either way it is a row, or the next
    look_up_below : (ss : List ℕ) → built names ≤ length ss / 2 → look_up names text x ss ≤ length ss / 2
    look_up_below ss h = elim (dec_lt (seek names.text x names.rows) (built names)) [
      | yes l ↦ rw (look_up_built ss l) (omega arith)
      | no l ↦ rw (look_up_behind ss (omega (arith, seek_below names.text x names.rows))) (omega (arith, seek_below text x (drop (2 * built names) ss), length-drop (2 * built names) ss))
    ]

  -- what is interned makes one row at most
  grows : (s e : ℕ) (ss : List ℕ) → (length ss ≤ length (interned names text s e ss)) × (length (interned names text s e ss) ≤ length ss + 2)
  unfolding interned
  grows s e ss = either (eqb (look_up names text (lexeme text s e) ss) (length ss / 2))
    where
      either : (b : Bool) → (length ss ≤ length (cond b (ss ++ (s ∷ e ∷ [])) ss)) × (length (cond b (ss ++ (s ∷ e ∷ [])) ss) ≤ length ss + 2)
      either true = simp length-append (omega arith)
      either false = omega arith

  -- and has one
  holds : (s e : ℕ) (ss : List ℕ) → built names ≤ length ss / 2 → 2 * (look_up names text (lexeme text s e) ss + 1) ≤ length (interned names text s e ss)
  unfolding interned
  holds s e ss l = either (eqb (look_up names text (lexeme text s e) ss) (length ss / 2)) refl
    where
      either : (b : Bool) → eqb (look_up names text (lexeme text s e) ss) (length ss / 2) ≡ b → 2 * (look_up names text (lexeme text s e) ss + 1) ≤ length (cond b (ss ++ (s ∷ e ∷ [])) ss)
      either true h = simp length-append (omega (arith, eqb-true (look_up names text (lexeme text s e) ss) (length ss / 2) h))
      either false h = omega (arith, eqb-false (look_up names text (lexeme text s e) ss) (length ss / 2) h, look_up_below (lexeme text s e) ss l)

  -- a built-in name makes none
  pub interned_built : (s e : ℕ) (ss : List ℕ) → seek names.text (lexeme text s e) names.rows < built names → built names ≤ length ss / 2 → interned names text s e ss ≡ ss
  unfolding interned
  interned_built s e ss h l = rw (look_up_built (lexeme text s e) ss h, ne_eqb (seek names.text (lexeme text s e) names.rows) (length ss / 2) (λ z. omega arith))

  -- another makes the one that it makes beside no names
  pub interned_own : (s e : ℕ) (u : List ℕ) → seek names.text (lexeme text s e) names.rows ≡ built names → interned names text s e (built_rows names ++ u) ≡ built_rows names ++ interned none text s e u
  unfolding interned
  interned_own s e u h = rw (look_up_own (lexeme text s e) u h, look_up_none text (lexeme text s e) u) (either (eqb (seek text (lexeme text s e) u) (length u / 2)) refl)
    where
      half : length (built_rows names ++ u) / 2 ≡ built names + length u / 2
      half = omega (arith, length-append (built_rows names) u, built_length names)

      either : (b : Bool) → eqb (seek text (lexeme text s e) u) (length u / 2) ≡ b → cond (eqb (built names + seek text (lexeme text s e) u) (length (built_rows names ++ u) / 2)) (built_rows names ++ u ++ (s ∷ e ∷ [])) (built_rows names ++ u) ≡ built_rows names ++ cond b (u ++ (s ∷ e ∷ [])) u
      either true z = rw (eq-eqb (built names + seek text (lexeme text s e) u) (length (built_rows names ++ u) / 2) (omega (arith, half, eqb-true (seek text (lexeme text s e) u) (length u / 2) z))) (append_assoc (built_rows names) u (s ∷ e ∷ []))
      either false z = rw (ne_eqb (built names + seek text (lexeme text s e) u) (length (built_rows names ++ u) / 2) (λ y. omega (arith, half, eqb-false (seek text (lexeme text s e) u) (length u / 2) z)))

  module _ (ts : List ℕ) where
    -- a token adds one row at most, and takes none away
    pub row_more : (n : ℕ) → (length (symbol_rows names text ts n) ≤ length (symbol_rows names text ts (suc n))) × (length (symbol_rows names text ts (suc n)) ≤ length (symbol_rows names text ts n) + 2)
    unfolding symbol_rows
    row_more n = either (is_name ts n)
      where
        either : (b : Bool) → let ss = cond b (interned names text (word_start ts n) (word_end ts n) (symbol_rows names text ts n)) (symbol_rows names text ts n) in (length (symbol_rows names text ts n) ≤ length ss) × (length ss ≤ length (symbol_rows names text ts n) + 2)
        either true = grows (word_start ts n) (word_end ts n) (symbol_rows names text ts n)
        either false = (omega arith, omega arith)

    pub rows_grow : (m n : ℕ) → m ≤ n → length (symbol_rows names text ts m) ≤ length (symbol_rows names text ts n)
    rows_grow m zero h = let e : m ≡ 0 = omega arith in rw e (omega arith)
    rows_grow m (suc n) h = elim (ℕ_discrete m (suc n)) [ yes e ↦ rw e (omega arith) | no e ↦ omega (arith, rows_grow m n (omega arith), row_more n) ]

    -- the built-in rows and no more than one for each token
    pub rows_few : (n : ℕ) → length (symbol_rows names text ts n) ≤ 2 * (built names + n)
    unfolding symbol_rows
    rows_few zero = omega (arith, built_length names)
    rows_few (suc n) = omega (arith, rows_few n, row_more n)

    -- and none where it has no word
    pub rows_same : (n : ℕ) → is_name ts n ≡ false → symbol_rows names text ts (suc n) ≡ symbol_rows names text ts n
    unfolding symbol_rows
    rows_same n h = rw h

    -- no fewer than there are built-in names
    pub rows_built : (n : ℕ) → built names ≤ length (symbol_rows names text ts n) / 2
    unfolding symbol_rows
    rows_built zero = omega (arith, built_length names)
    rows_built (suc n) = omega (arith, rows_built n, row_more n)

    -- rows are whole
    pub rows_whole : (n : ℕ) → 2 * (length (symbol_rows names text ts n) / 2) ≡ length (symbol_rows names text ts n)
    unfolding symbol_rows interned
    rows_whole zero = omega (arith, built_length names)
    rows_whole (suc n) = pick (is_name ts n) (eqb (look_up names text (lexeme text (word_start ts n) (word_end ts n)) (symbol_rows names text ts n)) (length (symbol_rows names text ts n) / 2)) (rows_whole n)
      where
        pick : (b c : Bool) → let ss = symbol_rows names text ts n in 2 * (length ss / 2) ≡ length ss → let rs = cond b (cond c (ss ++ (word_start ts n ∷ word_end ts n ∷ [])) ss) ss in 2 * (length rs / 2) ≡ length rs
        pick true true h = simp length-append (omega arith)
        pick true false h = h
        pick false c h = h

    -- a name's symbol has a row once its token is passed
    pub name_has_row : (i : ℕ) → is_name ts i ≡ true → 2 * (symbol names text ts i + 1) ≤ length (symbol_rows names text ts (suc i))
    unfolding symbol symbol_rows
    name_has_row i h = rw h (holds (word_start ts i) (word_end ts i) (symbol_rows names text ts i) (rows_built i))

    pub wordless : (i : ℕ) → is_name ts i ≡ false → symbol names text ts i ≡ 0
    unfolding symbol
    wordless i h = rw h

    -- in a room of so many numbers a token has its symbol, or absent where its row does not fit
    pub data InRoom (room i : ℕ) : ℕ → Type 0 where
      there : (is_name ts i ≡ true → length (symbol_rows names text ts (suc i)) ≤ room) → InRoom room i (symbol names text ts i)
      missing : is_name ts i ≡ true → room < length (symbol_rows names text ts (suc i)) → InRoom room i absent

    pub in_room : (room i : ℕ) → InRoom room i (symbol_in names text ts room i)
    unfolding symbol_in
    in_room room i = pick (is_name ts i) refl (leb (length (symbol_rows names text ts (suc i))) room) refl
      where
        pick : (b : Bool) → is_name ts i ≡ b → (c : Bool) → leb (length (symbol_rows names text ts (suc i))) room ≡ c → InRoom room i (cond (b && not c) absent (symbol names text ts i))
        pick false e c f = InRoom.there (λ h. absurd (let z : ◌≡◌ {A = ℕ} 0 1 = cc in omega arith))
        pick true e true f = InRoom.there (λ h. leb-true _ _ f)
        pick true e false f = InRoom.missing e (leb-false _ _ f)

    -- a word that has its symbol has its row
    pub has_row : (room i : ℕ) → (symbol_in names text ts room i ≡ absent → ⊥) → is_name ts i ≡ true → length (symbol_rows names text ts (suc i)) ≤ room
    has_row room i = by (in_room room i)
      where
        by : {x : ℕ} → InRoom room i x → (x ≡ absent → ⊥) → is_name ts i ≡ true → length (symbol_rows names text ts (suc i)) ≤ room
        by (InRoom.there h) n e = h e
        by (InRoom.missing e k) n f = absurd (n refl)

    -- what has no symbol in a larger room had none
    pub symbol_in_kept : (room larger i : ℕ) → room ≤ larger → symbol_in names text ts larger i ≡ absent → symbol_in names text ts room i ≡ absent
    symbol_in_kept room larger i l = kept (in_room room i) (in_room larger i)
      where
        kept : {x y : ℕ} → InRoom room i x → InRoom larger i y → y ≡ absent → x ≡ absent
        kept (InRoom.there h) (InRoom.there k) e = e
        kept (InRoom.there h) (InRoom.missing n k) e = absurd (omega (arith, h n))
        kept (InRoom.missing n k) y e = refl

    pub symbol_few : Whole ts → (i : ℕ) → symbol names text ts i ≤ built names + 4096
    symbol_few w i = pick (is_name ts i) refl
      where
        pick : (b : Bool) → is_name ts i ≡ b → symbol names text ts i ≤ built names + 4096
        pick true e = omega (arith, name_has_row i e, rows_few (suc i), word_inside ts w i e, w.most)
        pick false e = omega (arith, wordless i e)

    -- a room for all rows has them all
    module _ (w : Whole ts) {room : ℕ} (h : length (symbol_rows names text ts (count ts)) ≤ room) where
      pub symbol_in_all : symbol_in names text ts room ≡ symbol names text ts
      symbol_in_all = fun_ext (λ i. all_in i (in_room room i))
        where
          all_in : (i : ℕ) {x : ℕ} → InRoom room i x → x ≡ symbol names text ts i
          all_in i (InRoom.there k) = refl
          all_in i (InRoom.missing e k) = absurd (omega (arith, rows_grow (suc i) (count ts) (word_inside ts w i e)))

    -- so no symbol is absent, and every tree is named
    module _ (w : Whole ts) (few : built names ≤ 64) {room : ℕ} (h : length (symbol_rows names text ts (count ts)) ≤ room) where
      pub symbol_there : (i : ℕ) → symbol_in names text ts room i ≡ absent → ⊥
      symbol_there i = rw (symbol_in_all w h) (omega (arith, symbol_few w i))

      pub fits_named : (t : Tree Label) → Named (symbol_in names text ts room) t
      fits_named = named_all symbol_there
