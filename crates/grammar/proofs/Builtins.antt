-- What built-in names do to symbols, and that they do nothing else. Beside no names all is as it was before names could be lent. A built-in name has the number of
-- its row in every script, and the names of a script's own come after them. Beside names a script reads as it does beside none, and its rows are the same but for
-- the symbols, which are renamed one to one; it is refused as it is beside none.
use Prim.Native.Nat.{ℕ, zero, suc, ◌+◌, ◌*◌, ◌/◌, ◌≤◌, ◌<◌}
use mathlib.Core.Bool.{Bool, true, false, cond, not, ◌&&◌}
use mathlib.Core.List.{List, [], ◌∷◌, ◌++◌}
use mathlib.Core.Logic.{◌↔◌}
use mathlib.Core.Path.{◌≡◌, refl, sym, ap, ◌∙◌, fun_ext}
use native.Mathlib.Decide.{ℕ_discrete, dec_le, dec_lt}
use native.Mathlib.Omega.{arith}
use lib.Dec.{eqb, ltb, leb}
use borrow.Author.Tests.{eqb-true, lt-ltb, le-ltb}
use lib.ListN.{length, get_or, take, drop, length-drop}
use lib.Seq.{take-take, take-append-le, drop-append-le, get_or-take, get_or-drop}
use Rattle.grammar.specs.Builtin.{Builtins, none, built, built_rows, RightNames}
use Rattle.grammar.specs.Door.{Whole, RightSymbols}
use Rattle.grammar.specs.Edition.{Edition}
use Rattle.grammar.specs.Handle.{absent}
use Rattle.grammar.specs.Kaori.{kaori}
use Rattle.grammar.specs.Label.{Label}
use Rattle.grammar.specs.Outcome.{Outcome, accepted, refusal, Comes}
use Rattle.grammar.specs.Profile.{Profile, form, ReadsAll}
use Rattle.grammar.specs.Parent.{written}
use Rattle.grammar.specs.Phrase.{Tree, depth}
use Rattle.grammar.specs.Refusal.{Refused, Refuses}
use Rattle.grammar.specs.Room.{symbol_width}
use Rattle.grammar.specs.Rows.{Rows, blank}
use Rattle.grammar.specs.Space.{Space, Enough}
use Rattle.grammar.specs.Symbol.{seek, look_up, interned, is_name, word_start, word_end, symbol_rows, symbol, symbol_in}
use Rattle.grammar.specs.Table.{Row, word}
use Rattle.grammar.specs.Token.{kind, count, lexeme}
use Rattle.grammar.proofs.Asking.{written_same}
use Rattle.grammar.proofs.Larger.{same_refusal}
use Rattle.grammar.proofs.Lengths.{enough_written, enough_then}
use Rattle.grammar.proofs.Seek.{seek_found, seek_front, seek_behind, seek_one, seek_held, seek_missing}
use Rattle.grammar.proofs.Symbols.{built_length, seek_below, look_up_none, look_up_built, look_up_behind, row_more, rows_grow, rows_built, rows_whole, name_has_row}

-- no names are right, and ask for no room
pub right_none : RightNames none
right_none = record { short = omega arith; few = omega arith; table = record { parts = λ i r. absurd (omega arith); different = λ i j l r. absurd (omega arith) }; identifiers = λ i r. absurd (omega arith) }

pub fits_none : (numbers : ℕ) → RightSymbols none numbers
fits_none n = omega arith

-- the symbols as they were before names could be lent: a row is a word's first place, and a symbol the number of its row
module _ (text : List ℕ) where
  unfoldable pub placed : (s e : ℕ) (symbols : List ℕ) → List ℕ
  placed s e ss = cond (eqb (seek text (lexeme text s e) ss) (length ss / symbol_width)) (ss ++ (s ∷ e ∷ [])) ss

  interned_none : (s e : ℕ) (ss : List ℕ) → interned none text s e ss ≡ placed s e ss
  unfolding interned placed
  interned_none s e ss = rw (look_up_none text (lexeme text s e) ss)

module _ (text ts : List ℕ) where
  unfoldable pub first_places : ℕ → List ℕ
  first_places zero = []
  first_places (suc n) = cond (is_name ts n) (placed text (word_start ts n) (word_end ts n) (first_places n)) (first_places n)

  unfoldable pub first_place : ℕ → ℕ
  first_place i = cond (is_name ts i) (seek text (lexeme text (word_start ts i) (word_end ts i)) (first_places i)) 0

  unfoldable pub first_place_in : (room : ℕ) → ℕ → ℕ
  first_place_in room i = cond (is_name ts i && not (leb (length (first_places (suc i))) room)) absent (first_place i)

  -- and so they are beside no names
  pub rows_as_before : (n : ℕ) → symbol_rows none text ts n ≡ first_places n
  unfolding symbol_rows first_places
  rows_as_before zero = refl
  rows_as_before (suc n) = rw (rows_as_before n, interned_none text (word_start ts n) (word_end ts n) (first_places n))

  pub symbol_as_before : (i : ℕ) → symbol none text ts i ≡ first_place i
  unfolding symbol first_place
  symbol_as_before i = rw (rows_as_before i, look_up_none text (lexeme text (word_start ts i) (word_end ts i)) (first_places i))

  pub symbol_in_as_before : (room i : ℕ) → symbol_in none text ts room i ≡ first_place_in room i
  unfolding symbol_in first_place_in
  symbol_in_as_before room i = rw (rows_as_before (suc i), symbol_as_before i)

  symbols_before : symbol none text ts ≡ first_place
  symbols_before = fun_ext symbol_as_before

  symbols_in_before : (room : ℕ) → symbol_in none text ts room ≡ first_place_in room
  symbols_in_before room = fun_ext (symbol_in_as_before room)

-- what came of a token list then
pub data Came (p : Profile) (e : Edition) (text ts : List ℕ) (limit : ℕ) (space : Space) (room : ℕ) : Outcome → Type 0 where
  read : {t : Tree Label} → ReadsAll p e (kind ts) (count ts) t → depth t ≤ limit → Enough space (written ts (first_place text ts) t) → length (first_places text ts (count ts)) ≤ room → Came p e text ts limit space room (accepted (written ts (first_place text ts) t) (first_places text ts (count ts)))
  stop : {q : Refused} → Refuses ts (first_place_in text ts room) limit space (kaori e) (kind ts) (form p) 0 0 blank q → Came p e text ts limit space room (refusal q)

module _ {p : Profile} {e : Edition} {text ts : List ℕ} {limit : ℕ} {space : Space} {room : ℕ} where
  pub comes_as_before : {r : Outcome} → Comes p e none text ts limit space room r → Came p e text ts limit space room r
  comes_as_before (Comes.read x h i j) =
      let s = symbols_before text ts in
      let f = rows_as_before text ts (count ts) in
      rw (s, f) (Came.read x h (rw s at i) (rw f at j))
  comes_as_before (Comes.stop x) = Came.stop (rw (symbols_in_before text ts room) at x)

  pub came_comes : {r : Outcome} → Came p e text ts limit space room r → Comes p e none text ts limit space room r
  came_comes (Came.read x h i j) =
      let s = symbols_before text ts in
      let f = rows_as_before text ts (count ts) in
      rw (← s, ← f) (Comes.read x h (rw s i) (rw f j))
  came_comes (Came.stop {q = q} x) = Comes.stop {q = q} (rw (symbols_in_before text ts room) x)

-- token i's word
abbrev pub word_of : (text ts : List ℕ) → ℕ → List ℕ
word_of text ts i = lexeme text (word_start ts i) (word_end ts i)

-- a word is looked up the same once its row is there
module _ (names : Builtins) (text : List ℕ) where
  module _ (x : List ℕ) where
    -- the built-in names' or the script's own
    data Sought (ss : List ℕ) : ℕ → Type 0 where
      named : seek names.text x names.rows < built names → Sought ss (seek names.text x names.rows)
      own : seek names.text x names.rows ≡ built names → Sought ss (built names + seek text x (drop (2 * built names) ss))

    sought : (ss : List ℕ) → Sought ss (look_up names text x ss)
    sought ss = elim (dec_lt (seek names.text x names.rows) (built names)) [
      | yes l ↦ rw (look_up_built names text x ss l) (Sought.named l)
      | no l ↦ let e : seek names.text x names.rows ≡ built names = omega (arith, seek_below names.text x names.rows) in rw (look_up_behind names text x ss e) (Sought.own e)
    ]

    front : (ss r : List ℕ) → built names ≤ length ss / 2 → look_up names text x ss < length ss / 2 → look_up names text x (ss ++ r) ≡ look_up names text x ss
    front ss r h = by (sought ss)
      where
        by : {i : ℕ} → Sought ss i → i < length ss / 2 → look_up names text x (ss ++ r) ≡ i
        by (Sought.named l) k = look_up_built names text x (ss ++ r) l
        by (Sought.own e) k =
            let f = drop-append-le (2 * built names) ss r (omega arith) in
            rw (look_up_behind names text x (ss ++ r) e, f) (ap (λ i. built names + i) (seek_front text x (drop (2 * built names) ss) r (omega (arith, length-drop (2 * built names) ss))))

  next : (s e : ℕ) (ss : List ℕ) → built names ≤ length ss / 2 → 2 * (length ss / 2) ≡ length ss → look_up names text (lexeme text s e) ss ≡ length ss / 2 → look_up names text (lexeme text s e) (ss ++ (s ∷ e ∷ [])) ≡ length ss / 2
  next s e ss h even = by (sought (lexeme text s e) ss)
    where
      by : {i : ℕ} → Sought (lexeme text s e) ss i → i ≡ length ss / 2 → look_up names text (lexeme text s e) (ss ++ (s ∷ e ∷ [])) ≡ length ss / 2
      by (Sought.named l) k = absurd (omega arith)
      by (Sought.own z) k =
          let f = drop-append-le (2 * built names) ss (s ∷ e ∷ []) (omega arith) in
          let u = drop (2 * built names) ss in
          let d = length-drop (2 * built names) ss in
          let g = seek_behind text (lexeme text s e) u (s ∷ e ∷ []) (omega arith) (omega arith) in
          rw (look_up_behind names text (lexeme text s e) (ss ++ (s ∷ e ∷ [])) z, f) (omega (arith, g, d, seek_one text s e))

  -- the word that is interned is found as before, and so is every word that was found
  finds : (s e : ℕ) (ss : List ℕ) → built names ≤ length ss / 2 → 2 * (length ss / 2) ≡ length ss → look_up names text (lexeme text s e) (interned names text s e ss) ≡ look_up names text (lexeme text s e) ss
  unfolding interned
  finds s e ss h even = pick (eqb (look_up names text (lexeme text s e) ss) (length ss / 2)) refl
    where
      pick : (b : Bool) → eqb (look_up names text (lexeme text s e) ss) (length ss / 2) ≡ b → look_up names text (lexeme text s e) (cond b (ss ++ (s ∷ e ∷ [])) ss) ≡ look_up names text (lexeme text s e) ss
      pick true z = let k = eqb-true (look_up names text (lexeme text s e) ss) (length ss / 2) z in next s e ss h even k ∙ sym k
      pick false z = refl

  keeps : (x : List ℕ) (s e : ℕ) (ss : List ℕ) → built names ≤ length ss / 2 → look_up names text x ss < length ss / 2 → look_up names text x (interned names text s e ss) ≡ look_up names text x ss
  unfolding interned
  keeps x s e ss h l = pick (eqb (look_up names text (lexeme text s e) ss) (length ss / 2))
    where
      pick : (b : Bool) → look_up names text x (cond b (ss ++ (s ∷ e ∷ [])) ss) ≡ look_up names text x ss
      pick true = front x ss (s ∷ e ∷ []) h l
      pick false = refl

-- where the row of a symbol stands: in the built-in text, or in the script's
abbrev pub home : (names : Builtins) (text : List ℕ) (symbol : ℕ) → List ℕ
home names text s = cond (ltb s (built names)) names.text text

-- symbol s is that of one of the first n tokens
pub record Met (names : Builtins) (text ts : List ℕ) (n s : ℕ) : Type 0 where
  pub token : ℕ
  pub before : token < n
  pub name : is_name ts token ≡ true
  pub symbol_is : symbol names text ts token ≡ s

-- numbers of lists that begin alike
begun : (xs ys : List ℕ) (n k : ℕ) → take n xs ≡ take n ys → k < n → get_or xs k 0 ≡ get_or ys k 0
begun xs ys n k e l = sym (get_or-take n xs k 0 l) ∙ ap (λ (zs : List ℕ). get_or zs k 0) e ∙ get_or-take n ys k 0 l

module _ (names : Builtins) (text ts : List ℕ) where
  abbrev rows : ℕ → List ℕ
  rows n = symbol_rows names text ts n

  -- the built-in rows come first
  pub first_rows : (n : ℕ) → take (2 * built names) (symbol_rows names text ts n) ≡ built_rows names
  unfolding symbol_rows interned
  first_rows zero = take-take (2 * built names) (2 * built names) names.rows (omega arith)
  first_rows (suc n) = pick (is_name ts n) (eqb (look_up names text (word_of text ts n) (rows n)) (length (rows n) / 2)) (first_rows n)
    where
      pick : (b c : Bool) → take (2 * built names) (rows n) ≡ built_rows names → take (2 * built names) (cond b (cond c (rows n ++ (word_start ts n ∷ word_end ts n ∷ [])) (rows n)) (rows n)) ≡ built_rows names
      pick true true h = take-append-le (2 * built names) (rows n) (word_start ts n ∷ word_end ts n ∷ []) (omega (arith, rows_built names text ts n)) ∙ h
      pick true false h = h
      pick false c h = h

  -- a built-in name has the number of its row, whatever the text and the tokens are
  pub same_in_every_script : RightNames names → (i j : ℕ) → is_name ts i ≡ true → j < built names → word_of text ts i ≡ word names.text names.rows j → symbol names text ts i ≡ j
  unfolding symbol
  same_in_every_script r i j h l e =
      let z : seek names.text (word_of text ts i) names.rows ≡ j = seek_held r.table (record { row = omega arith; bytes_are = sym e }) in
      rw (h, look_up_built names text (word_of text ts i) (rows i) (omega arith)) z

  -- and a name of the script's own comes after them
  pub own_after : (i : ℕ) → is_name ts i ≡ true → ((j : ℕ) → j < built names → word_of text ts i ≡ word names.text names.rows j → ⊥) → built names ≤ symbol names text ts i
  unfolding symbol
  own_after i h f =
      let z : seek names.text (word_of text ts i) names.rows ≡ built names = seek_missing names.rows (λ j k. f j (omega (arith, k.row)) (sym k.bytes_are)) in
      rw (h, look_up_behind names text (word_of text ts i) (rows i) z) (omega arith)

  -- a word's symbol is what it is looked up as in the rows from then on
  rows_find : (i : ℕ) → is_name ts i ≡ true → look_up names text (word_of text ts i) (rows (suc i)) ≡ symbol names text ts i
  unfolding symbol_rows symbol
  rows_find i h = rw h (finds names text (word_start ts i) (word_end ts i) (rows i) (rows_built names text ts i) (rows_whole names text ts i))

  row_keeps : (x : List ℕ) (n : ℕ) → look_up names text x (rows n) < length (rows n) / 2 → look_up names text x (rows (suc n)) ≡ look_up names text x (rows n)
  unfolding symbol_rows
  row_keeps x n l = pick (is_name ts n)
    where
      pick : (b : Bool) → look_up names text x (cond b (interned names text (word_start ts n) (word_end ts n) (rows n)) (rows n)) ≡ look_up names text x (rows n)
      pick true = keeps names text x (word_start ts n) (word_end ts n) (rows n) (rows_built names text ts n) l
      pick false = refl

  rows_keep : (x : List ℕ) (n m : ℕ) → n ≤ m → look_up names text x (rows n) < length (rows n) / 2 → look_up names text x (rows m) ≡ look_up names text x (rows n)
  rows_keep x n zero h l = let e : n ≡ 0 = omega arith in rw e
  rows_keep x n (suc m) h l = elim (ℕ_discrete n (suc m)) [
    | yes e ↦ rw e
    | no e ↦ let f = rows_keep x n m (omega arith) l in row_keeps x m (omega (arith, f, rows_grow names text ts n m (omega arith))) ∙ f
  ]

  symbol_kept : (i m : ℕ) → is_name ts i ≡ true → i < m → look_up names text (word_of text ts i) (rows m) ≡ symbol names text ts i
  symbol_kept i m h l = let f = rows_find i h in rows_keep (word_of text ts i) (suc i) m l (omega (arith, f, name_has_row names text ts i h)) ∙ f

  -- the row of what is found has its bytes
  spells : (x ss : List ℕ) → take (2 * built names) ss ≡ built_rows names → 2 * (look_up names text x ss + 1) ≤ length ss → word (home names text (look_up names text x ss)) ss (look_up names text x ss) ≡ x
  spells x ss e = by (sought names text x ss)
    where
      by : {i : ℕ} → Sought names text x ss i → 2 * (i + 1) ≤ length ss → word (home names text i) ss i ≡ x
      by (Sought.named l) k =
          let i = seek names.text x names.rows in
          rw (lt-ltb i (built names) l, begun ss names.rows (2 * built names) (2 * i) e (omega arith), begun ss names.rows (2 * built names) (2 * i + 1) e (omega arith)) (seek_found names.text x names.rows (omega arith)).bytes_are
      by (Sought.own z) k =
          let u = drop (2 * built names) ss in
          let i = seek text x u in
          let f : 2 * (built names + i) ≡ 2 * built names + 2 * i = omega arith in
          let g : 2 * (built names + i) + 1 ≡ 2 * built names + (2 * i + 1) = omega arith in
          let d = length-drop (2 * built names) ss in
          rw (le-ltb (built names + i) (built names) (omega arith), g, f, ← get_or-drop (2 * built names) ss (2 * i) 0, ← get_or-drop (2 * built names) ss (2 * i + 1) 0) (seek_found text x u (omega arith)).bytes_are

  -- so the row of a token's symbol has the token's word
  pub symbol_spells : (i n : ℕ) → is_name ts i ≡ true → i < n → word (home names text (symbol names text ts i)) (symbol_rows names text ts n) (symbol names text ts i) ≡ word_of text ts i
  symbol_spells i n h l =
      let f = symbol_kept i n h l in
      rw f at (spells (word_of text ts i) (rows n) (first_rows n) (omega (arith, f, name_has_row names text ts i h, rows_grow names text ts (suc i) n l)))

  -- two names have one symbol exactly where they have one word
  pub same_word : (i j : ℕ) → is_name ts i ≡ true → is_name ts j ≡ true → symbol names text ts i ≡ symbol names text ts j → word_of text ts i ≡ word_of text ts j
  same_word i j h k e =
      let f = symbol_spells i (suc (i + j)) h (omega arith) in
      let g = symbol_spells j (suc (i + j)) k (omega arith) in
      sym f ∙ rw e g

  pub same_symbol : (i j : ℕ) → is_name ts i ≡ true → is_name ts j ≡ true → word_of text ts i ≡ word_of text ts j → symbol names text ts i ≡ symbol names text ts j
  same_symbol i j h k e =
      let f = symbol_kept i (suc (i + j)) h (omega arith) in
      let g = symbol_kept j (suc (i + j)) k (omega arith) in
      sym f ∙ rw e g

  -- a token that makes a row has a word, and its symbol is that row
  makes : (n : ℕ) → length (rows n) < length (rows (suc n)) → (is_name ts n ≡ true) × (symbol names text ts n ≡ length (rows n) / 2)
  unfolding symbol_rows interned symbol
  makes n h = pick (is_name ts n) refl (eqb (look_up names text (word_of text ts n) (rows n)) (length (rows n) / 2)) refl h
    where
      pick : (b : Bool) → is_name ts n ≡ b → (c : Bool) → eqb (look_up names text (word_of text ts n) (rows n)) (length (rows n) / 2) ≡ c → length (rows n) < length (cond b (cond c (rows n ++ (word_start ts n ∷ word_end ts n ∷ [])) (rows n)) (rows n)) → (b ≡ true) × (cond b (look_up names text (word_of text ts n) (rows n)) 0 ≡ length (rows n) / 2)
      pick true e true z h = (refl, eqb-true (look_up names text (word_of text ts n) (rows n)) (length (rows n) / 2) z)
      pick true e false z h = absurd (omega arith)
      pick false e c z h = absurd (omega arith)

  -- so every row behind the built-in ones is that of a token's word
  pub row_met : (n s : ℕ) → built names ≤ s → Row (symbol_rows names text ts n) s → Met names text ts n s
  unfolding symbol_rows
  row_met zero s h r = absurd (omega (arith, built_length names))
  row_met (suc n) s h r = elim (dec_le (2 * (s + 1)) (length (rows n))) [
    | yes l ↦ let m = row_met n s h l in record { token = m.token; before = omega (arith, m.before); name = m.name; symbol_is = m.symbol_is }
    | no l ↦ let (i, e) = makes n (omega arith) in record { token = n; before = omega arith; name = i; symbol_is = omega (arith, e, rows_whole names text ts n, row_more names text ts n) }
  ]

module _ (names : Builtins) (text ts : List ℕ) where
  -- a token that makes a row beside names makes one beside none: it has a word that no token before it has
  makes_plainly : (n : ℕ) → length (symbol_rows names text ts n) < length (symbol_rows names text ts (suc n)) → length (symbol_rows none text ts n) < length (symbol_rows none text ts (suc n))
  makes_plainly n h = elim (dec_lt (length (symbol_rows none text ts n)) (length (symbol_rows none text ts (suc n)))) [
    | yes l ↦ l
    | no l ↦
        let (k, e) = makes names text ts n h in
        let m = row_met none text ts n (symbol none text ts n) (omega arith) (omega (arith, name_has_row none text ts n k)) in
        let w = same_word none text ts m.token n m.name k m.symbol_is in
        let f = same_symbol names text ts m.token n m.name k w in
        absurd (omega (arith, e, f, name_has_row names text ts m.token m.name, rows_grow names text ts (suc m.token) n m.before))
  ]

  -- so the rows beside names are no more than the built-in ones and those beside none
  pub rows_beside : (n : ℕ) → length (symbol_rows names text ts n) ≤ 2 * built names + length (symbol_rows none text ts n)
  unfolding symbol_rows
  rows_beside zero = omega (arith, built_length names)
  rows_beside (suc n) = elim (dec_lt (length (symbol_rows names text ts n)) (length (symbol_rows names text ts (suc n)))) [
    | yes l ↦ omega (arith, rows_beside n, row_more names text ts n, makes_plainly n l, rows_whole none text ts n, rows_whole none text ts (suc n))
    | no l ↦ omega (arith, rows_beside n, row_more none text ts n)
  ]

  -- what becomes of a symbol beside names: it is that of the word which its row has
  unfoldable pub rename : ℕ → ℕ
  rename s = look_up names text (word text (symbol_rows none text ts (count ts)) s) (symbol_rows names text ts (count ts))

  pub renamed_symbol : (i : ℕ) → is_name ts i ≡ true → i < count ts → symbol names text ts i ≡ rename (symbol none text ts i)
  unfolding rename
  renamed_symbol i h l =
      let e : word text (symbol_rows none text ts (count ts)) (symbol none text ts i) ≡ word_of text ts i = rw (le-ltb (symbol none text ts i) 0 (omega arith)) at (symbol_spells none text ts i (count ts) h l) in
      rw e (sym (symbol_kept names text ts i (count ts) h l))

  -- symbols stay apart, and are symbols
  met : (s : ℕ) → Row (symbol_rows none text ts (count ts)) s → Met none text ts (count ts) s
  met s = row_met none text ts (count ts) s (omega arith)

  met_renamed : {s : ℕ} (m : Met none text ts (count ts) s) → symbol names text ts m.token ≡ rename s
  met_renamed m = renamed_symbol m.token m.name m.before ∙ ap rename m.symbol_is

  pub one_to_one : (s t : ℕ) → Row (symbol_rows none text ts (count ts)) s → Row (symbol_rows none text ts (count ts)) t → rename s ≡ rename t → s ≡ t
  one_to_one s t r q e =
      let m = met s r in
      let k = met t q in
      let w = same_word names text ts m.token k.token m.name k.name (met_renamed m ∙ e ∙ sym (met_renamed k)) in
      sym m.symbol_is ∙ same_symbol none text ts m.token k.token m.name k.name w ∙ k.symbol_is

  pub rename_row : (s : ℕ) → Row (symbol_rows none text ts (count ts)) s → Row (symbol_rows names text ts (count ts)) (rename s)
  rename_row s r =
      let m = met s r in
      omega (arith, met_renamed m, name_has_row names text ts m.token m.name, rows_grow names text ts (suc m.token) (count ts) m.before)

-- what was read beside no names is read beside them, with its symbols renamed
pub record Renamed (p : Profile) (e : Edition) (names : Builtins) (text ts : List ℕ) (limit : ℕ) (space : Space) (room : ℕ) (w : Rows) (ss : List ℕ) : Type 0 where
  pub tree : Tree Label
  pub rows : w ≡ written ts (symbol none text ts) tree
  pub symbols : ss ≡ symbol_rows none text ts (count ts)
  pub renamed : written ts (symbol names text ts) tree ≡ written ts (λ i. rename names text ts (symbol none text ts i)) tree
  pub comes : Comes p e names text ts limit space room (accepted (written ts (λ i. rename names text ts (symbol none text ts i)) tree) (symbol_rows names text ts (count ts)))

module _ {p : Profile} {e : Edition} {names : Builtins} {text ts : List ℕ} {limit : ℕ} {space : Space} {room room' : ℕ} where
  pub renamed_rows : {w : Rows} {ss : List ℕ} → length (symbol_rows names text ts (count ts)) ≤ room' → Comes p e none text ts limit space room (accepted w ss) → Renamed p e names text ts limit space room' w ss
  renamed_rows k (Comes.read {t = t} x h i j) =
      let σ = symbol none text ts in
      let τ = symbol names text ts in
      let r : written ts τ t ≡ written ts (λ n. rename names text ts (σ n)) t = written_same p (count ts) e ts τ (λ n. rename names text ts (σ n)) x (λ n l z. renamed_symbol names text ts n z l) in
      record { tree = t; rows = refl; symbols = refl; renamed = r; comes = rw (← r) (Comes.read x h (enough_written ts σ τ t (enough_then ts σ σ t i)) k) }

  -- and what was refused is refused, and by the same refusal
  pub same_refusals : {q : Refused} → Whole ts → built names ≤ 64 → length (symbol_rows none text ts (count ts)) ≤ room → length (symbol_rows names text ts (count ts)) ≤ room' → Comes p e none text ts limit space room (refusal q) ↔ Comes p e names text ts limit space room' (refusal q)
  same_refusals l few h k = (same_refusal l (omega arith) few h k, same_refusal l few (omega arith) k h)
