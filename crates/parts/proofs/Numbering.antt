-- The symbols of a shorter token list. A word's symbol in the whole list says which word it is, so the table of the shorter list can be made by comparing the numbers
-- that its words had: a number that is new has its first place there, and every number's place in the list of those that were heard is its new number.
use Prim.Native.Nat.{ℕ, zero, suc, ◌+◌, ◌-◌, ◌*◌, ◌/◌, ◌≤◌, ◌<◌}
use mathlib.Core.Bool.{Bool, true, false, cond, not}
use mathlib.Core.List.{List, [], ◌∷◌, ◌++◌, append_assoc, append-nil}
use mathlib.Core.Path.{◌≡◌, refl, sym, ap, ◌∙◌}
use native.Mathlib.Decide.{dec_lt}
use native.Mathlib.Omega.{arith}
use lib.Dec.{eqb, T, eqb_refl, eqb→eq}
use lib.ListN.{length, take, length-append}
use Rattle.grammar.specs.Builtin.{Builtins, built, built_rows}
use Rattle.grammar.specs.Edition.{Edition}
use Rattle.grammar.specs.Kind.{Eof}
use Rattle.grammar.specs.Label.{Label}
use Rattle.grammar.specs.Operator.{place}
use Rattle.grammar.specs.Pattern.{among}
use Rattle.grammar.specs.Phrase.{Tree, more, made}
use Rattle.grammar.specs.Room.{symbol_width}
use Rattle.grammar.specs.Symbol.{same, seek, look_up, interned, is_name, word_start, word_end, symbol_rows, symbol}
use Rattle.grammar.specs.Token.{count, kind, start, end, lexeme}
use Rattle.grammar.proofs.Builtins.{word_of, first_rows, same_word, same_symbol}
use Rattle.grammar.proofs.Halves.{takes}
use Rattle.grammar.proofs.Symbols.{built_length, seek_below, look_up_built, look_up_behind, look_up_own, rows_same}
use Rattle.grammar.proofs.Tests.{same_means, same_self, same_truth}
use Rattle.parts.specs.Dropped.{items}
use Rattle.parts.specs.Packed.{upto}
use Rattle.parts.specs.Spoken.{Word, said, heard, first_places}
use Rattle.parts.proofs.Kinship.{Kin, Items, Keeps}
use Rattle.parts.proofs.Words.{token_words, kept_words, heard_append, first_places_append, heard_one, places_one, place_all, place_new, among_new, place_behind, place_own, heard_known, heard_place, upto_length}

module _ (names : Builtins) (text ts : List ℕ) where
  abbrev b : ℕ
  b = built names

  abbrev σ : ℕ → ℕ
  σ = symbol names text ts

  -- symbol k is that of a token whose word stands in the text from s up to e
  record Names (k s e : ℕ) : Type 0 where
    pub token : ℕ
    pub name : is_name ts token ≡ true
    pub symbol_is : σ token ≡ k
    pub word_is : word_of text ts token ≡ lexeme text s e

  -- symbols, and the rows of a table: one for each, with its word
  data Sync : (ks table : List ℕ) → Type 0 where
    nil : Sync [] []
    cons : {k s e : ℕ} {ks table : List ℕ} → Names k s e → Sync ks table → Sync (k ∷ ks) (s ∷ e ∷ table)

  sync_length : {ks table : List ℕ} → Sync ks table → length table ≡ 2 * length ks
  sync_length Sync.nil = refl
  sync_length (Sync.cons n t) = omega (arith, sync_length t)

  sync_last : {ks table : List ℕ} → Sync ks table → {k s e : ℕ} → Names k s e → Sync (ks ++ (k ∷ [])) (table ++ (s ∷ e ∷ []))
  sync_last Sync.nil n = Sync.cons n Sync.nil
  sync_last (Sync.cons m t) n = Sync.cons m (sync_last t n)

  -- a word is in the row in which its symbol is in the list
  seek_place : {ks table : List ℕ} → Sync ks table → (i : ℕ) → is_name ts i ≡ true → seek text (word_of text ts i) table ≡ place (σ i) ks
  unfolding seek
  seek_place Sync.nil i h = refl
  seek_place (Sync.cons {k = k} {s = s} {e = e} {ks = ks} {table = table} n t) i h = rw (alike, seek_place t i h)
    where
      one : T (same (word_of text ts i) (lexeme text s e)) → T (eqb (σ i) k)
      one t = let w = same_means (word_of text ts i) (lexeme text s e) t in rw (same_symbol names text ts i n.token h n.name (w ∙ sym n.word_is) ∙ n.symbol_is) (eqb_refl k)

      two : T (eqb (σ i) k) → T (same (word_of text ts i) (lexeme text s e))
      two t = let w = same_word names text ts i n.token h n.name (eqb→eq (σ i) k t ∙ sym n.symbol_is) ∙ n.word_is in rw (← w) (same_self (word_of text ts i))

      alike : same (word_of text ts i) (lexeme text s e) ≡ eqb (σ i) k
      alike = same_truth (same (word_of text ts i) (lexeme text s e)) (eqb (σ i) k) one two

  -- behind the built-in ones, which have their own
  looked : {ks table : List ℕ} → Sync ks table → (i : ℕ) → is_name ts i ≡ true → look_up names text (word_of text ts i) (built_rows names ++ table) ≡ place (σ i) (upto b ++ ks)
  unfolding symbol
  looked {ks} {table} t i h =
      let x = word_of text ts i in
      let r = symbol_rows names text ts i in
      let n = seek names.text x names.rows in
      let s : σ i ≡ look_up names text x r = rw h in
      elim (dec_lt n b) [
        | yes l ↦ let e : σ i ≡ n = s ∙ look_up_built names text x r l in look_up_built names text x (built_rows names ++ table) l ∙ sym e ∙ sym (place_own (σ i) b ks (omega (arith, e)))
        | no l ↦
            let z : n ≡ b = omega (arith, seek_below names.text x names.rows) in
            let e = s ∙ look_up_behind names text x r z in
            look_up_own names text x table z ∙ ap (λ q. b + q) (seek_place t i h) ∙ sym (place_behind (σ i) b ks (omega (arith, e)))
      ]

  -- so a word has a new row where its symbol is new
  entered : {ks table : List ℕ} → Sync ks table → (i : ℕ) → is_name ts i ≡ true → interned names text (word_start ts i) (word_end ts i) (built_rows names ++ table) ≡ built_rows names ++ (table ++ cond (among (upto b ++ ks) (σ i)) [] (word_start ts i ∷ word_end ts i ∷ []))
  unfolding interned
  entered {ks} {table} t i h =
      let many : length (built_rows names ++ table) / 2 ≡ length (upto b ++ ks) = omega (arith, length-append (built_rows names) table, built_length names, sync_length t, length-append (upto b) ks, upto_length b) in
      rw (looked t i h, many, place_all (σ i) (upto b ++ ks)) (pick (among (upto b ++ ks) (σ i)))
    where
      pick : (k : Bool) → cond (not k) (built_rows names ++ table ++ (word_start ts i ∷ word_end ts i ∷ [])) (built_rows names ++ table) ≡ built_rows names ++ (table ++ cond k [] (word_start ts i ∷ word_end ts i ∷ []))
      pick true = ap (λ q. built_rows names ++ q) (sym (append-nil table))
      pick false = append_assoc (built_rows names) table (word_start ts i ∷ word_end ts i ∷ [])

-- in another list of tokens of the text
module _ (names : Builtins) (text ts ts' : List ℕ) where
  -- the first j tokens there say these words
  record Standing (j : ℕ) (xs : List Word) : Type 0 where
    pub own : List ℕ
    pub heard_is : heard xs (upto (built names)) ≡ upto (built names) ++ own
    pub sync : Sync names text ts own (first_places xs (upto (built names)))
    pub rows : symbol_rows names text ts' j ≡ built_rows names ++ first_places xs (upto (built names))

  -- token j there is token i's like
  record Alike (i j : ℕ) : Type 0 where
    pub kind_is : kind ts' j ≡ kind ts i
    pub start_is : start ts' j ≡ start ts i
    pub end_is : end ts' j ≡ end ts i

  -- token j there has the number that token i's symbol has among those of these words
  pub record Numbered (i j : ℕ) (xs : List Word) : Type 0 where
    pub number : symbol names text ts' j ≡ place (symbol names text ts i) (heard xs (upto (built names)))
    pub known : among (heard xs (upto (built names))) (symbol names text ts i) ≡ true

  -- and keeps it
  numbered_more : {i j : ℕ} {xs : List Word} → Numbered i j xs → (ys : List Word) → Numbered i j (xs ++ ys)
  numbered_more {i} {j} {xs} n ys =
      let k = upto (built names) in
      let x = symbol names text ts i in
      let e = heard_append xs ys k in
      record { number = rw e (n.number ∙ sym (heard_place x ys (heard xs k) n.known)); known = rw e (heard_known x ys (heard xs k) n.known) }

  -- one more token
  alike_name : {i j : ℕ} → Alike i j → is_name ts' j ≡ is_name ts i
  alike_name a = rw a.kind_is

  alike_start : {i j : ℕ} → Alike i j → word_start ts' j ≡ word_start ts i
  alike_start a = rw (a.kind_is, a.start_is)

  alike_end : {i j : ℕ} → Alike i j → word_end ts' j ≡ word_end ts i
  alike_end a = rw (a.kind_is, a.end_is)

  abbrev word_at : ℕ → Word
  word_at i = said (symbol names text ts i) (word_start ts i) (word_end ts i)

  -- its number
  sought : {i j : ℕ} → Alike i j → is_name ts i ≡ true → symbol names text ts' j ≡ look_up names text (word_of text ts i) (symbol_rows names text ts' j)
  unfolding symbol
  sought a h = rw (alike_name a, h, alike_start a, alike_end a)

  number_is : {i j : ℕ} {xs : List Word} → Standing j xs → Alike i j → is_name ts i ≡ true → symbol names text ts' j ≡ place (symbol names text ts i) (heard xs (upto (built names)))
  number_is {i} {j} {xs} s a h = sought a h ∙ rw (s.rows, s.heard_is) (looked names text ts s.sync i h)

  numbered : {i j : ℕ} {xs : List Word} → Standing j xs → Alike i j → is_name ts i ≡ true → Numbered i j (xs ++ (word_at i ∷ []))
  numbered {i} {j} {xs} s a h =
      let k = upto (built names) in
      let x = symbol names text ts i in
      let e : heard (xs ++ (word_at i ∷ [])) k ≡ cond (among (heard xs k) x) (heard xs k) (heard xs k ++ (x ∷ [])) = heard_append xs (word_at i ∷ []) k ∙ heard_one (word_at i) (heard xs k) in
      record { number = rw e (number_is s a h ∙ pick (heard xs k) x (among (heard xs k) x) refl); known = rw e (there (heard xs k) x (among (heard xs k) x) refl) }
    where
      pick : (ks : List ℕ) (x : ℕ) (b : Bool) → among ks x ≡ b → place x ks ≡ place x (cond b ks (ks ++ (x ∷ [])))
      pick ks x true z = refl
      pick ks x false z = sym (place_new x ks z)

      there : (ks : List ℕ) (x : ℕ) (b : Bool) → among ks x ≡ b → among (cond b ks (ks ++ (x ∷ []))) x ≡ true
      there ks x true z = z
      there ks x false z = among_new x ks

  -- what is said then
  named : {i j : ℕ} {xs : List Word} → Standing j xs → Alike i j → is_name ts i ≡ true → Standing (suc j) (xs ++ (word_at i ∷ []))
  unfolding symbol_rows
  named {i} {j} {xs} s a h =
      let k = upto (built names) in
      let x = symbol names text ts i in
      let ks = k ++ s.own in
      let e : heard (xs ++ (word_at i ∷ [])) k ≡ cond (among ks x) ks (ks ++ (x ∷ [])) = heard_append xs (word_at i ∷ []) k ∙ heard_one (word_at i) (heard xs k) ∙ rw s.heard_is refl in
      let f : first_places (xs ++ (word_at i ∷ [])) k ≡ first_places xs k ++ cond (among ks x) [] (word_start ts i ∷ word_end ts i ∷ []) = first_places_append xs (word_at i ∷ []) k ∙ ap (λ q. first_places xs k ++ q) (places_one (word_at i) (heard xs k) ∙ rw s.heard_is refl) in
      let n : Names names text ts x (word_start ts i) (word_end ts i) = record { token = i; name = h; symbol_is = refl; word_is = refl } in
      record {
        own = cond (among ks x) s.own (s.own ++ (x ∷ []));
        heard_is = e ∙ behind k s.own x (among ks x);
        sync = rw f (synced s.sync n (among ks x));
        rows = rw (alike_name a, h, alike_start a, alike_end a, s.rows, f) (entered names text ts s.sync i h);
      }
    where
      behind : (k ks : List ℕ) (x : ℕ) (b : Bool) → cond b (k ++ ks) (k ++ ks ++ (x ∷ [])) ≡ k ++ cond b ks (ks ++ (x ∷ []))
      behind k ks x true = refl
      behind k ks x false = append_assoc k ks (x ∷ [])

      synced : {ks table : List ℕ} → Sync names text ts ks table → {x s e : ℕ} → Names names text ts x s e → (b : Bool) → Sync names text ts (cond b ks (ks ++ (x ∷ []))) (table ++ cond b [] (s ∷ e ∷ []))
      synced {table = table} t n true = rw (append-nil table) t
      synced t n false = sync_last names text ts t n

  nameless : {i j : ℕ} {xs : List Word} → Standing j xs → Alike i j → is_name ts i ≡ false → Standing (suc j) (xs ++ [])
  unfolding symbol_rows
  nameless {i} {j} {xs} s a h = rw (append-nil xs) (record { own = s.own; heard_is = s.heard_is; sync = s.sync; rows = rw (alike_name a, h) s.rows })

  module _ (f : ℕ → ℕ) where
    alike : {i : ℕ} → Kin ts ts' f (λ x. x) i → Alike i (f i)
    alike k = record { kind_is = k.kind_is; start_is = k.start_is; end_is = k.end_is }

    -- a token, whether it has a word or not
    spoken : {i : ℕ} {xs : List Word} → Standing (f i) xs → Kin ts ts' f (λ x. x) i → Standing (f (i + 1)) (xs ++ cond (is_name ts i) (word_at i ∷ []) [])
    spoken {i} {xs} s k =
        let e : f (i + 1) ≡ suc (f i) = omega (arith, k.step) in
        rw e (pick (is_name ts i) refl)
      where
        pick : (b : Bool) → is_name ts i ≡ b → Standing (suc (f i)) (xs ++ cond b (word_at i ∷ []) [])
        pick true h = named s (alike k) h
        pick false h = nameless s (alike k) h

    -- a run of tokens
    module _ (a z : ℕ) (kin : (i : ℕ) → a ≤ i → i < z → Kin ts ts' f (λ x. x) i) {xs : List Word} (s : Standing (f a) xs) where
      run : (m : ℕ) → a + m ≤ z → Standing (f (a + m)) (xs ++ token_words ts (symbol names text ts) a m)
      unfolding token_words
      run zero l = let e : a + 0 ≡ a = omega arith in rw (e, append-nil xs) s
      run (suc m) l =
          let e : a + suc m ≡ a + m + 1 = omega arith in
          rw (e, ← append_assoc xs (token_words ts (symbol names text ts) a m) (cond (is_name ts (a + m)) (word_at (a + m) ∷ []) [])) (spoken (run m (omega arith)) (kin (a + m) (omega arith) (omega arith)))

      run_numbered : (m : ℕ) → a + m ≤ z → (i : ℕ) → a ≤ i → i < a + m → is_name ts i ≡ true → Numbered i (f i) (xs ++ token_words ts (symbol names text ts) a m)
      unfolding token_words
      run_numbered zero l i p q h = absurd (omega arith)
      run_numbered (suc m) l i p q h =
          let w = token_words ts (symbol names text ts) a m in
          rw (← append_assoc xs w (cond (is_name ts (a + m)) (word_at (a + m) ∷ []) [])) (elim (dec_lt i (a + m)) [
            | yes r ↦ numbered_more (run_numbered m (omega arith) i p r h) (cond (is_name ts (a + m)) (word_at (a + m) ∷ []) [])
            | no r ↦ let e : a + m ≡ i = omega arith in rw (e, h) (numbered (rw e at (run m (omega arith))) (alike (kin i p (omega arith))) h)
          ])

-- token i is one of a kept statement's
pub data Left (c : ℕ → Bool) (i : ℕ) : Tree Label → Type 0 where
  here : {l : Label} {a b : ℕ} {t u : Tree Label} → c (items t) ≡ true → a ≤ i → i < b → Left c i (made l a b (more t u))
  before : {l : Label} {a b : ℕ} {t u : Tree Label} → Left c i t → Left c i (made l a b (more t u))

-- a token list without some of its statements
module _ (names : Builtins) (text ts ts' : List ℕ) (c : ℕ → Bool) (f : ℕ → ℕ) where
  abbrev words : Tree Label → List Word
  words t = kept_words c ts (symbol names text ts) t

  -- no word yet
  start_stands : Standing names text ts ts' 0 []
  unfolding symbol_rows heard first_places
  start_stands = record { own = []; heard_is = sym (append-nil (upto (built names))); sync = Sync.nil; rows = sym (append-nil (built_rows names)) }

  module _ {e : Edition} {k : ℕ → ℕ} (f0 : f 0 ≡ 0) where
    stands : {n : ℕ} {t : Tree Label} → Items e k n t → Keeps ts ts' c f (λ x. x) t → Standing names text ts ts' (f n) (words t)
    unfolding kept_words
    stands Items.nil Keeps.nil = rw f0 start_stands
    stands (Items.next {b = a} {c = b} {t = t} i x) (Keeps.stays y kin j) =
        let z : a + (b - a) ≡ b = omega (arith, takes e x) in
        rw y (rw z at (run names text ts ts' f a b kin (stands i j) (b - a) (omega (arith, z))))
    stands (Items.next {t = t} i x) (Keeps.goes y gone j) = rw (y, gone, append-nil (words t)) (stands i j)

    numbers : {n : ℕ} {t : Tree Label} → Items e k n t → Keeps ts ts' c f (λ x. x) t → (i : ℕ) → Left c i t → is_name ts i ≡ true → Numbered names text ts ts' i (f i) (words t)
    unfolding kept_words
    numbers Items.nil k i l h = elim l [ ]
    numbers (Items.next {b = a} {c = b} {t = t} m x) (Keeps.stays y kin j) i (Left.here z p q) h =
        let r : a + (b - a) ≡ b = omega (arith, takes e x) in
        rw y (run_numbered names text ts ts' f a b kin (stands m j) (b - a) (omega (arith, r)) i p (omega (arith, r)) h)
    numbers (Items.next {t = t} m x) (Keeps.goes y gone j) i (Left.here z p q) h = absurd (let v : true ≡ false = sym z ∙ y in let w : ◌≡◌ {A = ℕ} 0 1 = cc in omega arith)
    numbers (Items.next {b = a} {c = b} {t = t} m x) (Keeps.stays y kin j) i (Left.before l) h = numbered_more names text ts ts' (numbers m j i l h) (cond (c (items t)) (token_words ts (symbol names text ts) a (b - a)) [])
    numbers (Items.next {b = a} {c = b} {t = t} m x) (Keeps.goes y gone j) i (Left.before l) h = numbered_more names text ts ts' (numbers m j i l h) (cond (c (items t)) (token_words ts (symbol names text ts) a (b - a)) [])

    -- a word's symbol there is the place of its number among those that are left
    pub symbol_left : {n : ℕ} {t : Tree Label} → Items e k n t → Keeps ts ts' c f (λ x. x) t → (i : ℕ) → Left c i t → is_name ts i ≡ true → symbol names text ts' (f i) ≡ place (symbol names text ts i) (heard (kept_words c ts (symbol names text ts) t) (upto (built names)))
    symbol_left m j i l h = (numbers m j i l h).number

    -- and the rows are the built-in ones and first places
    symbols_left : {n : ℕ} {t : Tree Label} → Items e k n t → Keeps ts ts' c f (λ x. x) t → count ts' ≡ f n + 1 → kind ts' (f n) ≡ Eof → symbol_rows names text ts' (count ts') ≡ built_rows names ++ first_places (kept_words c ts (symbol names text ts) t) (upto (built names))
    symbols_left {n} m j all last =
        let z : count ts' ≡ suc (f n) = omega (arith, all) in
        let nameless : is_name ts' (f n) ≡ false = rw last in
        rw z (rows_same names text ts' (f n) nameless ∙ (stands m j).rows)

    -- of which the built-in ones are the first of the whole list's
    pub symbols_packed : {n : ℕ} {t : Tree Label} → Items e k n t → Keeps ts ts' c f (λ x. x) t → count ts' ≡ f n + 1 → kind ts' (f n) ≡ Eof → symbol_rows names text ts' (count ts') ≡ take (symbol_width * built names) (symbol_rows names text ts (count ts)) ++ first_places (kept_words c ts (symbol names text ts) t) (upto (built names))
    symbols_packed {t = t} m j all last = symbols_left m j all last ∙ ap (λ q. q ++ first_places (words t) (upto (built names))) (sym (first_rows names text ts (count ts)))
