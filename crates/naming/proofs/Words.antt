-- The names of the symbols of an accepted script, in its symbol room and by its count: each symbol below the count has one, and the symbol of a token has the
-- token's word, wherever that stands.
use Prim.Native.Nat.{ℕ, zero, suc, ◌+◌, ◌-◌, ◌*◌, ◌/◌, ◌≤◌, ◌<◌}
use native.Mathlib.Decide.{dec_le}
use native.Mathlib.Omega.{arith}
use borrow.Author.Tests.{lt-ltb, le-ltb}
use mathlib.Core.Bool.{Bool, true, false, cond}
use mathlib.Core.List.{List, [], ◌∷◌, ◌++◌}
use mathlib.Core.Path.{◌≡◌, refl, ap, ◌∙◌}
use lib.Dec.{eqb, ltb}
use lib.ListN.{length, replicate, length-append, get_or-append}
use lib.Seq.{get_or-take, get_or_at, get_or-append-add}
use denote.Ref.{Bor}
use Rattle.grammar.specs.Answer.{success, rooms_filled}
use Rattle.grammar.specs.Builtin.{Builtins, built, built_rows, RightNames}
use Rattle.grammar.specs.Call.{Call}
use Rattle.grammar.specs.Door.{Admitted, Sound}
use Rattle.grammar.specs.Edition.{Edition, edition}
use Rattle.grammar.specs.Outcome.{accepted, Comes}
use Rattle.grammar.specs.Profile.{Profile}
use Rattle.grammar.specs.Rows.{Rows}
use Rattle.grammar.specs.Space.{Space, space_of}
use Rattle.grammar.specs.Symbol.{look_up, interned, is_name, word_start, word_end, symbol_rows, symbol}
use Rattle.grammar.specs.Table.{Part, Row, start_of, end_of, word}
use Rattle.grammar.specs.Token.{count, lexeme}
use Rattle.grammar.proofs.Builtins.{home, word_of, symbol_spells}
use Rattle.grammar.proofs.Quotes.{word_part}
use Rattle.grammar.proofs.Symbols.{built_length, rows_grow, rows_built, rows_whole, name_has_row}
use Rattle.naming.specs.Name.{chosen, Known, PlaceTold, NameTold}
use Rattle.naming.specs.declared.NameAnswer.{NameAnswer}
use Rattle.naming.specs.declared.PlaceAnswer.{PlaceAnswer}

-- a row that stands before other numbers
module _ (ss xs : List ℕ) (k : ℕ) (r : Row ss k) where
  start_before : start_of (ss ++ xs) k ≡ start_of ss k
  start_before = get_or-append ss xs 0 (2 * k) (omega arith)

  end_before : end_of (ss ++ xs) k ≡ end_of ss k
  end_before = get_or-append ss xs 0 (2 * k + 1) (omega arith)

module _ (names : Builtins) (text : List ℕ) where
  -- each row is a part of its text
  abbrev Parts : List ℕ → Type 0
  Parts ss = (k : ℕ) → Row ss k → Part (home names text k) (start_of ss k) (end_of ss k)

  built_parts : RightNames names → Parts (built_rows names)
  built_parts right k r =
      let l : k < built names = omega (arith, built_length names) in
      rw (lt-ltb k (built names) l, get_or-take (2 * built names) names.rows (2 * k) 0 (omega arith), get_or-take (2 * built names) names.rows (2 * k + 1) 0 (omega arith)) (right.table.parts k (omega arith))

  more_parts : (ss : List ℕ) (s e : ℕ) → 2 * (length ss / 2) ≡ length ss → built names ≤ length ss / 2 → Part text s e → Parts ss → Parts (ss ++ (s ∷ e ∷ []))
  more_parts ss s e even own p ps k r = elim (dec_le (2 * (k + 1)) (length ss)) [
    | yes l ↦ rw (start_before ss (s ∷ e ∷ []) k l, end_before ss (s ∷ e ∷ []) k l) (ps k l)
    | no l ↦
        let z : length ss ≡ 2 * k = omega (arith, length-append ss (s ∷ e ∷ [])) in
        rw (le-ltb k (built names) (omega arith), ← z, get_or_at ss s (e ∷ []) 0 (length ss) refl, get_or-append-add ss (s ∷ e ∷ []) 1 0) p
  ]

  rows_parts : RightNames names → (ts : List ℕ) (n : ℕ) → ((i : ℕ) → i < n → Sound text ts i) → Parts (symbol_rows names text ts n)
  unfolding symbol_rows interned
  rows_parts right ts zero h = built_parts right
  rows_parts right ts (suc n) h =
      let ss = symbol_rows names text ts n in
      pick (is_name ts n) (eqb (look_up names text (lexeme text (word_start ts n) (word_end ts n)) ss) (length ss / 2)) (rows_parts right ts n (λ i l. h i (omega arith)))
    where
      pick : (b c : Bool) → let ss = symbol_rows names text ts n in Parts ss → Parts (cond b (cond c (ss ++ (word_start ts n ∷ word_end ts n ∷ [])) ss) ss)
      pick true true p = more_parts (symbol_rows names text ts n) (word_start ts n) (word_end ts n) (rows_whole names text ts n) (rows_built names text ts n) (word_part (h n (omega arith))) p
      pick true false p = p
      pick false c p = p

-- the bytes of the text that is chosen
now_chosen : (built symbol : ℕ) (names text : Bor (List ℕ)) → (chosen built symbol names text).now ≡ chosen built symbol names.now text.now
now_chosen built symbol names text = either (ltb symbol built)
  where
    either : (b : Bool) → (cond b names text).now ≡ cond b names.now text.now
    either true = refl
    either false = refl

-- the rows that are answered
rows_are : {p : Profile} {e : Edition} {names : Builtins} {text ts : List ℕ} {limit room : ℕ} {space : Space} {w : Rows} {ss : List ℕ} → Comes p e names text ts limit space room (accepted w ss) → ss ≡ symbol_rows names text ts (count ts)
rows_are (Comes.read x h i j) = refl

module _ {c : Call} {w : Rows} {ss : List ℕ} (d : Admitted c) (o : Comes c.profile (edition c.edition) c.names c.text c.tokens c.limit (space_of c.rooms) (length c.rooms.symbols) (accepted w ss)) where
  -- what the call leaves in the symbol room, and how many symbols it answers
  abbrev symbols : List ℕ
  symbols = (rooms_filled w ss c.rooms).symbols

  abbrev total : ℕ
  total = (success w ss).symbols

  -- the symbol of a token
  abbrev of_token : ℕ → ℕ
  of_token i = symbol c.names c.text c.tokens i

  abbrev zeros : List ℕ
  zeros = replicate (length c.rooms.symbols - length ss) 0

  -- each symbol below the total is known: it has a name
  pub each_known : (k : ℕ) → k < total → Known c.names.text c.text symbols total (built c.names) k
  each_known k l =
      let r : Row ss k = omega arith in
      record {
        below = l;
        row = omega (arith, length-append ss zeros);
        part = rw (start_before ss zeros k r, end_before ss zeros k r, rows_are o) (rows_parts c.names c.text d.named c.tokens (count c.tokens) d.sound k (rw (rows_are o) at r));
      }

  module _ (i : ℕ) (l : i < count c.tokens) (t : is_name c.tokens i ≡ true) where
    below : of_token i < total
    below = rw (rows_are o) (omega (arith, name_has_row c.names c.text c.tokens i t, rows_grow c.names c.text c.tokens (suc i) (count c.tokens) l))

    spelled : word (home c.names c.text (of_token i)) symbols (of_token i) ≡ word_of c.text c.tokens i
    spelled =
        let r : Row ss (of_token i) = omega (arith, below) in
        rw (start_before ss zeros (of_token i) r, end_before ss zeros (of_token i) r, rows_are o) (symbol_spells c.names c.text c.tokens i (count c.tokens) t l)

    -- the place of a token's symbol has the token's word
    pub word_placed : {p : PlaceAnswer} → PlaceTold c.names.text c.text symbols total (built c.names) (of_token i) p → (p.code ≡ 0) × (lexeme (home c.names c.text (of_token i)) p.start p.end ≡ word_of c.text c.tokens i)
    word_placed p = rw (p.there (each_known (of_token i) below)) (refl, spelled)

    -- and so has the name
    pub word_named : {names text : Bor (List ℕ)} {r : NameAnswer} → names.now ≡ c.names.text → text.now ≡ c.text → NameTold names text symbols total (built c.names) (of_token i) r → (r.code ≡ 0) × (r.bytes.now ≡ word_of c.text c.tokens i)
    word_named {names} {text} e f p =
        let (code, part) = p.says.there (rw (e, f) (each_known (of_token i) below)) in
        (code, part.bytes ∙ ap (λ (t : List ℕ). word t symbols (of_token i)) (now_chosen (built c.names) (of_token i) names text ∙ rw (e, f)) ∙ spelled)
