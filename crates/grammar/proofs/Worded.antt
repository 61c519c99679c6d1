-- Every word of a script that is read has its symbol: an identifier or a string is the one token of a node that has a word, and such a node is no other. So where
-- each node of a script has its symbol, and the built-in rows fit, all symbol rows of the list do, and the other way round (`fits-named`, Symbols.antt).
use Prim.Native.Nat.{ℕ, zero, suc, ◌+◌, ◌-◌, ◌≤◌, ◌<◌}
use mathlib.Core.Bool.{Bool, true, false, cond, not, ◌&&◌, ◌||◌}
use mathlib.Core.List.{List}
use mathlib.Core.Logic.{◌⊎◌, ⊎_elim}
use mathlib.Core.Path.{◌≡◌, refl}
use native.Mathlib.Decide.{dec_lt}
use native.Mathlib.Omega.{arith}
use lib.Dec.{eqb, T}
use lib.ListN.{length}
use Rattle.grammar.specs.Builtin.{Builtins}
use Rattle.grammar.specs.Door.{RightSymbols}
use Rattle.grammar.specs.Edition.{Edition}
use Rattle.grammar.specs.Handle.{absent}
use Rattle.grammar.specs.Kaori.{Table, Form, above, rules, kaori, Script}
use Rattle.grammar.specs.Kind.{StringLiteral, Identifier, Eof}
use Rattle.grammar.specs.Label.{Label}
use Rattle.grammar.specs.Phrase.{empty, token, part, nested, node, choice, chain, once, refusal, Tree, none, Aim, whole, Reads}
use Rattle.grammar.specs.Profile.{Profile, ReadsAll}
use Rattle.grammar.specs.Space.{has_word, Worded, Named}
use Rattle.grammar.specs.Symbol.{is_name, symbol_rows, symbol_in}
use Rattle.grammar.specs.Token.{kind, count}
use Rattle.grammar.proofs.Machine.{asked}
use Rattle.grammar.proofs.Outcomes.{all_at_eof}
use Rattle.grammar.proofs.Symbols.{built_length, has_row, rows_same}
use Rattle.grammar.proofs.Tables.{each, in_tables}
use Rattle.grammar.proofs.Tests.{both, as_true}

-- a kind that has a word
abbrev pub a_name : ℕ → Bool
a_name x = eqb x Identifier || eqb x StringLiteral

abbrev is_empty : Form → Bool
is_empty empty = true
is_empty (token x p) = false
is_empty (part p q) = false
is_empty (nested k p) = false
is_empty (node f p) = false
is_empty (choice n) = false
is_empty (chain p n) = false
is_empty (once p n) = false
is_empty (refusal e) = false

-- one token alone, of a kind that has a word
abbrev alone : Form → Bool
alone empty = false
alone (token x p) = a_name x && is_empty p
alone (part p q) = false
alone (nested k p) = false
alone (node f p) = false
alone (choice n) = false
alone (chain p n) = false
alone (once p n) = false
alone (refusal e) = false

-- a node that has a word is such a token, and no other form takes one
unfoldable pub spoken : Form → Bool
spoken empty = true
spoken (token x p) = not (a_name x) && spoken p
spoken (part p q) = spoken p && spoken q
spoken (nested k p) = spoken p
spoken (node f p) = cond (has_word f) (alone p) (spoken p)
spoken (choice n) = true
spoken (chain p n) = spoken p
spoken (once p n) = spoken p
spoken (refusal e) = true

spoken_tables : (e : Edition) (n : Table) → T (each spoken (rules e n).0 (rules e n).1)
unfolding rules spoken above has_word
spoken_tables e Table.statement = tt
spoken_tables Edition.first Table.returned = tt
spoken_tables Edition.second Table.returned = tt
spoken_tables e Table.may_end = tt
spoken_tables e Table.must_end = tt
spoken_tables e Table.bindings = tt
spoken_tables e Table.path_name = tt
spoken_tables e Table.otherwise = tt
spoken_tables e Table.branch = tt
spoken_tables Edition.first Table.operand = tt
spoken_tables Edition.second Table.operand = tt
spoken_tables e Table.body = tt
spoken_tables e Table.value = tt
spoken_tables e (Table.comma z) = tt
spoken_tables e Table.script_items = tt
spoken_tables e Table.block_items = tt
spoken_tables e Table.arguments = tt
spoken_tables e Table.entries = tt
spoken_tables e (Table.names z) = tt
spoken_tables e Table.assigned = tt
spoken_tables e Table.dots = tt
spoken_tables e Table.calls = tt
spoken_tables e (Table.operators zero) = tt
spoken_tables e (Table.operators (suc zero)) = tt
spoken_tables e (Table.operators (suc (suc zero))) = tt
spoken_tables e (Table.operators (suc (suc (suc zero)))) = tt
spoken_tables e (Table.operators (suc (suc (suc (suc zero))))) = tt
spoken_tables e (Table.operators (suc (suc (suc (suc (suc zero)))))) = tt
spoken_tables e (Table.operators (suc (suc (suc (suc (suc (suc n))))))) = tt

pub spoken_entry : (e : Edition) (n : Table) (x : ℕ) {p : Form} → kaori e n x ≡ p → T (spoken p)
spoken_entry e n x h = rw h at (in_tables e (λ n. spoken) (spoken_tables e) n x)

-- one token that has a word, and no more
pub record OneWord (kind : ℕ → ℕ) (a b : ℕ) (t : Tree Label) : Type 0 where
  pub ends : b ≡ a + 1
  pub bare : t ≡ none
  pub spells : a_name (kind a) ≡ true

-- a node is such a token, or has no word
pub data Speech (kind : ℕ → ℕ) (f : Label) (p : Form) (a b : ℕ) (t : Tree Label) : Type 0 where
  word : has_word f ≡ true → OneWord kind a b t → Speech kind f p a b t
  wordless : has_word f ≡ false → T (spoken p) → Speech kind f p a b t

module _ (e : Edition) {kind : ℕ → ℕ} where
  nothing_taken : {p : Form} {a b : ℕ} {t : Tree Label} → Reads (kaori e) kind (whole p) a b t → T (is_empty p) → (b ≡ a) × (t ≡ none)
  nothing_taken Reads.nothing h = (refl, refl)
  nothing_taken (Reads.taken k x) h = absurd h
  nothing_taken (Reads.both x y) h = absurd h
  nothing_taken (Reads.opened x) h = absurd h
  nothing_taken (Reads.labelled x) h = absurd h
  nothing_taken (Reads.chosen k x) h = absurd h
  nothing_taken (Reads.ended l k) h = absurd h
  nothing_taken (Reads.alone x k) h = absurd h
  nothing_taken (Reads.joined x k y) h = absurd h

  one_word : {p : Form} {a b : ℕ} {t : Tree Label} → Reads (kaori e) kind (whole p) a b t → T (alone p) → OneWord kind a b t
  one_word Reads.nothing h = absurd h
  one_word (Reads.taken {x = x} {p = p} k y) h = let (u, v) = both (a_name x) (is_empty p) h in let (i, j) = nothing_taken y v in record { ends = i; bare = j; spells = rw k (as_true (a_name x) u) }
  one_word (Reads.both x y) h = absurd h
  one_word (Reads.opened x) h = absurd h
  one_word (Reads.labelled x) h = absurd h
  one_word (Reads.chosen k x) h = absurd h
  one_word (Reads.ended l k) h = absurd h
  one_word (Reads.alone x k) h = absurd h
  one_word (Reads.joined x k y) h = absurd h

  pub speech : (f : Label) {p : Form} {a b : ℕ} {t : Tree Label} → Reads (kaori e) kind (whole p) a b t → T (spoken (node f p)) → Speech kind f p a b t
  unfolding spoken
  speech f {p} {a} {b} {t} x h = pick (has_word f) refl h
    where
      pick : (c : Bool) → has_word f ≡ c → T (cond c (alone p) (spoken p)) → Speech kind f p a b t
      pick true i k = Speech.word i (one_word x k)
      pick false i k = Speech.wordless i k

-- the words of the tokens from a up to b have their symbols
pub record Told (kind symbol : ℕ → ℕ) (a b : ℕ) : Type 0 where
  pub there : (i : ℕ) → a ≤ i → i < b → a_name (kind i) ≡ true → symbol i ≡ absent → ⊥

module _ {kind symbol : ℕ → ℕ} where
  told_both : {a b c : ℕ} → Told kind symbol a b → Told kind symbol b c → Told kind symbol a c
  told_both {b = b} x y = record { there = λ i l h. elim (dec_lt i b) [ yes k ↦ x.there i l k | no k ↦ y.there i (omega arith) h ] }

  told_token : {a x : ℕ} → kind a ≡ x → T (not (a_name x)) → Told kind symbol a (a + 1)
  told_token {a} {x} e h = record { there = λ i l k n. let z : i ≡ a = omega arith in absurd (let y : a_name x ≡ true = rw (z, e) at n in rw y at h) }

  told_word : {a b : ℕ} → b ≡ a + 1 → (symbol a ≡ absent → ⊥) → Told kind symbol a b
  told_word {a} e w = record { there = λ i l k n. let z : i ≡ a = omega arith in rw z w }

  -- a node's one token, or its parts
  told_node : (e : Edition) (f : Label) {p : Form} {a b : ℕ} {t : Tree Label} → Reads (kaori e) kind (whole p) a b t → Worded symbol f a → T (spoken (node f p)) → (T (spoken p) → Told kind symbol a b) → Told kind symbol a b
  told_node e f {p} {a} {b} {t} x w h g = pick (speech e f x h)
    where
      pick : Speech kind f p a b t → Told kind symbol a b
      pick (Speech.word i y) = told_word y.ends (w i)
      pick (Speech.wordless i k) = g k

  pub told : (e : Edition) {m : Aim Table Label} {a b : ℕ} {t : Tree Label} → Reads (kaori e) kind m a b t → T (spoken (asked m)) → Named symbol t → Told kind symbol a b
  unfolding spoken Named
  told e Reads.nothing h n = record { there = λ i l k. absurd (omega arith) }
  told e (Reads.taken {x = x} {p = p} k r) h n = let (u, v) = both (not (a_name x)) (spoken p) h in told_both (told_token k u) (told e r v n)
  told e (Reads.both {p = p} {q = q} x y) h n = let (u, v) = both (spoken p) (spoken q) h in told_both (told e x u n.0) (told e y v n.1)
  told e (Reads.opened x) h n = told e x h n
  told e (Reads.labelled {f = f} x) h n = told_node e f x n.1 h (λ v. told e x v n.0)
  told e (Reads.chosen {n = m} k x) h n = told e x (spoken_entry e m _ k) n
  told e (Reads.first x) h n = told e x h n
  told e (Reads.link {n = m} {f = f} l k x) h n = told_both (told e l h n.0.0) (told_node e f x n.1 (spoken_entry e m _ k) (λ v. told e x v n.0.1))
  told e (Reads.ended l k) h n = told e l h n
  told e (Reads.alone x k) h n = told e x h n
  told e (Reads.joined {n = m} {f = f} x k y) h n = told_both (told e x h n.0.0) (told_node e f y n.1 (spoken_entry e m _ k) (λ v. told e y v n.0.1))

-- in a script that is read no word lacks its symbol
pub script_told : (e : Edition) {kind : ℕ → ℕ} (symbol : ℕ → ℕ) {n : ℕ} {t : Tree Label} → Script e kind n t → Named symbol t → (i : ℕ) → i < n → (kind i ≡ Identifier) ⊎ (kind i ≡ StringLiteral) → symbol i ≡ absent → ⊥
unfolding spoken has_word
script_told e symbol x w i h k = (told e x tt w).there i (omega arith) h (⊎_elim (λ z. rw z refl) (λ z. rw z refl) k)

module _ (names : Builtins) (text ts : List ℕ) (room : ℕ) where
  rows_fit : RightSymbols names room → (n : ℕ) → ((i : ℕ) → i < n → is_name ts i ≡ true → length (symbol_rows names text ts (suc i)) ≤ room) → length (symbol_rows names text ts n) ≤ room
  unfolding symbol_rows
  rows_fit r zero h = omega (arith, built_length names)
  rows_fit r (suc n) h = pick (is_name ts n) refl (rows_fit r n (λ i k. h i (omega arith)))
    where
      pick : (b : Bool) → is_name ts n ≡ b → length (symbol_rows names text ts n) ≤ room → length (symbol_rows names text ts (suc n)) ≤ room
      pick true e k = h n (omega arith) e
      pick false e k = rw (rows_same names text ts n e) k

-- so what is read, where its nodes have their symbols, has room for all rows of the list, if it has it for the built-in ones
pub words_fit : (p : Profile) (e : Edition) (names : Builtins) (text ts : List ℕ) (room : ℕ) → RightSymbols names room → {t : Tree Label} → ReadsAll p e (kind ts) (count ts) t → Named (symbol_in names text ts room) t → length (symbol_rows names text ts (count ts)) ≤ room
unfolding spoken has_word above
words_fit p e names text ts room r x w = rows_fit names text ts room r (count ts) (λ i h n. elim (dec_lt i (count ts - 1)) [
  | yes k ↦ has_row names text ts room i ((all_told p x w).there i (omega arith) k n) n
  | no k ↦ absurd (let z : i ≡ count ts - 1 = omega arith in let y : a_name Eof ≡ true = rw (z, all_at_eof p e (count ts) x) at n in let o : ◌≡◌ {A = ℕ} 0 1 = cc in omega arith)
])
  where
    all_told : (p : Profile) {t : Tree Label} → ReadsAll p e (kind ts) (count ts) t → Named (symbol_in names text ts room) t → Told (kind ts) (symbol_in names text ts room) 0 (count ts - 1)
    all_told Profile.script x w = told e x tt w
    all_told Profile.guard x w = record { there = λ i l h. (told e x tt w).there i l (omega arith) }
