-- The definitions in other words. The line of an offset is one more than the ends of lines before it, as document 02 has the ends; the column is one more than the
-- bytes since its line began; and what is written on a line is all on that line, with no byte of an end.
use Prim.Native.Nat.{ℕ, zero, suc, ◌+◌, ◌-◌, ◌≤◌, ◌<◌}
use native.Mathlib.Decide.{ℕ_discrete}
use native.Mathlib.Nat.{add-zero, add-suc}
use native.Mathlib.Omega.{arith}
use mathlib.Core.Bool.{Bool, true, false, true≢false, not, cond, ◌&&◌, ◌||◌}
use mathlib.Core.List.{List, [], ◌∷◌}
use mathlib.Core.Path.{◌≡◌, refl, sym, ◌∙◌}
use lib.Dec.{eqb, leb}
use native.Mathlib.Numerals.{one-add}
use lib.ListN.{length, get_or}
use lib.Seq.{length-take-le}
use Rattle.std.specs.List.{prefix_len, take_while}
use Rattle.std.proofs.lemmas.List.Sums.{prefix_len-le-length}
use Rattle.grammar.specs.Token.{lexeme}
use borrow.Author.Tests.{ne_eqb, le-leb, lt-leb}
use Rattle.grammar.specs.Run.{run, Ran}
use Rattle.grammar.proofs.Lexemes.{lexeme_length}
use Rattle.grammar.proofs.Runs.{run_passes, run_fails}
use Rattle.diagnostics.specs.Line.{Newline, Return, ends, next, line_of, inner}
use Rattle.diagnostics.specs.declared.Place.{Place}

-- The ends of a text's lines, from the left, each by the offset after it: 13 10 together, 13 alone, 10. `from` is the offset where the text that is left starts.
pub data Ends : (from : ℕ) → List ℕ → List ℕ → Type 0 where
  none : {from : ℕ} → Ends from [] []
  pair : {from : ℕ} {rest es : List ℕ} → Ends (suc (suc from)) rest es → Ends from (Return ∷ Newline ∷ rest) (suc (suc from) ∷ es)
  return : {from : ℕ} {rest es : List ℕ} → (get_or rest 0 0 ≡ Newline → ⊥) → Ends (suc from) rest es → Ends from (Return ∷ rest) (suc from ∷ es)
  newline : {from : ℕ} {rest es : List ℕ} → Ends (suc from) rest es → Ends from (Newline ∷ rest) (suc from ∷ es)
  other : {x from : ℕ} {rest es : List ℕ} → (x ≡ Newline → ⊥) → (x ≡ Return → ⊥) → Ends (suc from) rest es → Ends from (x ∷ rest) es

-- how many of them are over at an offset
unfoldable pub over : (offset : ℕ) → List ℕ → ℕ
over offset [] = 0
over offset (e ∷ es) = cond (leb e offset) 1 0 + over offset es

counted : (offset e : ℕ) (es : List ℕ) → e ≤ offset → over offset (e ∷ es) ≡ 1 + over offset es
unfolding over
counted offset e es h = rw (le-leb e offset h) refl

not_yet : (offset e : ℕ) (es : List ℕ) → offset < e → over offset (e ∷ es) ≡ over offset es
unfolding over
not_yet offset e es h = rw (lt-leb e offset h) (omega arith)

none_over : (offset : ℕ) → over offset [] ≡ 0
unfolding over
none_over offset = refl

-- none is over where the text starts
later : {from : ℕ} {text es : List ℕ} → Ends from text es → (offset : ℕ) → offset ≤ from → over offset es ≡ 0
later none offset h = none_over offset
later (pair e) offset h = not_yet offset _ _ (omega arith) ∙ later e offset (omega arith)
later (return _ e) offset h = not_yet offset _ _ (omega arith) ∙ later e offset (omega arith)
later (newline e) offset h = not_yet offset _ _ (omega arith) ∙ later e offset (omega arith)
later (other _ _ e) offset h = later e offset (omega arith)

-- a byte in front of a text: one line more if it ends its line
in_front : (b : Bool) (x : ℕ) (xs : List ℕ) (i : ℕ) → ends (x ∷ xs) 0 ≡ b → (line_of (x ∷ xs) (suc i)).line ≡ cond b 1 0 + (line_of xs i).line
unfolding line_of ends
in_front true x xs zero e = rw e refl
in_front false x xs zero e = rw e refl
in_front b x xs (suc i) e = then (ends xs i) (line_of (x ∷ xs) (suc i)) (line_of xs i) (in_front b x xs i e)
  where
    then : (t : Bool) (s u : Place) → s.line ≡ cond b 1 0 + u.line → (next t s).line ≡ cond b 1 0 + (next t u).line
    then true s u e = omega (arith, e)
    then false s u e = e

no_lines : (i : ℕ) → (line_of [] i).line ≡ 1
unfolding line_of ends
no_lines zero = refl
no_lines (suc i) = no_lines i

counts : {from : ℕ} {text es : List ℕ} → Ends from text es → (i offset : ℕ) → offset ≡ from + i → (line_of text i).line ≡ 1 + over offset es
unfolding ends line_of
counts e zero offset h = omega (arith, later e offset (omega arith))
counts none (suc i) offset h = omega (arith, no_lines (suc i), none_over offset)
counts (pair {from} {rest} {es} e) (suc zero) offset h =
    omega (arith, in_front false Return (Newline ∷ rest) 0 refl, not_yet offset (suc (suc from)) es (omega arith), later e offset (omega arith))
counts (pair {from} {rest} {es} e) (suc (suc i)) offset h =
    let first = in_front false Return (Newline ∷ rest) (suc i) refl in
    let second = in_front true Newline rest i refl in
    omega (arith, first, second, counts e i offset (omega arith), counted offset (suc (suc from)) es (omega arith))
counts (return {from} {rest} {es} n e) (suc i) offset h =
    let first = in_front true Return rest i (rw (ne_eqb (get_or rest 0 0) Newline n) refl) in
    omega (arith, first, counts e i offset (omega arith), counted offset (suc from) es (omega arith))
counts (newline {from} {rest} {es} e) (suc i) offset h =
    omega (arith, in_front true Newline rest i refl, counts e i offset (omega arith), counted offset (suc from) es (omega arith))
counts (other {x} {from} {rest} {es} n r e) (suc i) offset h =
    omega (arith, in_front false x rest i (rw (ne_eqb x Newline n, ne_eqb x Return r) refl), counts e i offset (omega arith))

-- the line is one more than the ends before the offset
pub line_counts : {text es : List ℕ} → Ends 0 text es → (offset : ℕ) → (line_of text offset).line ≡ 1 + over offset es
line_counts e offset = counts e offset offset (omega arith)

-- every text has its ends
pub record WithEnds (from : ℕ) (text : List ℕ) : Type 0 where
  pub all : List ℕ
  pub told : Ends from text all

no_return_first : {from : ℕ} (x : ℕ) (rest : List ℕ) → (x ≡ Return → ⊥) → WithEnds (suc from) rest → WithEnds from (x ∷ rest)
no_return_first {from} x rest m w = elim (ℕ_discrete x Newline) [
  | yes e ↦ rw e (record { all = suc from ∷ w.all; told = newline w.told })
  | no n ↦ record { all = w.all; told = other n m w.told }
]

no_pair_first : {from : ℕ} (x : ℕ) (rest : List ℕ) → (get_or rest 0 0 ≡ Newline → ⊥) → WithEnds (suc from) rest → WithEnds from (x ∷ rest)
no_pair_first {from} x rest n w = elim (ℕ_discrete x Return) [
  | yes e ↦ rw e (record { all = suc from ∷ w.all; told = return n w.told })
  | no m ↦ no_return_first x rest m w
]

pub with_ends : (from : ℕ) (text : List ℕ) → WithEnds from text
with_ends from [] = record { all = []; told = none }
with_ends from (x ∷ []) = no_pair_first x [] (λ e. absurd (omega (arith, e))) (with_ends (suc from) [])
with_ends from (x ∷ y ∷ rest) = elim (ℕ_discrete y Newline) [
  | no n ↦ no_pair_first x (y ∷ rest) n (with_ends (suc from) (y ∷ rest))
  | yes e ↦
      elim (ℕ_discrete x Return) [
        | no m ↦ no_return_first x (y ∷ rest) m (with_ends (suc from) (y ∷ rest))
        | yes d ↦ rw (d, e) (paired (with_ends (suc (suc from)) rest))
      ]
]
  where
    paired : WithEnds (suc (suc from)) rest → WithEnds from (Return ∷ Newline ∷ rest)
    paired w = record { all = suc (suc from) ∷ w.all; told = pair w.told }

-- The column is one more than the bytes from the start of its line, which is the text's start or stands after a byte that ends its line, with none between.
pub record Line (text : List ℕ) (i : ℕ) : Type 0 where
  pub start : ℕ
  pub before : start ≤ i
  pub ended : (j : ℕ) → suc j ≡ start → ends text j ≡ true
  pub unended : (j : ℕ) → start ≤ j → j < i → ends text j ≡ false
  pub column : (line_of text i).column ≡ 1 + (i - start)

pub column_counts : (text : List ℕ) (i : ℕ) → Line text i
unfolding line_of
column_counts text zero = record { start = 0; before = omega arith; ended = λ j e. absurd (omega arith); unended = λ j _ h. absurd (omega arith); column = refl }
column_counts text (suc i) = then (ends text i) refl (column_counts text i)
  where
    same_place : {j : ℕ} → suc j ≡ suc i → j ≡ i
    same_place e = omega arith

    then : (b : Bool) → ends text i ≡ b → Line text i → Line text (suc i)
    then true e l =
        record {
          start = suc i;
          before = omega arith;
          ended = λ j h. rw (same_place h) e;
          unended = λ j h k. absurd (omega arith);
          column = rw e (omega arith);
        }
    then false e l =
        record {
          start = l.start;
          before = omega (arith, l.before);
          ended = l.ended;
          unended = λ j h k. elim (ℕ_discrete j i) [ yes q ↦ rw q e | no q ↦ l.unended j h (omega arith) ];
          column = rw e (omega (arith, l.before, l.column));
        }

-- no line ends with a byte that is written on it
inner_unended : (text : List ℕ) (i : ℕ) → inner (get_or text i 0) ≡ true → ends text i ≡ false
unfolding ends inner
inner_unended text i = go (eqb (get_or text i 0) Return) (eqb (get_or text i 0) Newline) (not (eqb (get_or text (suc i) 0) Newline))
  where
    go : (r n q : Bool) → not (r || n) ≡ true → (n || (r && q)) ≡ false
    go true n q e = absurd (true≢false (sym e))
    go false true q e = sym e
    go false false q e = refl

-- What is written on a line from an offset up to r: all stands on that line, one column after the other, and no byte of it is of a line's end; at r is one, or the
-- text is over.
pub record Written (text : List ℕ) (i r : ℕ) : Type 0 where
  pub line : (n : ℕ) → i + n ≤ r → (line_of text (i + n)).line ≡ (line_of text i).line
  pub column : (n : ℕ) → i + n ≤ r → (line_of text (i + n)).column ≡ (line_of text i).column + n
  pub clear : (n : ℕ) → i + n < r → inner (get_or text (i + n) 0) ≡ true
  pub ended : r < length text → inner (get_or text r 0) ≡ false

pub written : (text : List ℕ) (i r : ℕ) → i ≤ length text → Ran inner text i (length text) r → Written text i r
unfolding line_of
written text i r h ran = record { line = line; column = column; clear = run_passes ran; ended = run_fails ran h (omega arith) }
  where
    on : (n : ℕ) → i + suc n ≤ r → ends text (i + n) ≡ false
    on n h = inner_unended text (i + n) (run_passes ran n (omega arith))

    line : (n : ℕ) → i + n ≤ r → (line_of text (i + n)).line ≡ (line_of text i).line
    line zero h = rw (add-zero i) refl
    line (suc n) h = rw (add-suc i n, on n h) (line n (omega arith))

    column : (n : ℕ) → i + n ≤ r → (line_of text (i + n)).column ≡ (line_of text i).column + n
    column zero h = rw (add-zero i) (omega arith)
    column (suc n) h = rw (add-suc i n, on n h) (omega (arith, column n (omega arith)))

-- a run, counted from an offset to the text's end
run_length : (test : ℕ → Bool) (xs : List ℕ) → run test xs ≡ prefix_len test xs
run_length test [] = refl
run_length test (x ∷ xs) = rw (run_length test xs, one-add) refl

pub run_counted : {test : ℕ → Bool} {text : List ℕ} {offset n : ℕ} → offset ≤ length text → n ≡ length (take_while test (lexeme text offset (length text))) → Ran test text offset (length text) (offset + n)
run_counted {test} {text} {offset} {n} h e =
    let xs = lexeme text offset (length text) in
    let l : prefix_len test xs ≤ length xs = prefix_len-le-length test xs in
    let all : n ≡ prefix_len test xs = e ∙ length-take-le (prefix_len test xs) xs l in
    record {
      counted = rw (run_length test xs) (omega (arith, all));
      within = omega (arith, all, l, lexeme_length text offset (length text) h (omega arith));
    }
