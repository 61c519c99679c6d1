-- Every list that the maker makes is one that checks 1 and 5 to 7 let through: by the way in which the text reads.
use Prim.Native.Nat.{ℕ, zero, suc, ◌+◌, ◌*◌, ◌≤◌, ◌<◌}
use mathlib.Core.List.{List, [], ◌∷◌}
use mathlib.Core.Path.{◌≡◌, refl, sym, ◌∙◌}
use native.Mathlib.Omega.{arith}
use lib.ListN.{length, get_or, take}
use lib.Seq.{take_at}
use Rattle.grammar.specs.Door.{Ascii, Sound, Closed, Lent}
use Rattle.grammar.specs.Kind.{Eof}
use Rattle.grammar.specs.Token.{count, kind, start, end, lexeme}
use Rattle.lexeme.proofs.Fitting.{fits_at_end}
use Rattle.lexer.specs.Reads.{Longest, TextReads}
use Rattle.lexer.specs.Lexes.{Lexes}
use Rattle.lexer.specs.declared.Lexed.{Lexed}

-- what checks 6 and 7 ask, of tokens from i on
record Good (text ts : List ℕ) (i : ℕ) : Type 0 where
  rows : length ts ≡ 3 * count ts
  some : 1 ≤ count ts
  begins : i ≤ start ts 0
  sound : (j : ℕ) → j < count ts → Sound text ts j
  closed : (j : ℕ) → j < count ts → Closed ts j

-- a list with one token in front
module _ (k i e : ℕ) (ts : List ℕ) where
  count_on : count (k ∷ i ∷ e ∷ ts) ≡ suc (count ts)
  count_on = omega arith

  number_on : (n m : ℕ) → m ≡ suc (suc (suc n)) → get_or (k ∷ i ∷ e ∷ ts) m 0 ≡ get_or ts n 0
  number_on n m z = rw z

  kind_on : (j : ℕ) → kind (k ∷ i ∷ e ∷ ts) (suc j) ≡ kind ts j
  kind_on j = number_on (3 * j) (3 * suc j) (omega arith)

  start_on : (j : ℕ) → start (k ∷ i ∷ e ∷ ts) (suc j) ≡ start ts j
  start_on j = number_on (3 * j + 1) (3 * suc j + 1) (omega arith)

  end_on : (j : ℕ) → end (k ∷ i ∷ e ∷ ts) (suc j) ≡ end ts j
  end_on j = number_on (3 * j + 2) (3 * suc j + 2) (omega arith)

  sound_on : {text : List ℕ} (j : ℕ) → e ≤ start ts 0 → Sound text ts j → Sound text (k ∷ i ∷ e ∷ ts) (suc j)
  sound_on {text} j b s =
      record {
        known = rw (kind_on j) s.known;
        forward = rw (start_on j, end_on j) s.forward;
        inside = rw (end_on j) s.inside;
        apart = λ m z. let y : m ≡ j = omega arith in rw (y, start_on j) (before j s.apart);
        fits = rw (kind_on j, start_on j, end_on j) s.fits;
      }
    where
      before : (j : ℕ) → ((m : ℕ) → suc m ≡ j → end ts m ≤ start ts j) → end (k ∷ i ∷ e ∷ ts) j ≤ start ts j
      before zero f = b
      before (suc j) f = rw (end_on j) (f j refl)

  closed_on : (j : ℕ) → Closed ts j → Closed (k ∷ i ∷ e ∷ ts) (suc j)
  closed_on j c = record { only = λ z. omega (arith, count_on, c.only (sym (kind_on j) ∙ z)); last = λ z. kind_on j ∙ c.last (omega (arith, count_on)) }

good_end : {text : List ℕ} {i : ℕ} → i ≡ length text → Good text (Eof ∷ i ∷ i ∷ []) i
good_end {text} {i} e = record { rows = refl; some = omega arith; begins = omega arith; sound = sound; closed = closed }
  where
    sound : (j : ℕ) → j < 1 → Sound text (Eof ∷ i ∷ i ∷ []) j
    sound zero h = record { known = omega arith; forward = omega arith; inside = omega arith; apart = λ m z. absurd (omega arith); fits = fits_at_end Eof (lexeme text i i) (omega arith) }
    sound (suc j) h = absurd (omega arith)

    closed : (j : ℕ) → j < 1 → Closed (Eof ∷ i ∷ i ∷ []) j
    closed zero h = record { only = λ z. refl; last = λ z. refl }
    closed (suc j) h = absurd (omega arith)

good_token : {text ts : List ℕ} {k i e : ℕ} → Longest text k i e → Good text ts e → Good text (k ∷ i ∷ e ∷ ts) i
good_token {text} {ts} {k} {i} {e} l g =
    record { rows = omega (arith, g.rows, count_on k i e ts); some = omega (arith, count_on k i e ts); begins = omega arith; sound = sound; closed = closed }
  where
    sound : (j : ℕ) → j < count (k ∷ i ∷ e ∷ ts) → Sound text (k ∷ i ∷ e ∷ ts) j
    sound zero h = record { known = omega (arith, l.stands.known); forward = l.stands.forward; inside = l.stands.inside; apart = λ m z. absurd (omega arith); fits = l.stands.fits }
    sound (suc j) h = sound_on k i e ts j g.begins (g.sound j (omega (arith, count_on k i e ts)))

    closed : (j : ℕ) → j < count (k ∷ i ∷ e ∷ ts) → Closed (k ∷ i ∷ e ∷ ts) j
    closed zero h = record { only = λ z. absurd (omega (arith, l.stands.known)); last = λ z. absurd (omega (arith, count_on k i e ts, g.some)) }
    closed (suc j) h = closed_on k i e ts j (g.closed j (omega (arith, count_on k i e ts)))

good : {text ts : List ℕ} {i : ℕ} → TextReads text i ts → Good text ts i
good (TextReads.end e) = good_end e
good (TextReads.skip b r) = let g = good r in record { rows = g.rows; some = g.some; begins = omega (arith, g.begins); sound = g.sound; closed = g.closed }
good (TextReads.token l r) = good_token l (good r)

-- a list of at most 4,096 tokens that a text without bytes over 127 reads as
pub reads_lent : {text ts : List ℕ} {i : ℕ} → Ascii text → TextReads text i ts → count ts ≤ 4096 → Lent text ts
reads_lent a r h = let g = good r in record { whole = record { rows = g.rows; some = g.some; most = h }; ascii = a; sound = g.sound; closed = g.closed }

-- the tokens of a list room that the maker leaves with code 0: those that the text reads as, and what checks 1, 2, 5, 6 and 7 let through
pub record Made (text ts : List ℕ) : Type 0 where
  pub short : length text ≤ 65536
  pub reads : TextReads text 0 ts
  pub lent : Lent text ts

pub made_list : {text room after : List ℕ} {a : Lexed} → Lexes text room a after → a.code ≡ 0 → Made text (take (3 * a.count) after)
made_list (Lexes.long h) z = absurd (omega arith)
made_list (Lexes.high h f) z = absurd (omega arith)
made_list (Lexes.no_token x s) z = absurd (omega arith)
made_list (Lexes.too_many x r f) z = absurd (omega arith)
made_list (Lexes.made {ts = ts} x r f) z = rw (take_at ts _ (3 * count ts) (good r).rows) (record { short = x.short; reads = r; lent = reads_lent x.ascii r f.most })
