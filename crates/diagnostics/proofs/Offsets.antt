-- The converse of a place. A later offset has a later place, so no two offsets of a text have the same line and column, and the contract of `offset` leaves one answer:
-- for the line and the column of an offset, that offset. And what the loop of `offset` keeps.
use Prim.Native.Nat.{ℕ, zero, suc, ◌+◌, ◌≤◌, ◌<◌}
use native.Mathlib.Decide.{ℕ_discrete, dec_le, dec_lt}
use native.Mathlib.Omega.{arith}
use mathlib.Core.Bool.{Bool, true, false}
use mathlib.Core.List.{List}
use mathlib.Core.Path.{◌≡◌, refl, sym, ◌∙◌}
use lib.Dec.{eqb}
use lib.ListN.{length}
use borrow.Author.Count.{below_more}
use borrow.Author.Tests.{eq-eqb, ne_eqb}
use Rattle.spelling.specs.Decides.{Decides}
use Rattle.spelling.proofs.Deciding.{holds, fails, held, failed}
use Rattle.diagnostics.specs.Line.{at, ends, next, line_of, IsAt, HasPlace, OffsetGiven}
use Rattle.diagnostics.specs.declared.Place.{Place}

-- a place before another: on an earlier line, or in an earlier column of the same
record Earlier (s t : Place) : Type 0 where
  line : s.line ≤ t.line
  column : s.line ≡ t.line → s.column < t.column

on : (b : Bool) (s : Place) → Earlier s (next b s)
on true s = record { line = omega arith; column = λ e. absurd (omega arith) }
on false s = record { line = omega arith; column = λ e. omega arith }

further : (b : Bool) {s t : Place} → Earlier s t → Earlier s (next b t)
further true h = record { line = omega (arith, h.line); column = λ e. absurd (omega (arith, h.line)) }
further false h = record { line = h.line; column = λ e. omega (arith, h.column e) }

later : (text : List ℕ) (i j : ℕ) → i < j → Earlier (line_of text i) (line_of text j)
unfolding line_of
later text i zero h = absurd (omega arith)
later text i (suc j) h = elim (ℕ_discrete i j) [ yes e ↦ rw e (on (ends text j) (line_of text j)) | no n ↦ further (ends text j) (later text i j (omega arith)) ]

-- no two offsets have the same line and column
apart : {text : List ℕ} {line column i j : ℕ} → HasPlace text line column i → HasPlace text line column j → i < j → ⊥
apart {text} {i = i} {j = j} p q h = omega (arith, (later text i j h).column (p.there.on_line ∙ sym q.there.on_line), p.there.in_column, q.there.in_column)

pub same_offset : {text : List ℕ} {line column i j : ℕ} → HasPlace text line column i → HasPlace text line column j → i ≡ j
same_offset {i = i} {j = j} p q =
    elim (dec_lt i j) [
      | yes h ↦ absurd (apart p q h)
      | no h ↦ elim (dec_lt j i) [ yes k ↦ absurd (apart q p k) | no k ↦ omega arith ]
    ]

is_at : (line column : ℕ) (here : Place) → Dec (IsAt line column here)
is_at line column here =
    elim (ℕ_discrete here.line line) [
      | no h ↦ no (λ p. h p.on_line)
      | yes h ↦
          elim (ℕ_discrete here.column column) [
            | no k ↦ no (λ p. k p.in_column)
            | yes k ↦ yes (record { on_line = h; in_column = k })
          ]
    ]

has_place : (text : List ℕ) (line column i : ℕ) → Dec (HasPlace text line column i)
has_place text line column i =
    elim (dec_le i (length text)) [
      | no h ↦ no (λ p. h p.inside)
      | yes h ↦
          elim (is_at line column (line_of text i)) [ no k ↦ no (λ p. k p.there) | yes k ↦ yes (record { inside = h; there = k }) ]
    ]

-- the contract settles the answer
pub one_offset : {text : List ℕ} {line column r s : ℕ} → OffsetGiven text line column r → OffsetGiven text line column s → r ≡ s
one_offset {text} {line} {column} {r} p q =
    elim (dec_le (length text) 65536) [
      | no h ↦ let i : 65536 < length text = omega arith in p.long i ∙ sym (q.long i)
      | yes h ↦
          elim (has_place text line column r) [
            | yes k ↦ same_offset k (q.found h r k)
            | no k ↦ let none : (i : ℕ) → HasPlace text line column i → ⊥ = λ i l. k (p.found h i l) in p.none h none ∙ sym (q.none h none)
          ]
    ]

-- the offset of the line and the column of i is i
pub back_again : (text : List ℕ) (i : ℕ) {r : ℕ} → length text ≤ 65536 → i ≤ length text → OffsetGiven text (line_of text i).line (line_of text i).column r → r ≡ i
back_again text i h k o = let here : HasPlace text (line_of text i).line (line_of text i).column i = record { inside = k; there = record { on_line = refl; in_column = refl } } in same_offset (o.found h i here) here

-- the test of a line and a column
pub another_line : {line column : ℕ} {here : Place} → (here.line ≡ line → ⊥) → Decides (IsAt line column here) false
another_line n = fails (λ p. n p.on_line)

pub same_line : {line column : ℕ} {here : Place} → here.line ≡ line → Decides (IsAt line column here) (eqb here.column column)
same_line {column = column} {here} e =
    elim (ℕ_discrete here.column column) [
      | yes h ↦ rw (eq-eqb here.column column h) (holds (record { on_line = e; in_column = h }))
      | no n ↦ rw (ne_eqb here.column column n) (fails (λ p. n p.in_column))
    ]

-- what the loop keeps: the place of i, and that no offset before i has the one that is looked for
pub record Looking (text : List ℕ) (line column i : ℕ) (here : Place) : Type 0 where
  pub inside : i ≤ length text
  pub there : here ≡ line_of text i
  pub before : (k : ℕ) → k < i → HasPlace text line column k → ⊥

pub started : {text : List ℕ} {line column : ℕ} → Looking text line column 0 (at 1 1)
unfolding line_of
started = record { inside = omega arith; there = refl; before = λ k h. absurd (omega arith) }

module _ {text : List ℕ} {line column i : ℕ} {here : Place} {r : Bool} (s : Looking text line column i here) (d : Decides (IsAt line column here) r) where
  -- i has the place, or has it not
  reached : r ≡ true → HasPlace text line column i
  reached e = record { inside = s.inside; there = rw s.there at (held (rw e at d)) }

  missed : r ≡ false → HasPlace text line column i → ⊥
  missed e p = failed (rw e at d) (rw s.there p.there)

  pub is_found : r ≡ true → length text ≤ 65536 → OffsetGiven text line column i
  is_found e h = record { long = λ k. absurd (omega arith); found = λ _ _ _. reached e; none = λ _ f. absurd (f i (reached e)) }

  pub passed : {after : Place} → r ≡ false → i < length text → after ≡ line_of text (i + 1) → Looking text line column (i + 1) after
  passed e h f = record { inside = omega arith; there = f; before = below_more _ _ s.before (missed e) }

  pub is_nowhere : r ≡ false → length text ≤ 65536 → i ≡ length text → OffsetGiven text line column (length text + 1)
  is_nowhere e h f = record { long = λ k. absurd (omega arith); found = λ _ k p. absurd (nowhere k p); none = λ _ _. refl }
    where
      nowhere : (k : ℕ) → HasPlace text line column k → ⊥
      nowhere k p = elim (dec_lt k i) [ yes l ↦ s.before k l p | no l ↦ let m : k ≡ i = omega (arith, p.inside) in missed e (rw m at p) ]
