-- What is true of every place: its contract leaves one answer, and no line or column is greater than the offset and one. How a byte moves the place on, and
-- which bytes end their line.
use Prim.Native.Nat.{ℕ, zero, suc, ◌+◌, ◌≤◌, ◌<◌}
use native.Mathlib.Decide.{dec_le}
use native.Mathlib.Numerals.{add-one}
use native.Mathlib.Omega.{arith}
use mathlib.Core.Bool.{Bool, true, false, not}
use mathlib.Core.List.{List}
use mathlib.Core.Path.{◌≡◌, refl, sym, ap, ◌∙◌}
use lib.Dec.{eqb, ltb, ltb→lt}
use lib.ListN.{length, get_or, get_or-eq_default}
use borrow.Author.Tests.{ne_eqb}
use Rattle.std.proofs.lemmas.Bool.{ltb-false}
use denote.Ref.{Bor}
use Rattle.std.specs.Prelude.{Option, Some, None, IfSome}
use Rattle.std.specs.Option.{is_some, option_eq}
use Rattle.std.proofs.lemmas.Grind.{get_or_default_zero}
use Rattle.diagnostics.specs.Line.{Newline, Return, at, ends, next, line_of, Placed, BytePlaced}
use Rattle.diagnostics.specs.declared.Place.{Place}

-- a byte that is read as an option, compared with one that is not 0: past the text there is none, and the definitions have 0 there
pub byte_at : (text : List ℕ) (i x : ℕ) (y : Bor ℕ) (o : Option (Bor ℕ)) → y.now ≡ x → (x ≡ 0 → ⊥) → is_some o ≡ ltb i (length text) → IfSome o (λ z. z.now ≡ get_or text i z.now) → option_eq (λ u v. eqb u.now v.now) o (Some y) ≡ eqb (get_or text i 0) x
byte_at text i x y (Some z) e n s h = let l : i < length text = ltb→lt _ _ (rw (← s) tt) in rw (e, h, get_or_default_zero text i z.now l) refl
byte_at text i x y None e n s h = let l : length text ≤ i = ltb-false _ _ (sym s) in rw (get_or-eq_default text 0 {n = i} l, ne_eqb 0 x (λ z. n (sym z))) refl

-- the three ways to tell whether a line ends: a newline, a return by the byte after it, which past the text is none, and any other byte
pub newline : (text : List ℕ) (i : ℕ) → get_or text i 0 ≡ Newline → true ≡ ends text i
unfolding ends
newline text i e = rw e refl

pub return_by : (text : List ℕ) (i : ℕ) {r : Bool} → get_or text i 0 ≡ Return → r ≡ not (eqb (get_or text (i + 1) 0) Newline) → r ≡ ends text i
unfolding ends
return_by text i e f = rw (e, f, add-one i) refl

pub other_byte : (text : List ℕ) (i : ℕ) → (get_or text i 0 ≡ Newline → ⊥) → (get_or text i 0 ≡ Return → ⊥) → false ≡ ends text i
unfolding ends
other_byte text i n r = rw (ne_eqb (get_or text i 0) Newline n, ne_eqb (get_or text i 0) Return r) refl

-- past a byte that ends its line, and past another
pub next_line : {text : List ℕ} {i : ℕ} {here : Place} → BytePlaced text i here → ends text i ≡ true → at (here.line + 1) 1 ≡ line_of text (i + 1)
unfolding line_of
next_line {i = i} s h = rw (add-one i, h) (ap (next true) s.there)

pub next_column : {text : List ℕ} {i : ℕ} {here : Place} → BytePlaced text i here → ends text i ≡ false → at here.line (here.column + 1) ≡ line_of text (i + 1)
unfolding line_of
next_column {i = i} s h = rw (add-one i, h) (ap (next false) s.there)

-- no line or column is greater than the offset and one
pub record Small (i : ℕ) (s : Place) : Type 0 where
  pub line : s.line ≤ i + 1
  pub column : s.column ≤ i + 1

pub small : (text : List ℕ) (i : ℕ) → Small i (line_of text i)
unfolding line_of
small text zero = record { line = omega arith; column = omega arith }
small text (suc i) = then (ends text i) (line_of text i) (small text i)
  where
    then : (b : Bool) (s : Place) → Small i s → Small (suc i) (next b s)
    then true s h = record { line = omega (arith, h.line); column = omega arith }
    then false s h = record { line = omega (arith, h.line); column = omega (arith, h.column) }

pub byte_small : {text : List ℕ} {i : ℕ} {here : Place} → BytePlaced text i here → Small i here
byte_small {text} {i} s = rw s.there (small text i)

-- the contract settles the answer
pub one_place : {text : List ℕ} {offset : ℕ} {r s : Place} → Placed text offset r → Placed text offset s → r ≡ s
one_place {text} {offset} p q =
    elim (dec_le (length text) 65536) [
      | no h ↦ let i : 65536 < length text = omega arith in p.long i ∙ sym (q.long i)
      | yes h ↦
          elim (dec_le offset (length text)) [
            | yes i ↦ p.placed h i ∙ sym (q.placed h i)
            | no i ↦ let j : length text < offset = omega arith in p.past h j ∙ sym (q.past h j)
          ]
    ]
