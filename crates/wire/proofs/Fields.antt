-- Numbers after blanks, one more at a time, and lines of rows.
use Prim.Native.Nat.{ℕ, ◌+◌, ◌*◌, ◌^◌, ◌<◌}
use native.Mathlib.Numerals.{add-one}
use native.Mathlib.Omega.{arith}
use mathlib.Core.List.{List, [], ◌∷◌, ◌++◌, append_assoc, append-nil}
use mathlib.Core.Path.{◌≡◌, sym, ap, ◌∙◌}
use lib.ListN.{length, get_or, take}
use lib.Seq.{take-suc, take_all}
use Rattle.spelling.specs.Display.{Put}
use Rattle.spelling.proofs.display.Writing.{nothing, joined}
use Rattle.wire.specs.Lines.{PutWithin}
use Rattle.wire.specs.Number.{decimal}
use Rattle.wire.proofs.Decimals.{decimal_short}
use Rattle.wire.specs.Printed.{fields}

fields_more : (xs : List ℕ) (x : ℕ) → fields (xs ++ (x ∷ [])) ≡ fields xs ++ (32 ∷ decimal x)
unfolding fields
fields_more [] x = append-nil (32 ∷ decimal x)
fields_more (y ∷ ys) x = ap (λ (zs : List ℕ). (32 ∷ decimal y) ++ zs) (fields_more ys x) ∙ sym (append_assoc (32 ∷ decimal y) (fields ys) (32 ∷ decimal x))

-- the numbers up to i, and the next
pub next_field : (xs : List ℕ) (i : ℕ) → i < length xs → fields (take (i + 1) xs) ≡ fields (take i xs) ++ (32 ∷ decimal (get_or xs i 0))
next_field xs i h = rw (add-one i, take-suc xs i 0 h) (fields_more (take i xs) (get_or xs i 0))

-- no number is written, one more, and all of them
pub no_field : (values : List ℕ) (at : ℕ) (room : List ℕ) → PutWithin (11 * 0) (fields (take 0 values)) at room room at
unfolding fields
no_field values at room = record { put = nothing at room; most = omega arith }

pub another : (values : List ℕ) {before between middle after : List ℕ} {at k blank end i : ℕ} → PutWithin (11 * i) (fields (take i values)) at before between k → Put (32 ∷ []) k between middle blank → Put (decimal (get_or values i 0)) blank middle after end → i < length values → get_or values i 0 < 2 ^ 32 → PutWithin (11 * (i + 1)) (fields (take (i + 1) values)) at before after end
another values {i = i} w p q h l =
    record {
      put = rw (next_field values i h) (joined w.put (joined p q));
      most = omega (arith, w.most, p.ends, q.ends, decimal_short (get_or values i 0) l);
    }

pub all_fields : (values : List ℕ) {before after : List ℕ} {at k i : ℕ} → PutWithin (11 * i) (fields (take i values)) at before after k → i ≡ length values → PutWithin (11 * length values) (fields values) at before after k
all_fields values {i = i} w e = record { put = rw (take_all i values (omega arith)) at w.put; most = omega (arith, w.most) }
