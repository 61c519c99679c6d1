-- A token's symbol in a room: what it says of whether the row fits, and what it is where that is known.
use Prim.Native.Nat.{ℕ, suc, ◌≤◌, ◌<◌}
use native.Mathlib.Omega.{arith}
use mathlib.Core.Bool.{Bool, true, false}
use mathlib.Core.List.{List}
use mathlib.Core.Path.{◌≡◌, refl}
use lib.ListN.{length}
use Rattle.grammar.specs.Builtin.{Builtins, built}
use Rattle.grammar.specs.Door.{Whole}
use Rattle.grammar.specs.Handle.{absent}
use Rattle.grammar.specs.Symbol.{is_name, symbol_rows, symbol_in}
use Rattle.grammar.proofs.Symbols.{InRoom, in_room, has_row, symbol_few, rows_same, rows_grow, wordless}
use Rattle.names.specs.Resolved.{rowless}

module _ (names : Builtins) (text ts : List ℕ) (i : ℕ) where
  -- a token that has no word has 0
  pub wordless_in : (room : ℕ) → is_name ts i ≡ false → symbol_in names text ts room i ≡ 0
  wordless_in room h = either (in_room names text ts room i)
    where
      either : {x : ℕ} → InRoom names text ts room i x → x ≡ 0
      either (InRoom.there k) = wordless names text ts i h
      either (InRoom.missing e k) = let z : ◌≡◌ {A = ℕ} 0 1 = cc in absurd (omega arith)

  -- from a row on that does not fit, no token has one
  pub rowless_in : (room n : ℕ) → n ≤ i → room < length (symbol_rows names text ts (suc n)) → symbol_in names text ts room i ≡ rowless ts i
  unfolding rowless
  rowless_in room n l h = pick (is_name ts i) refl
    where
      either : is_name ts i ≡ true → {x : ℕ} → InRoom names text ts room i x → x ≡ absent
      either t (InRoom.there k) = absurd (omega (arith, k t, rows_grow names text ts (suc n) (suc i) (omega arith)))
      either t (InRoom.missing e k) = refl

      pick : (b : Bool) → is_name ts i ≡ b → symbol_in names text ts room i ≡ rowless ts i
      pick true e = rw e (either e (in_room names text ts room i))
      pick false e = rw e (wordless_in room e)

  -- a token that has its symbol fits, and one that has none does not
  pub row_fits : (room : ℕ) → length (symbol_rows names text ts i) ≤ room → (symbol_in names text ts room i ≡ absent → ⊥) → length (symbol_rows names text ts (suc i)) ≤ room
  row_fits room l n = pick (is_name ts i) refl
    where
      pick : (b : Bool) → is_name ts i ≡ b → length (symbol_rows names text ts (suc i)) ≤ room
      pick true e = has_row names text ts room i n e
      pick false e = rw (rows_same names text ts i e) l

  pub row_lacks : (room : ℕ) → Whole ts → built names ≤ 64 → symbol_in names text ts room i ≡ absent → room < length (symbol_rows names text ts (suc i))
  row_lacks room h few = either (in_room names text ts room i)
    where
      either : {x : ℕ} → InRoom names text ts room i x → x ≡ absent → room < length (symbol_rows names text ts (suc i))
      either (InRoom.there k) e = absurd (omega (arith, symbol_few names text ts h i))
      either (InRoom.missing f k) e = k
