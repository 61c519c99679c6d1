-- `seek` answers the first row that has the bytes. In a table at most one has them, so it is the row that has them, or there is none. Rows that are put behind
-- others are looked at after them.
use Prim.Native.Nat.{ℕ, zero, suc, ◌+◌, ◌*◌, ◌/◌, ◌≤◌, ◌<◌}
use mathlib.Core.Bool.{Bool, true, false, cond}
use mathlib.Core.List.{List, [], ◌∷◌, ◌++◌}
use mathlib.Core.Path.{◌≡◌, refl, sym, ap, ◌∙◌}
use native.Mathlib.Nat.{zero-add}
use native.Mathlib.Omega.{arith}
use lib.Dec.{T}
use lib.ListN.{length}
use Rattle.grammar.specs.Symbol.{same, seek}
use Rattle.grammar.specs.Table.{Row, Holds, Table}
use Rattle.grammar.specs.Token.{lexeme}
use Rattle.grammar.proofs.Symbols.{seek_below}
use Rattle.grammar.proofs.Tests.{as_true, same_means, same_self}

-- a row after the first
start_after : (i : ℕ) → 2 * suc i ≡ suc (suc (2 * i))
start_after i = omega arith

end_after : (i : ℕ) → 2 * suc i + 1 ≡ suc (suc (2 * i + 1))
end_after i = omega arith

module _ {text x ss : List ℕ} {s e : ℕ} (i : ℕ) where
  later : Holds text x (s ∷ e ∷ ss) (suc i) → Holds text x ss i
  later h = let r = h.row in record { row = omega arith; bytes_are = rw (end_after i, start_after i) at h.bytes_are }

  sooner : Holds text x ss i → Holds text x (s ∷ e ∷ ss) (suc i)
  sooner h = let r = h.row in record { row = omega arith; bytes_are = rw (end_after i, start_after i) h.bytes_are }

module _ (text x : List ℕ) where
  pub seek_found : (table : List ℕ) → Row table (seek text x table) → Holds text x table (seek text x table)
  unfolding seek
  seek_found [] h = absurd (omega arith)
  seek_found (s ∷ []) h = absurd (omega arith)
  seek_found (s ∷ e ∷ ss) h = either (same x (lexeme text s e)) refl (seek_found ss) h
    where
      either : (b : Bool) → same x (lexeme text s e) ≡ b → (Row ss (seek text x ss) → Holds text x ss (seek text x ss)) → Row (s ∷ e ∷ ss) (cond b 0 (suc (seek text x ss))) → Holds text x (s ∷ e ∷ ss) (cond b 0 (suc (seek text x ss)))
      either true q f r = record { row = r; bytes_are = sym (same_means x (lexeme text s e) (rw q tt)) }
      either false q f r = sooner (seek text x ss) (f (omega arith))

  pub seek_first : (table : List ℕ) (i : ℕ) → Holds text x table i → seek text x table ≤ i
  unfolding seek
  seek_first [] i h = omega arith
  seek_first (s ∷ []) i h = omega arith
  seek_first (s ∷ e ∷ ss) i h = either (same x (lexeme text s e)) refl (seek_first ss) i h
    where
      either : (b : Bool) → same x (lexeme text s e) ≡ b → ((i : ℕ) → Holds text x ss i → seek text x ss ≤ i) → (i : ℕ) → Holds text x (s ∷ e ∷ ss) i → cond b 0 (suc (seek text x ss)) ≤ i
      either true q f i h = omega arith
      either false q f zero h = let t : T (same x (lexeme text s e)) = rw h.bytes_are (same_self x) in absurd (rw q at t)
      either false q f (suc i) h = omega (arith, f i (later i h))

  -- rows behind others
  pub seek_front : (u r : List ℕ) → seek text x u < length u / 2 → seek text x (u ++ r) ≡ seek text x u
  unfolding seek
  seek_front [] r h = absurd (omega arith)
  seek_front (s ∷ []) r h = absurd (omega arith)
  seek_front (s ∷ e ∷ u) r h = either (same x (lexeme text s e)) (seek_front u r) h
    where
      either : (b : Bool) → (seek text x u < length u / 2 → seek text x (u ++ r) ≡ seek text x u) → cond b 0 (suc (seek text x u)) < suc (suc (length u)) / 2 → cond b 0 (suc (seek text x (u ++ r))) ≡ cond b 0 (suc (seek text x u))
      either true f h = refl
      either false f h = ap suc (f (omega arith))

  pub seek_behind : (u r : List ℕ) → 2 * (length u / 2) ≡ length u → seek text x u ≡ length u / 2 → seek text x (u ++ r) ≡ length u / 2 + seek text x r
  unfolding seek
  seek_behind [] r e h = sym (zero-add (seek text x r))
  seek_behind (s ∷ []) r e h = absurd (omega arith)
  seek_behind (s ∷ z ∷ u) r e h = either (same x (lexeme text s z)) (seek_behind u r (omega arith)) h
    where
      either : (b : Bool) → (seek text x u ≡ length u / 2 → seek text x (u ++ r) ≡ length u / 2 + seek text x r) → cond b 0 (suc (seek text x u)) ≡ suc (suc (length u)) / 2 → cond b 0 (suc (seek text x (u ++ r))) ≡ suc (suc (length u)) / 2 + seek text x r
      either true f h = absurd (omega arith)
      either false f h = omega (arith, f (omega arith))

-- a row is found by its own bytes
pub seek_one : (text : List ℕ) (s e : ℕ) → seek text (lexeme text s e) (s ∷ e ∷ []) ≡ 0
unfolding seek
seek_one text s e = rw (as_true (same (lexeme text s e) (lexeme text s e)) (same_self (lexeme text s e)))

-- one row at most has the bytes
pub held_once : {text x table : List ℕ} {i j : ℕ} → Table text table → Holds text x table i → Holds text x table j → i ≡ j
held_once {i = i} {j = j} t h k =
    let a : i < j → ⊥ = λ l. t.different i j l k.row (h.bytes_are ∙ sym k.bytes_are) in
    let b : j < i → ⊥ = λ l. t.different j i l h.row (k.bytes_are ∙ sym h.bytes_are) in
    omega arith

pub seek_held : {text x table : List ℕ} {i : ℕ} → Table text table → Holds text x table i → seek text x table ≡ i
seek_held {text} {x} {table} {i} t h =
    let l = seek_first text x table i h in
    let r = h.row in
    held_once t (seek_found text x table (omega arith)) h

-- or none has
pub seek_missing : {text x : List ℕ} (table : List ℕ) → ((i : ℕ) → Holds text x table i → ⊥) → seek text x table ≡ length table / 2
seek_missing {text} {x} table none =
    let w = seek_below text x table in
    let a : seek text x table < length table / 2 → ⊥ = λ l. none (seek text x table) (seek_found text x table (omega arith)) in
    omega arith
