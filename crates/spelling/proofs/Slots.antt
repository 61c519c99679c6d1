-- What the table has for a slot and for a byte: one test for each, that the checker computes over the 64 slots and the 256 bytes. It is said of any list that is the table.
use Prim.Native.Nat.{ℕ, ◌+◌, ◌<◌}
use mathlib.Core.List.{List}
use mathlib.Core.Path.{◌≡◌}
use native.Mathlib.Omega.{arith}
use lib.ListN.{get_or}
use Rattle.grammar.specs.Lexeme.{spelling}
use Rattle.grammar.proofs.Ranges.{ranged}
use Rattle.spelling.specs.Words.{key, class, table}

pub key_at : {ws : List ℕ} → ws ≡ table → (s : ℕ) → s < 64 → get_or ws (184 + s) 0 ≡ key s
unfolding spelling key table
key_at e s h = rw e (ranged key (λ i. get_or table (184 + i) 0) 0 64 s tt (omega arith) (omega arith))

pub class_at : {ws : List ℕ} → ws ≡ table → (x : ℕ) → x < 256 → get_or ws (248 + x) 0 ≡ class x
unfolding class table
class_at e x h = rw e (ranged class (λ i. get_or table (248 + i) 0) 0 256 x tt (omega arith) (omega arith))
