-- What stands where in the tables: one after the other. And a test of every number of a list.
use Prim.Native.Nat.{ℕ, zero, suc, ◌+◌, ◌<◌}
use mathlib.Core.Bool.{Bool, true, ◌&&◌}
use mathlib.Core.List.{List, [], ◌∷◌, ◌++◌}
use mathlib.Core.Path.{◌≡◌, refl, ap, ◌∙◌}
use native.Mathlib.Omega.{arith}
use lib.Dec.{T}
use lib.ListN.{length, get_or, get_or-append, length-append}
use lib.Seq.{get_or-append-add}
use Rattle.grammar.proofs.Tests.{both}
use Rattle.expected.specs.Tables.{table, lengths, lists, tables}

unfoldable pub every : (ℕ → Bool) → List ℕ → Bool
every p [] = true
every p (x ∷ xs) = p x && every p xs

pub at_every : (p : ℕ → Bool) (xs : List ℕ) (i : ℕ) → T (every p xs) → i < length xs → T (p (get_or xs i 0))
unfolding every
at_every p [] i t h = absurd (omega arith)
at_every p (x ∷ xs) zero t h = (both (p x) (every p xs) t).0
at_every p (x ∷ xs) (suc i) t h = at_every p xs i (both (p x) (every p xs) t).1 (omega arith)

pub table_length : length table ≡ 2646
unfolding table
table_length = refl

pub lengths_length : length lengths ≡ 171
unfolding lengths
lengths_length = refl

pub lists_length : length lists ≡ 1368
unfolding lists
lists_length = refl

pub tables_length : length tables ≡ 4185
unfolding tables
tables_length = length-append table (lengths ++ lists) ∙ omega (arith, table_length, lengths_length, lists_length, length-append lengths lists)

pub in_table : (i : ℕ) → i < 2646 → get_or tables i 0 ≡ get_or table i 0
unfolding tables
in_table i h = get_or-append table (lengths ++ lists) 0 i (omega (arith, table_length, h))

pub in_lengths : (k : ℕ) → k < 171 → get_or tables (2646 + k) 0 ≡ get_or lengths k 0
unfolding tables
in_lengths k h = let e : 2646 + k ≡ length table + k = omega (arith, table_length) in ap (λ i. get_or tables i 0) e ∙ get_or-append-add table (lengths ++ lists) k 0 ∙ get_or-append lengths lists 0 k (omega (arith, lengths_length, h))

pub in_lists : (i : ℕ) → get_or tables (2817 + i) 0 ≡ get_or lists i 0
unfolding tables
in_lists i = let e : 2817 + i ≡ length table + (length lengths + i) = omega (arith, table_length, lengths_length) in ap (λ j. get_or tables j 0) e ∙ get_or-append-add table (lengths ++ lists) (length lengths + i) 0 ∙ get_or-append-add lengths lists i 0
