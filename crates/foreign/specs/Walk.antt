-- A walk through rows from one of them: the row, and then a walk from each that it names, absent ones left out. Document 02, L8: 'a walk from the root of any
-- accepted rows meets each row once'.
use Rattle.std.specs.Prelude.{ℕ, zero, suc, cond, List, [], ◌∷◌, ◌++◌, eqb}
use Rattle.grammar.specs.Handle.{absent}
use Rattle.grammar.specs.Naming.{named_by}
use Rattle.grammar.specs.Rows.{Rows}

unfoldable pub joined : (ℕ → List ℕ) → List ℕ → List ℕ
joined f [] = []
joined f (x ∷ xs) = cond (eqb x absent) [] (f x) ++ joined f xs

-- the rows that are met from row i on, in their order, going so deep
unfoldable pub met : Rows → (deep i : ℕ) → List ℕ
met w zero i = []
met w (suc d) i = i ∷ joined (met w d) (named_by w i)
