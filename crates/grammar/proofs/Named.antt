-- The samples of rows are right, by computation.
use Prim.Native.Nat.{ℕ, suc, ◌≤◌, ◌<◌}
use mathlib.Core.List.{List, [], ◌∷◌}
use mathlib.Core.Path.{◌≡◌, refl}
use native.Mathlib.Omega.{arith}
use Rattle.grammar.specs.Handle.{absent}
use Rattle.grammar.specs.Layout.{layout}
use Rattle.grammar.specs.Naming.{linked_nodes, linked_entries, naming, named_by, named_below, Rising}
use Rattle.grammar.specs.Parent.{parent, parented_below}
use Rattle.grammar.specs.Named.{NamingRight}

-- what rises lies below, and from where it starts
lies : {high low x : ℕ} {xs : List ℕ} → Rising high low (x ∷ xs) → x < absent → (low ≤ x) × (x < high) × Rising high (suc x) xs
lies (Rising.skip r) h = absurd (omega arith)
lies (Rising.next l u r) h = (l, u, r)

pub naming_right : NamingRight
unfolding parented_below parent named_below named_by naming layout linked_nodes linked_entries
naming_right = record {
  names = refl;
  operators = λ e. refl;
  signs = λ e. refl;
  booleans = λ e. refl;
  no_kind = λ e. (refl, refl);
  returns = (refl, refl);
  no_row = λ t. let h = t.some in omega arith;
  unnamed = λ t. let h : ◌≡◌ {A = ℕ} 0 1 = t.once 0 (omega arith) in omega arith;
  twice = λ t. let h : ◌≡◌ {A = ℕ} 2 1 = t.once 0 (omega arith) in omega arith;
  itself = λ t. let r : Rising 0 0 (0 ∷ []) = t.rising 0 (omega arith) in let h = (lies r (omega arith)).1 in omega arith;
  earlier = λ t. let r : Rising 0 0 (1 ∷ []) = t.rising 0 (omega arith) in let h = (lies r (omega arith)).1 in omega arith;
  falling = λ t. let r : Rising 2 0 (1 ∷ 0 ∷ []) = t.rising 2 (omega arith) in let h = (lies (lies r (omega arith)).2 (omega arith)).0 in omega arith;
  parents = refl;
  root_zero = λ p. let h : ◌≡◌ {A = ℕ} 0 absent = p.root in omega arith;
  left_zero = λ p. let h : 0 < 0 = (p.parents 0 (omega arith)).later in omega arith;
  further = λ p. let h : ◌≡◌ {A = ℕ} 0 1 = (p.parents 0 (omega arith)).names in omega arith;
}
