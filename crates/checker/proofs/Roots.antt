-- Kinds by their tests: rule 1 of a row, and rule 5 of the last.
use Prim.Native.Nat.{ℕ, ◌+◌, ◌-◌, ◌*◌, ◌≤◌}
use mathlib.Core.Bool.{true, false}
use mathlib.Core.List.{List}
use mathlib.Core.Path.{◌≡◌, refl, sym, ◌∙◌}
use native.Mathlib.Omega.{arith}
use borrow.Author.Tests.{leb-true, eqb-true, eq-eqb, ne_eqb, ltb-true, lt-ltb, le-leb}
use lib.Dec.{eqb, leb, ltb}
use lib.ListN.{get_or}
use Rattle.grammar.specs.Handle.{absent}
use Rattle.grammar.specs.Naming.{height}
use Rattle.grammar.specs.Room.{node_width}
use Rattle.foreign.specs.Check.{Rooted}
use Rattle.checker.specs.Slots.{rows}
use Rattle.checker.specs.Test.{known_kind, is_rooted}
use Rattle.checker.proofs.Items.{own_kind, own_number}
use Rattle.checker.proofs.Laws.{both_true, true_both}

module _ (ns : List ℕ) (i : ℕ) where
  abbrev kind : ℕ
  kind = get_or ns (node_width * i) 0

  pub kind_known : 1 ≤ kind → kind ≤ 26 → known_kind ns i ≡ true
  unfolding known_kind
  kind_known h l = rw (le-leb 1 kind h, le-leb kind 26 l) refl

  pub kind_means : known_kind ns i ≡ true → (1 ≤ kind) × (kind ≤ 26)
  unfolding known_kind
  kind_means e = let (a, b) = both_true (leb 1 kind) (leb kind 26) e in (leb-true 1 kind a, leb-true kind 26 b)

module _ (ns : List ℕ) (n : ℕ) where
  pub no_root : n ≡ 0 → false ≡ is_rooted ns n
  unfolding is_rooted
  no_root e = rw e refl

  module _ (some : n ≡ 0 → ⊥) where
    pub no_block : (get_or ns (node_width * (n - 1)) 0 ≡ 20 → ⊥) → false ≡ is_rooted ns n
    unfolding is_rooted
    no_block h = rw (lt-ltb 0 n (omega arith), ne_eqb (get_or ns (node_width * (n - 1)) 0) 20 h) refl

    pub a_block : get_or ns (node_width * (n - 1)) 0 ≡ 20 → eqb (get_or ns (node_width * (n - 1) + 5) 0) absent ≡ is_rooted ns n
    unfolding is_rooted
    a_block h = rw (lt-ltb 0 n (omega arith), eq-eqb (get_or ns (node_width * (n - 1)) 0) 20 h) refl

-- what the test of the last row means
module _ (ns ls : List ℕ) where
  pub rooted_means : is_rooted ns (height (rows ns ls)) ≡ true → Rooted (rows ns ls)
  unfolding is_rooted
  rooted_means e =
      let n = height (rows ns ls) in
      let (a, r) = both_true (ltb 0 n) _ e in
      let (b, c) = both_true (eqb (get_or ns (node_width * (n - 1)) 0) 20) _ r in
      record { some = ltb-true 0 n a; block = own_kind (n - 1) ns ls ∙ eqb-true _ 20 b; no_tail = own_number (n - 1) ns ls 5 (omega arith) ∙ eqb-true _ absent c }

  pub means_rooted : Rooted (rows ns ls) → is_rooted ns (height (rows ns ls)) ≡ true
  unfolding is_rooted
  means_rooted r =
      let n = height (rows ns ls) in
      true_both (lt-ltb 0 n r.some) (true_both (eq-eqb (get_or ns (node_width * (n - 1)) 0) 20 (sym (own_kind (n - 1) ns ls) ∙ r.block)) (eq-eqb (get_or ns (node_width * (n - 1) + 5) 0) absent (sym (own_number (n - 1) ns ls 5 (omega arith)) ∙ r.no_tail)))
