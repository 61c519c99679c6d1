-- The word that a part of the stack stands for, from the numbers that are read.
use Prim.Native.Nat.{ℕ, ◌+◌, ◌-◌, ◌*◌, ◌≤◌, ◌<◌}
use native.Mathlib.Omega.{arith}
use mathlib.Core.Path.{◌≡◌, refl}
use lib.ListN.{get_or}
use borrow.Author.Tests.{ne_eqb, lt-ltb, le-ltb}
use Rattle.grammar.specs.Room.{node_width, link_width}
use Rattle.grammar.specs.Rows.{Rows}
use Rattle.parts.specs.Spoken.{Word, said, word, row, inside_from, inside_upto}
use Rattle.packing.specs.Stack.{source}
use Rattle.packing.proofs.Stacking.{add_zero}

module _ (w : Rows) {t : ℕ} (x : ℕ) where
  pub row_meant : t ≡ 0 → row x ≡ source w t x
  unfolding source
  row_meant e = rw e refl

  module _ {v : Word} where
    pub link_meant : t ≡ 1 → v ≡ said (get_or w.links (link_width * x) 0) (get_or w.links (link_width * x + 1) 0) (get_or w.links (link_width * x + 2) 0) → word v ≡ source w t x
    unfolding source
    link_meant e f = rw (e, f, add_zero (link_width * x)) refl

    pub name_meant : 2 ≤ t → t < 16 → v ≡ said (get_or w.nodes (node_width * x + t) 0) (get_or w.nodes (node_width * x + t + 1) 0) (get_or w.nodes (node_width * x + t + 2) 0) → word v ≡ source w t x
    unfolding source
    name_meant h l f =
        let p : node_width * x + (t + 1) ≡ node_width * x + t + 1 = omega arith in
        let q : node_width * x + (t + 2) ≡ node_width * x + t + 2 = omega arith in
        rw (ne_eqb t 0 (λ e. omega arith), ne_eqb t 1 (λ e. omega arith), lt-ltb t 16 l, f, p, q) refl

    pub string_meant : {a s e : ℕ} → 16 ≤ t → a ≡ get_or w.nodes (node_width * x + (t - 16)) 0 → s ≡ get_or w.nodes (node_width * x + 1) 0 → e ≡ get_or w.nodes (node_width * x + 2) 0 → v ≡ said a (inside_from s) (inside_upto e) → word v ≡ source w t x
    unfolding source
    string_meant l f g h i = rw (ne_eqb t 0 (λ q. omega arith), ne_eqb t 1 (λ q. omega arith), le-ltb t 16 l, i, f, g, h) refl
