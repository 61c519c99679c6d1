-- What is written stays: a walk puts its rows and links behind those that were there, whatever the tree, and a row is read back as it was written.
use Prim.Native.Nat.{ℕ, ◌*◌, ◌≤◌}
use mathlib.Core.List.{List, [], ◌∷◌, ◌++◌, append_assoc}
use mathlib.Core.Path.{◌≡◌, sym, ap, ◌∙◌}
use native.Mathlib.Omega.{arith}
use lib.ListN.{length, take, drop, replicate, length-append, length-take, length-replicate}
use lib.Seq.{take_at, drop_at}
use Rattle.grammar.specs.Handle.{Handle}
use Rattle.grammar.specs.Label.{Label}
use Rattle.grammar.specs.Naming.{height}
use Rattle.grammar.specs.Parent.{own}
use Rattle.grammar.specs.Phrase.{Tree, none, more, deeper, made}
use Rattle.grammar.specs.Room.{node_width, own_width}
use Rattle.grammar.specs.Rows.{Rows, padded, fill, put, make, walk}
use Rattle.grammar.specs.Rule.{Field, Row, writes}
use Rattle.grammar.proofs.Decoding.{Whole, gathered, fill_nodes, fill_later}
use Rattle.grammar.proofs.Forest.{Later, later_self, later_both}

put_later : (k : ℕ) (r : Row) (w : Rows) → Later w (put k r w).rows
unfolding put
put_later k (writes s e fs) w = fill_later fs (k ∷ s ∷ e ∷ []) w

module _ (ts : List ℕ) (σ : ℕ → ℕ) where
  pub make_later : (l : Label) (a b : ℕ) (w : Rows) (xs ys : List Handle) → Later w (make ts σ l a b w xs ys).rows
  unfolding make
  make_later (Label.Row n) a b w xs ys = put_later _ _ w
  make_later Label.Script a b w xs ys = put_later _ _ w
  make_later Label.Ended a b w xs ys = later_self w
  make_later Label.Item a b w xs ys = later_self w
  make_later Label.Entry a b w xs ys = later_self w
  make_later Label.Name a b w xs ys = later_self w

  pub walk_later : (t : Tree Label) (w : Rows) → Later w (walk ts σ t w).rows
  unfolding walk
  walk_later none w = later_self w
  walk_later (more t u) w = later_both (walk_later t w) (walk_later u (walk ts σ t w).rows)
  walk_later (deeper t) w = walk_later t w
  walk_later (made l a b t) w = later_both (walk_later t w) (make_later l a b (walk ts σ t w).rows _ _)

pub taller : {w v : Rows} → Later w v → height w ≤ height v
taller {w} {v} l = omega (arith, ap length l.nodes.same, length-append w.nodes l.nodes.rest)

-- the row that fields write, in all rows U
pub own_row : (k s e : ℕ) (fs : List Field) {w : Rows} → Whole w → {U : Rows} → Later (fill fs (k ∷ s ∷ e ∷ []) w) U → own U (height w) ≡ k ∷ s ∷ e ∷ take 6 (gathered fs w ++ replicate own_width 0)
own_row k s e fs {w} h {U} n =
    let z = padded (k ∷ s ∷ e ∷ gathered fs w) in
    let r = n.nodes.rest in
    let q : U.nodes ≡ w.nodes ++ (z ++ r) = n.nodes.same ∙ rw (fill_nodes fs (k ∷ s ∷ e ∷ []) w) (append_assoc w.nodes z r) in
    let l : length (take own_width (k ∷ s ∷ e ∷ gathered fs w ++ replicate own_width 0)) ≡ own_width = simp (length-take, length-append, length-replicate) (omega arith) in
    ap (λ ns. take own_width (drop (node_width * height w) ns)) q ∙ ap (take own_width) (drop_at w.nodes (z ++ r) (node_width * height w) (sym h.nodes)) ∙ ap (take own_width) (append_assoc (take own_width (k ∷ s ∷ e ∷ gathered fs w ++ replicate own_width 0)) (0 ∷ []) r) ∙ take_at (take own_width (k ∷ s ∷ e ∷ gathered fs w ++ replicate own_width 0)) (0 ∷ r) own_width l
