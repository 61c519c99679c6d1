-- What is written for a tree does not change where its tokens stay where they are and their words have the same symbols, whatever else the list has.
use Prim.Native.Nat.{ℕ, ◌-◌, ◌≤◌}
use mathlib.Core.List.{List}
use mathlib.Core.Path.{◌≡◌, refl, ap}
use native.Mathlib.Omega.{arith}
use lib.Dec.{T}
use Rattle.grammar.specs.Edition.{Edition}
use Rattle.grammar.specs.Handle.{Handle, head}
use Rattle.grammar.specs.Label.{Node, Label, number_of}
use Rattle.grammar.specs.Phrase.{Tree}
use Rattle.grammar.specs.Rows.{Rows, put, make, walk}
use Rattle.grammar.specs.Rule.{rule}
use Rattle.grammar.specs.Token.{end}
use Rattle.grammar.proofs.Room.{cost}
use Rattle.parts.proofs.Kinship.{Kin, is_import, All}

module _ (ts ts' : List ℕ) (σ σ' : ℕ → ℕ) where
  -- the tokens of a node are the same in both
  pub record Still (l : Label) (a b : ℕ) : Type 0 where
    pub first : Kin ts ts' (λ i. i) (λ x. x) a
    pub word_is : σ' a ≡ σ a
    pub close : end ts' (b - 1) ≡ end ts (b - 1)
    pub after : T (is_import l) → end ts' b ≡ end ts b

  -- of a node that takes one
  abbrev pub Steady : Label → ℕ → ℕ → Type 0
  Steady l a b = 1 ≤ cost l → Still l a b

  rule_still : (n : Node) {a b : ℕ} → Still (Label.Row n) a b → (xs ys : List Handle) (x y : Handle) → rule ts' σ' n a b xs ys x y ≡ rule ts σ n a b xs ys x y
  unfolding rule
  rule_still Node.Binary h xs ys x y = rw h.first.kind_is
  rule_still Node.LogicalAnd h xs ys x y = refl
  rule_still Node.LogicalOr h xs ys x y = refl
  rule_still (Node.LogicalNot Edition.first) h xs ys x y = rw (h.first.start_is, h.first.end_is)
  rule_still (Node.LogicalNot Edition.second) h xs ys x y = rw h.first.start_is
  rule_still Node.Unary h xs ys x y = rw (h.first.kind_is, h.first.start_is)
  rule_still Node.Assign h xs ys x y = refl
  rule_still Node.Variable h xs ys x y = rw h.first.start_is
  rule_still Node.Constant h xs ys x y = rw h.first.start_is
  rule_still Node.Ref h xs ys x y = rw h.first.start_is
  rule_still Node.Identifier h xs ys x y = rw (h.first.start_is, h.first.end_is, h.word_is)
  rule_still Node.String h xs ys x y = rw (h.first.start_is, h.first.end_is, h.word_is)
  rule_still Node.Number h xs ys x y = rw (h.first.start_is, h.first.end_is)
  rule_still Node.Boolean h xs ys x y = rw (h.first.kind_is, h.first.start_is, h.first.end_is)
  rule_still Node.Nil h xs ys x y = rw (h.first.start_is, h.first.end_is)
  rule_still Node.FunctionCall h xs ys x y = rw (h.first.start_is, h.close)
  rule_still Node.PropertyAccess h xs ys x y = rw h.first.start_is
  rule_still Node.Map h xs ys x y = rw (h.first.start_is, h.close)
  rule_still Node.Function h xs ys x y = rw h.first.start_is
  rule_still Node.Lambda h xs ys x y = rw h.first.start_is
  rule_still Node.Block h xs ys x y = rw (h.first.start_is, h.close)
  rule_still Node.If h xs ys x y = rw h.first.start_is
  rule_still Node.WhileLoop h xs ys x y = rw h.first.start_is
  rule_still Node.Return h xs ys x y = rw (h.first.start_is, h.first.end_is)
  rule_still Node.Break h xs ys x y = rw (h.first.start_is, h.first.end_is)
  rule_still Node.Continue h xs ys x y = rw (h.first.start_is, h.first.end_is)
  rule_still Node.Import h xs ys x y = rw (h.first.start_is, h.after tt)

  make_still : (l : Label) {a b : ℕ} → Steady l a b → (w : Rows) (xs ys : List Handle) → make ts' σ' l a b w xs ys ≡ make ts σ l a b w xs ys
  unfolding make
  make_still (Label.Row n) h w xs ys = ap (λ r. put (number_of n) r w) (rule_still n (h (omega arith)) xs ys (head xs) (head ys))
  make_still Label.Script h w xs ys = refl
  make_still Label.Ended h w xs ys = refl
  make_still Label.Item h w xs ys = refl
  make_still Label.Entry h w xs ys = refl
  make_still Label.Name h w xs ys = let s = h (omega arith) in rw (s.word_is, s.first.start_is, s.first.end_is)

  pub walk_still : {t : Tree Label} → All Steady t → (w : Rows) → walk ts' σ' t w ≡ walk ts σ t w
  unfolding walk
  walk_still All.nothing w = refl
  walk_still (All.two {t = t} h i) w = rw (walk_still h w, walk_still i (walk ts σ t w).rows)
  walk_still (All.under h) w = walk_still h w
  walk_still (All.at {l = l} {t = t} p h) w = let r = walk ts σ t w in rw (walk_still h w) (make_still l p r.rows r.first r.rest)
