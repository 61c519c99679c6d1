-- `below` meets its contract: the numbers that each kind's children stand in are those that its layout names.
use Prim.Native.Nat.{ℕ, ◌+◌, ◌*◌, ◌<◌}
use native.Mathlib.Omega.{arith}
use mathlib.Core.List.{List}
use mathlib.Core.Logic.{⊎_elim}
use mathlib.Core.Path.{◌≡◌, refl, ◌∙◌}
use lib.ListN.{get_or}
use Rattle.grammar.specs.Edition.{Edition}
use Rattle.grammar.specs.Layout.{layout}
use Rattle.grammar.proofs.Pieces.{pieces, left_pair, left_binding, none_below, left_none}
use Rattle.grammar.specs.Room.{node_width}
use Rattle.children.specs.Below.{Number, placed, Below}
use Rattle.children.specs.declared.Children.{Children}
use Rattle.children.proofs.Laws.{after, field, by_kind, no_room, no_piece, one_row, two_rows, three_rows, row_list, list_row, entry_list}
use Rattle.children.proofs.below.Goals as goal
use Rattle.children.proofs.below.Goals.{After-node-c, in-6-1, in_default+else-this-lt1+then-this-lt4, in_default-via-then-this-lt1, in_default-via-else-this-lt1+else-this-lt4+else-this-lt10}

-- the row's numbers after kind and span, where the first three of them are read
abbrev xs : After-node-c → List ℕ
xs m = after m.args.nodes.now m.args.row

-- number j of them
there : (m : After-node-c) {y : ℕ} (j : ℕ) → Number m.args.nodes.now (node_width * m.args.row + (3 + j)) y → 3 + j < node_width → y ≡ get_or (xs m) j 0
there m j n h = field m.args.row m.if-nodes-row.false j n h

-- the first three
a : (m : After-node-c) → m.node-a.result ≡ get_or (xs m) 0 0
a m = there m 0 m.node-a.ensures (omega arith)

b : (m : After-node-c) → m.node-b.result ≡ get_or (xs m) 1 0
b m = there m 1 m.node-b.ensures (omega arith)

d : (m : After-node-c) → m.node-c.result ≡ get_or (xs m) 2 0
d m = there m 2 m.node-c.ensures (omega arith)

-- the kind is read after them
met : (m : After-node-c) {k : ℕ} {r : Children} → Number m.args.nodes.now (node_width * m.args.row + 0) k → r ≡ placed (layout Edition.second k) (xs m) → Below m.args.nodes.now m.args.row r
met m n e = by_kind m.args.row m.if-nodes-row.false n e

pub returns-then-nodes-row : goal.returns-then-nodes-row
returns-then-nodes-row c = no_room c.if-nodes-row.true c.fixed.ensures

pub returns-in-1 : goal.returns-in-1
unfolding layout pieces
returns-in-1 c = let m = (goal.at.returns-in-1 c).After-node-c in met m c.node.ensures (c.fixed-in-1.ensures ∙ two_rows (xs m) c.node.result 1 2 (rw c.in-1.is refl) (b m) (d m))

pub returns-in-4 : goal.returns-in-4
unfolding layout pieces
returns-in-4 c = let m = (goal.at.returns-in-4 c).After-node-c in met m c.node.ensures (c.fixed-in-4.ensures ∙ one_row (xs m) c.node.result 0 (⊎_elim (λ e. rw e refl) (λ w. ⊎_elim (λ e. rw e refl) (λ e. rw e refl) w) c.in-4.is) (a m))

pub returns-in-5 : goal.returns-in-5
unfolding layout pieces
returns-in-5 c = let m = (goal.at.returns-in-5 c).After-node-c in met m c.node.ensures (c.fixed-in-5.ensures ∙ one_row (xs m) c.node.result 1 (rw c.in-5.is refl) (b m))

pub returns-in-15 : goal.returns-in-15
unfolding layout pieces
returns-in-15 c = let m = (goal.at.returns-in-15 c).After-node-c in met m c.node.ensures (c.listed.ensures ∙ row_list (xs m) c.node.result 0 1 (rw c.in-15.is refl) (a m) (b m) (d m))

pub returns-in-17 : goal.returns-in-17
unfolding layout pieces
returns-in-17 c = let m = (goal.at.returns-in-17 c).After-node-c in met m c.node.ensures (c.listed-in-17.ensures ∙ entry_list (xs m) c.node.result 0 (rw c.in-17.is refl) (a m) (b m))

pub returns-in-18 : goal.returns-in-18
unfolding layout pieces
returns-in-18 c = let m = (goal.at.returns-in-18 c).After-node-c in met m c.node.ensures (c.fixed-in-18.ensures ∙ one_row (xs m) c.node.result 5 (rw c.in-18.is refl) (there m 5 c.node-in-18.ensures (omega arith)))

pub returns-in-19 : goal.returns-in-19
unfolding layout pieces
returns-in-19 c = let m = (goal.at.returns-in-19 c).After-node-c in met m c.node.ensures (c.fixed-in-19.ensures ∙ one_row (xs m) c.node.result 2 (rw c.in-19.is refl) (d m))

pub returns-in-20 : goal.returns-in-20
unfolding layout pieces
returns-in-20 c = let m = (goal.at.returns-in-20 c).After-node-c in met m c.node.ensures (c.listed-in-20.ensures ∙ list_row (xs m) c.node.result 0 2 (rw c.in-20.is refl) (a m) (b m) (d m))

pub returns-in-21 : goal.returns-in-21
unfolding layout pieces
returns-in-21 c = let m = (goal.at.returns-in-21 c).After-node-c in met m c.node.ensures (c.fixed-in-21.ensures ∙ three_rows (xs m) c.node.result 0 1 2 (rw c.in-21.is refl) (a m) (b m) (d m))

pub returns-in-7-to-9 : goal.returns-in-7-to-9
returns-in-7-to-9 c =
    let m = (goal.at.returns-in-7-to-9 c).After-node-c in met m c.node.ensures (c.fixed-in-7-to-9.ensures ∙ one_row (xs m) c.node.result 3 (left_binding c.in-7-to-9.in_default-own.rest c.in-7-to-9.if-this-lt4-own.false c.in-7-to-9.if-this-lt10-own.true) (there m 3 c.node-in-7-to-9.ensures (omega arith)))

pub returns-in_default : goal.returns-in_default
returns-in_default c = let m = (goal.at.returns-in_default c).After-node-c in met m c.node.ensures (c.fixed-in_default.ensures ∙ no_piece (xs m) c.node.result
    (elim c.in_default.branch [
      | in_default-via-then-this-lt1 w ↦ none_below w.if-this-lt1-1.true
      | in_default-via-else-this-lt1+else-this-lt4+else-this-lt10 w ↦ left_none c.in_default-1.rest w.if-this-lt10-1.false
    ]))

pub returns-in-2 : goal.returns-in-2
unfolding layout pieces
returns-in-2 c = let m = (goal.at.returns-in-2 c).After-node-c in met m c.node.ensures (c.fixed-in-2.ensures ∙ two_rows (xs m) c.node.result 0 1
    (elim c.in-2-1.branch [
      | in-6-1 w ↦ ⊎_elim (λ e. rw e refl) (λ e. rw e refl) w.in-6-1.keys2
      | in_default+else-this-lt1+then-this-lt4 w ↦ left_pair w.in_default-1.rest w.if-this-lt1-1.false w.if-this-lt4-1.true
    ])
    (a m) (b m))
