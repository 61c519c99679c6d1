-- `family` meets its contract: each arm claims what the pieces of its kinds name.
use mathlib.Core.Logic.{⊎_elim}
use mathlib.Core.Path.{refl}
use Rattle.grammar.specs.Layout.{layout}
use Rattle.grammar.proofs.Pieces.{pieces, left_pair, left_binding, left_none, none_below}
use Rattle.parents.proofs.Laws.{names_none, names_one, names_two, names_three, names_row_list, names_list_row, names_entries, leaf_none}
use Rattle.parents.proofs.family.Goals as goal
use Rattle.parents.proofs.family.Goals.{in-6-1, in_default+else-kind-lt1+then-kind-lt4}

pub returns-then-is_leaf : goal.returns-then-is_leaf
returns-then-is_leaf c = names_none _ _ _ (leaf_none _ c.is_leaf.ensures c.if-is_leaf.true) refl

pub returns-in-1 : goal.returns-in-1
unfolding layout pieces
returns-in-1 c = names_two _ _ _ 1 2 (rw c.in-1.is refl) c.take_two.ensures

pub returns-in-4 : goal.returns-in-4
unfolding layout pieces
returns-in-4 c = names_one _ _ _ 0 (⊎_elim (λ e. rw e refl) (λ w. ⊎_elim (λ e. rw e refl) (λ e. rw e refl) w) c.in-4.is) c.take.ensures

pub returns-in-5 : goal.returns-in-5
unfolding layout pieces
returns-in-5 c = names_one _ _ _ 1 (rw c.in-5.is refl) c.take-in-5.ensures

pub returns-in-15 : goal.returns-in-15
unfolding layout pieces
returns-in-15 c = names_row_list _ _ _ 0 1 (rw c.in-15.is refl) c.take-in-15.ensures c.take_listed.ensures

pub returns-in-17 : goal.returns-in-17
unfolding layout pieces
returns-in-17 c = names_entries _ _ _ 0 (rw c.in-17.is refl) c.take_listed-in-17.ensures

pub returns-in-18 : goal.returns-in-18
unfolding layout pieces
returns-in-18 c = names_one _ _ _ 5 (rw c.in-18.is refl) c.take-in-18.ensures

pub returns-in-19 : goal.returns-in-19
unfolding layout pieces
returns-in-19 c = names_one _ _ _ 2 (rw c.in-19.is refl) c.take-in-19.ensures

pub returns-in-20 : goal.returns-in-20
unfolding layout pieces
returns-in-20 c = names_list_row _ _ _ 0 2 (rw c.in-20.is refl) c.take_listed-in-20.ensures c.take-in-20.ensures

pub returns-in-21 : goal.returns-in-21
unfolding layout pieces
returns-in-21 c = names_three _ _ _ 0 1 2 (rw c.in-21.is refl) c.take_two-in-21.ensures c.take-in-21.ensures

pub returns-in-7-to-9 : goal.returns-in-7-to-9
returns-in-7-to-9 c =
    let h = c.in-7-to-9 in
    names_one _ _ _ 3 (left_binding h.in_default-own.rest h.if-kind-lt4-own.false h.if-kind-lt10-own.true) c.take-in-7-to-9.ensures

pub returns-in_default : goal.returns-in_default
returns-in_default c = names_none _ _ _ (none_below c.in_default.if-kind-lt1-own.true) refl

pub returns-in_default-2 : goal.returns-in_default-2
returns-in_default-2 c = names_none _ _ _ (left_none c.in_default.in_default-own.rest c.in_default.if-kind-lt10-own.false) refl

pub returns-in-2 : goal.returns-in-2
unfolding layout pieces
returns-in-2 c =
    names_two _ _ _ 0 1
    (elim c.in-2-1.branch [
      | in-6-1 w ↦ ⊎_elim (λ e. rw e refl) (λ e. rw e refl) w.in-6-1.keys2
      | in_default+else-kind-lt1+then-kind-lt4 w ↦ left_pair w.in_default-1.rest w.if-kind-lt1-1.false w.if-kind-lt4-1.true
    ])
    c.take_two-in-2.ensures
