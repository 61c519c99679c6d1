-- `is_inside` meets its contract: the whole text matches exactly where what is left does, byte after byte, or two after a backslash.
use mathlib.Core.List.{List, ◌∷◌}
use mathlib.Core.Path.{sym, ap, ◌∙◌}
use Prim.Native.Nat.{ℕ, ◌-◌}
use mathlib.Core.Bool.{not, ◌&&◌}
use mathlib.Core.Path.{◌≡◌}
use lib.Dec.{eqb}
use borrow.Author.Tests.{ne_eqb}
use lib.ListN.{length, get_or, take, drop}
use Rattle.grammar.specs.Derivative.{matches}
use Rattle.lexeme.specs.Parts.{inside}
use Rattle.lexeme.proofs.Texts.{opened, emptied, nothing_left, inside_quote, inside_plain, inside_cut, inside_escape, inside_open}
use Rattle.lexeme.proofs.is_inside.Goals as goal
use Rattle.lexeme.proofs.is_inside.Goals.{In-len1-up-rest}

-- after a backslash at the byte that follows it
escaped : (c : In-len1-up-rest) → let l = c.loop-left.left.now in let r = take (length l - 1) (drop 1 l) in matches inside c.args.word.now ≡ (not (eqb (get_or r 0 0) 10) && matches inside (take (length r - 1) (drop 1 r)))
escaped c =
    let l = c.loop-left.left.now in
    c.loop-left.invariant ∙ ap (matches inside) (opened l c.in-len1-up.len_at_least) ∙ ap (λ (r : List ℕ). matches inside (get_or l 0 0 ∷ r)) (opened _ c.in-len1-up-rest.len_at_least) ∙ inside_escape _ _ _ c.if-here-ne92.false

pub returns-then-here-eq34 : goal.returns-then-here-eq34
returns-then-here-eq34 c =
    let here = ap (matches inside) (opened c.loop-left.left.now c.in-len1-up.len_at_least) in
    c.is_empty.ensures ∙ nothing_left _ ∙ sym (c.loop-left.invariant ∙ here ∙ inside_quote _ _ c.if-here-eq34.true)

pub loop-left-preserved-then-here-ne92 : goal.loop-left-preserved-then-here-ne92
loop-left-preserved-then-here-ne92 c =
    let here = ap (matches inside) (opened c.loop-left.left.now c.in-len1-up.len_at_least) in
    c.loop-left.invariant ∙ here ∙ inside_plain _ _ c.if-here-eq34.false c.if-here-ne92.true

pub returns-in_default-rest : goal.returns-in_default-rest
returns-in_default-rest c =
    let here = ap (matches inside) (opened c.loop-left.left.now c.in-len1-up.len_at_least) in
    sym (c.loop-left.invariant ∙ here ∙ ap (λ (l : List ℕ). matches inside (get_or c.loop-left.left.now 0 0 ∷ l)) (emptied c.in_default-rest.len_below) ∙ inside_cut _ c.if-here-ne92.false)

pub returns-then-next-eq10 : goal.returns-then-next-eq10
returns-then-next-eq10 c = sym (escaped (goal.at.returns-then-next-eq10 c).In-len1-up-rest ∙ rw c.if-next-eq10.true)

pub loop-left-preserved : goal.loop-left-preserved
loop-left-preserved c = escaped (goal.at.loop-left-preserved c).In-len1-up-rest ∙ rw (ne_eqb _ 10 c.if-next-eq10.false)

pub returns : goal.returns
returns c = sym (c.loop-left.invariant ∙ ap (matches inside) (emptied c.in_default.len_below) ∙ inside_open)
