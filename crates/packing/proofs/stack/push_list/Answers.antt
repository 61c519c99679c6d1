-- `push_list` meets its contract: from the last link to the first, those that came are the list from here on.
use Prim.Native.Nat.{ℕ, ◌+◌, ◌-◌, ◌≤◌}
use native.Mathlib.Omega.{arith}
use mathlib.Core.Path.{◌≡◌, refl, ap, ◌∙◌}
use mathlib.Core.List.{List}
use lib.ListN.{length}
use Rattle.packing.specs.Digits.{digit}
use Rattle.packing.specs.Roles.{link_parts, list_parts}
use Rattle.packing.specs.Stack.{present}
use Rattle.packing.proofs.Stacking.{pushed_none, pushed_both, present_both, none_present, none_left, list_more, list_rest}
use Rattle.packing.proofs.stack.push_list.Goals as goal

-- what one link more asks, where there is room for all
one_more : (sort : ℕ) (ls : List ℕ) (from count left k : ℕ) → k ≡ left + 1 → k ≤ count → length (present (link_parts sort ls (from + left))) + length (present (list_parts sort ls (from + k) (count - k))) ≤ length (present (list_parts sort ls from count))
one_more sort ls from count left k e h = omega (arith, list_rest sort ls from count left (count - left) (omega arith), ap (λ ps. length (present ps)) (list_more sort ls from count left k e h), present_both (link_parts sort ls (from + left)) (list_parts sort ls (from + k) (count - k)))

pub loop-left-init : goal.loop-left-init
loop-left-init c = let a = c.args in (rw (none_left (digit a.role) a.rows.links.now a.from a.count a.count refl) (pushed_none _ _ _ none_present), omega arith, refl)

pub push_link-above-requires : goal.push_link-above-requires
push_link-above-requires c =
    let l = c.loop-left in
    let s = c in
    let a = s.args in
    let (p, q, r) = l.invariant in
    (omega (arith, s.requires.0), omega (arith, s.requires.2, p.many, r, one_more (digit a.role) a.rows.links.now a.from a.count (l.left - 1) l.left (omega arith) q))

pub loop-left-preserved : goal.loop-left-preserved
loop-left-preserved c =
    let l = c.loop-left in
    let a = c.args in
    let (p, q, r) = l.invariant in
    (rw (list_more (digit a.role) a.rows.links.now a.from a.count (l.left - 1) l.left (omega arith) q) (pushed_both _ _ p c.push_link-above.ensures), omega arith, c.push_link-above.auto.stack ∙ r)
