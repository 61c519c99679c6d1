-- `push_parts` meets its contract: from the last number to the first, what came is what the numbers from here on hold.
use Prim.Native.Nat.{ℕ, ◌+◌, ◌-◌, ◌*◌, ◌≤◌}
use native.Mathlib.Omega.{arith}
use mathlib.Core.List.{List}
use mathlib.Core.Path.{◌≡◌, refl, ap, ◌∙◌}
use lib.ListN.{length, get_or}
use Rattle.grammar.specs.Room.{node_width}
use Rattle.packing.specs.Roles.{role, role_at, number_parts, numbers_parts}
use Rattle.packing.specs.Stack.{present}
use Rattle.packing.proofs.Ranges.{holds}
use Rattle.packing.proofs.Stacking.{pushed_none, none_present, pushed_both, present_both, add_zero, none_after, number_more, numbers_ask}
use Rattle.packing.proofs.stack.push_parts.Goals as goal

-- what one number more asks, where there is room for all nine
one_more : (ns ls : List ℕ) (i j k : ℕ) → k ≡ j + 1 → k ≤ 9 → length (present (number_parts ns ls i j (role_at ns i j))) + length (present (numbers_parts ns ls i k (9 - k))) ≤ length (present (numbers_parts ns ls i 0 9))
one_more ns ls i j k e h =
    let z : j + (9 - j) ≡ 9 = omega arith in
    let y : 0 + j ≡ j = omega arith in
    omega (arith, numbers_ask ns ls i 0 j (9 - j), ap (λ n. length (present (numbers_parts ns ls i 0 n))) z, ap (λ n. length (present (numbers_parts ns ls i n (9 - j)))) y, ap (λ ps. length (present ps)) (number_more ns ls i j k e h), present_both (number_parts ns ls i j (role_at ns i j)) (numbers_parts ns ls i k (9 - k)))

-- the kind is read without a 0 added
kind_is : (ns : List ℕ) (i j : ℕ) → role (get_or ns (node_width * i) 0) j ≡ role_at ns i j
kind_is ns i j = rw (add_zero (node_width * i)) refl

pub loop-j-init : goal.loop-j-init
loop-j-init c = let a = c.args in (pushed_none _ _ _ (rw (none_after a.rows.nodes.now a.rows.links.now a.row 9) none_present), omega arith, refl)

pub push_number-above-requires : goal.push_number-above-requires
push_number-above-requires c =
    let l = c.loop-j in
    let s = c in
    let a = s.args in
    let (p, q, r) = l.invariant in
    let e = c.at.ensures ∙ kind_is a.rows.nodes.now a.row (l.j - 1) in
    rw e (holds s.requires.0 s.requires.1 (l.j - 1) (omega arith), omega (arith, s.requires.2, p.many, r, one_more a.rows.nodes.now a.rows.links.now a.row (l.j - 1) l.j (omega arith) q))

pub loop-j-preserved : goal.loop-j-preserved
loop-j-preserved c =
    let l = c.loop-j in
    let a = c.args in
    let (p, q, r) = l.invariant in
    let e = c.at.ensures ∙ kind_is a.rows.nodes.now a.row (l.j - 1) in
    (rw (number_more a.rows.nodes.now a.rows.links.now a.row (l.j - 1) l.j (omega arith) q) (pushed_both _ _ p (rw e at c.push_number-above.ensures)), omega arith, c.push_number-above.auto.stack ∙ r)
