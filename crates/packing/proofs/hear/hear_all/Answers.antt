-- `hear_all` meets its contract: the built-in names, and then statement by statement.
use Prim.Native.Nat.{ℕ, suc, ◌+◌, ◌*◌, ◌≤◌, ◌<◌}
use borrow.Author.Rules.{rules}
use native.Mathlib.Omega.{arith}
use mathlib.Core.Path.{◌≡◌, refl, ap, ◌∙◌}
use lib.ListN.{length, get_or}
use Rattle.grammar.specs.Naming.{height}
use Rattle.grammar.specs.Room.{link_width}
use Rattle.grammar.specs.Rows.{Rows}
use Rattle.parts.specs.Packed.{root_first, statement, statements}
use Rattle.packing.specs.Seen.{seen}
use Rattle.packing.proofs.Beginning.{begun, statement_heard, statement_dropped, some_heard}
use Rattle.packing.proofs.Rooting.{root_ends, statement_below, statement_is}
use Rattle.packing.proofs.hear.hear_all.Goals as goal
use Rattle.packing.proofs.hear.hear_all.Goals.{In-loop-j, then-kept-ne0, else-kept-ne0}

-- a turn of the loop
abbrev rows_at : In-loop-j → Rows
rows_at c = seen c.args.rows

-- the statement's link is there, and its row
there : (c : In-loop-j) → c.args.first + c.loop-j.j < root_first (rows_at c) + statements (rows_at c)
there c = let p = c.requires in omega (arith, p.list, p.all)

inside : (c : In-loop-j) → link_width * (c.args.first + c.loop-j.j) + link_width ≤ length c.args.rows.links.now
inside c = let g = c.requires.speaks.good in omega (arith, there c, root_ends g, g.links)

row_is : (c : In-loop-j) → get_or c.args.rows.links.now (link_width * (c.args.first + c.loop-j.j)) 0 ≡ statement (rows_at c) c.loop-j.j
row_is c = ap (λ (f : ℕ). get_or c.args.rows.links.now (link_width * (f + c.loop-j.j)) 0) c.requires.list

row_there : (c : In-loop-j) → statement (rows_at c) c.loop-j.j < height (rows_at c)
row_there c =
    let p = c.requires in
    let w = rows_at c in
    let j = c.loop-j.j in
    omega (arith, statement_below p.speaks.good j (omega (arith, p.all)), statement_is w j, p.speaks.good.checked.rooted.some)

pub hear_builtins-requires : goal.hear_builtins-requires
hear_builtins-requires c = let p = c.requires in omega (arith, p.builtins, p.speaks.room)

pub loop-j-init : goal.loop-j-init
loop-j-init c = (begun c.requires c.hear_builtins.ensures _, omega arith, refl, refl)

pub overflow_add-row : goal.overflow_add-row
overflow_add-row c = omega (arith, inside (goal.at.overflow_add-row c).In-loop-j)

pub overflow_mul-row : goal.overflow_mul-row
overflow_mul-row c = omega (arith, inside (goal.at.overflow_mul-row c).In-loop-j)

pub offset_bounds-rows-first : goal.offset_bounds-rows-first
offset_bounds-rows-first c = let l : link_width * (c.args.first + c.loop-j.j) < length c.args.rows.links.now = omega (arith, inside (goal.at.offset_bounds-rows-first c).In-loop-j) in search rules

pub bounds-rows-first : goal.bounds-rows-first
bounds-rows-first c = omega (arith, inside (goal.at.bounds-rows-first c).In-loop-j)

pub hear_row-known-requires : goal.hear_row-known-requires
hear_row-known-requires c =
    let t = (goal.at.hear_row-known-requires c).In-loop-j in
    let p = t.requires.speaks in
    let (h, i, j, k) = t.loop-j.invariant in
    (record { good = p.good; few = p.few; room = omega (arith, p.room, k, t.hear_builtins.auto.scratch) }, rw (row_is t) (row_there t), some_heard t.args.choice.now h)

pub loop-j-preserved : goal.loop-j-preserved
loop-j-preserved c =
    let t = (goal.at.loop-j-preserved c).In-loop-j in
    let l = c.loop-j in
    let a = c.args in
    let (h, i, m, k) = l.invariant in
    let z : l.j + 1 ≡ suc l.j = omega arith in
    elim c.if-kept-ne0.branch [
      | then-kept-ne0 w ↦ (rw (w.symbols-is, w.scratch-is, w.known-is, z) (statement_heard a.choice.now h w.if-kept-ne0.true (rw (row_is t) at w.hear_row-known.ensures)), omega arith, rw w.symbols-is (w.hear_row-known.auto.symbols ∙ m), rw w.scratch-is (w.hear_row-known.auto.scratch ∙ k))
      | else-kept-ne0 w ↦ (rw (w.symbols-is, w.scratch-is, w.known-is, z) (statement_dropped a.choice.now h w.if-kept-ne0.false), omega arith, rw w.symbols-is m, rw w.scratch-is k)
    ]

pub returns : goal.returns
returns c = let z : c.loop-j.j ≡ length c.args.choice.now = omega (arith, c.loop-j.invariant.1) in rw z at c.loop-j.invariant.0
