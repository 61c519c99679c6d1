-- `push` meets its contract: what is there of the list grows from its end. The measure is what is left of it.
use Prim.Native.Nat.{ℕ, ◌+◌, ◌*◌, ◌-◌, ◌<◌}
use mathlib.Core.Path.{◌≡◌, sym, subst, ◌∙◌}
use native.Mathlib.Omega.{arith}
use lib.ListN.{get_or}
use Rattle.expected.specs.Tables.{lengths, lists, tables}
use Rattle.expected.proofs.Lent.{in_lengths, in_lists}
use Rattle.expected.proofs.Laws.{Piling, piling, piled_down, pushed, number}
use Rattle.expected.proofs.tables.push.Goals as goal

-- what is read from the tables
sized : {r : ℕ} (k : ℕ) → k < 171 → r ≡ get_or tables (2646 + k) 0 → r ≡ get_or lengths k 0
sized k h i = i ∙ in_lengths k h

taken : {r : ℕ} (i : ℕ) → r ≡ get_or tables (2817 + i) 0 → r ≡ get_or lists i 0
taken i h = h ∙ in_lists i

pub loop-i-init : goal.loop-i-init
loop-i-init c =
    let a = c.args in
    subst (λ n. Piling a.list a.at a.top a.room.now a.room.now (8 * a.list + n) a.top) (sym (sized a.list c.requires.list_bound (c.from-length.ensures ∙ c.number.ensures))) (piling a.list a.at a.top a.room.now c.requires.list_bound)

pub number-requires-in-loop-i : goal.number-requires-in-loop-i
number-requires-in-loop-i c = let p = c.loop-i.invariant in omega (arith, p.high, p.few, p.listed)

pub cell-requires : goal.cell-requires
cell-requires c =
    let l = c.loop-i in
    let p = l.invariant in
    let n = (number (l.i - 1) (omega (arith, p.high, p.few, p.listed))).1 in record { v_bound = omega (arith, n, taken (l.i - 1) (c.from.ensures ∙ c.number-in-loop-i.ensures)); at_bound = c.requires.at_bound }

pub loop-i-preserved : goal.loop-i-preserved
loop-i-preserved c =
    let l = c.loop-i in
    piled_down l.i l.t l.invariant c.loop-i-test.true c.requires.le_top c.requires.top_in_bounds (rw (taken (l.i - 1) (c.from.ensures ∙ c.number-in-loop-i.ensures)) at c.cell.ensures)

pub returns : goal.returns
returns c = pushed c.loop-i-test.false c.loop-i.invariant
