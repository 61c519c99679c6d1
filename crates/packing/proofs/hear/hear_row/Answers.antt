-- `hear_row` meets its contract: a walk with a stack, each step of which takes one from it.
use Prim.Native.Nat.{ℕ, suc, ◌+◌, ◌-◌, ◌*◌, ◌≤◌, ◌<◌}
use borrow.Author.Rules.{rules}
use native.Mathlib.Omega.{arith}
use mathlib.Core.List.{List, [], ◌∷◌}
use mathlib.Core.Path.{◌≡◌, refl, sym, ap, ◌∙◌}
use lib.ListN.{length, get_or, get_or-append}
use Rattle.grammar.specs.Naming.{height}
use Rattle.grammar.specs.Rows.{Rows}
use Rattle.foreign.specs.Check.{link_count}
use Rattle.parts.specs.Spoken.{Word, Part, row, parts_of, spoken}
use Rattle.packing.specs.Roles.{numbers_parts}
use Rattle.packing.specs.Seen.{seen}
use Rattle.packing.specs.Stack.{source, stacked, Pushed}
use Rattle.packing.proofs.Knowing.{room_left}
use Rattle.packing.proofs.Slots.{parts_all, stood}
use Rattle.packing.proofs.Stacking.{pushed_one, row_waits}
use Rattle.packing.proofs.Touring.{Tour, began, inside, ended, hearing_low, row_there, row_room, row_taken, row_steps, word_low, word_taken, word_steps, popped}
use Rattle.packing.proofs.hear.hear_row.Goals as goal
use Rattle.packing.proofs.hear.hear_row.Goals.{After-push-top, In-loop-top}

-- the start; a turn of the loop, and what is known there: the walk, with one that waits, and that it is within the room
abbrev rows_at : In-loop-top → Rows
rows_at c = seen c.args.rows

abbrev goal_at : In-loop-top → List Word
goal_at c = spoken (rows_at c) (height (rows_at c)) c.args.row

tour : (c : In-loop-top) → Tour c.args.s (rows_at c) (goal_at c) c.args.symbols.now c.split_at_mut-numbers.result.0.now c.args.count c.loop-top.symbols c.loop-top.numbers c.loop-top.known c.push-top.new.stack c.loop-top.stack (suc (c.loop-top.top - 1))
tour c = let z : c.loop-top.top ≡ suc (c.loop-top.top - 1) = omega arith in rw z at c.loop-top.invariant.0

lent : (c : In-loop-top) → 2 * (height (rows_at c) + link_count (rows_at c)) ≤ length c.push-top.new.stack
lent c = omega (arith, c.requires.0.room, c.push-top.auto.stack, c.split_at_mut-numbers.ensures.back_len)

fits : (c : In-loop-top) → 2 * c.loop-top.top ≤ length c.loop-top.stack
fits c = inside c.requires.0.good (lent c) c.loop-top.invariant.0

-- the room has a number for each symbol
numbers : (c : In-loop-top) → c.args.s ≤ length c.loop-top.numbers
numbers c = omega (arith, c.loop-top.auto.numbers, c.split_at_mut-numbers.ensures.front_len)

-- what is taken
abbrev Popped : (c : In-loop-top) → Part → Type 0
Popped c p = stacked (rows_at c) c.loop-top.stack (suc (c.loop-top.top - 1)) ≡ p ∷ stacked (rows_at c) c.loop-top.stack (c.loop-top.top - 1)

taken : (c : In-loop-top) {p : Part} → p ≡ source (rows_at c) (get_or c.loop-top.stack (2 * (c.loop-top.top - 1)) 0) (get_or c.loop-top.stack (2 * (c.loop-top.top - 1) + 1) 0) → Popped c p
taken c e = popped _ _ _ e

-- what a row holds, number by number
held : (c : In-loop-top) {i : ℕ} → Popped c (row i) → numbers_parts c.args.rows.nodes.now c.args.rows.links.now i 0 9 ≡ parts_of (rows_at c) i
held c {i} e = parts_all (rows_at c) i (stood c.requires.0.good (row_there c.requires.0.good (tour c) e))

-- the row that the walk begins at waits
entered : (c : After-push-top) → Pushed (seen c.args.rows) 0 (row c.args.row ∷ []) c.split_at_mut-numbers.result.1.now c.push-top.new.stack c.push-top.result
entered c =
    let g = c.requires.0.good in
    pushed_one _ _ _ _ (omega (arith, c.requires.0.room, g.checked.rooted.some, c.split_at_mut-numbers.ensures.back_len)) (row_waits _ (λ e. omega (arith, g.short, c.requires.1))) c.push-top.ensures

-- the numbers of the symbols are those that were lent
front : (c : After-push-top) (x : ℕ) → x < c.args.s → get_or c.split_at_mut-numbers.result.0.now x 0 ≡ get_or c.args.scratch.now x 0
front c x l =
    let v = c.split_at_mut-numbers.ensures in
    sym (ap (λ (zs : List ℕ). get_or zs x 0) v.value ∙ get_or-append c.split_at_mut-numbers.result.0.now c.split_at_mut-numbers.result.1.now 0 x (omega (arith, v.front_len)))

-- so an index is below the length that was lent
below : (c : In-loop-top) (i : ℕ) → i < 2 * c.loop-top.top → i < length c.args.scratch.now
below c i h = omega (arith, fits c, (tour c).same, c.push-top.auto.stack, c.split_at_mut-numbers.ensures.back_len)

pub push-top-requires : goal.push-top-requires
push-top-requires c = omega (arith, c.requires.0.room, c.requires.0.good.checked.rooted.some, c.split_at_mut-numbers.ensures.back_len)

pub loop-top-init : goal.loop-top-init
loop-top-init c = (began c.requires.0.good c.requires.1 (entered (goal.at.loop-top-init c).After-push-top), refl)

pub overflow_mul-top : goal.overflow_mul-top
overflow_mul-top c = omega (arith, fits (goal.at.overflow_mul-top c).In-loop-top)

pub offset_bounds-stack-top : goal.offset_bounds-stack-top
offset_bounds-stack-top c = let l = below (goal.at.offset_bounds-stack-top c).In-loop-top (2 * (c.loop-top.top - 1)) (omega arith) in search rules

pub bounds-stack-top : goal.bounds-stack-top
bounds-stack-top c = omega (arith, fits (goal.at.bounds-stack-top c).In-loop-top)

pub overflow_mul-top-in-loop-top : goal.overflow_mul-top-in-loop-top
overflow_mul-top-in-loop-top c = omega (arith, fits (goal.at.overflow_mul-top-in-loop-top c).In-loop-top)

pub overflow_add-top : goal.overflow_add-top
overflow_add-top c = omega (arith, fits (goal.at.overflow_add-top c).In-loop-top)

pub offset_bounds-stack-top-in-loop-top : goal.offset_bounds-stack-top-in-loop-top
offset_bounds-stack-top-in-loop-top c = let l = below (goal.at.offset_bounds-stack-top-in-loop-top c).In-loop-top (2 * (c.loop-top.top - 1) + 1) (omega arith) in search rules

pub bounds-stack-top-in-loop-top : goal.bounds-stack-top-in-loop-top
bounds-stack-top-in-loop-top c = omega (arith, fits (goal.at.bounds-stack-top-in-loop-top c).In-loop-top)

pub push_parts-top-requires : goal.push_parts-top-requires
push_parts-top-requires c =
    let t = (goal.at.push_parts-top-requires c).In-loop-top in
    let g = t.requires.0.good in
    let e = taken t c.in-Row.ensures in
    (record { symbols = _; good = g }, row_there g (tour t) e, rw (held t e) (row_room g (tour t) e (lent t)))

pub loop-top-smaller-in-Row : goal.loop-top-smaller-in-Row
loop-top-smaller-in-Row c =
    let t = (goal.at.loop-top-smaller-in-Row c).In-loop-top in
    let e = taken t c.in-Row.ensures in
    let z : suc (t.loop-top.top - 1) ≡ t.loop-top.top = omega arith in
    rw z at (row_steps t.requires.0.good (tour t) e (rw (held t e) at c.push_parts-top.ensures))

pub loop-top-preserved-in-Row : goal.loop-top-preserved-in-Row
loop-top-preserved-in-Row c =
    let t = (goal.at.loop-top-preserved-in-Row c).In-loop-top in
    let e = taken t c.in-Row.ensures in
    (row_taken t.requires.0.good (tour t) e (rw (held t e) at c.push_parts-top.ensures) c.push_parts-top.auto.stack, t.loop-top.invariant.1)

pub hear-known-requires : goal.hear-known-requires
hear-known-requires c =
    let t = (goal.at.hear-known-requires c).In-loop-top in
    let l = word_low t.requires.0.good (tour t) (taken t c.in-Said.ensures) in
    let h = (tour t).hears.says (hearing_low (front (goal.at.hear-known-requires c).After-push-top) t.requires.2.hearing) in
    (omega (arith, numbers t), λ z. (let k = room_left h c.in-Said.word.symbol l z in (omega (arith, h.room), omega (arith, t.requires.0.few))))

pub loop-top-smaller : goal.loop-top-smaller
loop-top-smaller c =
    let t = (goal.at.loop-top-smaller c).In-loop-top in
    let z : suc (t.loop-top.top - 1) ≡ t.loop-top.top = omega arith in
    rw z at (word_steps t.requires.0.good (tour t) (taken t c.in-Said.ensures))

pub loop-top-preserved : goal.loop-top-preserved
loop-top-preserved c =
    let t = (goal.at.loop-top-preserved c).In-loop-top in
    (word_taken t.requires.0.good (tour t) (taken t c.in-Said.ensures) (numbers t) c.hear-known.ensures, c.hear-known.auto.symbols ∙ t.loop-top.invariant.1)

pub returns : goal.returns
returns c =
    let v = c.split_at_mut-numbers.ensures in
    let w = ended c.requires.0.good (omega arith) c.loop-top.invariant.0 in
    record { says = λ h. hearing_low (λ x l. get_or-append c.loop-top.numbers c.loop-top.stack 0 x (omega (arith, c.loop-top.auto.numbers, v.front_len))) (w.says (hearing_low (front (goal.at.returns c).After-push-top) h)) }
