-- `drop` meets its contract: the counts that the check does not ask for, the check, the choice's length, and then all is packed.
use Prim.Native.Nat.{◌+◌, ◌-◌, ◌*◌, ◌≤◌}
use native.Mathlib.Omega.{arith}
use mathlib.Core.Path.{sym, ◌∙◌}
use lib.ListN.{length}
use lib.Seq.{length-take-le}
use Rattle.packing.specs.Answer.{Asked, Packs, rooms, asked}
use Rattle.packing.proofs.Telling.{lent, refused, Passes, passes, some, count_is, settleable, finished, wiped}
use Rattle.packing.proofs.drop.Goals as goal
use Rattle.packing.proofs.drop.Goals.{After-check-v, Else-v-ne0}

abbrev all : After-check-v → Asked
all c = let a = c.args in asked a.n a.m a.s a.builtins a.edition a.choice.now (rooms a.nodes.now a.links.now a.symbols.now a.scratch.now)

-- the counts that the check does not ask for
few : (c : After-check-v) → c.args.builtins ≤ c.args.s
few c = omega arith

enough : (c : After-check-v) → 2 * c.args.n + 2 * c.args.m + c.args.s ≤ length c.args.scratch.now
enough c = omega arith

passed : (c : Else-v-ne0) → (let a = c.args in Passes (asked a.n a.m a.s a.builtins a.edition a.choice.now (rooms a.nodes.now a.links.now a.symbols.now a.scratch.now)) (rooms a.nodes.now a.links.now a.symbols.now c.check-v.new.scratch))
passed c = let a = c.args in passes (asked a.n a.m a.s a.builtins a.edition a.choice.now (rooms a.nodes.now a.links.now a.symbols.now a.scratch.now)) c.check-v.ensures.says (omega arith)

pub returns-then-builtins-s : goal.returns-then-builtins-s
returns-then-builtins-s c = rw c.turned.ensures (record { says = Packs.past (λ l. omega (arith, l.builtins)) })

pub returns-then-scratch-n : goal.returns-then-scratch-n
returns-then-scratch-n c = rw c.turned-then-scratch-n.ensures (record { says = Packs.past (λ l. omega (arith, l.scratch)) })

pub returns-then-v-ne0 : goal.returns-then-v-ne0
returns-then-v-ne0 c = let t = (goal.at.returns-then-v-ne0 c).After-check-v in rw c.turned-then-v-ne0.ensures (record { says = refused (all t) (few t) (enough t) c.check-v.ensures.says c.if-v-ne0.true })

pub overflow_sub-high : goal.overflow_sub-high
overflow_sub-high c = omega (arith, some (all (goal.at.overflow_sub-high c).After-check-v) (passed (goal.at.overflow_sub-high c).Else-v-ne0))

pub bounds-nodes-high : goal.bounds-nodes-high
bounds-nodes-high c = let p = passed (goal.at.bounds-nodes-high c).Else-v-ne0 in omega (arith, some (all (goal.at.bounds-nodes-high c).After-check-v) p, p.lends.nodes)

pub overflow_cast-nodes : goal.overflow_cast-nodes
overflow_cast-nodes c = omega (arith, c.type_inv.nodes (10 * c.args.n - 10 + 4))

pub returns-then-choice-nodes : goal.returns-then-choice-nodes
returns-then-choice-nodes c =
    let t = (goal.at.returns-then-choice-nodes c).Else-v-ne0 in
    let k = (goal.at.returns-then-choice-nodes c).After-check-v in
    let p = passed t in
    rw c.turned-then-choice-nodes.ensures (record { says = rw p.same (Packs.miscounted (lent (all k) (few k) (enough k) p.lends) p.edition_right p.checked (λ e. c.if-choice-nodes.true (e ∙ sym (count_is (all k) p)))) })

pub slice_bounds-settle-end : goal.slice_bounds-settle-end
slice_bounds-settle-end c = (passed (goal.at.slice_bounds-settle-end c).Else-v-ne0).lends.nodes

pub slice_bounds-settle-end-2 : goal.slice_bounds-settle-end-2
slice_bounds-settle-end-2 c = sym (length-take-le _ _ (passed (goal.at.slice_bounds-settle-end-2 c).Else-v-ne0).lends.nodes)

pub slice_bounds-settle-end-3 : goal.slice_bounds-settle-end-3
slice_bounds-settle-end-3 c = (passed (goal.at.slice_bounds-settle-end-3 c).Else-v-ne0).lends.links

pub slice_bounds-settle-end-4 : goal.slice_bounds-settle-end-4
slice_bounds-settle-end-4 c = sym (length-take-le _ _ (passed (goal.at.slice_bounds-settle-end-4 c).Else-v-ne0).lends.links)

pub slice_bounds-settle-end-5 : goal.slice_bounds-settle-end-5
slice_bounds-settle-end-5 c = (passed (goal.at.slice_bounds-settle-end-5 c).Else-v-ne0).lends.symbols

pub slice_bounds-settle-end-6 : goal.slice_bounds-settle-end-6
slice_bounds-settle-end-6 c = sym (length-take-le _ _ (passed (goal.at.slice_bounds-settle-end-6 c).Else-v-ne0).lends.symbols)

pub settle-p-requires : goal.settle-p-requires
settle-p-requires c =
    let t = (goal.at.settle-p-requires c).Else-v-ne0 in
    let k = (goal.at.settle-p-requires c).After-check-v in
    let p = passed t in
    settleable (all k) p (few k) (enough k) (omega arith) (omega arith) (omega arith) (c.if-choice-nodes.false ∙ count_is (all k) p)

pub returns : goal.returns
returns c =
    let t = (goal.at.returns c).Else-v-ne0 in
    let k = (goal.at.returns c).After-check-v in
    let p = passed t in
    record { says = finished (all k) p (lent (all k) (few k) (enough k) p.lends) (c.if-choice-nodes.false ∙ count_is (all k) p) c.settle-p.ensures (wiped c.args.scratch.now c.clear.ensures (c.settle-p.auto.scratch ∙ c.check-v.auto.scratch)) }
