-- `one_script` meets its contract: the parts of script i are there, the single call is made on them, wherever its tokens come from, and what it leaves in them is a step.
use native.Mathlib.Omega.{arith}
use mathlib.Core.Path.{refl}
use Rattle.grammar.specs.Builtin.{builtins}
use Rattle.scripts.specs.Joined.{lent, joined}
use Rattle.scripts.specs.Steps.{Placed}
use Rattle.scripts.proofs.Cuts.{Places, places}
use Rattle.scripts.proofs.Stepping.{stepped}
use Rattle.scripts.proofs.one_script.Given as given
use Rattle.scripts.proofs.one_script.Goals as goal
use Rattle.scripts.proofs.one_script.Goals.{After-locate-p}

-- where the places of the parts are known
known : (g : given.Over) (c : After-locate-p g) → Places (joined (builtins c.args.names.now c.args.rows.now) c.args.text.now c.args.cuts.now c.args.edition c.args.limit c.args.part
    (lent (g.T.Tokens.numbers c.args.tokens.now) c.args.nodes.now c.args.links.now c.args.symbols.now c.args.scratch.now c.args.answers.now)) c.args.i
    × Placed c.args.cuts.now c.args.part c.args.i c.locate-p.result
known g c = (places (omega (arith, c.ranges.part)) c.requires.1 c.requires.0, c.locate-p.ensures)

pub locate-p-requires : goal.locate-p-requires
locate-p-requires g c = let p = places (omega (arith, c.ranges.part)) c.requires.1 c.requires.0 in (p.two_cuts, p.most)

pub slice_bounds-answer-count : goal.slice_bounds-answer-count
slice_bounds-answer-count g c = omega (arith, known g (goal.at.slice_bounds-answer-count g c).After-locate-p)

pub slice_bounds-answer-start : goal.slice_bounds-answer-start
slice_bounds-answer-start g c = omega (arith, known g (goal.at.slice_bounds-answer-start g c).After-locate-p)

pub slice_bounds-answer-end : goal.slice_bounds-answer-end
slice_bounds-answer-end g c = omega (arith, known g (goal.at.slice_bounds-answer-end g c).After-locate-p)

pub overflow_mul-row : goal.overflow_mul-row
overflow_mul-row g c = omega (arith, known g (goal.at.overflow_mul-row g c).After-locate-p)

pub overflow_mul-next : goal.overflow_mul-next
overflow_mul-next g c = omega (arith, known g (goal.at.overflow_mul-next g c).After-locate-p)

pub offset_bounds-nodes-row : goal.offset_bounds-nodes-row
offset_bounds-nodes-row g c = omega (arith, known g (goal.at.offset_bounds-nodes-row g c).After-locate-p)

pub slice_bounds-answer-count-2 : goal.slice_bounds-answer-count-2
slice_bounds-answer-count-2 g c = omega (arith, known g (goal.at.slice_bounds-answer-count-2 g c).After-locate-p)

pub slice_bounds-answer-start-2 : goal.slice_bounds-answer-start-2
slice_bounds-answer-start-2 g c = omega (arith, known g (goal.at.slice_bounds-answer-start-2 g c).After-locate-p)

pub slice_bounds-answer-end-2 : goal.slice_bounds-answer-end-2
slice_bounds-answer-end-2 g c = omega (arith, known g (goal.at.slice_bounds-answer-end-2 g c).After-locate-p)

pub overflow_mul-row-2 : goal.overflow_mul-row-2
overflow_mul-row-2 g c = omega (arith, known g (goal.at.overflow_mul-row-2 g c).After-locate-p)

pub overflow_mul-next-2 : goal.overflow_mul-next-2
overflow_mul-next-2 g c = omega (arith, known g (goal.at.overflow_mul-next-2 g c).After-locate-p)

pub offset_bounds-links-row : goal.offset_bounds-links-row
offset_bounds-links-row g c = omega (arith, known g (goal.at.offset_bounds-links-row g c).After-locate-p)

pub slice_bounds-answer-count-3 : goal.slice_bounds-answer-count-3
slice_bounds-answer-count-3 g c = omega (arith, known g (goal.at.slice_bounds-answer-count-3 g c).After-locate-p)

pub slice_bounds-answer-start-3 : goal.slice_bounds-answer-start-3
slice_bounds-answer-start-3 g c = omega (arith, known g (goal.at.slice_bounds-answer-start-3 g c).After-locate-p)

pub slice_bounds-answer-end-3 : goal.slice_bounds-answer-end-3
slice_bounds-answer-end-3 g c = omega (arith, known g (goal.at.slice_bounds-answer-end-3 g c).After-locate-p)

pub overflow_mul-row-3 : goal.overflow_mul-row-3
overflow_mul-row-3 g c = omega (arith, known g (goal.at.overflow_mul-row-3 g c).After-locate-p)

pub overflow_mul-next-3 : goal.overflow_mul-next-3
overflow_mul-next-3 g c = omega (arith, known g (goal.at.overflow_mul-next-3 g c).After-locate-p)

pub offset_bounds-symbols-row : goal.offset_bounds-symbols-row
offset_bounds-symbols-row g c = omega (arith, known g (goal.at.offset_bounds-symbols-row g c).After-locate-p)

pub slice_bounds-answer-count-4 : goal.slice_bounds-answer-count-4
slice_bounds-answer-count-4 g c = omega (arith, known g (goal.at.slice_bounds-answer-count-4 g c).After-locate-p)

pub slice_bounds-answer-start-4 : goal.slice_bounds-answer-start-4
slice_bounds-answer-start-4 g c = omega (arith, known g (goal.at.slice_bounds-answer-start-4 g c).After-locate-p)

pub slice_bounds-answer-end-4 : goal.slice_bounds-answer-end-4
slice_bounds-answer-end-4 g c = omega (arith, known g (goal.at.slice_bounds-answer-end-4 g c).After-locate-p)

pub overflow_mul-row-4 : goal.overflow_mul-row-4
overflow_mul-row-4 g c = omega (arith, known g (goal.at.overflow_mul-row-4 g c).After-locate-p)

pub overflow_mul-next-4 : goal.overflow_mul-next-4
overflow_mul-next-4 g c = omega (arith, known g (goal.at.overflow_mul-next-4 g c).After-locate-p)

pub offset_bounds-scratch-row : goal.offset_bounds-scratch-row
offset_bounds-scratch-row g c = omega (arith, known g (goal.at.offset_bounds-scratch-row g c).After-locate-p)

pub slice_bounds-answer-count-5 : goal.slice_bounds-answer-count-5
slice_bounds-answer-count-5 g c = omega (arith, known g (goal.at.slice_bounds-answer-count-5 g c).After-locate-p)

pub slice_bounds-answer-start-5 : goal.slice_bounds-answer-start-5
slice_bounds-answer-start-5 g c = omega (arith, known g (goal.at.slice_bounds-answer-start-5 g c).After-locate-p)

pub slice_bounds-answer-end-5 : goal.slice_bounds-answer-end-5
slice_bounds-answer-end-5 g c = omega (arith, known g (goal.at.slice_bounds-answer-end-5 g c).After-locate-p)

pub overflow_mul-i : goal.overflow_mul-i
overflow_mul-i g c = omega (arith, known g (goal.at.overflow_mul-i g c).After-locate-p)

pub overflow_add-i : goal.overflow_add-i
overflow_add-i g c = omega (arith, known g (goal.at.overflow_add-i g c).After-locate-p)

pub overflow_mul-i-2 : goal.overflow_mul-i-2
overflow_mul-i-2 g c = omega (arith, known g (goal.at.overflow_mul-i-2 g c).After-locate-p)

pub offset_bounds-answers-i : goal.offset_bounds-answers-i
offset_bounds-answers-i g c = omega (arith, known g (goal.at.offset_bounds-answers-i g c).After-locate-p)

pub slice_bounds-put-count : goal.slice_bounds-put-count
slice_bounds-put-count g c = omega (arith, known g (goal.at.slice_bounds-put-count g c).After-locate-p)

pub slice_bounds-put-start : goal.slice_bounds-put-start
slice_bounds-put-start g c = omega (arith, known g (goal.at.slice_bounds-put-start g c).After-locate-p)

pub slice_bounds-put-end : goal.slice_bounds-put-end
slice_bounds-put-end g c = omega (arith, known g (goal.at.slice_bounds-put-end g c).After-locate-p)

pub answer-a-requires : goal.answer-a-requires
answer-a-requires g c = let k = known g (goal.at.answer-a-requires g c).After-locate-p in (omega (arith, k), omega (arith, k))

pub returns : goal.returns
returns g c =
    let k = known g (goal.at.returns g c).After-locate-p in
    let a = c.answer-a.ensures in
    record { step = stepped k.0 k.1 a.single a.outside refl c.answer-a.auto.nodes c.answer-a.auto.links c.answer-a.auto.symbols c.answer-a.auto.scratch c.put.auto.room c.put.ensures; same_name = a.same_name; same_kept = a.same_kept }
