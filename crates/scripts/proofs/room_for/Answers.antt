-- `room_for` meets its contract: each room is asked, and the first that is too short ends it.
use native.Mathlib.Omega.{arith}
use Rattle.spelling.proofs.Deciding.{holds, fails}
use Rattle.scripts.proofs.Cuts.{rows_few}
use Rattle.scripts.proofs.room_for.Goals as goal

pub overflow_mul-rows : goal.overflow_mul-rows
overflow_mul-rows c = omega (arith, rows_few {rows = c.args.part} {n = c.args.n} (omega (arith, c.ranges.part)) c.requires)

pub overflow_mul-rows-2 : goal.overflow_mul-rows-2
overflow_mul-rows-2 c = omega (arith, rows_few {rows = c.args.part} {n = c.args.n} (omega (arith, c.ranges.part)) c.requires)

pub returns-then-nodes-rows : goal.returns-then-nodes-rows
returns-then-nodes-rows c = fails (λ f. omega (arith, c.if-nodes-rows.true, f.nodes_fit))

pub returns-then-links-rows : goal.returns-then-links-rows
returns-then-links-rows c = fails (λ f. omega (arith, c.if-links-rows.true, f.links_fit))

pub returns-then-symbols-rows : goal.returns-then-symbols-rows
returns-then-symbols-rows c = fails (λ f. omega (arith, c.if-symbols-rows.true, f.symbols_fit))

pub returns-then-scratch-rows : goal.returns-then-scratch-rows
returns-then-scratch-rows c = fails (λ f. omega (arith, c.if-scratch-rows.true, f.scratch_fit))

pub returns-then-answers-n : goal.returns-then-answers-n
returns-then-answers-n c = fails (λ f. omega (arith, c.if-answers-n.true, f.answers_fit))

pub returns : goal.returns
returns c = holds record { nodes_fit = omega (arith, c.if-nodes-rows.false); links_fit = omega (arith, c.if-links-rows.false); symbols_fit = omega (arith, c.if-symbols-rows.false); scratch_fit = omega (arith, c.if-scratch-rows.false); answers_fit = omega (arith, c.if-answers-n.false) }
