-- `diagnostics::line::offset` meets its contract. Its loop keeps the place of `i`, and that no offset before it has the place that is looked for.
use native.Mathlib.Omega.{arith}
use mathlib.Core.Path.{◌≡◌}
use lib.ListN.{length}
use Rattle.diagnostics.proofs.Offsets.{started, passed, is_found, is_nowhere}
use Rattle.diagnostics.proofs.line.offset.Goals as goal

pub loop-i-init : goal.loop-i-init
loop-i-init c = started

pub returns-then-is_at : goal.returns-then-is_at
returns-then-is_at c = is_found c.loop-i.invariant c.is_at.ensures c.if-is_at.true (omega arith)

pub loop-i-preserved : goal.loop-i-preserved
loop-i-preserved c = passed c.loop-i.invariant c.is_at.ensures c.if-is_at.false (omega arith) c.after-here.ensures

-- after the loop i is the text's length
pub returns-then-is_at-2 : goal.returns-then-is_at-2
returns-then-is_at-2 c =
    let all : c.loop-i.i ≡ length c.args.text.now = omega arith in
    rw all at (is_found c.loop-i.invariant c.is_at-2.ensures c.if-is_at-2.true (omega arith))

pub returns-else-is_at-2 : goal.returns-else-is_at-2
returns-else-is_at-2 c = is_nowhere c.loop-i.invariant c.is_at-2.ensures c.if-is_at-2.false (omega arith) (omega arith)
