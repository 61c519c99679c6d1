-- `right_cuts` meets its contract: the first thing that is wrong ends it, and the cuts of the list are asked last.
use native.Mathlib.Omega.{arith}
use Rattle.spelling.proofs.Deciding.{held, failed, fails, said, carried}
use Rattle.scripts.proofs.right_cuts.Goals as goal

pub returns-then-n-lt1 : goal.returns-then-n-lt1
returns-then-n-lt1 c = fails (λ f. omega (arith, c.if-n-lt1.true, f.some))

pub returns-then-n-gt-MOST_SCRIPTS : goal.returns-then-n-gt-MOST_SCRIPTS
returns-then-n-gt-MOST_SCRIPTS c = fails (λ f. omega (arith, c.if-n-gt-MOST_SCRIPTS.true, f.few))

pub returns-then-cuts-n : goal.returns-then-cuts-n
returns-then-cuts-n c = fails (λ f. c.if-cuts-n.true f.even)

pub returns-then-forward : goal.returns-then-forward
returns-then-forward c =
    let text_cuts = held (said c.forward.ensures c.if-forward.true) in
    carried (λ f. record { some = omega (arith, c.if-n-lt1.false); few = omega (arith, c.if-n-gt-MOST_SCRIPTS.false); even = c.if-cuts-n.false; text_cuts = text_cuts; list_cuts = f }) (λ r. r.list_cuts) c.forward-then-forward.ensures

pub returns : goal.returns
returns c = fails (λ f. failed (said c.forward.ensures c.if-forward.false) f.text_cuts)
