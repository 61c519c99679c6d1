-- `reach::brackets` meets its contract: one token after another.
use Prim.Native.Nat.{◌+◌}
use native.Mathlib.Omega.{arith}
use Rattle.lint.proofs.Laws.{few, one_bracket_more, none_yet}
use Rattle.lint.proofs.reach.brackets.Goals as goal

pub loop-i-init : goal.loop-i-init
loop-i-init c = (none_yet _ _, omega arith)

pub loop-i-preserved : goal.loop-i-preserved
loop-i-preserved c = let l = c.loop-i in let e = one_bracket_more _ _ l.i l.invariant.0 c.after-so_far.ensures in (e, omega (arith, e, few c.args.tokens.now c.args.offset (l.i + 1)))
