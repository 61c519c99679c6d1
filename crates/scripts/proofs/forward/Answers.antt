-- `forward` meets its contract: it looks at one cut after another, and stops at the first that goes back or past the end.
use mathlib.Core.Path.{refl}
use native.Mathlib.Omega.{arith}
use borrow.Author.Rules.{rules}
use Rattle.std.specs.Prelude.{◌/◌, length}
use Rattle.std.proofs.lemmas.Iterator.{cases_from_all, YieldsList-from_range}
use Rattle.scripts.proofs.Cuts.{Right, all_right}
use Rattle.scripts.proofs.forward.Goals as goal

pub returns : goal.returns
returns c =
    let a = c.args in
    all_right a.cuts.now a.side a.long _ c.all.result refl
    (cases_from_all _ _ c.all.result (Right a.cuts.now a.side a.long) (λ i. Right a.cuts.now a.side a.long i → ⊥) c.all.ensures.ran (YieldsList-from_range 0 (length a.cuts.now / 2) (length a.cuts.now / 2) refl (omega arith)) (λ x q k. (search rules, search rules)) (λ x q k. search rules))
