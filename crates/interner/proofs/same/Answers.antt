-- `same` meets its contract: what the endings leave is the same list, or it is not.
use mathlib.Core.Bool.{true≢false}
use mathlib.Core.Path.{sym, ap, ◌∙◌}
use lib.ListN.{take}
use native.Mathlib.Omega.{arith}
use Rattle.std.proofs.lemmas.Slice.Eq.{bytes_eq-Decides}
use Rattle.interner.proofs.Search.{alike}
use Rattle.interner.proofs.same.Goals as goal

pub returns : goal.returns
returns c =
    let e = c.eq.ensures in
    let d = bytes_eq-Decides _ _ in
    let n = c.saturating_sub-rest.result in
    record {
      alike = λ t. alike c.args.row.now c.args.word.now n (omega (arith, c.if-row-word.false)) (d.0 (sym e ∙ t)) (λ k a b. c.loop-i.invariant.1 k (omega (arith, a)) b);
      unlike = λ f z. true≢false (sym (d.1 (ap (take n) z)) ∙ sym e ∙ f);
    }
