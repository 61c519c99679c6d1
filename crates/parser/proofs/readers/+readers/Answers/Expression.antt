-- An expression is one opening deeper, and has all levels of binary operators.
use borrow.Author.Rules.{rules}
use native.Mathlib.Omega.{arith}
use Rattle.reading.proofs.Laws.{opened, ready_deep}
use Rattle.reading.proofs.Refusals as Refuses
use Rattle.reading.proofs.Replies.{mapped, refuse}
use Rattle.parser.proofs.readers.+readers.Goals as goal

pub expression-returns-then-terms-depth : goal.expression-returns-then-terms-depth
expression-returns-then-terms-depth t c = refuse (Refuses.too_deep c.if-terms-depth.true)

pub expression-binary-requires : goal.expression-binary-requires
expression-binary-requires t c = (search rules, (omega arith, ready_deep c.requires c.if-terms-depth.false))

pub expression-returns : goal.expression-returns
expression-returns t c =
    mapped _ (omega arith) c.binary.ensures (λ n d r. opened r)
    (λ x h. Refuses.inside c.if-terms-depth.false h)
