-- `is_signed` meets its contract: a sign, where there is one, and then digits.
use mathlib.Core.Bool.{not}
use mathlib.Core.Path.{sym, ap, ◌∙◌}
use native.Mathlib.Omega.{arith}
use borrow.Author.Tests.{not-true}
use lib.ListN.{get_or}
use Rattle.grammar.specs.Derivative.{matches}
use Rattle.grammar.specs.Pattern.{byte, bytes, among, digit, some}
use Rattle.grammar.proofs.Ranges.{of_two, not_among}
use Rattle.lexeme.specs.Parts.{signed}
use Rattle.lexeme.proofs.Numbers.{signed_none, signed_sign, signed_digits}
use Rattle.lexeme.proofs.Texts.{opened, emptied}
use Rattle.lexeme.proofs.is_signed.Goals as goal

pub returns-in_default : goal.returns-in_default
returns-in_default c = sym (ap (matches signed) (emptied c.in_default.len_below) ∙ signed_none)

pub returns-in-43 : goal.returns-in-43
returns-in-43 c =
    c.are_digits.ensures ∙ sym (ap (matches signed) (opened c.args.word.now c.in-len1-up.len_at_least) ∙ signed_sign _ _ (of_two (among (bytes "+-")) tt c.in-43.is) (not-true _ (of_two (λ x. not (digit x)) tt c.in-43.is)))

pub returns-in_default-first : goal.returns-in_default-first
returns-in_default-first c =
    let w = c.args.word.now in
    let whole = opened w c.in-len1-up.len_at_least in
    let none = not_among (get_or w 0 0) (bytes "+-") (grind arith, (grind arith, tt)) in
    c.are_digits-in_default-first.ensures ∙ ap (matches (some (byte digit))) whole ∙ sym (ap (matches signed) whole ∙ signed_digits _ _ none)
