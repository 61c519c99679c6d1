-- `is_power` meets its contract: nothing, or an `e` of either case and what `is_signed` says.
use mathlib.Core.Path.{sym, ap, ◌∙◌}
use native.Mathlib.Omega.{arith}
use lib.ListN.{get_or}
use Rattle.grammar.specs.Derivative.{matches}
use Rattle.grammar.specs.Pattern.{maybe, bytes, among}
use Rattle.grammar.proofs.Ranges.{of_two, not_among}
use Rattle.lexeme.specs.Parts.{power}
use Rattle.lexeme.proofs.Numbers.{power_none, power_first}
use Rattle.lexeme.proofs.Texts.{opened, emptied}
use Rattle.lexeme.proofs.is_power.Goals as goal

pub returns-in_default : goal.returns-in_default
returns-in_default c = sym (ap (matches (maybe power)) (emptied c.in_default.len_below) ∙ power_none)

pub returns-in-69 : goal.returns-in-69
returns-in-69 c = c.is_signed.ensures ∙ sym (ap (matches (maybe power)) (opened c.args.word.now c.in-len1-up.len_at_least) ∙ power_first _ _ ∙ rw (of_two (among (bytes "eE")) tt c.in-69.is))

pub returns-in_default-first : goal.returns-in_default-first
returns-in_default-first c =
    sym (ap (matches (maybe power)) (opened c.args.word.now c.in-len1-up.len_at_least) ∙ power_first _ _ ∙ rw (not_among (get_or c.args.word.now 0 0) (bytes "eE") (grind arith, (grind arith, tt))))
