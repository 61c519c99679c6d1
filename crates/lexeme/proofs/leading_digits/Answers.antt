-- `leading_digits` meets its contract: the digits at the front are the run.
use mathlib.Core.Path.{◌∙◌}
use Rattle.std.proofs.Common.{rules, tests}
use Rattle.std.proofs.lemmas.Iterator.{YieldsList-from_slice}
use Rattle.std.proofs.lemmas.Iterator.Consumers.{count_from_yields_List}
use Rattle.std.proofs.lemmas.Iterator.Search.{YieldsList-from_take_while}
use Rattle.std.proofs.lemmas.List.Folds.{length-prefix_len}
use Rattle.grammar.specs.Pattern.{digit}
use Rattle.lexeme.proofs.Runs.{run_prefix}
use Rattle.lexeme.proofs.leading_digits.Goals as goal

pub returns : goal.returns
returns c =
    let w = c.args.word.now in
    count_from_yields_List c.take_while.result _ c.count.ensures.ran (YieldsList-from_take_while _ digit (YieldsList-from_slice w cc) c.take_while.ensures.closure c.take_while.ensures.done (λ x b q k. search (rules, tests)))
    ∙ length-prefix_len digit w ∙ run_prefix digit w
