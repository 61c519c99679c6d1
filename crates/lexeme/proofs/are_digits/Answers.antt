-- `are_digits` meets its contract: there is a byte, and all are digits.
use Prim.Native.Nat.{◌<◌}
use mathlib.Core.Bool.{not}
use mathlib.Core.Path.{sym, ap, ◌∙◌}
use lib.ListN.{length}
use native.Mathlib.Omega.{arith}
use Rattle.std.proofs.Common.{rules, tests}
use Rattle.std.proofs.lemmas.Iterator.{YieldsList-from_slice}
use Rattle.std.proofs.lemmas.Iterator.Search.{all_from_yields_List}
use Rattle.std.proofs.lemmas.Bool.Decides.{nat_tests}
use Rattle.grammar.specs.Pattern.{digit, some, many, byte}
use Rattle.grammar.specs.Derivative.{matches}
use Rattle.grammar.proofs.Matching.{no_byte}
use Rattle.lexeme.proofs.Texts.{emptied}
use Rattle.lexeme.proofs.Runs.{some_all}
use Rattle.lexeme.proofs.are_digits.Goals as goal

pub returns-then-not-is_empty : goal.returns-then-not-is_empty
returns-then-not-is_empty c =
    let w = c.args.word.now in
    let some : 0 < length w = grind (arith, nat_tests) in
    all_from_yields_List digit _ _ c.all.result c.all.ensures.ran (YieldsList-from_slice w cc) (λ x b q k. search (rules, tests)) ∙ some_all digit w some

pub returns-else-not-is_empty : goal.returns-else-not-is_empty
returns-else-not-is_empty c =
    let w = c.args.word.now in
    let none : length w < 1 = grind (arith, nat_tests) in
    ap not c.if-not-is_empty.false ∙ sym (ap (matches (some (byte digit))) (emptied none) ∙ no_byte digit (many (byte digit)))
