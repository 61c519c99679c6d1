-- `is_identifier` meets its contract: a letter, and then letters and digits alone.
use Prim.Native.Nat.{◌-◌}
use lib.ListN.{length, take, drop}
use mathlib.Core.Path.{sym, ap, ◌∙◌}
use Rattle.std.proofs.Common.{rules, tests}
use Rattle.std.proofs.lemmas.Iterator.{YieldsList-from_slice}
use Rattle.std.proofs.lemmas.Iterator.Search.{all_from_yields_List}
use Rattle.grammar.specs.Derivative.{matches}
use Rattle.grammar.specs.Lexeme.{letter, identifier}
use Rattle.grammar.specs.Pattern.{many, byte}
use Rattle.grammar.proofs.Matching.{no_byte}
use Rattle.lexeme.specs.Parts.{letter_or_digit}
use Rattle.lexeme.proofs.Runs.{many_all}
use Rattle.lexeme.proofs.Texts.{emptied, identifier_opened}
use Rattle.lexeme.proofs.is_identifier.Goals as goal

pub returns-in_default : goal.returns-in_default
returns-in_default c = sym (ap (matches identifier) (emptied c.in_default.len_below) ∙ no_byte letter (many (byte letter_or_digit)))

pub returns-then-is_letter : goal.returns-then-is_letter
returns-then-is_letter c =
    let w = c.args.word.now in
    let r = take (length w - 1) (drop 1 w) in
    all_from_yields_List letter_or_digit _ _ c.all.result c.all.ensures.ran (YieldsList-from_slice r cc) (λ x b q k. search (rules, tests)) ∙ many_all letter_or_digit r
    ∙ sym (identifier_opened w c.in-len1-up.len_at_least (sym c.is_letter.ensures ∙ c.if-is_letter.true))

pub returns-else-is_letter : goal.returns-else-is_letter
returns-else-is_letter c = c.if-is_letter.false ∙ sym (identifier_opened c.args.word.now c.in-len1-up.len_at_least (sym c.is_letter.ensures ∙ c.if-is_letter.false))
