-- `is_string` meets its contract: the opening quote, and then what `is_inside` says.
use mathlib.Core.Path.{sym, ap, ◌∙◌}
use borrow.Author.Tests.{ne_eqb}
use Rattle.grammar.specs.Derivative.{matches}
use Rattle.grammar.specs.Lexeme.{string}
use Rattle.grammar.specs.Pattern.{among, bytes}
use Rattle.grammar.proofs.Matching.{no_byte}
use Rattle.lexeme.specs.Parts.{inside}
use Rattle.lexeme.proofs.Texts.{opened, emptied, string_first}
use Rattle.lexeme.proofs.is_string.Goals as goal

pub returns-in_default : goal.returns-in_default
returns-in_default c = sym (ap (matches string) (emptied c.in_default.len_below) ∙ no_byte (among (bytes "\"")) inside)

pub returns-then-first-eq34 : goal.returns-then-first-eq34
returns-then-first-eq34 c = c.is_inside.ensures ∙ sym (ap (matches string) (opened c.args.word.now c.in-len1-up.len_at_least) ∙ string_first _ _ ∙ rw c.if-first-eq34.true)

pub returns-else-first-eq34 : goal.returns-else-first-eq34
returns-else-first-eq34 c = ne_eqb _ 34 c.if-first-eq34.false ∙ sym (ap (matches string) (opened c.args.word.now c.in-len1-up.len_at_least) ∙ string_first _ _ ∙ rw (ne_eqb _ 34 c.if-first-eq34.false))
