-- `words` meets its contract: the constant is what the definition of the table computes.
use mathlib.Core.Path.{refl}
use Rattle.grammar.specs.Lexeme.{spelling}
use Rattle.spelling.specs.Words.{key, class, table}
use Rattle.spelling.proofs.words.Goals as goal

pub returns : goal.returns
unfolding spelling key class table
returns c = refl
