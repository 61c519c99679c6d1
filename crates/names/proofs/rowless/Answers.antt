-- `rowless` meets its contract: by the kind of the token.
use native.Mathlib.Omega.{arith}
use Rattle.names.specs.Resolved.{rowless}
use Rattle.names.proofs.Words.{is_word, is_no_word}
use Rattle.names.proofs.rowless.Goals as goal

pub returns-in-42-to-43 : goal.returns-in-42-to-43
unfolding rowless
returns-in-42-to-43 c = rw (is_word c.args.tokens.now c.args.at (omega arith) (omega arith))

pub returns-in_default : goal.returns-in_default
unfolding rowless
returns-in_default c = rw (is_no_word c.args.tokens.now c.args.at (λ e. omega arith) (λ e. omega arith))

pub returns-in_default-2 : goal.returns-in_default-2
unfolding rowless
returns-in_default-2 c = rw (is_no_word c.args.tokens.now c.args.at (λ e. omega arith) (λ e. omega arith))
