-- `keyword` meets its contract: no bytes are no keyword, and others are the keyword of their slot or none.
use mathlib.Core.Path.{◌≡◌, sym, ◌∙◌}
use native.Mathlib.Omega.{arith}
use Rattle.grammar.specs.Token.{lexeme}
use Rattle.grammar.proofs.Lexemes.{lexeme_length}
use Rattle.spelling.proofs.Deciding.{held, failed}
use Rattle.lexeme.specs.Parts.{Word}
use Rattle.lexeme.proofs.Keywords.{key_of, key_between, too_short, spelt_so, spelt_otherwise}
use Rattle.lexeme.proofs.keyword.Goals as goal
use Rattle.lexeme.proofs.keyword.Goals.{After-key-kind}

-- what was found at the slot of the word that is asked about
found : (c : After-key-kind) → let a = c.args in c.key-kind.result ≡ key_of (lexeme a.text.now a.start a.end)
found c = let a = c.args in c.key-kind.ensures ∙ sym (key_between a.text.now a.start a.end (omega arith) (omega arith))

pub returns-then-start-end : goal.returns-then-start-end
returns-then-start-end c =
    let a = c.args in
    Word.name (too_short (lexeme a.text.now a.start a.end) (omega (arith, lexeme_length a.text.now a.start a.end (omega arith) (omega arith))))

pub returns-then-spelled : goal.returns-then-spelled
returns-then-spelled c =
    let a = c.args in
    spelt_so (lexeme a.text.now a.start a.end) (found (goal.at.returns-then-spelled c).After-key-kind) (omega (arith, lexeme_length a.text.now a.start a.end (omega arith) (omega arith)))
    (held (rw c.if-spelled.true at c.spelled.ensures))

pub returns : goal.returns
returns c =
    let a = c.args in
    spelt_otherwise (lexeme a.text.now a.start a.end) (found (goal.at.returns c).After-key-kind) (failed (rw c.if-spelled.false at c.spelled.ensures))
