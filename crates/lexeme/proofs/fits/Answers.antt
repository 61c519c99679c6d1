-- `fits` meets its contract: each arm is a way to fit.
use native.Mathlib.Omega.{arith}
use borrow.Author.Tests.{ne_eqb}
use Rattle.grammar.specs.Kind.{Identifier}
use Rattle.grammar.specs.Lexeme.{spelling, number, string, identifier}
use Rattle.grammar.specs.Token.{lexeme}
use Rattle.spelling.proofs.Deciding.{holds, fails, matching}
use Rattle.lexeme.proofs.Fitting.{literal_decided, spelled_pattern, fits_by_pattern, fits_as_name, keyword_unfit, fits_at_end}
use Rattle.lexeme.proofs.Keywords.{word_keyword, word_name}
use Rattle.lexeme.proofs.fits.Goals as goal

pub returns-else-keyword-eq-IDENTIFIER : goal.returns-else-keyword-eq-IDENTIFIER
returns-else-keyword-eq-IDENTIFIER c =
    let a = c.args in
    rw (ne_eqb _ Identifier c.if-keyword-eq-IDENTIFIER.false) (fails (keyword_unfit a.kind (lexeme a.text.now a.start a.end) c.in-43.is (word_keyword c.keyword.ensures c.if-keyword-eq-IDENTIFIER.false)))

pub returns-in-40 : goal.returns-in-40
returns-in-40 c =
    let a = c.args in
    fits_by_pattern a.kind (lexeme a.text.now a.start a.end) (omega arith) (omega arith) (rw (c.in-40.is, c.is_number.ensures) (matching number (lexeme a.text.now a.start a.end)))

pub returns-in-42 : goal.returns-in-42
returns-in-42 c =
    let a = c.args in
    fits_by_pattern a.kind (lexeme a.text.now a.start a.end) (omega arith) (omega arith) (rw (c.in-42.is, c.is_string.ensures) (matching string (lexeme a.text.now a.start a.end)))

pub returns-then-keyword-eq-IDENTIFIER : goal.returns-then-keyword-eq-IDENTIFIER
returns-then-keyword-eq-IDENTIFIER c =
    let a = c.args in
    fits_as_name a.kind (lexeme a.text.now a.start a.end) c.in-43.is (word_name c.keyword.ensures c.if-keyword-eq-IDENTIFIER.true) (rw (c.in-43.is, c.is_identifier.ensures) (matching identifier (lexeme a.text.now a.start a.end)))

pub returns-in_default : goal.returns-in_default
returns-in_default c =
    let a = c.args in
    holds (fits_at_end a.kind (lexeme a.text.now a.start a.end) (omega arith))

pub returns-in-0-to-41 : goal.returns-in-0-to-41
returns-in-0-to-41 c =
    let a = c.args in
    fits_by_pattern a.kind (lexeme a.text.now a.start a.end) (omega arith) (omega arith) (rw (spelled_pattern a.kind (omega arith) (omega arith) (omega arith)) (literal_decided (spelling a.kind) (lexeme a.text.now a.start a.end) c.spelled.ensures))
