-- A statement: its form, and what ends it.
use Rattle.reading.proofs.Replies.{success}
use Rattle.parser.proofs.Statements.{statement_ends, statement_refused}
use Rattle.parser.proofs.readers.+readers.Goals as goal

pub statement-returns-in_default : goal.statement-returns-in_default
statement-returns-in_default t c = statement_refused c.in_default.is c.form-read.ensures

pub statement-semicolon-requires : goal.statement-semicolon-requires
statement-semicolon-requires t c =
    let part = success c.in-Node.is c.form-read.ensures in
    part.within.at

pub statement-returns : goal.statement-returns
statement-returns t c =
    let part = success c.in-Node.is c.form-read.ensures in
    statement_ends _ c.requires part
    c.kind_at-kind.ensures c.semicolon.ensures
