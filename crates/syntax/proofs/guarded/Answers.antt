-- `guarded` meets its contract: the expression is the guard's, and then the Eof is there or not.
use Rattle.syntax.proofs.Guards.{inner_told, inner, unended, guarded}
use Rattle.syntax.proofs.guarded.Goals as goal

pub expression-read-requires : goal.expression-read-requires
expression-read-requires c = c.requires.ready

pub returns-in_default : goal.returns-in_default
returns-in_default c = inner_told c.in_default.is c.expression-read.ensures

pub consume-eof-requires : goal.consume-eof-requires
consume-eof-requires c = (inner c.in-Node.is c.expression-read.ensures).within.at

pub returns-in_default-eof : goal.returns-in_default-eof
returns-in_default-eof c = unended (inner c.in-Node.is c.expression-read.ensures) c.in_default-eof.is c.consume-eof.ensures

pub returns : goal.returns
returns c = guarded (inner c.in-Node.is c.expression-read.ensures) c.requires.ready.lent c.in-Node-eof.is c.consume-eof.ensures
