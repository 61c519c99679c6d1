-- `scan::string_end` meets its contract: the string is open up to where the loop stands, and each return is a way in which it ends.
use native.Mathlib.Omega.{arith}
use Rattle.lexer.proofs.Strings.{opened, plain_on, escape_on, closed, ends_open, ends_cut, ends_broken}
use Rattle.lexer.proofs.scan.string_end.Goals as goal

pub loop-at-init : goal.loop-at-init
loop-at-init c = opened c.requires.0 c.requires.1

pub returns-then-here-eq34 : goal.returns-then-here-eq34
returns-then-here-eq34 c = closed c.loop-at.invariant c.loop-at-test.true c.if-here-eq34.true

pub loop-at-preserved-then-here-ne92 : goal.loop-at-preserved-then-here-ne92
loop-at-preserved-then-here-ne92 c = plain_on c.loop-at.invariant c.loop-at-test.true c.if-here-eq34.false c.if-here-ne92.true

pub returns-then-at-text : goal.returns-then-at-text
returns-then-at-text c = ends_cut c.loop-at.invariant c.if-here-ne92.false c.if-at-text.true

pub returns-then-next-eq10 : goal.returns-then-next-eq10
returns-then-next-eq10 c = ends_broken c.loop-at.invariant c.if-here-ne92.false c.if-next-eq10.true

pub loop-at-preserved : goal.loop-at-preserved
loop-at-preserved c = escape_on c.loop-at.invariant (omega arith) c.if-here-ne92.false c.if-next-eq10.false

pub returns : goal.returns
returns c = ends_open c.loop-at.invariant c.loop-at-test.false
