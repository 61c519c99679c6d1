-- `scan::past_blanks` meets its contract: all bytes passed are blanks, and the next is none, or the text ends.
use native.Mathlib.Omega.{arith}
use Rattle.lexer.proofs.Making.{a_blank, no_blank}
use Rattle.lexer.proofs.scan.past_blanks.Goals as goal

pub returns-then-not-is_blank : goal.returns-then-not-is_blank
returns-then-not-is_blank c = record { forward = omega arith; inside = omega arith; blanks = c.loop-at.invariant; last = no_blank c.is_blank.ensures c.if-not-is_blank.true }

pub returns : goal.returns
returns c = record { forward = omega arith; inside = omega arith; blanks = λ k f l. c.loop-at.invariant k f (omega (arith, l)); last = λ h. absurd (omega (arith, h.inside)) }
