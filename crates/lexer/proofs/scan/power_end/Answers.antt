-- `scan::power_end` meets its contract: an `e` of either case with what `signed_end` finds after it; where that is nothing, the `e` is given back.
use native.Mathlib.Omega.{arith}
use lib.ListN.{get_or}
use Rattle.grammar.specs.Pattern.{bytes, among}
use Rattle.lexeme.proofs.Numbers.{signed_none}
use Rattle.grammar.proofs.Ranges.{of_two, not_among}
use Rattle.lexer.proofs.Stretches.{left_out, taken_on, given_back, byte_on}
use Rattle.lexer.proofs.Numbers.{no_power}
use Rattle.lexer.proofs.scan.power_end.Goals as goal

pub returns-then-start-text : goal.returns-then-start-text
returns-then-start-text c = left_out (omega arith) (λ e l m. absurd (omega arith))

pub returns-then-end-from : goal.returns-then-end-from
returns-then-end-from c = given_back (omega arith) (byte_on (omega arith) (of_two (among (bytes "eE")) tt c.in-69.is)) c.signed_end-end.ensures c.if-end-from.true signed_none

pub returns-else-end-from : goal.returns-else-end-from
returns-else-end-from c = taken_on (byte_on (omega arith) (of_two (among (bytes "eE")) tt c.in-69.is)) c.signed_end-end.ensures c.if-end-from.false

pub returns-in_default : goal.returns-in_default
returns-in_default c = no_power (omega arith) (not_among (get_or c.args.text.now c.args.start 0) (bytes "eE") (grind arith, (grind arith, tt)))
