-- `scan::signed_end` meets its contract: a sign, where there is one, and then a run of digits; without digits the sign is given back.
use mathlib.Core.Bool.{not}
use native.Mathlib.Omega.{arith}
use lib.ListN.{get_or}
use borrow.Author.Tests.{not-true}
use Rattle.grammar.specs.Pattern.{bytes, among, digit}
use Rattle.grammar.proofs.Ranges.{of_two, not_among}
use Rattle.lexer.proofs.Stretches.{ended, left_out, taken_on, given_back, run_ends}
use Rattle.lexer.proofs.Numbers.{a_sign, no_sign, no_digits, maybe_alike}
use Rattle.lexer.proofs.scan.signed_end.Goals as goal

pub returns-then-start-text : goal.returns-then-start-text
returns-then-start-text c = left_out (omega arith) (λ e l m. absurd (omega arith))

pub returns-then-end-from : goal.returns-then-end-from
returns-then-end-from c =
    let k = c.in-43.is in
    given_back (omega arith) (a_sign (of_two (among (bytes "+-")) tt k) (not-true _ (of_two (λ x. not (digit x)) tt k)) (omega arith)) (run_ends c.digits-end.ensures) c.if-end-from.true no_digits

pub returns-else-end-from : goal.returns-else-end-from
returns-else-end-from c =
    let k = c.in-43.is in
    taken_on (a_sign (of_two (among (bytes "+-")) tt k) (not-true _ (of_two (λ x. not (digit x)) tt k)) (omega arith)) (run_ends c.digits-end.ensures) c.if-end-from.false

pub returns-in_default : goal.returns-in_default
returns-in_default c = ended (maybe_alike (no_sign (not_among (get_or c.args.text.now c.args.start 0) (bytes "+-") (grind arith, (grind arith, tt))))) (run_ends c.digits.ensures)
