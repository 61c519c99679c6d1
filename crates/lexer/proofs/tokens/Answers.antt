-- `tokens` meets its contract: the loop keeps what is made so far (`Made`), and each return is a way in which that ends.
use native.Mathlib.Omega.{arith}
use Rattle.lexer.proofs.Making.{a_blank, no_blank, token_there, nothing_there, made_blanks, made_token, stopped, too_many, all_made}
use Rattle.lexer.proofs.Standing.{stands_some}
use Rattle.lexer.proofs.tokens.Goals as goal

pub loop-at-preserved-then-is_blank : goal.loop-at-preserved-then-is_blank
loop-at-preserved-then-is_blank c = made_blanks c.loop-at.invariant (a_blank c.loop-at-test.true c.is_blank.ensures c.if-is_blank.true) c.past_blanks-at.ensures

pub loop-at-smaller-then-is_blank : goal.loop-at-smaller-then-is_blank
loop-at-smaller-then-is_blank c = omega (arith, c.past_blanks-at.ensures.forward, c.past_blanks-at.ensures.inside)

pub returns-in_default : goal.returns-in_default
returns-in_default c = rw c.refused.ensures (stopped c.loop-at.invariant c.requires c.loop-at-test.true (no_blank c.is_blank.ensures c.if-is_blank.false) (nothing_there c.in_default.is c.token_at.ensures) c.clear.ensures)

pub keep-requires : goal.keep-requires
keep-requires c =
    let token = token_there c.in-Some.is c.token_at.ensures in
    omega (arith, c.capacity-rows.ensures.rows, c.loop-at.invariant.same, c.loop-at.invariant.within, token.stands.inside, c.requires.short)

pub loop-at-smaller : goal.loop-at-smaller
loop-at-smaller c =
    let token = token_there c.in-Some.is c.token_at.ensures in
    omega (arith, stands_some token.stands, token.stands.inside)

pub loop-at-preserved : goal.loop-at-preserved
loop-at-preserved c = made_token c.loop-at.invariant (token_there c.in-Some.is c.token_at.ensures) c.keep.ensures

pub returns-then-rows-count : goal.returns-then-rows-count
returns-then-rows-count c =
    rw c.refused-then-rows-count.ensures (too_many c.loop-at.invariant c.requires (omega (arith, c.loop-at.invariant.within)) c.capacity-rows.ensures c.if-rows-count.true c.clear-then-rows-count.ensures)

pub returns : goal.returns
returns c = all_made c.loop-at.invariant c.requires (omega (arith, c.loop-at.invariant.within)) c.capacity-rows.ensures c.if-rows-count.false c.push.ensures c.clear-2.ensures
