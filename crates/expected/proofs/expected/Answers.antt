-- `expected` meets its contract.
use Rattle.expected.proofs.Telling.{nothing_told, unasked, as_reached, as_gone}
use Rattle.expected.proofs.expected.Goals as goal

pub returns-then-not-asks : goal.returns-then-not-asks
returns-then-not-asks c = nothing_told (unasked (c.asks.ensures.no c.if-not-asks.true)) c.nothing.ensures

pub returns-in_default : goal.returns-in_default
returns-in_default c = nothing_told (λ h u m. as_gone c.in_default.ensures c.args.code h m) c.nothing-in_default.ensures

pub tell-requires : goal.tell-requires
tell-requires c = record { asked_of = c.asks.ensures.yes c.if-not-asks.false; reached = as_reached c.in-Some.ensures }
