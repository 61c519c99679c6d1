-- `rare_high` meets its contract: where the highest byte is low there is none, and else the search tells.
use Rattle.door.proofs.Codes.{none_high}
use Rattle.door.proofs.rare_high.Goals as goal

pub returns-then-highest-le-HIGHEST_BYTE : goal.returns-then-highest-le-HIGHEST_BYTE
returns-then-highest-le-HIGHEST_BYTE c = none_high c.highest.ensures c.if-highest-le-HIGHEST_BYTE.true
