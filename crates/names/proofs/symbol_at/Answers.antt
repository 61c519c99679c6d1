-- `symbol_at` meets its contract.
use native.Mathlib.Omega.{arith}
use Rattle.names.proofs.Readers.{name_at}
use Rattle.names.proofs.symbol_at.Goals as goal

pub returns : goal.returns
returns c = name_at _ _ c.args.at (omega (arith, c.requires))
