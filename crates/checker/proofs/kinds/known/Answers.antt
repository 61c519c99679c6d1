-- `known` meets its contract: what the closure answers of a row is the test of its kind.
use Rattle.std.proofs.Common.{rules}
use Rattle.checker.specs.Test.{known_kind}
use Rattle.checker.proofs.kinds.known.Goals as goal

pub returns : goal.returns
unfolding known_kind
returns c = search rules
