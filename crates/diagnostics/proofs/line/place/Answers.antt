-- `diagnostics::line::place` meets its contract. Its loop keeps the place of `i`.
use Rattle.std.proofs.Common.{refl}
use Rattle.diagnostics.specs.Line.{line_of}
use Rattle.diagnostics.proofs.line.place.Goals as goal

pub loop-i-init : goal.loop-i-init
unfolding line_of
loop-i-init c = refl
