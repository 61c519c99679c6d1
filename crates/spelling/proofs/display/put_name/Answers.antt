-- `display::put_name` meets its contract: each arm copies the name that the definition has for its kind.
use mathlib.Core.Path.{ap}
use native.Mathlib.Omega.{arith}
use lib.ListN.{length}
use Rattle.spelling.specs.Display.{display}
use Rattle.spelling.proofs.display.put_name.Goals as goal

pub put-requires : goal.put-requires
unfolding display
put-requires c = omega (arith, ap (λ k. length (display k)) c.in-40.is)

pub put-requires-in-42 : goal.put-requires-in-42
unfolding display
put-requires-in-42 c = omega (arith, ap (λ k. length (display k)) c.in-42.is)

pub put-requires-in-43 : goal.put-requires-in-43
unfolding display
put-requires-in-43 c = omega (arith, ap (λ k. length (display k)) c.in-43.is)

pub put-requires-in-44 : goal.put-requires-in-44
unfolding display
put-requires-in-44 c = omega (arith, ap (λ k. length (display k)) c.in-44.is)

pub returns-in-40 : goal.returns-in-40
unfolding display
returns-in-40 c = rw c.in-40.is c.put.ensures

pub returns-in-42 : goal.returns-in-42
unfolding display
returns-in-42 c = rw c.in-42.is c.put-in-42.ensures

pub returns-in-43 : goal.returns-in-43
unfolding display
returns-in-43 c = rw c.in-43.is c.put-in-43.ensures

pub returns-in-44 : goal.returns-in-44
unfolding display
returns-in-44 c = rw c.in-44.is c.put-in-44.ensures
