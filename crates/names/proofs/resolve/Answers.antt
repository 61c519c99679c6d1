-- `resolve` meets its contract: the built-in rows are copied, and the script's own follow.
use Prim.Native.Nat.{◌+◌, ◌-◌, ◌*◌, ◌/◌}
use native.Mathlib.Omega.{arith}
use mathlib.Core.Path.{◌≡◌}
use lib.ListN.{length, drop, length-drop, length-take}
use Rattle.names.proofs.Passing.{resolved}
use Rattle.names.proofs.resolve.Goals as goal

pub returns : goal.returns
returns c =
    let first = 2 * (length c.args.rows.now / 2) in
    let symbols = c.copy.new.to in
    let upto : 0 + first ≡ first = omega arith in
    let own = drop first symbols in
    resolved c.requires.names_fit (rw upto at c.copy.ensures) (omega (arith, length-take (length symbols - first) own, length-drop first symbols)) c.script_names-known.ensures (drop (length symbols - first) own)
    (omega (arith, length-drop (length symbols - first) own, length-drop first symbols))
