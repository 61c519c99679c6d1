-- `Maps::link_second` meets its contract.
use Prim.Native.Nat.{ℕ}
use native.Mathlib.Omega.{arith}
use borrow.Author.Tests.{ne_eqb}
use mathlib.Core.Path.{◌≡◌, ap}
use Rattle.parts.specs.Moved.{moved_node}
use Rattle.packing.specs.Digits.{digit}
use Rattle.packing.proofs.Digits.{no_entries}
use Rattle.packing.proofs.maps.Maps.link_second.Goals as goal

pub row-requires : goal.row-requires
row-requires c = (c.requires (ap digit c.in-Entries.is)).node (λ e. let z : ◌≡◌ {A = ℕ} 6 5 = e in omega arith)

pub returns-in-Entries : goal.returns-in-Entries
unfolding moved_node
returns-in-Entries c = rw c.in-Entries.is c.row.ensures

pub returns-in_default : goal.returns-in_default
returns-in_default c = rw (ne_eqb (digit c.args.role) 6 (no_entries c.in_default.not-Entries))
