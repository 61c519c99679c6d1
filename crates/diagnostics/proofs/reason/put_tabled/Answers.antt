-- `diagnostics::reason::put_tabled` meets its contract: the part that it copies is the text, by the table's rule.
use Prim.Native.Nat.{ℕ, ◌+◌, ◌≤◌}
use native.Mathlib.Omega.{arith}
use mathlib.Core.Path.{◌≡◌, refl}
use Rattle.diagnostics.specs.declared.reason.TheConstants.{TEXTS}
use Rattle.diagnostics.specs.Reason.{last, tabled, table, begins}
use Rattle.diagnostics.proofs.Reasons.{Entry, entry}
use Rattle.diagnostics.proofs.reason.put_tabled.Goals as goal

-- the constant is what the definition of the table computes
same : TEXTS ≡ table
unfolding tabled table
same = refl

row : {from upto : ℕ} (i : ℕ) → i ≤ last → from ≡ begins i → upto ≡ begins (i + 1) → Entry TEXTS i from upto
row i h f u = entry i h same f u

pub slice_bounds-put-count : goal.slice_bounds-put-count
slice_bounds-put-count c = (row c.args.i c.requires.0 c.start_of-from.ensures c.start_of-upto.ensures).ordered

pub slice_bounds-put-start : goal.slice_bounds-put-start
slice_bounds-put-start c = (row c.args.i c.requires.0 c.start_of-from.ensures c.start_of-upto.ensures).ordered

pub slice_bounds-put-end : goal.slice_bounds-put-end
slice_bounds-put-end c = (row c.args.i c.requires.0 c.start_of-from.ensures c.start_of-upto.ensures).inside

pub put-requires : goal.put-requires
put-requires c = let r = row c.args.i c.requires.0 c.start_of-from.ensures c.start_of-upto.ensures in rw r.has (omega (arith, r.short))

pub returns : goal.returns
returns c = rw (row c.args.i c.requires.0 c.start_of-from.ensures c.start_of-upto.ensures).has at c.put.ensures
