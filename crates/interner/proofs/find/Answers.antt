-- `find` meets its contract: it stands at a row of the bucket, and no row newer than that has the bytes. The measure is that row.
use Prim.Native.Nat.{◌-◌, ◌<◌}
use native.Mathlib.Omega.{arith}
use lib.ListN.{length}
use Rattle.interner.specs.Search.{Sought}
use Rattle.interner.proofs.Buckets.{bucket_inside, seeking_first, seeking_next, older}
use Rattle.interner.proofs.Search.{row_below, part_is, holds_here, not_here}
use Rattle.interner.proofs.find.Goals as goal
use Rattle.interner.proofs.find.Goals.{In-loop-next}

-- the row of a turn is one in use
in_use : (c : In-loop-next) → c.loop-next.next - 1 < c.args.count
in_use c = omega (arith, c.loop-next.invariant.1.low)

-- the bucket's place is in the index
pub offset_bounds-index-place : goal.offset_bounds-index-place
offset_bounds-index-place c =
    let asked = c.requires in
    let inside : c.args.place < length c.args.index.now = rw asked.bucket_is (bucket_inside _ asked.some asked.indexed.index_room) in
    omega arith

pub bounds-index-place : goal.bounds-index-place
bounds-index-place c = let asked = c.requires in rw asked.bucket_is (bucket_inside _ asked.some asked.indexed.index_room)

pub loop-next-init : goal.loop-next-init
loop-next-init c = let asked = c.requires in (asked, rw asked.bucket_is (seeking_first asked.indexed.index_is asked.some))

pub holds-requires : goal.holds-requires
holds-requires c =
    let asked = c.requires in
    let row = in_use (goal.at.holds-requires c).In-loop-next in
    (omega (arith, row, asked.indexed.stands), part_is c.args.symbols.now c.args.count _ row asked.indexed.stands asked.indexed.table)

pub returns-then-holds : goal.returns-then-holds
returns-then-holds c = Sought.found (holds_here _ _ c.args.symbols.now c.args.count c.requires.indexed.stands _ (in_use (goal.at.returns-then-holds c).In-loop-next) (c.holds.ensures.alike c.if-holds.true))

pub loop-next-smaller : goal.loop-next-smaller
loop-next-smaller c = omega (arith, older c.requires.indexed.index_is _ (in_use (goal.at.loop-next-smaller c).In-loop-next))

pub loop-next-preserved : goal.loop-next-preserved
loop-next-preserved c =
    let (asked, at) = c.loop-next.invariant in (
      asked,
      seeking_next asked.indexed.index_is at (omega arith)
          (not_here _ _ c.args.symbols.now c.args.count asked.indexed.stands _ (in_use (goal.at.loop-next-preserved c).In-loop-next) (c.holds.ensures.unlike c.if-holds.false)),
    )

pub returns : goal.returns
returns c = Sought.missing (λ k x. c.loop-next.invariant.1.none k (omega arith) (row_below c.args.symbols.now c.args.count c.requires.indexed.stands k x.row) x)
