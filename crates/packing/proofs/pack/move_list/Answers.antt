-- `move_list` meets its contract: the links so far are moved, and those from the place that is read on are as they were.
use Prim.Native.Nat.{◌+◌}
use native.Mathlib.Omega.{arith}
use Rattle.packing.specs.Digits.{digit}
use Rattle.packing.specs.Seen.{moves_of}
use Rattle.packing.proofs.Moving.{none_listed, still_first, still_second, link_turn}
use Rattle.packing.proofs.pack.move_list.Goals as goal

pub loop-k-init : goal.loop-k-init
loop-k-init c = let a = c.args in (none_listed (moves_of a.m) (digit a.role) a.links.now a.from a.to, omega arith)

pub link_first-x-requires : goal.link_first-x-requires
link_first-x-requires c =
    let s = c in
    let l = c.loop-k in
    rw (still_first s.requires.back l.invariant.0) (s.requires.first (s.args.from + l.k) (omega arith) (omega arith))

pub link_second-y-requires : goal.link_second-y-requires
link_second-y-requires c =
    let s = c in
    let l = c.loop-k in
    λ e. rw (still_second s.requires.back l.invariant.0) (s.requires.second (s.args.from + l.k) (omega arith) (omega arith) e)

pub loop-k-preserved : goal.loop-k-preserved
loop-k-preserved c = (link_turn c.requires.back c.loop-k.invariant.0 c.link_first-x.ensures c.link_second-y.ensures c.put_link.ensures, omega arith)
