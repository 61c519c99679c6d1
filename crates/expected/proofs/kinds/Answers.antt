-- `kinds` meets its contract: after n turns it is the set of the kinds under n.
use native.Mathlib.Omega.{arith}
use mathlib.Core.Path.{◌≡◌}
use Rattle.expected.proofs.Gathering.{none_yet, with_kind, without_kind}
use Rattle.expected.proofs.kinds.Goals as goal
use Rattle.expected.proofs.kinds.Goals.{then-admits, else-admits}

pub loop-kind-init : goal.loop-kind-init
loop-kind-init c = none_yet

pub loop-kind-preserved : goal.loop-kind-preserved
loop-kind-preserved c =
    let so_far = c.loop-kind.invariant in
    let left = c.loop-kind-test.true in
    elim c.if-admits.branch [
      | then-admits w ↦ rw w.set-is (with_kind so_far left (rw w.if-admits.true at c.admits.ensures))
      | else-admits w ↦ rw w.set-is (without_kind so_far left (rw w.if-admits.false at c.admits.ensures))
    ]

pub returns : goal.returns
returns c =
    let all : c.loop-kind.kind ≡ 45 = omega arith in
    rw all at c.loop-kind.invariant.so_far
