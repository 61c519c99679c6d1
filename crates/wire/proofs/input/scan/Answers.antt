-- `wire::input::scan` meets its contract: each test that fails says that the input has not the form, and all of them that it has.
use Prim.Native.Nat.{◌+◌, ◌-◌, ◌/◌}
use native.Mathlib.Omega.{arith}
use mathlib.Core.Path.{◌≡◌, sym, ◌∙◌}
use lib.ListN.{length}
use Rattle.spelling.proofs.Deciding.{held, failed, said}
use Rattle.wire.proofs.Scanning.{bad, sized}
use Rattle.wire.proofs.input.scan.Goals as goal
use Rattle.wire.proofs.input.scan.Goals.{then-input-lt6-via-then-input-lt6, then-input-lt6-via-else-input-lt6+then-not-is_marked, then-size-gt8192-via-then-size-gt8192, then-size-gt8192-via-else-size-gt8192+then-input-size, then-left-ne0-via-then-left-ne0, then-left-ne0-via-else-left-ne0+then-n-gt512, then-left-ne0-via-else-left-ne0+else-n-gt512+then-not-marked}

pub returns-then-input-lt6 : goal.returns-then-input-lt6
returns-then-input-lt6 c = elim c.then-input-lt6.branch [
  | then-input-lt6-via-then-input-lt6 w ↦ bad (λ size n m. omega (arith, w.if-input-lt6.true, m.ends))
  | then-input-lt6-via-else-input-lt6+then-not-is_marked w ↦ bad (λ size n m. failed (said w.is_marked.ensures w.if-not-is_marked.true) m.marked)
]

pub returns-then-size-gt8192 : goal.returns-then-size-gt8192
returns-then-size-gt8192 c = elim c.then-size-gt8192.branch [
  | then-size-gt8192-via-then-size-gt8192 w ↦ bad (λ size n m. omega (arith, w.if-size-gt8192.true, m.size_is, m.most_bytes, c.four-size.ensures))
  | then-size-gt8192-via-else-size-gt8192+then-input-size w ↦ bad (λ size n m. omega (arith, w.if-input-size.true, m.size_is, m.ends, c.four-size.ensures))
]

pub returns-then-left-ne0 : goal.returns-then-left-ne0
returns-then-left-ne0 c =
    let read = c.four-size in
    let left = length c.args.input.now - (6 + read.result) in
    elim c.then-left-ne0.branch [
      | then-left-ne0-via-then-left-ne0 w ↦ bad (λ size n m. omega (arith, w.if-left-ne0.true, m.size_is, m.ends, read.ensures))
      | then-left-ne0-via-else-left-ne0+then-n-gt512 w ↦ bad (λ size n m. omega (arith, w.if-n-gt512.true, m.size_is, m.ends, m.most_tokens, read.ensures))
      | then-left-ne0-via-else-left-ne0+else-n-gt512+then-not-marked w ↦
          bad (λ size n m.
          let e : size ≡ read.result = sym m.size_is ∙ sym read.ensures in
          let q : n ≡ left / 11 = omega (arith, m.ends) in
          failed (said w.marked.ensures w.if-not-marked.true) (rw (e, q) at m.marks))
    ]

pub returns : goal.returns
returns c =
    sized
    (record {
      marked = held (said c.is_marked.ensures c.if-not-is_marked.false);
      size_is = sym c.four-size.ensures;
      most_bytes = c.if-size-gt8192.false;
      most_tokens = c.if-n-gt512.false;
      ends = omega arith;
      marks = held (said c.marked.ensures c.if-not-marked.false);
    })
