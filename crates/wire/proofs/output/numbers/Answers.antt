-- `wire::output::numbers` meets its contract: the numbers up to an index are written.
use native.Mathlib.Omega.{arith}
use lib.ListN.{get_or}
use Rattle.wire.proofs.Decimals.{decimal_short}
use Rattle.wire.proofs.Fields.{no_field, another, all_fields}
use Rattle.wire.proofs.output.numbers.Goals as goal

pub loop-value-init : goal.loop-value-init
loop-value-init c = no_field c.args.values.now _ _

pub decimal-k-requires : goal.decimal-k-requires
decimal-k-requires c =
    let turn = c.loop-value in
    let x = get_or c.args.values.now turn.value-index 0 in
    omega (arith, turn.invariant.most, c.put-blank.ensures.ends, decimal_short x (omega (arith, c.type_inv.values turn.value-index)))

pub loop-value-preserved : goal.loop-value-preserved
loop-value-preserved c =
    let turn = c.loop-value in
    another _ turn.invariant c.put-blank.ensures c.decimal-k.ensures c.loop-value-test.true (omega (arith, c.type_inv.values turn.value-index))

pub returns : goal.returns
returns c = all_fields _ c.loop-value.invariant (omega arith)
