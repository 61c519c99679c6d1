-- `inside` meets its contract.
use Prim.Native.Nat.{ℕ}
use mathlib.Core.Path.{◌≡◌, refl}
use Rattle.expected.specs.Cells.{bar_number}
use Rattle.expected.specs.Parts.{Inner, Inside}
use Rattle.expected.specs.declared.Chain.{Chain}
use Rattle.expected.specs.declared.tables.Bar.{Bar}
use Rattle.expected.proofs.inside.Goals as goal

none : (d : Chain) (b : Bar) (at : ℕ) → (b ≡ Bar.OpenedOperand → ⊥) → (b ≡ Bar.OpenedBlock → ⊥) → Inside d (bar_number b) at d
unfolding Inner
none d Bar.Token at i j = record { says = refl }
none d Bar.Operand at i j = record { says = refl }
none d Bar.For at i j = record { says = refl }
none d Bar.OpenedOperand at i j = absurd (i refl)
none d Bar.OpenedBlock at i j = absurd (j refl)

pub returns-in-OpenedOperand : goal.returns-in-OpenedOperand
unfolding Inner
returns-in-OpenedOperand c = rw c.in-OpenedOperand.is (record { says = c.push.ensures })

pub returns-in-OpenedBlock : goal.returns-in-OpenedBlock
unfolding Inner
returns-in-OpenedBlock c = rw c.in-OpenedBlock.is (record { says = c.push-in-OpenedBlock.ensures })

pub returns-in_default : goal.returns-in_default
returns-in_default c = none c.args.c c.args.bar c.args.at c.in_default.not-OpenedOperand c.in_default.not-OpenedBlock
