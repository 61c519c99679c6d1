-- `opened_by` meets its contract.
use mathlib.Core.Logic.{inl, inr}
use mathlib.Core.Path.{◌≡◌, refl}
use Rattle.expected.specs.Cells.{bar_number}
use Rattle.expected.specs.Parts.{opened_by}
use Rattle.expected.specs.declared.tables.Bar.{Bar}
use Rattle.expected.proofs.opened_by.Goals as goal

none : (b : Bar) → (b ≡ Bar.OpenedOperand → ⊥) → (b ≡ Bar.OpenedBlock → ⊥) → 0 ≡ opened_by (bar_number b)
unfolding opened_by
none Bar.Token i j = refl
none Bar.Operand i j = refl
none Bar.For i j = refl
none Bar.OpenedOperand i j = absurd (i refl)
none Bar.OpenedBlock i j = absurd (j refl)

pub returns-in-OpenedOperand : goal.returns-in-OpenedOperand
unfolding opened_by
returns-in-OpenedOperand c = elim c.in-OpenedOperand.is [ inl e ↦ rw e | inr e ↦ rw e ]

pub returns-in_default : goal.returns-in_default
returns-in_default c = none c.args.bar c.in_default.not-OpenedOperand c.in_default.not-OpenedBlock
