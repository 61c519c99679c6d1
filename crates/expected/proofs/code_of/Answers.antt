-- `code_of` meets its contract.
use mathlib.Core.Logic.{inl, inr}
use Rattle.expected.specs.Parts.{code_of}
use Rattle.expected.proofs.code_of.Goals as goal

pub returns-in-Token : goal.returns-in-Token
unfolding code_of
returns-in-Token c = elim c.in-Token.is [ inl e ↦ rw e | inr e ↦ rw e ]

pub returns-in-Operand : goal.returns-in-Operand
unfolding code_of
returns-in-Operand c = elim c.in-Operand.is [ inl e ↦ rw e | inr e ↦ rw e ]

pub returns-in-For : goal.returns-in-For
unfolding code_of
returns-in-For c = rw c.in-For.is
