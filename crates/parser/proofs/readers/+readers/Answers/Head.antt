-- What a chain starts with: parentheses, or a name.
use native.Mathlib.Omega.{arith}
use Prim.Native.Nat.{ℕ}
use mathlib.Core.Path.{◌≡◌}
use borrow.Author.Tests.{ne_eqb}
use Rattle.grammar.specs.Kaori.{group as parenthesised, leaf}
use Rattle.grammar.specs.Kind.{LeftParen, Identifier}
use Rattle.grammar.specs.Label.{Node}
use Rattle.reading.specs.Parts.{head_form}
use Rattle.parser.proofs.Forms.{as_form}
use Rattle.parser.proofs.readers.+readers.Goals as goal

paren : {x : ℕ} → x ≡ LeftParen → head_form x ≡ parenthesised
unfolding head_form
paren e = rw e

name : {x : ℕ} → (x ≡ LeftParen → ⊥) → head_form x ≡ leaf Node.Identifier Identifier
unfolding head_form
name {x} h = rw (ne_eqb x LeftParen h)

pub head-returns-in-17 : goal.head-returns-in-17
head-returns-in-17 t c = as_form (paren c.in-17.is) c.group.ensures

pub head-returns-in_default : goal.head-returns-in_default
head-returns-in_default t c = as_form (name (λ e. omega arith)) c.identifier.ensures
