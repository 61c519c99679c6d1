-- `diagnostics::text::required` meets its contract: the four parts one after the other are the text, and no name is longer than 16 bytes, so that they fit.
use native.Mathlib.Omega.{arith}
use mathlib.Core.Logic.{inl, inr}
use borrow.Author.Tests.{le-leb, lt-leb}
use Rattle.grammar.specs.Kind.{Eof}
use Rattle.spelling.proofs.display.Names.{short}
use Rattle.spelling.proofs.display.Writing.{nothing, joined}
use Rattle.diagnostics.specs.Message.{text_of}
use Rattle.diagnostics.proofs.text.required.Goals as goal

pub returns-then-expected-gt44 : goal.returns-then-expected-gt44
unfolding text_of
returns-then-expected-gt44 c = elim c.then-expected-gt44.either [
  | inl h ↦ simp (lt-leb c.args.expected Eof h) (nothing _ _)
  | inr h ↦ simp (le-leb c.args.expected Eof h.0, lt-leb c.args.found Eof h.1) (nothing _ _)
]

pub put_name-b-requires : goal.put_name-b-requires
put_name-b-requires c = (omega arith, omega (arith, short c.args.expected))

pub put-c-requires : goal.put-c-requires
put-c-requires c = omega (arith, short c.args.expected)

pub put_name-requires : goal.put_name-requires
put_name-requires c = (omega arith, omega (arith, short c.args.expected, short c.args.found))

pub returns : goal.returns
unfolding text_of
returns c =
    simp (le-leb c.args.expected Eof c.if-expected-gt44.false, le-leb c.args.found Eof c.if-found-gt44.false)
    (joined c.put-a.ensures (joined c.put_name-b.ensures (joined c.put-c.ensures c.put_name.ensures)))
