-- `enter` meets its contract: a name fails one of the four tests, or it is right.
use mathlib.Core.Path.{sym, ◌∙◌}
use native.Mathlib.Omega.{arith}
use Rattle.grammar.specs.Kind.{Identifier}
use Rattle.grammar.specs.Lexeme.{Fits}
use Rattle.grammar.specs.Table.{Part, start_of, end_of, word}
use Rattle.interner.proofs.Grown.{linkable}
use Rattle.interner.proofs.Search.{row_below, sought_some, sought_no}
use Rattle.spelling.proofs.Deciding.{held, failed}
use Rattle.builtins.proofs.Naming.{wrong_name, name_there, first_there, right_name}
use Rattle.builtins.proofs.enter.Goals as goal
use Rattle.builtins.proofs.enter.Goals.{Else-not-fits}

-- a name that passes the first three tests is a part of the text, and fits
part : (c : Else-not-fits) → let a = c.args in Part a.names.now (start_of a.rows.now a.i) (end_of a.rows.now a.i)
part c = record { ordered = omega arith; inside = omega arith }

fit : (c : Else-not-fits) → let a = c.args in Fits Identifier (word a.names.now a.rows.now a.i)
fit c = held (rw c.if-not-fits.false at c.fits.ensures)

pub returns-then-not-fits : goal.returns-then-not-fits
returns-then-not-fits c = wrong_name (λ z. failed (rw c.if-not-fits.true at c.fits.ensures) (name_there c.requires.1 z))

pub returns-then-is_some : goal.returns-then-is_some
returns-then-is_some c =
    let b = c.requires.1 in
    let (k, same) = sought_some c.find.ensures (sym c.is_some.ensures ∙ c.if-is_some.true) in
    wrong_name (first_there b (row_below c.args.rows.now c.args.i b.named.indexed.stands k same.row) same)

pub link-requires : goal.link-requires
link-requires c = let b = c.requires.1 in rw c.bucket-place.ensures (linkable b.named.indexed b.free (omega arith) _)

pub returns : goal.returns
returns c =
    let b = c.requires.1 in
    let fitted = (goal.at.returns c).Else-not-fits in
    let none = sought_no c.find.ensures (sym c.is_some.ensures ∙ c.if-is_some.false) in
    rw (c.link.ensures, c.bucket-place.ensures) (right_name b (part fitted) (fit fitted) none)
