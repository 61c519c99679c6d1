-- `get_or_intern` meets its contract, by what `bucket`, `find` and `link` ensure.
use Prim.Native.Nat.{ℕ, ◌<◌}
use native.Mathlib.Omega.{arith}
use Rattle.grammar.specs.Table.{Holds}
use Rattle.grammar.specs.Token.{lexeme}
use Rattle.interner.specs.Interns.{used}
use Rattle.interner.proofs.Grown.{linkable}
use Rattle.interner.proofs.Outcomes.{old_name, new_name, no_place}
use Rattle.interner.proofs.Search.{row_below, sought_row, sought_none}
use Rattle.interner.proofs.get_or_intern.Goals as goal
use Rattle.interner.proofs.get_or_intern.Goals.{In-Some, In_default}

-- no row has the bytes, where the search says so
none : (c : In_default) (i : ℕ) → let a = c.args in Holds a.text.now (lexeme a.text.now a.start a.end) (used a.count a.symbols.now) i → ⊥
none c = sought_none c.in_default.ensures

-- a row that is found is one in use
low : (c : In-Some) → c.in-Some.i < c.args.count
low c = row_below c.args.symbols.now c.args.count c.requires.indexed.stands c.in-Some.i (sought_row c.in-Some.ensures).row

pub overflow_cast-symbol : goal.overflow_cast-symbol
overflow_cast-symbol c = let l = low (goal.at.overflow_cast-symbol c).In-Some in omega (arith, c.requires.number, c.requires.indexed.few)

pub overflow_add-symbol : goal.overflow_add-symbol
overflow_add-symbol c = let l = low (goal.at.overflow_add-symbol c).In-Some in omega (arith, c.requires.number, c.requires.indexed.few)

pub returns-in-Some : goal.returns-in-Some
returns-in-Some c = old_name c.requires c.in-Some.i (sought_row c.in-Some.ensures)

pub returns-then-symbols-count : goal.returns-then-symbols-count
returns-then-symbols-count c = no_place c.requires (none (goal.at.returns-then-symbols-count c).In_default) (omega (arith, c.if-symbols-count.true))

pub link-requires : goal.link-requires
link-requires c = rw c.bucket-place.ensures (linkable c.requires.indexed c.requires.free (omega (arith, c.requires.number)) _)

pub returns : goal.returns
returns c = rw (c.link.ensures, c.bucket-place.ensures) (new_name c.requires (none (goal.at.returns c).In_default) (omega (arith, c.if-symbols-count.false)))
