-- `name` meets its contract: the word is a built-in name; or it is none, since there are none or a search finds none, and is interned.
use native.Mathlib.Omega.{arith}
use mathlib.Core.Path.{◌≡◌, sym}
use Rattle.grammar.specs.Builtin.{builtins, built}
use Rattle.grammar.specs.Symbol.{seek}
use Rattle.grammar.specs.Token.{lexeme}
use Rattle.grammar.proofs.Symbols.{seek_below}
use Rattle.names.proofs.Looking.{built_found, own_found}
use Rattle.names.proofs.name.Goals as goal
use Rattle.names.proofs.name.Goals.{then-built-gt0+in_default, else-built-gt0}

pub returns-in-Some : goal.returns-in-Some
returns-in-Some c =
    let p = c.requires in
    let found = c.in-Some.ensures in
    rw found.is (built_found p (omega (arith, found.is, found.there)))

pub returns : goal.returns
returns c =
    let a = c.args in
    let low = seek_below a.source.names.now (lexeme a.source.text.now a.start a.end) a.source.rows.now in
    let none : seek a.source.names.now (lexeme a.source.text.now a.start a.end) a.source.rows.now ≡ built (builtins a.source.names.now a.source.rows.now) =
    elim c.if-built-gt0.branch [ then-built-gt0+in_default w ↦ sym w.in_default.ensures.is | else-built-gt0 w ↦ omega (arith, low, c.requires.built_is) ]
    in
    own_found c.requires none c.get_or_intern.ensures
