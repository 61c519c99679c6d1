-- A script whose list is made meets the trait's contract: its part of the room is what the token maker left there, and outside it nothing has changed.
use mathlib.Core.Path.{refl, sym}
use Rattle.scripts.specs.Joined.{Single}
use Rattle.scripts.proofs.Parts.{inside, outside}
use Rattle.scripts.proofs.Stepping.{single_same}
use Rattle.scripts.proofs.tokens.MadeTokens.answer.Goals as goal

pub returns-clause-single : goal.returns-clause-single
returns-clause-single c =
    let a = c.args in
    let h = c.requires in
    single_same refl refl refl (sym (inside a.first a.past a.self.now.list.now _ h.0 h.1 c.read_with.auto.list)) refl (Single.read c.read_with.ensures)

pub returns-clause-outside : goal.returns-clause-outside
returns-clause-outside c =
    let a = c.args in
    let h = c.requires in
    outside a.first a.past a.self.now.list.now _ h.0 h.1 c.read_with.auto.list
