-- `kaori_place` meets its contract: three stores of what `place` answers, each a number more.
use Prim.Native.Nat.{ℕ, ◌≤◌}
use native.Mathlib.Omega.{arith}
use mathlib.Core.List.{List}
use mathlib.Core.Path.{◌≡◌}
use lib.ListN.{length, length-set}
use Rattle.diagnostics.specs.Line.{Placed}
use Rattle.diagnostics.specs.declared.Place.{Place}
use Rattle.scripts.proofs.Stores.{three}
use Rattle.station.specs.Exports.{placed, put, Places}
use Rattle.station.proofs.kaori_place.Goals as goal

told : {text room out : List ℕ} {offset : ℕ} {p : Place} → 3 ≤ length room → Placed text offset p → out ≡ put (placed p) room → Places text offset room out p.code
told h q e = rw e (Places.place h q)

pub returns-then-answer-lt3 : goal.returns-then-answer-lt3
returns-then-answer-lt3 c = Places.short (omega arith)

pub bounds-answer-1 : goal.bounds-answer-1
bounds-answer-1 c = simp length-set (omega arith)

pub returns : goal.returns
returns c =
    let p = c.place-p.result in
    told (omega arith) c.place-p.ensures (three c.args.answer.now p.code p.line p.column (omega arith))
