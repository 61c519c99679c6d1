-- `kaori_name` meets its contract: three stores of what `naming::place` answers, each a number more.
use Prim.Native.Nat.{ℕ, ◌≤◌}
use native.Mathlib.Omega.{arith}
use mathlib.Core.List.{List}
use mathlib.Core.Path.{◌≡◌}
use lib.ListN.{length, length-set}
use Rattle.naming.specs.Name.{PlaceTold}
use Rattle.naming.specs.declared.PlaceAnswer.{PlaceAnswer}
use Rattle.scripts.proofs.Stores.{three}
use Rattle.station.specs.Exports.{name_placed, put, NamesPlace}
use Rattle.station.proofs.kaori_name.Goals as goal

told : {names text symbols room out : List ℕ} {count built symbol : ℕ} {p : PlaceAnswer} → 3 ≤ length room → PlaceTold names text symbols count built symbol p → out ≡ put (name_placed p) room → NamesPlace names text symbols count built symbol room out p.code
told h q e = rw e (NamesPlace.place h q)

pub returns-then-answer-lt-NAME_PLACE : goal.returns-then-answer-lt-NAME_PLACE
returns-then-answer-lt-NAME_PLACE c = NamesPlace.short (omega arith)

pub bounds-answer-1 : goal.bounds-answer-1
bounds-answer-1 c = simp length-set (omega arith)

pub returns : goal.returns
returns c =
    let p = c.place-p.result in
    told (omega arith) c.place-p.ensures (three c.args.answer.now p.code p.start p.end (omega arith))
