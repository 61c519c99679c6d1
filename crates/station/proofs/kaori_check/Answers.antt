-- `kaori_check` meets its contract: three stores of what `check` answers, each a number more.
use Prim.Native.Nat.{ℕ, ◌≤◌}
use native.Mathlib.Omega.{arith}
use mathlib.Core.List.{List, [], ◌∷◌}
use mathlib.Core.Path.{◌≡◌}
use lib.ListN.{length, length-set}
use Rattle.checker.specs.Verdict.{Tells}
use Rattle.checker.specs.declared.Verdict.{Verdict}
use Rattle.foreign.specs.Check.{Given}
use Rattle.grammar.specs.Room.{Rooms}
use Rattle.scripts.proofs.Stores.{three}
use Rattle.station.specs.Exports.{put, ChecksRows}
use Rattle.station.proofs.kaori_check.Goals as goal

told : {g : Given} {after : Rooms} {room out : List ℕ} {v : Verdict} → 3 ≤ length room → Tells g after v → out ≡ put (v.code ∷ v.rule ∷ v.row ∷ []) room → ChecksRows g room after out v.code
told h t e = rw e (ChecksRows.checked h t.says)

pub returns-then-answer-lt-VERDICT : goal.returns-then-answer-lt-VERDICT
returns-then-answer-lt-VERDICT c = ChecksRows.short (omega arith)

pub bounds-answer-1 : goal.bounds-answer-1
bounds-answer-1 c = simp length-set (omega arith)

pub returns : goal.returns
returns c =
    let v = c.check-v.result in
    told (omega arith) c.check-v.ensures (three c.args.answer.now v.code v.rule v.row (omega arith))
