-- `put` meets its contract: a part that fits is copied behind; else one byte more stands behind those so far.
use native.Mathlib.Omega.{arith}
use mathlib.Core.Path.{refl, ap, ◌∙◌}
use mathlib.Core.List.{◌++◌}
use lib.ListN.{take}
use Rattle.std.proofs.lemmas.Slice.{take-put_mid}
use Rattle.page.proofs.Putting.{next, copied}
use Rattle.page.specs.Line.{puts}
use Rattle.page.proofs.Line.put.Goals as goal

pub loop-byte-init : goal.loop-byte-init
unfolding puts
loop-byte-init c = refl

pub loop-byte-preserved : goal.loop-byte-preserved
loop-byte-preserved c = c.put_byte.ensures ∙ rw c.loop-byte.invariant (next c.args.part.now _ c.loop-byte.byte-index c.loop-byte-test.true)

pub returns-then-part-self : goal.returns-then-part-self
returns-then-part-self c =
    let a = c.args in
    let e = c.copy_from_slice.ensures.after in
    copied a.self.now.room _ a.part.now a.self.now.at (omega arith) (omega arith) (take-put_mid a.self.now.at _ a.self.now.room c.copy_from_slice.new.self _ (rw e refl) (omega arith) ∙ ap (λ ys. take a.self.now.at a.self.now.room ++ ys) e)
