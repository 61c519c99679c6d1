-- `keep` meets its contract: the three passes, one after another.
use mathlib.Core.Path.{◌∙◌}
use native.Mathlib.Omega.{arith}
use Rattle.parts.specs.Packed.{keeps}
use Rattle.packing.specs.Kept.{Staying}
use Rattle.packing.specs.Seen.{seen}
use Rattle.packing.proofs.keep.keep.Goals as goal
use Rattle.packing.proofs.keep.keep.Goals.{After-spread}

-- the marks after two passes
staying : (c : After-spread) → Staying (keeps c.args.choice.now) (seen c.args.rows) 0 c.spread.new.marks
staying c = let e = c.mark.auto.marks in c.spread.ensures.says {first = c.args.first} (rw e c.requires) (rw e c.mark.ensures)

pub spread-requires : goal.spread-requires
spread-requires c = (c.requires.sound, omega (arith, c.requires.rows, c.mark.auto.marks))

pub count-requires : goal.count-requires
count-requires c = record { lines = _; choice = _; sound = c.requires.sound; many = c.spread.auto.marks ∙ c.mark.auto.marks ∙ c.requires.rows; staying = staying (goal.at.count-requires c).After-spread }

pub returns : goal.returns
returns c = c.count.ensures.says (c.spread.auto.marks ∙ c.mark.auto.marks ∙ c.requires.rows) (staying (goal.at.returns c).After-spread)
