-- `finish` meets its contract: the parents are put in, and zeros follow.
use mathlib.Core.Path.{refl}
use Rattle.syntax.proofs.Finishing.{used_length, adoptable, finished}
use Rattle.syntax.proofs.finish.Goals as goal

pub slice_bounds-adopt-end-2 : goal.slice_bounds-adopt-end-2
slice_bounds-adopt-end-2 c = used_length c.requires

pub adopt-requires : goal.adopt-requires
adopt-requires c = adoptable c.requires

pub returns : goal.returns
returns c = finished c.requires c.adopt.ensures c.clear.ensures c.clear-2.ensures c.clear-3.ensures c.clear-4.ensures refl
