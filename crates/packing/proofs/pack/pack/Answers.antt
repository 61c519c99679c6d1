-- `pack` meets its contract: all rows but the root, then its list and its row.
use native.Mathlib.Omega.{arith}
use Rattle.packing.proofs.Rooting.{listable, place_back, root_there, to_fits, count_fits, root_packed}
use Rattle.packing.proofs.pack.pack.Goals as goal

pub pack_list-end-requires : goal.pack_list-end-requires
pack_list-end-requires c = listable c.requires c.pack_rows-to.ensures

pub overflow_cast-to : goal.overflow_cast-to
overflow_cast-to c = omega (arith, to_fits c.requires c.pack_rows-to.ensures)

pub overflow_cast-end : goal.overflow_cast-end
overflow_cast-end c = omega (arith, count_fits c.requires c.pack_rows-to.ensures c.pack_list-end.ensures)

pub pack_root-requires : goal.pack_root-requires
pack_root-requires c = (place_back c.requires c.pack_rows-to.ensures, root_there c.requires c.pack_rows-to.ensures)

pub returns : goal.returns
returns c = root_packed c.requires c.pack_rows-to.ensures c.pack_list-end.ensures c.pack_root.ensures
