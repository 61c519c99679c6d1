-- `settle` meets its contract: the passes one after another, and then the freed rows are cleared.
use Prim.Native.Nat.{suc, ◌+◌, ◌-◌, ◌≤◌}
use native.Mathlib.Omega.{arith}
use mathlib.Core.Path.{◌≡◌, ◌∙◌}
use lib.ListN.{length, get_or}
use lib.Seq.{length-take-le}
use Rattle.grammar.specs.Handle.{absent}
use Rattle.grammar.specs.Rows.{Rows}
use Rattle.parts.specs.Packed.{root_row, keeps, rows_kept, left}
use Rattle.packing.specs.Roles.{rows}
use Rattle.packing.specs.Rows.{PackedAll}
use Rattle.packing.proofs.Settling.{root_is, first_is, begins, markable, mapped, packable, high_is, high_few, long_few, settled}
use Rattle.packing.proofs.settle.Goals as goal
use Rattle.packing.proofs.settle.Goals.{After-split_at_mut-words, After-keep, After-pack-long}

abbrev rows_at : After-keep → Rows
rows_at c = rows c.args.nodes.now c.args.links.now

-- behind the numbers of the symbols there is one for each row
behind : (c : After-split_at_mut-words) → c.args.n ≤ length c.split_at_mut-words.result.1.now
behind c = omega (arith, c.split_at_mut-words.ensures.back_len, c.requires.lent, c.requires.tall, c.hear_all-known.auto.scratch)

size : (c : After-keep) → length c.keep.new.marks ≡ c.args.n
size c = c.keep.auto.marks ∙ length-take-le c.args.n _ (omega (arith, c.split_at_mut-words.ensures.back_len, c.requires.lent, c.requires.tall, c.hear_all-known.auto.scratch))

-- how many rows stay
high : (c : After-keep) → get_or c.keep.new.marks (c.args.n - 1) 0 + 1 ≡ suc (rows_kept (keeps c.args.choice.now) (rows_at c) (root_row (rows_at c)))
high c = high_is c.requires c.hear_all-known.ensures c.hear_all-known.auto.scratch c.split_at_mut-words.ensures.front c.keep.ensures

few_rows : (c : After-keep) → get_or c.keep.new.marks (c.args.n - 1) 0 + 1 ≤ absent
few_rows c = high_few c.requires c.hear_all-known.ensures (high c)

all_packed : (c : After-pack-long) → (let w = rows c.args.nodes.now c.args.links.now in PackedAll (keeps c.args.choice.now) (left (keeps c.args.choice.now) c.args.builtins w) w c.pack-long.new.nodes c.pack-long.new.links c.pack-long.result)
all_packed c = c.pack-long.ensures.says (mapped c.requires c.hear_all-known.ensures c.hear_all-known.auto.scratch c.split_at_mut-words.ensures.front c.keep.ensures)

few_links : (c : After-pack-long) → c.pack-long.result ≤ absent
few_links c = long_few c.requires c.hear_all-known.ensures (all_packed c) (high_is c.requires c.hear_all-known.ensures c.hear_all-known.auto.scratch c.split_at_mut-words.ensures.front c.keep.ensures)

pub hear_all-known-requires : goal.hear_all-known-requires
hear_all-known-requires c = begins c.requires (first_is c.requires)

pub split_at_mut-words-requires : goal.split_at_mut-words-requires
split_at_mut-words-requires c = omega (arith, c.requires.lent, c.hear_all-known.auto.scratch)

pub slice_bounds-places-end : goal.slice_bounds-places-end
slice_bounds-places-end c = behind (goal.at.slice_bounds-places-end c).After-split_at_mut-words

pub keep-requires : goal.keep-requires
keep-requires c = markable c.requires (first_is c.requires) (length-take-le c.args.n _ (behind (goal.at.keep-requires c).After-split_at_mut-words))

pub overflow_cast-high : goal.overflow_cast-high
overflow_cast-high c = omega (arith, few_rows (goal.at.overflow_cast-high c).After-keep)

pub overflow_add-high : goal.overflow_add-high
overflow_add-high c = omega (arith, few_rows (goal.at.overflow_add-high c).After-keep)

pub pack-long-requires : goal.pack-long-requires
pack-long-requires c = packable c.requires c.hear_all-known.ensures c.hear_all-known.auto.scratch c.split_at_mut-words.ensures.front c.keep.ensures (first_is c.requires) (root_is c.requires) (size (goal.at.pack-long-requires c).After-keep)

pub overflow_mul-high : goal.overflow_mul-high
overflow_mul-high c = omega (arith, few_rows (goal.at.overflow_mul-high c).After-keep)

pub overflow_mul-long : goal.overflow_mul-long
overflow_mul-long c = omega (arith, few_links (goal.at.overflow_mul-long c).After-pack-long)

pub overflow_cast-result : goal.overflow_cast-result
overflow_cast-result c = omega (arith, few_rows (goal.at.overflow_cast-result c).After-keep)

pub overflow_cast-result-2 : goal.overflow_cast-result-2
overflow_cast-result-2 c = omega (arith, few_links (goal.at.overflow_cast-result-2 c).After-pack-long)

pub returns : goal.returns
returns c = settled c.requires c.hear_all-known.ensures (all_packed (goal.at.returns c).After-pack-long) (high (goal.at.returns c).After-keep) c.clear.ensures c.clear-2.ensures c.clear-3.ensures
