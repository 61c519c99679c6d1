-- `advance` meets its contract: nothing is left, or the first cell that stops the kind bars it or takes it.
use Prim.Native.Nat.{ℕ, ◌+◌, ◌-◌, ◌<◌}
use native.Mathlib.Omega.{arith}
use mathlib.Core.List.{List}
use mathlib.Core.Path.{◌≡◌, refl}
use lib.ListN.{drop}
use Rattle.grammar.specs.Edition.{Edition}
use Rattle.grammar.proofs.Stopping.{marks}
use Rattle.expected.specs.Cells.{decoded, Pushed}
use Rattle.expected.specs.Steps.{StopsAt, Case}
use Rattle.expected.specs.declared.stack.Stop.{Stop}
use Rattle.expected.proofs.Passing.{met, as_stop, as_nowhere, bar, bar_few, take, finished}
use Rattle.expected.proofs.Laws.{opens_few}
use Rattle.expected.proofs.stack.advance.Goals as goal

-- so many constructs are open below the cell
below : {e : Edition} {x top depth : ℕ} {room : List ℕ} {s : Stop} → StopsAt e x top room s → depth ≡ marks (decoded (drop top room)) → depth - s.marks ≡ marks (decoded (drop s.at room))
below s d = omega (arith, s.above.counted, d)

-- nothing is left
pub returns-in_default : goal.returns-in_default
unfolding Case
returns-in_default c = record { says = finished (as_nowhere c.in_default.ensures c.args.at) (omega arith); same_length = refl }

pub overflow_sub-left : goal.overflow_sub-left
overflow_sub-left c = let s = as_stop c.in-Some.ensures in omega (arith, s.above.counted, c.requires.depth_value)

-- the cell bars the kind
pub returns-in-Bars : goal.returns-in-Bars
unfolding Case
returns-in-Bars c =
    let s = as_stop c.in-Some.ensures in
    record { says = bar (s.above.passing c.args.at) s.inside s.state (met c.in-Bars.is s.acts) (bar_few _) (below s c.requires.depth_value); same_length = refl }

-- it takes it
pub overflow_add-stop : goal.overflow_add-stop
overflow_add-stop c = let s = as_stop c.in-Some.ensures in omega (arith, s.inside)

pub push-below-requires : goal.push-below-requires
push-below-requires c =
    let s = as_stop c.in-Some.ensures in
    let k = met c.in-Takes.is s.acts in
    record { list_bound = omega (arith, k.bound); le_top = omega (arith, c.requires.le_top, (s.above.passing 0).past); top_in_bounds = omega (arith, s.inside); at_bound = c.requires.at_bound }

pub opens-requires : goal.opens-requires
opens-requires c = let s = as_stop c.in-Some.ensures in let k = met c.in-Takes.is s.acts in omega (arith, k.bound)

pub overflow_add-result : goal.overflow_add-result
overflow_add-result c = omega (arith, c.requires.depth_bound, opens_few c.in-Takes.list, c.opens.ensures)

pub returns-in-Takes : goal.returns-in-Takes
unfolding Case
returns-in-Takes c =
    let s = as_stop c.in-Some.ensures in
    let e : 6 + c.in-Takes.list - 6 ≡ c.in-Takes.list = omega arith in
    let p : 5 < 6 + c.in-Takes.list = omega arith in
    let u : Pushed (6 + c.in-Takes.list - 6) c.args.at (c.in-Some.stop.at + 1) c.args.room.now c.push-below.new.room c.push-below.result = rw e c.push-below.ensures in
    record {
      says = rw c.opens.ensures (rw e at (take (s.above.passing c.args.at) s.inside s.state (met c.in-Takes.is s.acts) p c.requires.le_top (below s c.requires.depth_value) u));
      same_length = c.push-below.ensures.same_length;
    }
