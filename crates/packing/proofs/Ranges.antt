-- A number of a row that passed the check can be pushed.
use Prim.Native.Nat.{ℕ, ◌<◌}
use native.Mathlib.Decide.{dec_lt}
use native.Mathlib.Omega.{arith}
use Rattle.grammar.specs.Naming.{height}
use Rattle.grammar.specs.Room.{own_width}
use Rattle.grammar.specs.Rows.{Rows}
use Rattle.packing.specs.Good.{Sound}
use Rattle.packing.specs.Roles.{at, role_at}
use Rattle.packing.specs.Stack.{HoldsNumber}
use Rattle.packing.proofs.Numbers.{row_ranges}
use Rattle.packing.proofs.Slots.{front_role, role_known, stood}

-- number j of a row, and the links of the list that it begins, are there
pub holds : {w : Rows} {i : ℕ} → Sound w → i < height w → (j : ℕ) → j < own_width → HoldsNumber w.nodes w.links i j (role_at w.nodes i j)
holds {w} {i} s h j k =
    let g = s.good in
    let st = stood g h in
    let r = row_ranges g i h j k in
    record {
      room = st.room;
      inside = k;
      known = role_known (at w.nodes i 0) j;
      list = λ l. omega (arith, r.list l, g.links);
      few = λ l. omega (arith, r.list l, g.few);
      name = λ l. elim (dec_lt j 3) [ yes q ↦ absurd (omega (arith, front_role w i st j q)) | no q ↦ omega arith ];
    }
