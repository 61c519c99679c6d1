-- What a reading makes: a tail's row is among the rows that are written, and a statement makes one handle of a row.
use Prim.Native.Nat.{ℕ, ◌+◌, ◌*◌, ◌≤◌, ◌<◌}
use native.Mathlib.Omega.{arith}
use mathlib.Core.Bool.{true, false≢true}
use mathlib.Core.List.{List, [], ◌∷◌}
use mathlib.Core.Path.{◌≡◌, refl}
use lib.ListN.{length, length-take}
use lib.Seq.{length-take-le}
use Rattle.grammar.specs.Handle.{Handle, absent, row, link, is_tail, last}
use Rattle.grammar.specs.Kaori.{Table, statement}
use Rattle.grammar.specs.Label.{Label}
use Rattle.grammar.specs.Phrase.{choice, Aim, whole}
use Rattle.grammar.specs.Room.{node_width}
use Rattle.grammar.specs.Rows.{Rows}
use Rattle.grammar.proofs.Decoding.{Whole}
use Rattle.grammar.proofs.Handles.{Known, AllKnown, Aligned, walk_sound}
use Rattle.grammar.proofs.Shapes.{table, shape, ok}
use Rattle.grammar.proofs.Sizes.{Fits, one}
use Rattle.grammar.proofs.Trees.{grows}
use Rattle.names.specs.Resolved.{names_of}
use Rattle.reading.specs.Reading.{Reading}
use Rattle.reading.specs.State.{State, written, Within}
use Rattle.reading.specs.declared.Terms.{Terms}

-- what is written so far is whole rows
whole_rows : {ts : List ℕ} {s : State} → Within ts s → Whole (written s)
whole_rows {s = s} w =
    let n = length-take-le (node_width * s.cursor.nodes) s.nodes w.stands.node_rows in
    let l = length-take-le (3 * s.cursor.links) s.links w.stands.link_rows in
    record { nodes = omega arith; links = omega arith }

last_known : {w : Rows} {hs : List Handle} → AllKnown w hs → Known w (last hs)
last_known AllKnown.nil = Known.other
last_known (AllKnown.cons k AllKnown.nil) = k
last_known (AllKnown.cons k (AllKnown.cons j ks)) = last_known (AllKnown.cons j ks)

tail_row : {w : Rows} {h : Handle} → Known w h → is_tail h ≡ true → node_width * (row h + 1) ≤ length w.nodes
tail_row (Known.node h p q) e = h
tail_row Known.name e = absurd (false≢true e)
tail_row (Known.entry k v) e = absurd (false≢true e)
tail_row (Known.ended i) e = absurd (false≢true e)
tail_row Known.other e = absurd (false≢true e)

-- a tail has a row
pub tail_present : {ts : List ℕ} {terms : Terms} {o : ℕ} {g : Aim Table Label} {s s' : State} {hs ys : List Handle} → s'.cursor.nodes < absent → Within ts s → Reading ts terms g o s hs ys s' →
    is_tail (last hs) ≡ true → row (last hs) ≡ absent → ⊥
unfolding Aligned
tail_present {ts} {s = s} {s' = s'} {hs = hs} i w r e z =
    let k : AllKnown (written s') hs = rw r.rows at (walk_sound ts (names_of ts s.scratch) r.tree (written s) (whole_rows w).nodes).first in
    omega (arith, tail_row (last_known k) e, length-take (node_width * s'.cursor.nodes) s'.nodes)

row_link : (h : Handle) → Fits one (h ∷ []) → link h ≡ row h ∷ 0 ∷ 0 ∷ []
row_link (Handle.node i s e) f = refl
row_link (Handle.name x s e) f = absurd (omega (arith, f.least))
row_link (Handle.entry k v) f = absurd (omega (arith, f.least))
row_link (Handle.ended i) f = refl
row_link Handle.other f = absurd (omega (arith, f.least))

-- a statement's link is its row
pub statement_link : {ts : List ℕ} {terms : Terms} {o : ℕ} {s s' : State} {h : Handle} → Within ts s → Reading ts terms (whole (choice statement)) o s (h ∷ []) [] s' → link h ≡ row h ∷ 0 ∷ 0 ∷ []
unfolding ok shape table
statement_link {ts} {s = s} {h = h} w r = row_link h (rw r.rows at (grows _ ts (names_of ts s.scratch) r.reads tt (whole_rows w)).first)
