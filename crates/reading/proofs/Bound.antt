-- No more rows are written than tokens are read, so every row has its place: the grammar's law, of the rooms and the cursor.
use Prim.Native.Nat.{ℕ, ◌+◌, ◌*◌, ◌≤◌, ◌<◌}
use native.Mathlib.Omega.{arith}
use mathlib.Core.List.{List, [], ◌∷◌}
use mathlib.Core.Path.{◌≡◌, refl, ap}
use lib.Dec.{T}
use lib.ListN.{length, length-take}
use Rattle.grammar.specs.Edition.{Edition}
use Rattle.grammar.specs.Handle.{Handle}
use Rattle.grammar.specs.Kaori.{Form, Table, kaori}
use Rattle.grammar.specs.Label.{Label}
use Rattle.grammar.specs.Phrase.{node, Aim, whole}
use Rattle.grammar.specs.Room.{node_width}
use Rattle.grammar.specs.Rows.{Walked}
use Rattle.grammar.specs.Token.{count}
use Rattle.grammar.proofs.Machine.{asked}
use Rattle.grammar.proofs.Room.{spare, paid, paid_node, paid_entry, Grown, make_grown, links_grow, pays}
use Rattle.names.specs.Resolved.{names_of}
use Rattle.reading.specs.Reading.{form, Reading}
use Rattle.reading.specs.State.{State, written, Standing, Within}
use Rattle.reading.specs.declared.Terms.{Terms}
use Rattle.reading.proofs.Laws.{roomy_on, Made}

-- a form that has a token for each of its nodes
pub record Paid (p : Form) : Type 0 where
  pub pays : T (paid p)

-- what a table has, and what a node holds
pub paid_link : (e : Edition) (t : Table) (x : ℕ) {p : Form} → kaori e t x ≡ p → Paid p
paid_link e t x h = record { pays = paid_entry e t x h }

pub paid_inside : {f : Label} {q : Form} → Paid (node f q) → Paid q
paid_inside {f} {q} p = record { pays = (paid_node f q p.pays).1 }

pub asked_form : (g : Aim Table Label) → asked g ≡ form g
asked_form (whole p) = refl
asked_form (Aim.begun p n) = refl

-- from s to s' with h handles made and `extra` tokens to spare
pub record Counts (s s' : State) (h extra : ℕ) : Type 0 where
  pub nodes : s'.cursor.nodes + extra + s.cursor.at ≤ s.cursor.nodes + s'.cursor.at
  pub links : s'.cursor.links + h + extra + s.cursor.at ≤ s.cursor.links + s'.cursor.at
  pub past : s.cursor.at ≤ s'.cursor.at
  pub grows : s.cursor.links ≤ s'.cursor.links

-- numbers of whole rows that stand in their rooms
pub counted : {s s' : State} {k h extra : ℕ} {w : Walked} → Standing s → Standing s' → s.cursor.at + extra + k ≤ s'.cursor.at → w.rows ≡ written s' →
    length w.first + length w.rest ≡ h →
    Grown (written s) 0 k w → length (written s).links ≤ length w.rows.links → Counts s s' h extra
counted {s} {s'} i r e z y g l =
    let gn = rw z at g.nodes in
    let gl = rw z at g.links in
    let ll = rw z at l in
    let n = length-take (node_width * s.cursor.nodes) s.nodes in
    let n' = length-take (node_width * s'.cursor.nodes) s'.nodes in
    let m = length-take (3 * s.cursor.links) s.links in
    let m' = length-take (3 * s'.cursor.links) s'.links in
    record { nodes = omega (arith, i.node_rows, r.node_rows); links = omega (arith, i.link_rows, r.link_rows); past = omega arith; grows = omega (arith, i.link_rows, r.link_rows) }

module _ {ts : List ℕ} {terms : Terms} where
  pub bound : {g : Aim Table Label} {o : ℕ} {s s' : State} {xs ys : List Handle} → Within ts s → Paid (form g) → s'.cursor.at < count ts → Reading ts terms g o s xs ys s' →
      Counts s s' (length xs + length ys) (spare (form g))
  bound {g} {s = s} {s' = s'} i p a r =
      let paying = (pays _ ts (names_of ts s.scratch) r.reads (rw (asked_form g) p.pays)).pay (written s) in
      let (k, e, grown) = paying in
      counted i.stands (r.rooms.stands i.stands) (rw (asked_form g) at e) (ap (λ w. w.rows) r.rows) (ap (λ w. length w.first + length w.rest) r.rows) grown
      (links_grow ts (names_of ts s.scratch) r.tree (written s))

  -- what makes a handle takes a token at least
  pub strictly : {g : Aim Table Label} {o : ℕ} {s s' : State} {h : Handle} {hs ys : List Handle} → Within ts s → Paid (form g) → s'.cursor.at < count ts →
      Reading ts terms g o s (h ∷ hs) ys s' → s.cursor.at < s'.cursor.at
  strictly i p a r = let b = bound i p a r in omega arith

  pub arrived : {g : Aim Table Label} {o : ℕ} {s s' : State} {xs ys : List Handle} → Within ts s → Paid (form g) → s'.cursor.at < count ts → Reading ts terms g o s xs ys s' → Within ts s'
  arrived i p a r =
      let b = bound i p a r in record {
        roomy = roomy_on i.roomy r.rooms;
        stands = r.rooms.stands i.stands;
        at = a;
        rows = omega (arith, i.rows);
        links = omega (arith, i.links, r.holds);
        stack = omega (arith, i.stack, r.holds);
      }

  -- a link of a chain, from where the chain stands: its node has a token of its own
  pub link_within : {f : Label} {q : Form} {o : ℕ} {s₀ s₁ s₂ : State} {h g : Handle} {ys : List Handle} → Within ts s₀ → Paid (node f q) → s₁.cursor.at < count ts →
      Reading ts terms (whole q) o s₀ ys [] s₁ → Made ts f s₀.cursor.at s₁ (h ∷ []) ys (g ∷ []) s₂ → Within ts s₂
  link_within {f} {q} {s₀ = s₀} {s₁ = s₁} {s₂ = s₂} {h = h} {ys = ys} i p a r m =
      let (c, u) = paid_node f q p.pays in
      let b = bound i (record { pays = u }) a r in
      let y = rw m.makes at (make_grown ts (names_of ts s₁.scratch) f s₀.cursor.at s₁.cursor.at (written s₁) (h ∷ []) ys) in
      let stands₁ = r.rooms.stands i.stands in
      let stands₂ = m.rooms.stands stands₁ in
      let at₂ = m.at in
      let n = length-take (node_width * s₁.cursor.nodes) s₁.nodes in
      let n' = length-take (node_width * s₂.cursor.nodes) s₂.nodes in
      let l = length-take (3 * s₁.cursor.links) s₁.links in
      let l' = length-take (3 * s₂.cursor.links) s₂.links in
      record {
        roomy = roomy_on (roomy_on i.roomy r.rooms) m.rooms;
        stands = stands₂;
        at = omega arith;
        rows = omega (arith, i.rows, y.nodes, stands₁.node_rows, stands₂.node_rows);
        links = omega (arith, i.links, y.links, stands₁.link_rows, stands₂.link_rows, r.holds, m.holds);
        stack = omega (arith, i.stack, r.holds, m.holds);
      }
