-- A node's row: what a builder writes is what the grammar makes of the node's parts.
use Prim.Native.Nat.{ℕ, ◌+◌, ◌*◌, ◌/◌, ◌≤◌, ◌<◌}
use native.Mathlib.Omega.{arith}
use mathlib.Core.Bool.{false}
use mathlib.Core.List.{List, [], ◌∷◌, ◌++◌}
use mathlib.Core.Path.{◌≡◌, refl, sym, ap, ◌∙◌}
use lib.ListN.{length, take, length-take, length-append}
use lib.Seq.{length-take-le}
use Rattle.ast.specs.Inserted.{Inserted, Attempt, Tried}
use Rattle.ast.specs.Written.{Written}
use Rattle.ast.specs.declared.Node.{Node}
use Rattle.grammar.specs.Handle.{Handle, absent}
use Rattle.grammar.specs.Label.{Label}
use Rattle.grammar.specs.Room.{node_width}
use Rattle.grammar.specs.Rows.{Walked, padded, make, keep}
use Rattle.grammar.specs.Space.{has_word, Worded, Lacks}
use Rattle.grammar.proofs.Growth.{padded_length}
use Rattle.names.specs.Resolved.{names_of}
use Rattle.reading.specs.Answers.{node_of}
use Rattle.reading.specs.Parts.{grown, no_room, Makes, MakesList}
use Rattle.reading.specs.State.{State, state, written, Standing, Lent, Within}
use Rattle.reading.specs.declared.Cursor.{Cursor}
use Rattle.reading.specs.declared.Read.{Read}
use Rattle.reading.proofs.Laws.{rooms_on, plain, same_space, lacks_as, worded_with, Made, Unmade}

-- the number of whole rows
pub row_number : (n : ℕ) (ns : List ℕ) → node_width * n ≤ length ns → length (take (node_width * n) ns) / node_width ≡ n
row_number n ns h = let e = length-take-le (node_width * n) ns h in omega arith

pub link_number : (n : ℕ) (ls : List ℕ) → 3 * n ≤ length ls → length (take (3 * n) ls) / 3 ≡ n
link_number n ls h = let e = length-take-le (3 * n) ls h in omega arith

-- one node row more, with so many links
abbrev grown_by : Cursor → ℕ → Cursor
grown_by c n = record { at = c.at; nodes = c.nodes + 1; links = c.links + n; held = c.held }

-- what a node writes: these numbers as its row, and these links
abbrev pub entered : (c : Cursor) (ns ls : List ℕ) (k st en : ℕ) (fields links : List ℕ) → Walked
entered c ns ls k st en fields links =
    keep (record { nodes = take (node_width * c.nodes) ns ++ padded (k ∷ st ∷ en ∷ fields); links = take (3 * c.links) ls ++ links }) (Handle.node (length (take (node_width * c.nodes) ns) / node_width) st en ∷ [])

abbrev pub entered_alone : (c : Cursor) (ns ls : List ℕ) (k st en : ℕ) (fields : List ℕ) → Walked
entered_alone c ns ls k st en fields =
    keep (record { nodes = take (node_width * c.nodes) ns ++ padded (k ∷ st ∷ en ∷ fields); links = take (3 * c.links) ls }) (Handle.node (length (take (node_width * c.nodes) ns) / node_width) st en ∷ [])

module _ {ts : List ℕ} {f : Label} {a : ℕ} {xs zs : List Handle} {ns ns' ls ss : List ℕ} {c : Cursor} {k st en : ℕ} {fields : List ℕ} {n : Node} where
  row_made : Inserted c.nodes k st en fields ns ns' n → node_width * (c.nodes + 1) ≤ length ns → Worded (names_of ts ss) f a →
      make ts (names_of ts ss) f a c.at (written (state ns ls ss c)) xs zs ≡ entered_alone c ns ls k st en fields →
      Made ts f a (state ns ls ss c) xs zs (node_of n ∷ []) (state ns' ls ss (grown c))
  row_made i h v e =
      record {
        makes = e ∙ rw (row_number c.nodes ns (omega arith), i.row.rows, i.handle);
        at = refl;
        holds = refl;
        same = refl;
        rooms = record { nodes = i.row.size; links = refl; scratch = refl; stands = λ z. record { node_rows = omega (arith, i.row.size); link_rows = z.link_rows } };
        kept = refl;
        word = v;
      }

  list_made : {ls' links : List ℕ} (m : ℕ) → Inserted c.nodes k st en fields ns ns' n → node_width * (c.nodes + 1) ≤ length ns → 3 * (c.links + m) ≤ length ls → has_word f ≡ false → Written (3 * c.links) (3 * (c.links + m)) links ls ls' →
      make ts (names_of ts ss) f a c.at (written (state ns ls ss c)) xs zs ≡ entered c ns ls k st en fields links →
      Made ts f a (state ns ls ss c) xs zs (node_of n ∷ []) (state ns' ls' ss (grown_by c m))
  list_made m i h l v w e =
      record {
        makes = e ∙ rw (row_number c.nodes ns (omega arith), i.row.rows, i.handle, w.rows);
        at = refl;
        holds = refl;
        same = refl;
        rooms = record { nodes = i.row.size; links = w.size; scratch = refl; stands = λ z. record { node_rows = omega (arith, i.row.size); link_rows = omega (arith, w.size) } };
        kept = refl;
        word = λ h z. plain v h;
      }

-- the row does not fit, or the links that come before it do not: this is met at the token after the node. `links` are the link rows then
module _ {ts : List ℕ} {f : Label} {a : ℕ} {xs zs hs : List Handle} {ns ls ss : List ℕ} {c : Cursor} (numbers links : List ℕ) (w : Standing (state ns ls ss c)) (v : Worded (names_of ts ss) f a)
    (e : make ts (names_of ts ss) f a c.at (written (state ns ls ss c)) xs zs ≡ keep (record { nodes = take (node_width * c.nodes) ns ++ padded numbers; links = links }) hs) where
  pub row_unmade : length links ≤ length ls → length ns < node_width * (c.nodes + 1) → Unmade ts f a (state ns ls ss c) xs zs c.at
  row_unmade h i =
      let n = length-append (take (node_width * c.nodes) ns) (padded numbers) in
      record { lacks = rw e (Lacks.row v h (omega (arith, n, padded_length numbers, length-take-le (node_width * c.nodes) ns w.node_rows))) }

  pub links_unmade : length ls < length links → Unmade ts f a (state ns ls ss c) xs zs c.at
  links_unmade h = record { lacks = rw e (Lacks.link v h) }

-- what a builder, and `made` after it, come to
pub data Tries (ts : List ℕ) (f : Label) (a : ℕ) (s : State) (xs ys : List Handle) (ns ls ss : List ℕ) : Read → Type 0 where
  made : {n : Node} {d : Cursor} → Made ts f a s xs ys (node_of n ∷ []) (state ns ls ss d) → Tries ts f a s xs ys ns ls ss (Read.Node n d)
  lacking : {c : ℕ} → Unmade ts f a s xs ys c → Tries ts f a s xs ys ns ls ss (Read.Refused (no_room c))

-- a row alone
pub row_tried : {ts : List ℕ} {f : Label} {a : ℕ} {xs zs : List Handle} {ns ns' ls ss : List ℕ} {c : Cursor} {k st en : ℕ} {fields : List ℕ} {n : Node} {r : Read} → Within ts (state ns ls ss c) →
    Lent ts → Worded (names_of ts ss) f a → make ts (names_of ts ss) f a c.at (written (state ns ls ss c)) xs zs ≡ entered_alone c ns ls k st en fields → Makes n c r →
    Tried c.nodes k st en fields ns ns' n → Tries ts f a (state ns ls ss c) xs zs ns' ls ss r
row_tried {ts} {f} {a} {xs} {zs} {ns} {ns'} {ls} {ss} {c} {k} {st} {en} {fields} {n} w l v e m t = pick m t.says
  where
    pick : {r : Read} → Makes n c r → Attempt c.nodes st en (padded (k ∷ st ∷ en ∷ fields)) ns ns' n → Tries ts f a (state ns ls ss c) xs zs ns' ls ss r
    pick (Makes.made m) (Attempt.there h i d) = Tries.made (row_made {fields = fields} (record { row = i; handle = d }) h v e)
    pick (Makes.full m) (Attempt.there h i d) = absurd (omega (arith, ap (λ n. n.id) d, m, w.rows, w.at, l.whole.most))
    pick (Makes.made m) (Attempt.full h i d) = absurd (m (ap (λ n. n.id) d))
    pick (Makes.full m) (Attempt.full h i d) = rw i (Tries.lacking (row_unmade (k ∷ st ∷ en ∷ fields) (take (3 * c.links) ls) w.stands v e (omega (arith, length-take (3 * c.links) ls)) h))

-- a row with so many links, which were written if they have room
pub list_tried : {ts : List ℕ} {f : Label} {a : ℕ} {xs zs : List Handle} {ns ns' ls ls' ss links : List ℕ} {k st en : ℕ} {fields : List ℕ} {n : Node} {r : Read} (c : Cursor) (m : ℕ) → Standing (state ns ls ss c) →
    c.nodes < absent → has_word f ≡ false → make ts (names_of ts ss) f a c.at (written (state ns ls ss c)) xs zs ≡ entered c ns ls k st en fields links → length links ≡ 3 * m →
    (3 * (c.links + m) ≤ length ls → Written (3 * c.links) (3 * (c.links + m)) links ls ls') → length ls' ≡ length ls → {h : ℕ} →
    MakesList (length ls') n (record { at = c.at; nodes = c.nodes; links = c.links + m; held = h }) r → Tried c.nodes k st en fields ns ns' n →
    Tries ts f a (state ns ls ss (record { at = c.at; nodes = c.nodes; links = c.links; held = h })) xs zs ns' ls' ss r
list_tried {ts} {f} {a} {xs} {zs} {ns} {ns'} {ls} {ls'} {ss} {links} {k} {st} {en} {fields} {n} c m w b v e l g z {h} q t = pick q t.says
  where
    long : length (take (3 * c.links) ls ++ links) ≡ 3 * (c.links + m)
    long = omega (arith, l, length-append (take (3 * c.links) ls) links, length-take-le (3 * c.links) ls w.link_rows)

    pick : {r : Read} → MakesList (length ls') n (record { at = c.at; nodes = c.nodes; links = c.links + m; held = h }) r → Attempt c.nodes st en (padded (k ∷ st ∷ en ∷ fields)) ns ns' n →
        Tries ts f a (state ns ls ss (record { at = c.at; nodes = c.nodes; links = c.links; held = h })) xs zs ns' ls' ss r
    pick (MakesList.full q) i = Tries.lacking (links_unmade (k ∷ st ∷ en ∷ fields) (take (3 * c.links) ls ++ links) w (λ h z. plain v h) e (omega (arith, long, z)))
    pick (MakesList.listed q (Makes.made o)) (Attempt.there y i d) = Tries.made (list_made {fields = fields} m (record { row = i; handle = d }) y (omega (arith, z)) v (g (omega (arith, z))) e)
    pick (MakesList.listed q (Makes.full o)) (Attempt.there y i d) = absurd (omega (arith, ap (λ n. n.id) d, o))
    pick (MakesList.listed q (Makes.made o)) (Attempt.full y i d) = absurd (o (ap (λ n. n.id) d))
    pick (MakesList.listed q (Makes.full o)) (Attempt.full y i d) = rw i (Tries.lacking (row_unmade (k ∷ st ∷ en ∷ fields) (take (3 * c.links) ls ++ links) w (λ h z. plain v h) e (omega (arith, long, z)) y))

-- what is made after a part that wrote nothing, from before that part
module _ {ts : List ℕ} {h : Label} {b : ℕ} {s s₁ : State} {vs us hs : List Handle} (m : Made ts h b s vs us hs s₁) (w : written s ≡ written s₁) where
  same_make : (f : Label) (a : ℕ) (xs ys : List Handle) → make ts (names_of ts s.scratch) f a s.cursor.at (written s) xs ys ≡ make ts (names_of ts s₁.scratch) f a s₁.cursor.at (written s₁) xs ys
  same_make f a xs ys = ap (λ σ. make ts σ f a s.cursor.at (written s) xs ys) (sym m.kept) ∙ ap (λ n. make ts (names_of ts s₁.scratch) f a n (written s) xs ys) (sym m.at) ∙
      ap (λ v. make ts (names_of ts s₁.scratch) f a s₁.cursor.at v xs ys) w

  pub from_before : {f : Label} {a : ℕ} {xs ys : List Handle} {ns ls ss : List ℕ} {r : Read} → Tries ts f a s₁ xs ys ns ls ss r → Tries ts f a s xs ys ns ls ss r
  from_before {f} {a} {xs} {ys} (Tries.made k) =
      Tries.made
      (record {
        makes = same_make f a xs ys ∙ k.makes;
        at = k.at ∙ m.at;
        holds = k.holds ∙ m.holds;
        same = k.same ∙ m.same;
        rooms = rooms_on m.rooms k.rooms;
        kept = k.kept ∙ m.kept;
        word = worded_with f a m.kept k.word;
      })
  from_before {f} {a} {xs} {ys} (Tries.lacking u) = Tries.lacking (record { lacks = lacks_as m.kept (same_space m.rooms) m.at (ap (λ v. v.rows) (same_make f a xs ys)) u.lacks })

-- by the answer
module _ {ts : List ℕ} {f : Label} {a : ℕ} {s : State} {xs ys : List Handle} {ns ls ss : List ℕ} where
  pub made_of : {n : Node} {d : Cursor} → Tries ts f a s xs ys ns ls ss (Read.Node n d) → Made ts f a s xs ys (node_of n ∷ []) (state ns ls ss d)
  made_of (Tries.made m) = m

  pub unmade_of : {c : ℕ} → Tries ts f a s xs ys ns ls ss (Read.Refused (no_room c)) → Unmade ts f a s xs ys c
  unmade_of (Tries.lacking u) = u
