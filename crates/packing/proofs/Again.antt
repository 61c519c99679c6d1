-- What is packed passes the check again, whoever wrote the rows: with the counts that were answered, and the rooms as they stand.
use Prim.Native.Nat.{ℕ, ◌-◌, ◌*◌, ◌/◌, ◌≤◌}
use native.Mathlib.Omega.{arith}
use mathlib.Core.List.{List, ◌++◌}
use mathlib.Core.Path.{◌≡◌, refl, sym}
use lib.ListN.{length, take, drop, replicate, length-append, length-replicate}
use lib.Seq.{take_at, length-take-le}
use Rattle.grammar.specs.Door.{RightEdition}
use Rattle.grammar.specs.Edition.{Edition, edition}
use Rattle.grammar.specs.Handle.{absent}
use Rattle.grammar.specs.Naming.{height}
use Rattle.grammar.specs.Room.{Rooms, node_width, link_width, symbol_width, cleared}
use Rattle.grammar.proofs.Decoding.{Whole}
use Rattle.foreign.specs.Check.{Checked, Given, Lends, Checks, used, link_count}
use Rattle.parts.specs.Packed.{keeps, left, renumbered, packed}
use Rattle.parts.proofs.Access.{packed_whole}
use Rattle.parts.proofs.Passing.{packed_checked, packed_nodes_most, packed_links_most}
use Rattle.parts.proofs.Symbols.{packed_symbols_length}
use Rattle.packing.specs.Answer.{Asked, Lent, rows_of, symbols_of, left_rows, left_symbols, refilled, rooms_packed, done, Packs}
use Rattle.packing.specs.declared.Packed.{Packed}

-- the rows that are left, as they are handed on
abbrev pub handed : Asked → Packed → Rooms → Given
handed a r after = record { edition = a.given.edition; nodes = r.nodes; links = r.links; symbols = r.symbols; rooms = after }

-- a room that was refilled begins with what it was filled with
front : (xs before : List ℕ) (n m : ℕ) → m ≡ length xs → take m (refilled xs n before) ≡ xs
front xs before n m e = take_at xs (replicate (n - length xs) 0 ++ drop n before) m (sym e)

room : (xs before : List ℕ) (n m : ℕ) → m ≡ length xs → m ≤ length (refilled xs n before)
room xs before n m e = omega (arith, length-append xs (replicate (n - length xs) 0 ++ drop n before))

module _ (a : Asked) (l : Lent a) {e : Edition} (k : Checked e a.given.symbols (rows_of a)) (few : height (rows_of a) ≤ absent) where
  whole : Whole (left_rows a)
  unfolding packed
  whole = packed_whole (keeps a.choice) (renumbered (keeps a.choice) a.builtins (rows_of a)) (rows_of a)

  rows_same : used (handed a (done a) (rooms_packed a)) ≡ left_rows a
  rows_same =
      let n = front (left_rows a).nodes a.given.rooms.nodes (node_width * a.given.nodes) (node_width * height (left_rows a)) whole.nodes in
      let m = front (left_rows a).links a.given.rooms.links (link_width * a.given.links) (link_width * link_count (left_rows a)) whole.links in
      rw (n, m) refl

  symbols_count : length (left_symbols a) / symbol_width ≡ length (left (keeps a.choice) a.builtins (rows_of a))
  symbols_count = omega (arith, packed_symbols_length (keeps a.choice) a.builtins (rows_of a) (symbols_of a) (omega (arith, l.builtins, length-take-le (symbol_width * a.given.symbols) a.given.rooms.symbols l.rows.symbols)))

  lends : Lends (handed a (done a) (rooms_packed a))
  lends =
      let n = packed_nodes_most k (keeps a.choice) a.builtins in
      let m = packed_links_most k (keeps a.choice) a.builtins in
      let x = length-take-le (node_width * a.given.nodes) a.given.rooms.nodes l.rows.nodes in
      let y = length-take-le (link_width * a.given.links) a.given.rooms.links l.rows.links in
      record {
        nodes = room (left_rows a).nodes a.given.rooms.nodes (node_width * a.given.nodes) (node_width * height (left_rows a)) whole.nodes;
        links = room (left_rows a).links a.given.rooms.links (link_width * a.given.links) (link_width * link_count (left_rows a)) whole.links;
        symbols = room (left_symbols a) a.given.rooms.symbols (symbol_width * a.given.symbols) (symbol_width * (length (left_symbols a) / symbol_width)) (omega (arith, symbols_count, packed_symbols_length (keeps a.choice) a.builtins (rows_of a) (symbols_of a) (omega (arith, l.builtins, length-take-le (symbol_width * a.given.symbols) a.given.rooms.symbols l.rows.symbols))));
        scratch = omega (arith, l.scratch, whole.nodes, whole.links, length-replicate {A = ℕ} (length a.given.rooms.scratch) 0);
      }

  cleared_twice : cleared (rooms_packed a).scratch ≡ (rooms_packed a).scratch
  cleared_twice = rw (length-replicate {A = ℕ} (length a.given.rooms.scratch) 0) refl

  pub again : RightEdition a.given.edition → e ≡ edition a.given.edition → Checks (handed a (done a) (rooms_packed a)) 0 0 0 (rooms_packed a)
  again r z =
      let c : Checked (edition a.given.edition) (length (left_symbols a) / symbol_width) (used (handed a (done a) (rooms_packed a))) = rw (rows_same, symbols_count, sym z) (packed_checked k few (keeps a.choice) a.builtins) in
      rw cleared_twice at (Checks.passed lends r c)

-- 'only L8's rules are promised of the outcome'
pub packed_passes : {a : Asked} {r : Packed} {after : Rooms} → a.given.nodes ≤ absent → Packs a r after → r.code ≡ 0 → Checks (handed a r after) 0 0 0 after
packed_passes h (Packs.past n) z = absurd (omega arith)
packed_passes h (Packs.no_edition l n) z = absurd (omega arith)
packed_passes h (Packs.failed l e f) z = absurd (omega arith)
packed_passes h (Packs.miscounted l e c n) z = absurd (omega arith)
packed_passes {a} h (Packs.passed l e c n) z = again a l c (omega (arith, length-take-le (node_width * a.given.nodes) a.given.rooms.nodes l.rows.nodes)) e refl
