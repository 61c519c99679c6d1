-- What `drop` answers: the check's refusals as they are, 20, or the rows that are left; and the rooms put together from the parts that were handed on.
use Prim.Native.Nat.{ℕ, zero, suc, ◌+◌, ◌-◌, ◌*◌, ◌≤◌}
use native.Mathlib.Omega.{arith}
use mathlib.Core.List.{List, ◌++◌, append_assoc}
use mathlib.Core.Path.{◌≡◌, refl, sym, ap, ◌∙◌}
use lib.ListN.{length, get_or, take, drop, replicate, length-replicate}
use lib.Seq.{get_or-take, length-take-le}
use Rattle.grammar.specs.Door.{RightEdition}
use Rattle.grammar.specs.Edition.{edition}
use Rattle.grammar.specs.Naming.{height}
use Rattle.grammar.specs.Room.{Rooms, node_width, link_width, symbol_width, filled, cleared}
use Rattle.ast.specs.Written.{Cleared}
use Rattle.foreign.specs.Check.{Checked, Given, Lends, Checks, used, scratch_cleared}
use Rattle.parts.specs.Packed.{statements, root_row}
use Rattle.packing.specs.Answer.{Asked, Lent, symbols_of, left_rows, left_symbols, refilled, turned, Packs, Settleable, Settled}
use Rattle.packing.specs.Good.{Good}
use Rattle.packing.specs.declared.Packed.{Packed}
use Rattle.packing.proofs.Slots.{own_number}

-- a part that was filled, and what stands behind it
pub refill : (xs before : List ℕ) (n : ℕ) {part : List ℕ} → n ≤ length before → part ≡ filled xs (take n before) → part ++ drop n before ≡ refilled xs n before
refill xs before n h e = rw (e, length-take-le n before h) (append_assoc xs (replicate (n - length xs) 0) (drop n before))

-- a room that was cleared from its first number on
pub wiped : {xs ys : List ℕ} (zs : List ℕ) → Cleared 0 xs ys → length xs ≡ length zs → ys ≡ cleared zs
wiped {xs} zs c e = let z : length xs - 0 ≡ length zs = omega arith in c.zeros ∙ rw z refl

-- a room of zeros has no other number
zero_at : (n x : ℕ) → ◌≡◌ {A = ℕ} (get_or (replicate n 0) x 0) 0
zero_at zero zero = refl
zero_at zero (suc x) = refl
zero_at (suc n) zero = refl
zero_at (suc n) (suc x) = zero_at n x

module _ (a : Asked) where
  abbrev g : Given
  g = a.given

  -- all counts are lent, where the check's are
  pub lent : a.builtins ≤ g.symbols → 2 * g.nodes + 2 * g.links + g.symbols ≤ length g.rooms.scratch → Lends g → Lent a
  lent b s l = record { rows = l; builtins = b; scratch = s }

  -- what the check refuses
  pub refused : {code rule row : ℕ} {after : Rooms} → a.builtins ≤ g.symbols → 2 * g.nodes + 2 * g.links + g.symbols ≤ length g.rooms.scratch → Checks g code rule row after → (code ≡ 0 → ⊥) → Packs a (turned code rule row) after
  refused b s (Checks.past n) z = Packs.past (λ l. n l.rows)
  refused b s (Checks.no_edition l n) z = Packs.no_edition (lent b s l) n
  refused b s (Checks.failed l e f) z = Packs.failed (lent b s l) e f
  refused b s (Checks.passed l e c) z = absurd (z refl)

  -- and what passes
  pub record Passes (after : Rooms) : Type 0 where
    pub lends : Lends g
    pub edition_right : RightEdition g.edition
    pub checked : Checked (edition g.edition) g.symbols (used g)
    pub same : after ≡ scratch_cleared g.rooms

  pub passes : {code rule row : ℕ} {after : Rooms} → Checks g code rule row after → code ≡ 0 → Passes after
  passes (Checks.past n) z = absurd (omega arith)
  passes (Checks.no_edition l n) z = absurd (omega arith)
  passes (Checks.failed l e f) z = absurd (omega arith)
  passes (Checks.passed l e c) z = record { lends = l; edition_right = e; checked = c; same = refl }

  module _ {after : Rooms} (p : Passes after) where
    node_room : length (used g).nodes ≡ node_width * g.nodes
    node_room = length-take-le (node_width * g.nodes) g.rooms.nodes p.lends.nodes

    link_room : length (used g).links ≡ link_width * g.links
    link_room = length-take-le (link_width * g.links) g.rooms.links p.lends.links

    pub tall : g.nodes ≡ height (used g)
    tall = omega (arith, node_room)

    pub some : 1 ≤ g.nodes
    some = omega (arith, tall, p.checked.rooted.some)

    good : g.nodes ≤ 4294967295 → g.links ≤ 4294967295 → Good g.symbols (used g)
    good n m = record { edition = edition g.edition; checked = p.checked; nodes = omega (arith, node_room); links = omega (arith, link_room); short = omega (arith, tall); few = omega (arith, link_room) }

    -- the number of statements, as it is read
    pub count_is : get_or g.rooms.nodes (node_width * g.nodes - 10 + 4) 0 ≡ statements (used g)
    count_is =
        let z : node_width * g.nodes - 10 + 4 ≡ node_width * root_row (used g) + 4 = omega (arith, tall, some) in
        rw z (sym (get_or-take (node_width * g.nodes) g.rooms.nodes (node_width * root_row (used g) + 4) 0 (omega (arith, tall, some))) ∙ sym (own_number (used g) (root_row (used g)) 4 (omega arith)))

    pub settleable : a.builtins ≤ g.symbols → 2 * g.nodes + 2 * g.links + g.symbols ≤ length g.rooms.scratch → g.nodes ≤ 4294967295 → g.links ≤ 4294967295 → g.symbols ≤ 4294967295 → length a.choice ≡ statements (used g) → Settleable (used g) (symbols_of a) g.nodes g.symbols a.builtins a.choice after.scratch
    settleable b s n m k c = record {
      good = good n m;
      tall = tall;
      builtins = b;
      few = k;
      room = length-take-le (symbol_width * g.symbols) g.rooms.symbols p.lends.symbols;
      all = c;
      lent = omega (arith, tall, link_room, ap (λ (r : Rooms). length r.scratch) p.same, length-replicate {A = ℕ} (length g.rooms.scratch) 0);
      zeros = λ x. ap (λ (r : Rooms). get_or r.scratch x 0) p.same ∙ zero_at (length g.rooms.scratch) x;
    }

    -- all is packed
    pub finished : {ns ls ss sc : List ℕ} {r : Packed} → Lent a → length a.choice ≡ statements (used g) → Settled (used g) (symbols_of a) a.builtins a.choice ns ls ss r → sc ≡ cleared g.rooms.scratch → Packs a r (record { nodes = ns ++ drop (node_width * g.nodes) g.rooms.nodes; links = ls ++ drop (link_width * g.links) g.rooms.links; symbols = ss ++ drop (symbol_width * g.symbols) g.rooms.symbols; scratch = sc })
    finished l c s z =
        rw (s.answer, z, refill (left_rows a).nodes g.rooms.nodes (node_width * g.nodes) p.lends.nodes s.nodes_are, refill (left_rows a).links g.rooms.links (link_width * g.links) p.lends.links s.links_are, refill (left_symbols a) g.rooms.symbols (symbol_width * g.symbols) p.lends.symbols s.symbols_are)
        (Packs.passed l p.edition_right p.checked c)
