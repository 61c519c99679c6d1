-- The passes one after another: which symbols are left, where each row goes, the rows packed, and the freed ones cleared.
use Prim.Native.Nat.{ℕ, suc, ◌+◌, ◌-◌, ◌*◌, ◌/◌, ◌≤◌, ◌<◌}
use native.Mathlib.Omega.{arith}
use mathlib.Core.Bool.{Bool}
use mathlib.Core.List.{List}
use mathlib.Core.Path.{◌≡◌, refl, sym, ap, ◌∙◌}
use lib.ListN.{length, get_or, take}
use lib.Seq.{get_or-take, length-take-le}
use Rattle.grammar.specs.Handle.{absent}
use Rattle.grammar.specs.Operator.{place}
use Rattle.grammar.specs.Room.{node_width, link_width, symbol_width, filled}
use Rattle.grammar.specs.Rows.{Rows}
use Rattle.ast.specs.Written.{Cleared}
use Rattle.ast.proofs.Rooms.{cleared_filled}
use Rattle.parts.specs.Packed.{root_row, root_first, keeps, rows_kept, kept, spoken_all, upto, left, packed, packed_symbols}
use Rattle.parts.specs.Spoken.{first_places}
use Rattle.parts.proofs.Access.{packed_height, packed_link_count, packed_links_size}
use Rattle.parts.proofs.Passing.{packed_links_most}
use Rattle.parts.proofs.Sizes.{rows_kept_most}
use Rattle.parts.proofs.Symbols.{packed_symbols_length, left_most}
use Rattle.packing.specs.Answer.{Settleable, Settled}
use Rattle.packing.specs.Kept.{Markable, Placed}
use Rattle.packing.specs.Known.{Hearing, HearingAll, Begins}
use Rattle.packing.specs.Roles.{at}
use Rattle.packing.specs.Rows.{Mapped, PackableAll, PackedAll}
use Rattle.packing.proofs.Slots.{own_number}

-- rows are at the front, and what follows is cleared
pub cleared_after : (before : List ℕ) {xs ys zs : List ℕ} {n : ℕ} → take n ys ≡ xs → n ≤ length ys → length ys ≡ length before → Cleared n ys zs → zs ≡ filled xs before
cleared_after before e h l c = cleared_filled h c ∙ rw (e, l) refl

module _ {w : Rows} {ss : List ℕ} {n s b : ℕ} {choice scratch : List ℕ} (h : Settleable w ss n s b choice scratch) where
  abbrev c : ℕ → Bool
  c = keeps choice

  -- the root's row and list
  pub root_is : n - 1 ≡ root_row w
  root_is = omega (arith, h.tall)

  pub first_is : get_or w.nodes (node_width * (n - 1) + 3) 0 ≡ root_first w
  first_is = ap (λ (i : ℕ). at w.nodes i 3) root_is ∙ sym (own_number w (root_row w) 3 (omega arith))

  -- what the first pass asks
  pub begins : {first : ℕ} → first ≡ root_first w → Begins s b w first choice ss scratch
  begins e = record {
    speaks = record { good = h.good; few = h.few; room = omega (arith, h.lent) };
    builtins = h.builtins;
    room = h.room;
    zeros = λ x l. h.zeros x;
    list = e;
    all = h.all;
  }

  pub markable : {first m : ℕ} → first ≡ root_first w → m ≡ n → Markable w choice first m
  markable e l = record { sound = record { symbols = s; good = h.good }; all = h.all; list = e; rows = l ∙ h.tall }

  module _ {sy sc : List ℕ} {known : ℕ} (k : HearingAll s b ss c w (length choice) sy sc known) where
    -- the symbols that are left
    pub heard_all : Hearing s b ss (left c b w) (first_places (spoken_all w (kept c w)) (upto b)) sy sc known
    unfolding left
    heard_all = rw h.all at k.known

    -- the symbols' numbers are at the front of the room, and those of the rows behind them
    module _ {words places : List ℕ} (same : length sc ≡ length scratch) (front : words ≡ take s sc) (p : Placed c w places) where
      many : length words ≡ s
      many = ap length front ∙ length-take-le s sc (omega (arith, h.lent, same))

      pub mapped : Mapped c (left c b w) w known words places
      mapped =
          record {
            numbers = λ x i. let l : x < s = omega (arith, i, many) in ap (λ (zs : List ℕ). get_or zs x 0) front ∙ get_or-take s sc x 0 l ∙ heard_all.numbers x l;
            many = heard_all.many;
            rows = p;
          }

      pub packable : {first root : ℕ} → first ≡ root_first w → root ≡ root_row w → length places ≡ n → PackableAll w known choice first root words places
      packable e r z = record { packable = record { good = rw many h.good; last = r; room = omega (arith, h.tall, z); choice = c; left = left c b w; mapped = mapped }; list = e; all = h.all }

      -- how many rows stay, the root with them
      pub high_is : get_or places (n - 1) 0 + 1 ≡ suc (rows_kept c w (root_row w))
      high_is = omega (arith, ap (λ (i : ℕ). get_or places i 0) root_is, p.each (root_row w) (omega arith))

    pub symbols_are : take (symbol_width * known) sy ≡ packed_symbols c b w ss
    unfolding packed_symbols
    symbols_are = heard_all.rows

    pub known_is : known ≡ length (packed_symbols c b w ss) / symbol_width
    known_is = omega (arith, heard_all.many, packed_symbols_length c b w ss (omega (arith, h.room, h.builtins)))

    pub known_most : known ≤ s
    known_most = omega (arith, heard_all.many, left_most h.good.checked c b h.builtins)

    pub high_few : {high : ℕ} → high ≡ suc (rows_kept c w (root_row w)) → high ≤ absent
    high_few q = omega (arith, rows_kept_most c w (root_row w), h.good.checked.rooted.some, h.good.short)

    -- all rows, and the freed ones cleared
    module _ {ns ls : List ℕ} {long high : ℕ} (p : PackedAll c (left c b w) w ns ls long) (q : high ≡ suc (rows_kept c w (root_row w))) where
      high_most : node_width * high ≤ length w.nodes
      high_most = omega (arith, rows_kept_most c w (root_row w), h.good.nodes, h.good.checked.rooted.some)

      long_most : link_width * long ≤ length w.links
      unfolding packed
      long_most = omega (arith, p.wide, packed_links_size c (λ x. place x (left c b w)) w, packed_links_most h.good.checked c b)

      pub long_few : long ≤ absent
      long_few = omega (arith, long_most, h.good.links, h.good.few)

      pub settled : {ns' ls' sy' : List ℕ} → Cleared (node_width * high) ns ns' → Cleared (link_width * long) ls ls' → Cleared (symbol_width * known) sy sy' → Settled w ss b choice ns' ls' sy' (record { code = 0; nodes = high; links = long; symbols = known; rule = 0; row = 0 })
      unfolding packed
      settled x y z = record {
        nodes_are = cleared_after w.nodes (ap (λ (m : ℕ). take (node_width * m) ns) q ∙ p.nodes_are) (omega (arith, high_most, p.node_room)) p.node_room x;
        links_are = cleared_after w.links p.links_are (omega (arith, long_most, p.link_room)) p.link_room y;
        symbols_are = cleared_after ss symbols_are (omega (arith, known_most, heard_all.room)) (heard_all.room ∙ sym h.room) z;
        answer = rw (q ∙ sym (packed_height c (λ x. place x (left c b w)) w), p.wide ∙ sym (packed_link_count c (λ x. place x (left c b w)) w), known_is) refl;
      }
