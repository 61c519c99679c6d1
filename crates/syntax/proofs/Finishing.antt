-- How an answer is made of rooms: each room is cleared, or its rows get their parents, and zeros follow.
use Prim.Native.Nat.{ℕ, ◌-◌, ◌*◌, ◌/◌}
use native.Mathlib.Nat.{mul-div_cancel_left}
use native.Mathlib.Omega.{arith}
use mathlib.Core.List.{List}
use mathlib.Core.Path.{◌≡◌, refl, sym, ap, ◌∙◌}
use lib.ListN.{length, take, drop, length-append, length-drop}
use lib.Seq.{length-take-le, take_at}
use Rattle.ast.specs.Written.{Cleared}
use Rattle.ast.proofs.Rooms.{row_number, cleared_filled}
use Rattle.grammar.specs.Naming.{height}
use Rattle.grammar.specs.Parent.{parented}
use Rattle.grammar.specs.Room.{node_width, link_width, symbol_width, cleared, filled}
use Rattle.grammar.specs.Rows.{Rows}
use Rattle.grammar.proofs.Parents.{parented_length}
use Rattle.parents.specs.Adopted.{Adoptable, Adopted}
use Rattle.reading.specs.declared.Cursor.{Cursor}
use Rattle.reading.specs.declared.Refusal.{Refusal}
use Rattle.syntax.specs.Parsed.{numbers, rooms, refused_numbers, Cut, counted_rows, AllThere, Finished}
use Rattle.syntax.specs.declared.Numbers.{Numbers}

-- a room that is cleared from its start
wiped : {l m : List ℕ} → Cleared 0 l m → m ≡ cleared l
wiped {l} z = let e : length l - 0 ≡ length l = omega arith in z.zeros ∙ rw e

-- the rows that are counted
module _ {c : Cursor} {known : ℕ} {ns ls ys ss : List ℕ} (f : AllThere c known (rooms ns ls ys ss)) where
  abbrev all : Rows
  all = counted_rows c (rooms ns ls ys ss)

  -- where they end
  abbrev upto : ℕ
  upto = node_width * c.nodes

  nodes_length : length all.nodes ≡ upto
  nodes_length = length-take-le upto ns f.nodes

  tall : height all ≡ c.nodes
  tall = rw nodes_length (mul-div_cancel_left c.nodes (omega arith))

  stand : node_width * height all ≡ length all.nodes
  stand = rw (tall, nodes_length) refl

  pub used_length : link_width * c.links ≡ length all.links
  used_length = sym (length-take-le (link_width * c.links) ls f.links)

  -- what is asked where the parents are put in
  pub adoptable : Adoptable c.nodes all.links ns
  adoptable = record { room = f.nodes; rising = λ j h. f.tree.rising j (rw tall h) }

  -- and they are, and zeros follow
  pub finished : {ns₁ ns₂ ls₁ ys₁ ss₁ : List ℕ} {r : Numbers} → Adopted c.nodes all.links ns ns₁ → Cleared upto ns₁ ns₂ → Cleared (link_width * c.links) ls ls₁ → Cleared (symbol_width * known) ys ys₁ → Cleared 0 ss ss₁ →
      numbers r ≡ record { code = 0; nodes = c.nodes; links = c.links; symbols = known; at = 0; start = 0; end = 0; expected = 255 } →
      Finished c known (rooms ns ls ys ss) (rooms ns₂ ls₁ ys₁ ss₁) r
  finished {ns₁} {ns₂} {ls₁} a zn zl zy zs e =
      let size : length (parented all).nodes ≡ upto = parented_length all stand ∙ nodes_length in
      let kept : length ns₁ ≡ length ns = ap length a.room ∙ length-append (parented all).nodes (drop upto ns) ∙ (simp length-drop (omega (arith, size, f.nodes))) in
      let front : take upto ns₁ ≡ (parented all).nodes = ap (take upto) a.room ∙ take_at (parented all).nodes _ upto size in
      let nodes : length (parented all).nodes / node_width ≡ c.nodes = rw size (mul-div_cancel_left c.nodes (omega arith)) in
      let links : length all.links / link_width ≡ c.links = row_number link_width c.links ls (omega arith) f.links in
      let symbols : length (take (symbol_width * known) ys) / symbol_width ≡ known = row_number symbol_width known ys (omega arith) f.symbols in
      let ns_are : ns₂ ≡ filled (parented all).nodes ns = cleared_filled (omega (arith, kept, f.nodes)) zn ∙ rw (front, kept) in
      record { numbers_are = e ∙ rw (nodes, links, symbols); rooms_are = rw (ns_are, cleared_filled f.links zl, cleared_filled f.symbols zy, wiped zs) }

-- all rooms are cleared
pub cut : {ts : List ℕ} {q : Refusal} {ns ls ys ss ns₁ ls₁ ys₁ ss₁ : List ℕ} {r : Numbers} → Cleared 0 ns ns₁ → Cleared 0 ls ls₁ → Cleared 0 ys ys₁ → Cleared 0 ss ss₁ →
    numbers r ≡ refused_numbers ts q → Cut ts q (rooms ns ls ys ss) (rooms ns₁ ls₁ ys₁ ss₁) r
cut zn zl zy zs e = record { numbers_are = e; rooms_are = rw (wiped zn, wiped zl, wiped zy, wiped zs) }
