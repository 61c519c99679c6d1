-- How the scripts are gone through: one more is answered, and outside its parts nothing has changed.
use Rattle.std.specs.Prelude.{ℕ, ◌+◌, ◌*◌, List, ◌≡◌, length, take, drop}
use Rattle.grammar.specs.Room.{node_width, link_width, symbol_width, scratch_width}
use Rattle.scripts.specs.Joined.{Lent, Joined, Source, Answered, cut_start, cut_end, of_text, of_list, answer_width}
use Rattle.scripts.specs.declared.Place.{Place}

-- where the parts of script i start and end
pub record Placed (cuts : List ℕ) (rows i : ℕ) (p : Place) : Type 0 where
  pub from_is : p.from ≡ cut_start cuts of_text i
  pub upto_is : p.upto ≡ cut_end cuts of_text i
  pub first_is : p.first ≡ cut_start cuts of_list i
  pub past_is : p.past ≡ cut_end cuts of_list i
  pub row_is : p.row ≡ rows * i
  pub next_is : p.next ≡ rows * (i + 1)

-- a room is as it was but from place s up to place e
pub record Outside (s e : ℕ) (before after : List ℕ) : Type 0 where
  pub below : take s after ≡ take s before
  pub above : drop e after ≡ drop e before
  pub long : length after ≡ length before

abbrev pub OutsideRows : (width rows i : ℕ) (before after : List ℕ) → Type 0
OutsideRows width rows i before after = Outside (width * (rows * i)) (width * (rows * (i + 1))) before after

-- script i is answered
pub record Step (s : Source) (j : Joined) (i : ℕ) (after : Lent) : Type 0 where
  pub answered : Answered s j i after
  pub list : Outside (cut_start j.cuts of_list i) (cut_end j.cuts of_list i) j.lent.list after.list
  pub nodes : OutsideRows node_width j.rows i j.lent.rooms.nodes after.rooms.nodes
  pub links : OutsideRows link_width j.rows i j.lent.rooms.links after.rooms.links
  pub symbols : OutsideRows symbol_width j.rows i j.lent.rooms.symbols after.rooms.symbols
  pub scratch : OutsideRows scratch_width j.rows i j.lent.rooms.scratch after.rooms.scratch
  pub answers : Outside (answer_width * i) (answer_width * (i + 1)) j.lent.answers after.answers
