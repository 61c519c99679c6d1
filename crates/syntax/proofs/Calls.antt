-- A whole call. What the door lets in is ready to be read from its first token; what is read and finished is its answer, and so is what is refused and cut; and what the
-- door turns away is answered by its numbers.
use Prim.Native.Nat.{ℕ, ◌*◌, ◌≤◌, ◌<◌}
use native.Mathlib.Omega.{arith}
use mathlib.Core.List.{List}
use mathlib.Core.Path.{◌≡◌, refl, sym, ap, ◌∙◌}
use lib.ListN.{length, take}
use lib.Seq.{length-take-le}
use Rattle.builtins.specs.Known.{Known}
use Rattle.std.specs.Prelude.{Err}
use Rattle.door.specs.Entry.{Entry, open_entry, entry_numbers, Entered}
use Rattle.door.specs.declared.Refusal.{Refusal as Turned}
use Rattle.door.proofs.Codes.{opened, shut}
use Rattle.grammar.specs.Answer.{success, rooms_cleared, rooms_filled, Answers}
use Rattle.grammar.specs.Builtin.{Builtins}
use Rattle.grammar.specs.Door.{Lent}
use Rattle.grammar.specs.Edition.{edition as named-edition}
use Rattle.grammar.specs.Outcome.{Comes}
use Rattle.grammar.specs.Parent.{parented, written as written-rows}
use Rattle.grammar.specs.Profile.{Profile, form}
use Rattle.grammar.specs.Room.{node_width, link_width, symbol_width, Rooms}
use Rattle.grammar.specs.Rows.{Rows, unparented}
use Rattle.grammar.specs.Space.{Space, space_of, Enough}
use Rattle.grammar.specs.Symbol.{symbol_rows, symbol, symbol_in}
use Rattle.grammar.specs.Token.{count}
use Rattle.grammar.proofs.Answers.{admitted_lent}
use Rattle.grammar.proofs.Demands.{Stopped, refused_place}
use Rattle.grammar.proofs.Lengths.{enough_written}
use Rattle.grammar.proofs.Room.{all_room}
use Rattle.grammar.proofs.Symbols.{rows_few, symbol_in_all}
use Rattle.grammar.proofs.Trees.{one_tree}
use Rattle.grammar.proofs.Worded.{words_fit}
use Rattle.names.specs.Resolved.{Fitting, Resolved, names_of}
use Rattle.names.proofs.Readers.{names_are}
use Rattle.reading.specs.Reading.{refusal, Refusing}
use Rattle.reading.specs.State.{State, state, written, Opened}
use Rattle.reading.specs.declared.Cursor.{Cursor}
use Rattle.reading.specs.declared.Read.{Read}
use Rattle.reading.specs.declared.Refusal.{Refusal}
use Rattle.reading.specs.declared.Terms.{Terms}
use Rattle.ast.specs.declared.Node.{Node}
use Rattle.syntax.specs.Parsed.{numbers, rooms, call, begin, counted_rows, Parsed, LetIn, Completed, CompleteCase, Completes, Cut, AllThere, Finished}
use Rattle.syntax.specs.declared.Numbers.{Numbers}

enough_as : {z : Space} {w v : Rows} → w ≡ v → Enough z v → Enough z w
enough_as e x = rw e x

-- rooms of the same lengths are cleared and filled alike
pub record Alike (r s : Rooms) : Type 0 where
  pub nodes : length s.nodes ≡ length r.nodes
  pub links : length s.links ≡ length r.links
  pub symbols : length s.symbols ≡ length r.symbols
  pub scratch : length s.scratch ≡ length r.scratch

cleared_alike : {r s : Rooms} → Alike r s → rooms_cleared s ≡ rooms_cleared r
cleared_alike a = rw (a.nodes, a.links, a.symbols, a.scratch)

filled_alike : {r s : Rooms} (w : Rows) (ss : List ℕ) → Alike r s → rooms_filled w ss s ≡ rooms_filled w ss r
filled_alike w ss a = rw (a.nodes, a.links, a.symbols, a.scratch)

-- what the readers are told of a call
abbrev pub terms_of : (edition limit : ℕ) → Terms
terms_of edition limit = record { edition = edition; limit = limit }

-- what a reading's answer says, by its case
module _ {p : Profile} {ts : List ℕ} {terms : Terms} {s : State} {ns ls ss : List ℕ} {r : Read} (a : Completes p ts terms s ns ls ss r) where
  pub refused_told : {q : Refusal} → r ≡ Read.Refused q → Refusing ts terms (form p) 0 s (refusal q)
  unfolding CompleteCase
  refused_told e = (rw e at a).says

  pub completed_told : {n : Node} {c : Cursor} → r ≡ Read.Node n c → Completed p ts terms s (state ns ls ss c)
  unfolding CompleteCase
  completed_told e = (rw e at a).says

-- a call that is let in
module _ {p : Profile} {names : Builtins} {index text ts : List ℕ} {edition limit : ℕ} {before : Rooms} (d : LetIn p names index text ts edition limit before) where
  pub lent : Lent text ts
  lent = admitted_lent d.admitted

  -- what is asked where the symbols are found
  pub names_open : Fitting names index text ts before.symbols before.scratch
  names_open = record {
    opened = record { built_in = d.known; whole = lent.whole; sound = lent.sound; scratch_room = omega (arith, d.admitted.roomy) };
    names_fit = d.admitted.names_fit;
  }

  -- once they are found
  module _ {symbols scratch : List ℕ} {known : ℕ} (v : Resolved names text ts before.symbols before.scratch symbols scratch known) where
    -- the state that is read from
    abbrev pub from : State
    from = state before.nodes before.links scratch begin

    pub asked : Opened ts (terms_of edition limit) 0 from
    asked =
        record {
          ready = record {
            lent = record { whole = lent.whole; closed = lent.closed };
            deep = omega arith;
            within =
                record {
                  roomy = record { scratch = omega (arith, d.admitted.roomy, v.scratch_size) };
                  stands = record { node_rows = omega arith; link_rows = omega arith };
                  at = omega (arith, lent.whole.some);
                  rows = omega arith;
                  links = omega arith;
                  stack = omega arith;
                };
          };
          spare = omega arith;
        }

    -- the symbols that are read with are those of the lent room
    symbols_are : names_of ts scratch ≡ symbol_in names text ts (length before.symbols)
    symbols_are = names_are lent.whole v

    -- a refusal is at a token
    module _ {q : Refusal} (x : Refusing ts (terms_of edition limit) (form p) 0 from (refusal q)) where
      stops : Stopped (call p names text ts edition limit before) (refusal q)
      stops = rw symbols_are at x.refuses

      pub refused_at : q.at < count ts
      refused_at = omega (arith, (refused_place d.admitted stops).place, lent.whole.some)

      pub refused_answer : {middle after : Rooms} {r : Numbers} → Alike before middle → Cut ts q middle after r → Parsed p names text ts edition limit before after r
      refused_answer a c = record { answers = rw (c.numbers_are, c.rooms_are, cleared_alike a) (Answers.refused d.admitted (Comes.stop stops)) }

    -- the whole list is read
    module _ {ns ls ss : List ℕ} {c : Cursor} (x : Completed p ts (terms_of edition limit) from (state ns ls ss c)) where
      -- its words have their symbols, so that all symbol rows fit
      symbols_fit : length (symbol_rows names text ts (count ts)) ≤ length before.symbols
      symbols_fit = words_fit p (named-edition edition) names text ts (length before.symbols) d.admitted.names_fit x.reads (rw symbols_are at x.named)

      -- the rows that are read with the numbers of the scratch room are the tree's, with the grammar's symbols
      tree_rows : unparented ts (symbol names text ts) x.tree ≡ written (state ns ls ss c)
      tree_rows = ap (λ σ. unparented ts σ x.tree) (sym (symbol_in_all names text ts lent.whole symbols_fit) ∙ sym symbols_are) ∙ x.rows

      nodes_long : length (take (node_width * c.nodes) ns) ≡ node_width * c.nodes
      nodes_long = length-take-le (node_width * c.nodes) ns x.stands.node_rows

      links_long : length (take (link_width * c.links) ls) ≡ link_width * c.links
      links_long = length-take-le (link_width * c.links) ls x.stands.link_rows

      enough : Enough (space_of before) (written-rows ts (symbol names text ts) x.tree)
      unfolding unparented
      enough =
          let fit : Enough (space_of before) (written (state ns ls ss c)) = record { nodes = omega (arith, nodes_long, x.stands.node_rows, x.rooms.nodes); links = omega (arith, links_long, x.stands.link_rows, x.rooms.links) } in
          enough_written ts (symbol names text ts) (symbol names text ts) x.tree (enough_as tree_rows fit)

      pub fitting : AllThere c known (rooms ns ls symbols ss)
      fitting =
          let w = rw tree_rows at (all_room (named-edition edition) ts (symbol names text ts) p (count ts) x.reads lent.whole.some) in
          let few = rows_few names text ts (count ts) in
          let k = ap length (v.rows symbols_fit) in
          let m = length-take-le (symbol_width * known) symbols v.stands in
          record {
            nodes = x.stands.node_rows;
            links = x.stands.link_rows;
            symbols = v.stands;
            few = omega (arith, w.nodes, w.links, nodes_long, links_long, lent.whole.most, d.admitted.named.few);
            tree = rw tree_rows at (one_tree (named-edition edition) ts (symbol names text ts) p (count ts) x.reads lent.whole.some (omega (arith, lent.whole.most)));
          }

      pub accepted_answer : {after : Rooms} {r : Numbers} → Finished c known (rooms ns ls symbols ss) after r → Parsed p names text ts edition limit before after r
      unfolding written-rows
      accepted_answer {after} {r} a =
          let m = x.rooms in
          let w = written-rows ts (symbol names text ts) x.tree in
          let found = symbol_rows names text ts (count ts) in
          let alike : Alike before (rooms ns ls symbols ss) = record { nodes = m.nodes; links = m.links; symbols = v.symbol_size; scratch = m.scratch ∙ v.scratch_size } in
          let e = v.rows symbols_fit in
          let n : numbers r ≡ success w found = a.numbers_are ∙ rw (tree_rows, e) in
          let o : after ≡ rooms_filled w found before = a.rooms_are ∙ rw (tree_rows, e) (filled_alike (parented (counted_rows c (rooms ns ls symbols ss))) found alike) in
          record { answers = rw (n, o) (Answers.accepted d.admitted (Comes.read x.reads x.fits enough symbols_fit)) }

-- what the door's answer says, by its case
module _ {p : Profile} {names : Builtins} {text ts : List ℕ} {edition limit : ℕ} {before : Rooms} {e : Entry}
    (a : Entered p names text ts edition limit (length before.symbols) (length before.scratch) e) where
  pub let_in : {index : List ℕ} → Known names index → e ≡ open_entry → LetIn p names index text ts edition limit before
  let_in k h = record { admitted = opened ((rw h at a).says before refl refl) refl; known = k }

  pub turned : {q : Turned} {r : Numbers} → e ≡ Err q → numbers r ≡ entry_numbers (Err q) → Parsed p names text ts edition limit before before r
  turned h n = let b = rw h at a in record { answers = rw n (shut (b.says before refl refl) b.told) }
