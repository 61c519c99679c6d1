-- One script after another: what is answered stays answered, since a step changes nothing outside its own parts, and each script finds its parts as they were lent.
use Prim.Native.Nat.{ℕ, ◌+◌, ◌*◌, ◌≤◌, ◌<◌}
use native.Mathlib.Decide.{ℕ_discrete}
use native.Mathlib.Omega.{arith}
use mathlib.Core.List.{List}
use mathlib.Core.Path.{◌≡◌, refl, sym, ◌∙◌, subst}
use lib.ListN.{length}
use Rattle.grammar.specs.Room.{node_width, link_width, symbol_width, scratch_width}
use Rattle.scripts.specs.Joined.{Lent, Joined, cut_start, cut_end, of_list, scripts, answer_width, Forward, Fits, row_part, list_of, Source, Answered, First, AnswersAll, joined}
use Rattle.scripts.specs.Steps.{OutsideRows, Step}
use Rattle.scripts.proofs.Cuts.{next_start, starts_rise, rows_rise}
use Rattle.scripts.proofs.Parts.{part_below, part_kept, kept_after}
use Rattle.scripts.proofs.Stepping.{rooms_same, single_same}

-- the same call, with what is lent as it is now
abbrev pub at_now : Joined → Lent → Joined
at_now j l = joined j.names j.text j.cuts j.edition j.limit j.rows l

-- before the first script
pub begun : {s : Source} {j : Joined} → First s j 0 j.lent
begun = record { each = λ h. absurd (omega (arith, h)); past = record { list = record { same = refl }; nodes = record { same = refl }; links = record { same = refl }; symbols = record { same = refl }; scratch = record { same = refl }; answers = record { same = refl } } }

module _ {s : Source} {j : Joined} {now after : Lent} {i long : ℕ} (fwd : Forward j.cuts of_list long) (h : i < scripts j.cuts) (f : First s j i now) (t : Step s (at_now j now) i after) where
  -- a script before it is answered as it was
  earlier : {k : ℕ} → k < i → Answered s j k after
  earlier {k} l = let a = f.each l in
      record {
        answer = a.answer;
        stands = part_below (answer_width * k) (answer_width * (k + 1)) (omega arith) (omega (arith, l)) t.answers ∙ a.stands;
        single = single_same refl refl refl (sym list_kept) (sym (rooms_same (rows_kept node_width t.nodes) (rows_kept link_width t.links) (rows_kept symbol_width t.symbols) (rows_kept scratch_width t.scratch))) a.single;
      }
    where
      list_kept : list_of j k after ≡ list_of j k now
      list_kept = part_below (cut_start j.cuts of_list k) (cut_end j.cuts of_list k) (fwd.forth (omega (arith, l, h))) (starts_rise fwd k i l (omega (arith, h))) t.list

      rows_kept : (width : ℕ) {xs ys : List ℕ} → OutsideRows width j.rows i xs ys → row_part width j.rows k ys ≡ row_part width j.rows k xs
      rows_kept width o = part_below (width * (j.rows * k)) (width * (j.rows * (k + 1))) (rows_rise width j.rows (omega arith)) (rows_rise width j.rows (omega (arith, l))) o

  -- and it finds its parts as they were lent
  this : Answered s j i after
  this =
      record {
        answer = t.answered.answer;
        stands = t.answered.stands;
        single = single_same refl (part_kept _ f.past.list) (rooms_same (part_kept _ f.past.nodes) (part_kept _ f.past.links) (part_kept _ f.past.symbols) (part_kept _ f.past.scratch)) refl refl t.answered.single;
      }

  pub turn : First s j (i + 1) after
  turn =
      record {
        each = λ {i = k} l. elim (ℕ_discrete k i) [ yes e ↦ subst (λ n. Answered s j n after) (sym e) this | no e ↦ earlier (omega (arith, l, e)) ];
        past =
            record {
              list = rw (next_start j.cuts of_list i) (kept_after (fwd.forth h) f.past.list t.list);
              nodes = kept_after (rise node_width) f.past.nodes t.nodes;
              links = kept_after (rise link_width) f.past.links t.links;
              symbols = kept_after (rise symbol_width) f.past.symbols t.symbols;
              scratch = kept_after (rise scratch_width) f.past.scratch t.scratch;
              answers = kept_after (omega arith) f.past.answers t.answers;
            };
      }
    where
      rise : (width : ℕ) → width * (j.rows * i) ≤ width * (j.rows * (i + 1))
      rise width = rows_rise width j.rows (omega arith)

-- everything that is lent has the length that it had
pub record SameLengths (before after : Lent) : Type 0 where
  pub list : length after.list ≡ length before.list
  pub nodes : length after.rooms.nodes ≡ length before.rooms.nodes
  pub links : length after.rooms.links ≡ length before.rooms.links
  pub symbols : length after.rooms.symbols ≡ length before.rooms.symbols
  pub scratch : length after.rooms.scratch ≡ length before.rooms.scratch
  pub answers : length after.answers ≡ length before.answers

-- what the loop keeps: the first i scripts are answered
pub record Turned (s : Source) (j : Joined) (i : ℕ) (now : Lent) : Type 0 where
  pub few : i ≤ scripts j.cuts
  pub fits : Fits j
  pub first : First s j i now
  pub long : SameLengths j.lent now

pub start : {s : Source} {j : Joined} → Fits j → Turned s j 0 j.lent
start f = record { few = omega arith; fits = f; first = begun; long = record { list = refl; nodes = refl; links = refl; symbols = refl; scratch = refl; answers = refl } }

pub fits_now : {s : Source} {j : Joined} {i : ℕ} {now : Lent} → Turned s j i now → Fits (at_now j now)
fits_now t = record { cuts_right = rw t.long.list t.fits.cuts_right; room = rw (t.long.nodes, t.long.links, t.long.symbols, t.long.scratch, t.long.answers) t.fits.room }

pub next : {s : Source} {j : Joined} {i : ℕ} {now after : Lent} → i < scripts j.cuts → Turned s j i now → Step s (at_now j now) i after → Turned s j (i + 1) after
next h t x =
    let long = t.long in
    record {
      few = omega (arith, h);
      fits = t.fits;
      first = turn t.fits.cuts_right.list_cuts h t.first x;
      long = record { list = x.list.long ∙ long.list; nodes = x.nodes.long ∙ long.nodes; links = x.links.long ∙ long.links; symbols = x.symbols.long ∙ long.symbols; scratch = x.scratch.long ∙ long.scratch; answers = x.answers.long ∙ long.answers };
    }

pub all_answered : {s : Source} {j : Joined} {i : ℕ} {now : Lent} → scripts j.cuts ≤ i → Turned s j i now → AnswersAll s j 0 now
all_answered {s} {j} {i} {now} h t = let e : i ≡ scripts j.cuts = omega (arith, h, t.few) in AnswersAll.answered t.fits (subst (λ n. First s j n now) e t.first)
