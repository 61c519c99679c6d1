-- What a call with a station's scripts promises beside its contract: two outcomes are equal; a script's answer and part depend on that script alone; and each script has
-- what the demands promise of the single call.
use Prim.Native.Nat.{ℕ, zero, suc, ◌+◌, ◌*◌, ◌≤◌, ◌<◌}
use native.Mathlib.Numerals.{add-one}
use native.Mathlib.Omega.{arith}
use mathlib.Core.List.{List}
use mathlib.Core.Path.{◌≡◌, refl, sym, ap, ◌∙◌}
use Rattle.grammar.specs.Builtin.{Builtins}
use Rattle.grammar.specs.Label.{Label}
use Rattle.grammar.specs.Phrase.{Tree}
use Rattle.grammar.specs.Profile.{script}
use Rattle.grammar.specs.Room.{Rooms, node_width, link_width, symbol_width, scratch_width}
use Rattle.grammar.proofs.Demands.{ReadAs}
use Rattle.reader.proofs.Texts.{one_read}
use Rattle.syntax.specs.Parsed.{numbers, call}
use Rattle.syntax.specs.declared.Numbers.{Numbers}
use Rattle.syntax.proofs.Promises.{one_parse, success_reads}
use Rattle.scripts.specs.Joined.{Lent, Joined, cut_start, of_list, scripts, answer_width, Fits, text_of, list_of, rooms_of, answer_at, listed, Source, Single, Answered, Kept, Past, First, AnswersAll, lent}
use Rattle.scripts.proofs.Parts.{kept_back}
use Rattle.scripts.proofs.Cuts.{first_start, next_start, rows_rise}

-- the single call has one outcome
one_single : {names : Builtins} {text : List ℕ} {edition limit : ℕ} {list m n : List ℕ} {before r t : Rooms} {s : Source} {a b : Numbers} → Single names text edition limit list before s m r a → Single names text edition limit list before s n t b → (a ≡ b) × (m ≡ n) × (r ≡ t)
one_single (Single.parsed x) (Single.parsed y) = let (u, v) = one_parse x y in (u, refl, v)
one_single (Single.read x) (Single.read y) = one_read x y

-- the scripts i of one call and k of another are alike: text, list and part of each room, with one edition, limit and set of names
pub record Alike (j : Joined) (i : ℕ) (j' : Joined) (k : ℕ) : Type 0 where
  pub names : j.names ≡ j'.names
  pub edition : j.edition ≡ j'.edition
  pub limit : j.limit ≡ j'.limit
  pub text : text_of j i ≡ text_of j' k
  pub list : list_of j i j.lent ≡ list_of j' k j'.lent
  pub rooms : rooms_of j i j.lent ≡ rooms_of j' k j'.lent

-- then so is what comes of them, whatever the other scripts are and whatever is answered to them
pub record SameOutcome (j : Joined) (i : ℕ) (after : Lent) (j' : Joined) (k : ℕ) (after' : Lent) : Type 0 where
  pub answer : answer_at i after ≡ answer_at k after'
  pub list : list_of j i after ≡ list_of j' k after'
  pub rooms : rooms_of j i after ≡ rooms_of j' k after'

pub neighbours : {s : Source} {j j' : Joined} {i k : ℕ} {after after' : Lent} → Alike j i j' k → Answered s j i after → Answered s j' k after' → SameOutcome j i after j' k after'
neighbours e x y =
    let (u, v, w) = one_single (rw (e.names, e.edition, e.limit, e.text, e.list, e.rooms) at x.single) y.single in
    record { answer = x.stands ∙ ap listed u ∙ sym y.stands; list = v; rooms = w }

alike : (j : Joined) (i : ℕ) → Alike j i j i
alike j i = record { names = refl; edition = refl; limit = refl; text = refl; list = refl; rooms = refl }

-- a neighbour that is refused changes nothing of the others: beside any other scripts, a script's answer and parts are those of the single call on it
pub as_alone : {s : Source} {j : Joined} {n i : ℕ} {after : Lent} {list : List ℕ} {rooms : Rooms} {a : Numbers} → First s j n after → (h : i < n) → Single j.names (text_of j i) j.edition j.limit (list_of j i j.lent) (rooms_of j i j.lent) s list rooms a →
    (answer_at i after ≡ listed a) × (list_of j i after ≡ list) × (rooms_of j i after ≡ rooms)
as_alone f h x = let y = f.each h in let (u, v, w) = one_single y.single x in (y.stands ∙ ap listed u, v, w)

-- demand 1: two outcomes that the contract allows are equal, the code and every number of every room
module _ {s : Source} {j : Joined} {after after' : Lent} (g : Fits j) (x : First s j (scripts j.cuts) after) (y : First s j (scripts j.cuts) after') where
  -- from the last part back to the first
  part_back : (n : ℕ) → n < scripts j.cuts → Past j.cuts j.rows (n + 1) after' after → Past j.cuts j.rows n after' after
  part_back n h p =
      let o = neighbours (alike j n) (x.each h) (y.each h) in
      record {
        list = kept_back (cut_start j.cuts of_list n) (g.cuts_right.list_cuts.forth h) o.list (rw (next_start j.cuts of_list n) at p.list);
        nodes = kept_back (node_width * (j.rows * n)) (rise node_width) (ap (λ r. r.nodes) o.rooms) p.nodes;
        links = kept_back (link_width * (j.rows * n)) (rise link_width) (ap (λ r. r.links) o.rooms) p.links;
        symbols = kept_back (symbol_width * (j.rows * n)) (rise symbol_width) (ap (λ r. r.symbols) o.rooms) p.symbols;
        scratch = kept_back (scratch_width * (j.rows * n)) (rise scratch_width) (ap (λ r. r.scratch) o.rooms) p.scratch;
        answers = kept_back (answer_width * n) (omega arith) o.answer p.answers;
      }
    where
      rise : (width : ℕ) → width * (j.rows * n) ≤ width * (j.rows * (n + 1))
      rise width = rows_rise width j.rows (omega arith)

  all_back : (n : ℕ) → n ≤ scripts j.cuts → Past j.cuts j.rows n after' after → Past j.cuts j.rows 0 after' after
  all_back zero h p = p
  all_back (suc n) h p = all_back n (omega (arith, h)) (part_back n h (rw (add-one n) p))

  -- past the parts both have what was lent
  both_past : Past j.cuts j.rows (scripts j.cuts) after' after
  both_past =
      let p = x.past in
      let q = y.past in
      record {
        list = record { same = p.list.same ∙ sym q.list.same };
        nodes = record { same = p.nodes.same ∙ sym q.nodes.same };
        links = record { same = p.links.same ∙ sym q.links.same };
        symbols = record { same = p.symbols.same ∙ sym q.symbols.same };
        scratch = record { same = p.scratch.same ∙ sym q.scratch.same };
        answers = record { same = p.answers.same ∙ sym q.answers.same };
      }

  one_after : after ≡ after'
  one_after =
      let p = all_back (scripts j.cuts) (omega arith) both_past in
      lent_same (all_kept (first_start j.cuts of_list refl) p.list) (all_kept (omega arith) p.nodes) (all_kept (omega arith) p.links) (all_kept (omega arith) p.symbols) (all_kept (omega arith) p.scratch) (all_kept (omega arith) p.answers)
    where
      all_kept : {k : ℕ} {xs ys : List ℕ} → k ≡ 0 → Kept k xs ys → ys ≡ xs
      all_kept e k = rw e at k.same

      lent_same : {a b c d e f a' b' c' d' e' f' : List ℕ} → a ≡ a' → b ≡ b' → c ≡ c' → d ≡ d' → e ≡ e' → f ≡ f' → lent a b c d e f ≡ lent a' b' c' d' e' f'
      lent_same t u v w y z = rw (t, u, v, w, y, z) refl

pub one_outcome : {s : Source} {j : Joined} {code code' : ℕ} {after after' : Lent} → AnswersAll s j code after → AnswersAll s j code' after' → (code ≡ code') × (after ≡ after')
one_outcome (AnswersAll.turned_away n) (AnswersAll.turned_away m) = (refl, refl)
one_outcome (AnswersAll.turned_away n) (AnswersAll.answered f y) = absurd (n f)
one_outcome (AnswersAll.answered f x) (AnswersAll.turned_away n) = absurd (n f)
one_outcome (AnswersAll.answered f x) (AnswersAll.answered g y) = (refl, one_after f x y)

-- demand 3, of each script by itself: one that succeeds has a reading, which is the only one, and just its rows are in its part of the rooms
pub script_reads : {j : Joined} {n i : ℕ} {after : Lent} (f : First Source.given j n after) (h : i < n) → (f.each h).answer.code ≡ 0 →
    (t : Tree Label) × ReadAs (call script j.names (text_of j i) (list_of j i j.lent) j.edition j.limit (rooms_of j i j.lent)) (numbers (f.each h).answer) (rooms_of j i after) t
script_reads {j} {i = i} {after = after} f h e = by (f.each h).single e
  where
    by : {list : List ℕ} {rooms : Rooms} {a : Numbers} → Single j.names (text_of j i) j.edition j.limit (list_of j i j.lent) (rooms_of j i j.lent) Source.given list rooms a → a.code ≡ 0 →
        (t : Tree Label) × ReadAs (call script j.names (text_of j i) (list_of j i j.lent) j.edition j.limit (rooms_of j i j.lent)) (numbers a) rooms t
    by (Single.parsed x) = success_reads x
