-- What is true of the text of every refusal: its contract leaves one answer and one room, and it has at most 52 bytes. The ways in which `reason` answers, where in the table
-- a text stands, and the rule of the table.
use Prim.Native.Nat.{ℕ, ◌+◌, ◌-◌, ◌≤◌, ◌<◌}
use native.Mathlib.Decide.{dec_lt, dec_le}
use native.Mathlib.Nat.{zero-add}
use native.Mathlib.Omega.{arith}
use mathlib.Core.Bool.{true, false}
use mathlib.Core.List.{List}
use mathlib.Core.Path.{◌≡◌, sym, ◌∙◌}
use lib.Dec.{eqb, leb, leb→le}
use lib.ListN.{length, get_or, take, drop, get_or-eq_default}
use borrow.Author.Tests.{ne_eqb}
use Rattle.grammar.specs.Pattern.{bytes, from_to}
use Rattle.grammar.specs.Symbol.{same}
use Rattle.grammar.proofs.Tests.{same_means, within}
use Rattle.spelling.specs.Display.{Put}
use Rattle.spelling.proofs.display.Writing.{room_after}
use Rattle.diagnostics.specs.Message.{MessageGiven}
use Rattle.diagnostics.specs.Reason.{texts, Quote, own, reason_of, ReasonGiven, last, tabled, table, begins, PlacedAt}
use Rattle.diagnostics.specs.declared.Message.{Message}
use Rattle.diagnostics.proofs.Messages.{either, text_fits}

-- what `message` answers
pub passed : {text before after : List ℕ} {code start expected found : ℕ} {r : Message} → from_to 8 11 code ≡ true → MessageGiven code expected found before after r → ReasonGiven text code start expected found before after r
unfolding reason_of
passed e m = record { refused = m.refused; untouched = m.untouched; answer = λ h. rw e (m.answer h); room = λ h. rw e (m.room h) }

-- a text of the table, written from the start of a room that is no less than 52 bytes
own_text : (text : List ℕ) (code start expected found : ℕ) → from_to 8 11 code ≡ false → reason_of text code start expected found ≡ own text code start
unfolding reason_of
own_text text code start expected found e = rw e

pub written : {text before after : List ℕ} {code start expected found i n : ℕ} → from_to 8 11 code ≡ false → 52 ≤ length before → PlacedAt text code start i → Put (tabled i) 0 before after n → ReasonGiven text code start expected found before after (record { code = 0; length = n })
written {text} {before} {after} {code} {start} {expected} {found} {i} {n} e h place p =
    let o : reason_of text code start expected found ≡ tabled i = own_text text code start expected found e ∙ sym place.has in
    let m : n ≡ length (tabled i) = p.ends ∙ zero-add _ in
    record {
      refused = λ i. absurd (omega arith);
      untouched = λ i. absurd (omega arith);
      answer = λ _. rw (o, m);
      room = λ _. rw o (rw m at (room_after p));
    }

-- the contract settles the answer and every byte of the room
pub one_reason : {text before after other : List ℕ} {code start expected found : ℕ} {r s : Message} → ReasonGiven text code start expected found before after r → ReasonGiven text code start expected found before other s → (r ≡ s) × (after ≡ other)
one_reason {before = before} p q =
    elim (dec_lt (length before) 52) [
      | yes h ↦ (p.refused h ∙ sym (q.refused h), p.untouched h ∙ sym (q.untouched h))
      | no h ↦ let i : 52 ≤ length before = omega arith in (p.answer i ∙ sym (q.answer i), p.room i ∙ sym (q.room i))
    ]

-- where the text of a code stands in the table: nowhere past the last code, and else at its number, but for a string
past_last : (code : ℕ) → 22 < code → get_or texts code "" ≡ ""
past_last code h = get_or-eq_default texts "" {n = code} (omega arith)

pub past : {text : List ℕ} {code start : ℕ} → 22 < code → PlacedAt text code start 0
unfolding tabled own
past {text} {code} {start} h = record { inside = omega arith; has = simp (ne_eqb code 16 (λ e. omega arith), past_last code h) }

pub at_code : {text : List ℕ} {code start : ℕ} → code ≤ 22 → (code ≡ 16 → ⊥) → PlacedAt text code start code
unfolding tabled own
at_code {text} {code} {start} h n = record { inside = omega arith; has = simp (ne_eqb code 23 (λ e. omega arith), ne_eqb code 16 n) }

pub at_byte : {text : List ℕ} {code start : ℕ} → code ≡ 16 → (get_or text start 0 ≡ Quote → ⊥) → PlacedAt text code start code
unfolding tabled own
at_byte {text} {code} {start} e n = rw e (record { inside = omega arith; has = simp (ne_eqb (get_or text start 0) Quote n) })

pub at_end : {text : List ℕ} {code start : ℕ} → code ≡ 16 → length text ≤ start → PlacedAt text code start code
at_end {text} {code} {start} e h = at_byte e (λ q. omega (arith, get_or-eq_default text 0 {n = start} h))

pub at_string : {text : List ℕ} {code start : ℕ} → code ≡ 16 → get_or text start 0 ≡ Quote → PlacedAt text code start last
unfolding tabled own
at_string {text} {code} {start} e q = rw e (record { inside = omega arith; has = rw q })

-- the rule of the table, by tests that the checker computes over all places: the text at a place stands in the table from where it starts to where the next does, and has at
-- most 52 bytes. It is said of any list that is the table, as what a function is lent, and of two numbers that are these places
pub record Entry (ws : List ℕ) (i from upto : ℕ) : Type 0 where
  pub ordered : from ≤ upto
  pub inside : upto ≤ length ws
  pub has : take (upto - from) (drop from ws) ≡ tabled i
  pub short : length (tabled i) ≤ 52

of_table : (i : ℕ) → i ≤ last → Entry table i (begins i) (begins (i + 1))
unfolding table begins tabled same
of_table i h =
    record {
      ordered = leb→le _ _ (within (λ k. leb (begins k) (begins (k + 1))) 0 24 i tt (omega arith) (omega arith));
      inside = leb→le _ _ (within (λ k. leb (begins (k + 1)) (length table)) 0 24 i tt (omega arith) (omega arith));
      has = same_means _ _ (within (λ k. same (take (begins (k + 1) - begins k) (drop (begins k) table)) (tabled k)) 0 24 i tt (omega arith) (omega arith));
      short = leb→le _ _ (within (λ k. leb (length (tabled k)) 52) 0 24 i tt (omega arith) (omega arith));
    }

pub entry : {ws : List ℕ} {from upto : ℕ} (i : ℕ) → i ≤ last → ws ≡ table → from ≡ begins i → upto ≡ begins (i + 1) → Entry ws i from upto
entry i h e f u = rw (e, f, u) (of_table i h)

-- every text fits 52 bytes
own_fits : (text : List ℕ) (code start : ℕ) → length (own text code start) ≤ 52
unfolding own
own_fits text code start = either (eqb code 16) _ _ (either (eqb (get_or text start 0) Quote) _ _ (omega arith) (omega arith)) (plain code)
  where
    plain : (code : ℕ) → length (bytes (get_or texts code "")) ≤ 52
    plain code = elim (dec_le code 22) [
      | yes h ↦ leb→le _ _ (within (λ k. leb (length (bytes (get_or texts k ""))) 52) 0 23 code tt (omega arith) (omega arith))
      | no h ↦ rw (past_last code (omega arith)) (omega arith)
    ]

pub reason_fits : (text : List ℕ) (code start expected found : ℕ) → length (reason_of text code start expected found) ≤ 52
unfolding reason_of
reason_fits text code start expected found = either (from_to 8 11 code) _ _ (text_fits code expected found) (own_fits text code start)
