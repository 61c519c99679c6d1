-- The demands on `parse_as`, said of any outcome that its contract allows (`Parsed`), of a script and of a guard. That every call has one is `parse-as-spec`: the function
-- has no `requires`, it ends, and it meets its contract.
use Prim.Native.Nat.{ℕ, ◌≤◌}
use native.Mathlib.Omega.{arith}
use mathlib.Core.List.{List}
use mathlib.Core.Logic.{◌⊎◌, inl, inr}
use mathlib.Core.Path.{◌≡◌, ap}
use lib.ListN.{length}
use Rattle.grammar.specs.Answer.{Answer}
use Rattle.grammar.specs.Builtin.{Builtins}
use Rattle.grammar.specs.Door.{Admitted}
use Rattle.grammar.specs.Edition.{edition as named-edition}
use Rattle.grammar.specs.Label.{Label}
use Rattle.grammar.specs.Parent.{written}
use Rattle.grammar.specs.Phrase.{Tree, depth}
use Rattle.grammar.specs.Profile.{Profile, ReadsAll}
use Rattle.grammar.specs.Room.{Rooms}
use Rattle.grammar.specs.Space.{space_of, Enough}
use Rattle.grammar.specs.Symbol.{symbol_rows, symbol}
use Rattle.grammar.specs.Token.{kind, count}
use Rattle.grammar.proofs.Answers.{admitted_not_wrong, one_answer}
use Rattle.grammar.proofs.Demands.{AtDoor, ReadAs, RefusedAt, Sorts, sorts}
use Rattle.grammar.proofs.Outcomes.{reading_not_refused}
use Rattle.syntax.specs.Parsed.{numbers, call, Parsed}
use Rattle.syntax.specs.declared.Numbers.{Numbers}

-- the answer that has these numbers
abbrev answer_of : Answer → Numbers
answer_of n = record { code = n.code; nodes = n.nodes; links = n.links; symbols = n.symbols; at = n.at; start = n.start; end = n.end; expected = n.expected }

-- demand 1: two outcomes that the contract allows are equal, the answer and every number of every room
pub one_parse : {p : Profile} {names : Builtins} {text ts : List ℕ} {edition limit : ℕ} {before after after' : Rooms} {r r' : Numbers} → Parsed p names text ts edition limit before after r → Parsed p names text ts edition limit before after' r' → (r ≡ r') ×
    (after ≡ after')
one_parse x y = let (n, m) = one_answer x.answers y.answers in (ap answer_of n, m)

module _ {p : Profile} {names : Builtins} {text ts : List ℕ} {edition limit : ℕ} {before after : Rooms} {r : Numbers} (x : Parsed p names text ts edition limit before after r) where
  -- demand 3: what succeeds has a reading, which is the only one, and just its rows are in the rooms
  pub success_reads : r.code ≡ 0 → (t : Tree Label) × ReadAs (call p names text ts edition limit before) (numbers r) after t
  success_reads e = by (sorts x.answers)
    where
      by : Sorts (call p names text ts edition limit before) (numbers r) after → (t : Tree Label) × ReadAs (call p names text ts edition limit before) (numbers r) after t
      by (Sorts.read d {t = t} y) = (t, y)
      by (Sorts.stopped d y) = absurd (omega (arith, y.codes.least))
      by (Sorts.turned y) = absurd (omega (arith, y.codes.least))

  -- and what the door lets in and has a reading no deeper than the limit, whose rows fit all three rooms, succeeds
  pub reading_succeeds : Admitted (call p names text ts edition limit before) → {t : Tree Label} → ReadsAll p (named-edition edition) (kind ts) (count ts) t → depth t ≤ limit →
      Enough (space_of before) (written ts (symbol names text ts) t) → length (symbol_rows names text ts (count ts)) ≤ length before.symbols → r.code ≡ 0
  reading_succeeds d y h e k = by (sorts x.answers)
    where
      by : Sorts (call p names text ts edition limit before) (numbers r) after → r.code ≡ 0
      by (Sorts.read f z) = ap (λ n. n.code) z.numbers_are
      by (Sorts.stopped f z) = absurd (reading_not_refused p (named-edition edition) names text ts (length before.symbols) d.whole d.named.few y h e k z.refusal)
      by (Sorts.turned z) = absurd (admitted_not_wrong d z.turned.wrong)

  -- codes 1 to 7, 17, 18 and 21 are for what the door does not let in, and leave the rooms as they were
  pub turned_away_unchanged : (Admitted (call p names text ts edition limit before) → ⊥) → AtDoor r.code × (after ≡ before)
  turned_away_unchanged n = by (sorts x.answers)
    where
      by : Sorts (call p names text ts edition limit before) (numbers r) after → AtDoor r.code × (after ≡ before)
      by (Sorts.read d y) = absurd (n d)
      by (Sorts.stopped d y) = absurd (n d)
      by (Sorts.turned y) = (y.codes, y.rooms_are)

  -- and what it lets in is read, or refused in reading
  pub let_in_read : Admitted (call p names text ts edition limit before) → (r.code ≡ 0) ⊎ RefusedAt (call p names text ts edition limit before) (numbers r) after
  let_in_read d = by (sorts x.answers)
    where
      by : Sorts (call p names text ts edition limit before) (numbers r) after → (r.code ≡ 0) ⊎ RefusedAt (call p names text ts edition limit before) (numbers r) after
      by (Sorts.read f y) = inl (ap (λ n. n.code) y.numbers_are)
      by (Sorts.stopped f y) = inr y
      by (Sorts.turned y) = absurd (admitted_not_wrong d y.turned.wrong)
