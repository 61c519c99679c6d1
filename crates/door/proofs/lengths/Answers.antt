-- `lengths` meets its contract: each return is the first code of lengths that are not right, or that all are.
use Prim.Native.Nat.{ℕ, ◌≤◌, ◌<◌}
use native.Mathlib.Decide.{dec_lt}
use native.Mathlib.Omega.{arith}
use mathlib.Core.Logic.{inl, inr}
use mathlib.Core.Path.{refl}
use Rattle.grammar.specs.Door.{RightEdition}
use Rattle.door.specs.Entry.{AsksLengths, LengthsChecked}
use Rattle.door.proofs.Searching.{Passed, passed_none, passed_more, first_here}
use Rattle.door.proofs.lengths.Goals as goal

-- the checks in order: those before turn 1, 2, 3, 4 and 5 found nothing, and all of them
module _ {asks : ℕ → Type 0} (none : asks 0) where
  first : Passed asks 6 1
  first = passed_more passed_none (omega arith) none

  second : asks 1 → Passed asks 6 2
  second l = passed_more first (omega arith) l

  third : asks 1 → asks 2 → Passed asks 6 3
  third l t = passed_more (second l) (omega arith) t

  fourth : asks 1 → asks 2 → asks 3 → Passed asks 6 4
  fourth l t d = passed_more (third l t) (omega arith) d

  fifth : asks 1 → asks 2 → asks 3 → asks 4 → Passed asks 6 5
  fifth l t d n = passed_more (fourth l t d) (omega arith) n

  all : asks 1 → asks 2 → asks 3 → asks 4 → asks 5 → Passed asks 6 6
  all l t d n r = passed_more (fifth l t d n) (omega arith) r

all_right : {list text edition limit scratch : ℕ} → Passed (AsksLengths list text edition limit scratch) 6 6 → LengthsChecked list text edition limit scratch 0
all_right p = LengthsChecked.right p.before

-- an edition is 1 or 2, and nothing else
one_or_two : (n : ℕ) → 1 ≤ n → n ≤ 2 → RightEdition n
one_or_two n h i = elim (dec_lt n 2) [ yes l ↦ inl (omega arith) | no l ↦ inr (omega arith) ]

not_less : {n : ℕ} → n < 1 → RightEdition n → ⊥
not_less h (inl e) = omega arith
not_less h (inr e) = omega arith

not_more : {n : ℕ} → 2 < n → RightEdition n → ⊥
not_more h (inl e) = omega arith
not_more h (inr e) = omega arith

pub returns-then-list-ne0 : goal.returns-then-list-ne0
returns-then-list-ne0 c = LengthsChecked.wrong (first_here (first tt) (omega arith) (λ r. let w = r.rows in c.if-list-ne0.true (omega arith))) refl

pub returns-then-tokens-lt1 : goal.returns-then-tokens-lt1
returns-then-tokens-lt1 c = LengthsChecked.wrong (first_here (first tt) (omega arith) (λ r. let w = r.some in omega arith)) refl

pub returns-then-tokens-gt-MOST_TOKENS : goal.returns-then-tokens-gt-MOST_TOKENS
returns-then-tokens-gt-MOST_TOKENS c = LengthsChecked.wrong (first_here (first tt) (omega arith) (λ r. let w = r.most in omega arith)) refl

pub returns-then-text-gt-MOST_BYTES : goal.returns-then-text-gt-MOST_BYTES
returns-then-text-gt-MOST_BYTES c = LengthsChecked.wrong (first_here (second tt (omega arith)) (omega arith) (λ t. omega arith)) refl

pub returns-then-limit-lt1 : goal.returns-then-limit-lt1
returns-then-limit-lt1 c = LengthsChecked.wrong (first_here (third tt (omega arith) (omega arith)) (omega arith) (λ d. omega arith)) refl

pub returns-then-limit-gt-MOST_DEPTH : goal.returns-then-limit-gt-MOST_DEPTH
returns-then-limit-gt-MOST_DEPTH c = LengthsChecked.wrong (first_here (third tt (omega arith) (omega arith)) (omega arith) (λ d. omega arith)) refl

pub returns-then-edition-lt-FIRST : goal.returns-then-edition-lt-FIRST
returns-then-edition-lt-FIRST c = LengthsChecked.wrong (first_here (fourth tt (omega arith) (omega arith) (omega arith)) (omega arith) (not_less c.if-edition-lt-FIRST.true)) refl

pub returns-then-edition-gt-SECOND : goal.returns-then-edition-gt-SECOND
returns-then-edition-gt-SECOND c = LengthsChecked.wrong (first_here (fourth tt (omega arith) (omega arith) (omega arith)) (omega arith) (not_more c.if-edition-gt-SECOND.true)) refl

pub returns-then-scratch-tokens : goal.returns-then-scratch-tokens
returns-then-scratch-tokens c = LengthsChecked.wrong (first_here (fifth tt (omega arith) (omega arith) (omega arith) (one_or_two _ c.if-edition-lt-FIRST.false c.if-edition-gt-SECOND.false)) (omega arith) (λ r. omega arith)) refl

pub returns : goal.returns
returns c = all_right (all tt (omega arith) (omega arith) (omega arith) (one_or_two _ c.if-edition-lt-FIRST.false c.if-edition-gt-SECOND.false) (omega arith))
