-- Numbers in decimal. The definition's count of digits plays no part where it is large enough, so a number of 10 or more is its tenth part in decimal and
-- then its last digit. And what shows that the definition is right: the digits are worth the number, and the first is no 0 but for 0 itself.
use Prim.Native.Nat.{ℕ, zero, suc, ◌+◌, ◌-◌, ◌*◌, ◌/◌, ◌%◌, ◌^◌, ◌≤◌, ◌<◌}
use native.Mathlib.Decide.{dec_lt}
use native.Mathlib.Omega.{arith}
use mathlib.Core.List.{List, [], ◌∷◌, ◌++◌}
use mathlib.Core.Path.{◌≡◌, refl, sym, ap, ◌∙◌}
use borrow.Author.Tests.{lt-ltb, le-ltb}
use lib.ListN.{length, get_or, length-append, get_or-append}
use Rattle.std.specs.Fmt as Fmt
use Rattle.std.proofs.lemmas.Fmt.{AppendsLastDigit, decimal_from_appends, length-decimal-le, length-decimal-le_succ}
use Rattle.wire.specs.Number.{digit, digits, decimal}

-- one digit, and more
digits_one : (k n : ℕ) → n < 10 → digits k n ≡ digit n ∷ []
unfolding digits
digits_one zero n h = refl
digits_one (suc k) n h = rw (lt-ltb n 10 h, digits)

digits_more : (k n : ℕ) → 10 ≤ n → digits (suc k) n ≡ digits k (n / 10) ++ (digit (n % 10) ∷ [])
unfolding digits
digits_more k n h = rw (le-ltb n 10 h, digits)

enough : (j k n : ℕ) → n ≤ j → n ≤ k → digits j n ≡ digits k n
enough zero k n h i = digits_one zero n (omega arith) ∙ sym (digits_one k n (omega arith))
enough (suc j) zero n h i = digits_one (suc j) n (omega arith) ∙ sym (digits_one zero n (omega arith))
enough (suc j) (suc k) n h i = elim (dec_lt n 10) [
  | yes l ↦ digits_one (suc j) n l ∙ sym (digits_one (suc k) n l)
  | no l ↦ digits_more j n (omega arith) ∙ ap (λ (xs : List ℕ). xs ++ (digit (n % 10) ∷ [])) (enough j k (n / 10) (omega arith) (omega arith)) ∙ sym (digits_more k n (omega arith))
]

pub decimal_one : (n : ℕ) → n < 10 → decimal n ≡ digit n ∷ []
unfolding decimal
decimal_one n h = digits_one n n h

pub decimal_more : (n : ℕ) → 10 ≤ n → decimal n ≡ decimal (n / 10) ++ (digit (n % 10) ∷ [])
unfolding decimal
decimal_more zero h = absurd (omega arith)
decimal_more (suc k) h = digits_more k (suc k) h ∙ ap (λ (xs : List ℕ). xs ++ (digit (suc k % 10) ∷ [])) (enough k (suc k / 10) (suc k / 10) (omega arith) (omega arith))

pub longer : (n : ℕ) → 10 ≤ n → length (decimal n) ≡ length (decimal (n / 10)) + 1
longer n h = rw (decimal_more n h) (length-append (decimal (n / 10)) _)

-- the library's digits are these, so that a number of 32 bits has ten at most
pub decimal_std : (n : ℕ) → n < 2 ^ 64 → Fmt.decimal n ≡ decimal n
unfolding decimal
decimal_std n h =
    let appends : AppendsLastDigit digits = record { one = λ k m l. digits_one (suc k) m l; more = digits_more } in
    sym (enough n (suc n) n (omega arith) (omega arith) ∙ decimal_from_appends digits appends (suc n) n h (omega (arith, length-decimal-le_succ n h)))

pub decimal_short : (n : ℕ) → n < 2 ^ 32 → length (decimal n) ≤ 10
decimal_short n h = rw (← decimal_std n (omega arith)) (length-decimal-le 10 n (omega arith) (omega arith) (omega arith))

-- what digits are worth, after those that are worth v
abbrev pub worth : ℕ → List ℕ → ℕ
worth v [] = v
worth v (x ∷ xs) = worth (10 * v + (x - 48)) xs

worth_more : (v : ℕ) (xs : List ℕ) (x : ℕ) → worth v (xs ++ (x ∷ [])) ≡ 10 * worth v xs + (x - 48)
worth_more v [] x = refl
worth_more v (y ∷ ys) x = worth_more (10 * v + (y - 48)) ys x

-- a statement of every number holds if it does of the digits, and of a number of which it holds for the tenth part
by_tens : (P : ℕ → Type 0) → ((n : ℕ) → n < 10 → P n) → ((n : ℕ) → 10 ≤ n → P (n / 10) → P n) → (k n : ℕ) → n ≤ k → P n
by_tens P one more zero n h = one n (omega arith)
by_tens P one more (suc k) n h = elim (dec_lt n 10) [ yes l ↦ one n l | no l ↦ more n (omega arith) (by_tens P one more k (n / 10) (omega arith)) ]

pub decimal_worth : (n : ℕ) → worth 0 (decimal n) ≡ n
decimal_worth n = by_tens (λ m. worth 0 (decimal m) ≡ m) (λ m h. rw (decimal_one m h) (omega arith)) (λ m h i. rw (decimal_more m h, worth_more 0 (decimal (m / 10))) (omega arith)) n n (omega arith)

pub record Leading (n : ℕ) : Type 0 where
  pub some : 0 < length (decimal n)
  pub no_zero : 0 < n → 48 < get_or (decimal n) 0 0

pub leading : (n : ℕ) → Leading n
leading n = by_tens Leading (λ m h. one m h) (λ m h i. more m h i) n n (omega arith)
  where
    one : (m : ℕ) → m < 10 → Leading m
    one m h = record { some = rw (decimal_one m h) (omega arith); no_zero = λ i. rw (decimal_one m h) (omega arith) }

    more : (m : ℕ) → 10 ≤ m → Leading (m / 10) → Leading m
    more m h l = record { some = omega (arith, longer m h); no_zero = λ i. rw (decimal_more m h, get_or-append (decimal (m / 10)) _ 0 0 l.some) (l.no_zero (omega arith)) }
