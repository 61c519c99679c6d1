-- How high the stack of what is left to read stands: under 12 items for each opening, and 11 more.
use Prim.Native.Nat.{ℕ, zero, suc, ◌+◌, ◌*◌, ◌≤◌, max}
use mathlib.Core.Bool.{Bool, true, false, ◌&&◌}
use mathlib.Core.List.{[], ◌∷◌, ◌++◌}
use mathlib.Core.Path.{◌≡◌}
use native.Mathlib.Omega.{arith}
use lib.Dec.{leb, T, leb→le, leb-zero}
use lib.ListN.{length}
use Rattle.grammar.specs.Edition.{Edition}
use Rattle.grammar.specs.Kaori.{Table, Form, statement, returned, bindings, path_name, otherwise, branch, operand, body, value, comma, script_items, block_items, arguments, entries, names, may_end, must_end, assigned, dots, calls, operators, above, rules, kaori, script}
use Rattle.grammar.specs.Label.{Label}
use Rattle.grammar.specs.Phrase.{empty, token, part, nested, node, choice, chain, once, refusal}
use Rattle.grammar.proofs.Stack.{Item, want, links, mark, Stack, form, Turn, took, Goes}
use Rattle.grammar.proofs.Stopping.{marks}
use Rattle.grammar.proofs.Tables.{each, in_tables}
use Rattle.grammar.proofs.Tests.{both}

-- how many items a table's forms put above the first of theirs, at most, without an opening
pub most : Table → ℕ
most statement = 5
most returned = 0
most bindings = 2
most path_name = 0
most otherwise = 0
most branch = 0
most operand = 4
most body = 0
most value = 0
most (comma z) = 0
most script_items = 5
most block_items = 5
most arguments = 1
most entries = 2
most (names z) = 1
most may_end = 0
most must_end = 0
most assigned = 0
most dots = 0
most calls = 3
most (operators n) = 4 + n

-- and a form
pub extra : Form → ℕ
extra empty = 0
extra (token x p) = extra p
extra (part p q) = max (suc (extra p)) (extra q)
extra (nested k p) = 0
extra (node f p) = extra p
extra (choice n) = most n
extra (chain p n) = suc (max (extra p) (most n))
extra (once p n) = max (suc (extra p)) (most n)
extra (refusal e) = 0

-- what it opens has 11 items at most
pub low : Form → Bool
low empty = true
low (token x p) = low p
low (part p q) = low p && low q
low (nested k p) = leb (extra p) 10 && low p
low (node f p) = low p
low (choice n) = true
low (chain p n) = low p
low (once p n) = low p
low (refusal e) = true

low_tables : (e : Edition) (n : Table) → T (each (λ p. leb (extra p) (most n) && low p) (rules e n).0 (rules e n).1)
unfolding rules above most extra low
low_tables e statement = tt
low_tables Edition.first returned = tt
low_tables Edition.second returned = tt
low_tables e bindings = tt
low_tables e path_name = tt
low_tables e otherwise = tt
low_tables e branch = tt
low_tables Edition.first operand = tt
low_tables Edition.second operand = tt
low_tables e body = tt
low_tables e value = tt
low_tables e (comma z) = tt
low_tables e script_items = tt
low_tables e block_items = tt
low_tables e arguments = tt
low_tables e entries = tt
low_tables e (names z) = tt
low_tables e may_end = tt
low_tables e must_end = tt
low_tables e assigned = tt
low_tables e dots = tt
low_tables e calls = tt
low_tables e (operators zero) = tt
low_tables e (operators (suc zero)) = tt
low_tables e (operators (suc (suc zero))) = tt
low_tables e (operators (suc (suc (suc zero)))) = tt
low_tables e (operators (suc (suc (suc (suc zero))))) = tt
low_tables e (operators (suc (suc (suc (suc (suc zero)))))) = tt
low_tables e (operators (suc (suc (suc (suc (suc (suc n))))))) = rw (leb-zero (4 + suc (suc (suc (suc (suc (suc n))))))) tt

-- how many items stand above the last mark
abbrev pub above_mark : Stack Table Label → ℕ
above_mark [] = 0
above_mark (want p ∷ K) = suc (above_mark K)
above_mark (links g n ∷ K) = suc (above_mark K)
above_mark (mark k o ∷ K) = 0

pub data Low : Stack Table Label → Type 0 where
  bare : Low []
  item : {i : Item Table Label} {K : Stack Table Label} → above_mark K + extra (form i) ≤ 10 → T (low (form i)) → Low K → Low (i ∷ K)

entry : (e : Edition) (n : Table) (x : ℕ) {p : Form} → kaori e n x ≡ p → (extra p ≤ most n) × T (low p)
entry e n x {p} k = let (h, l) = both (leb (extra p) (most n)) (low p) (rw k at (in_tables e (λ n p. leb (extra p) (most n) && low p) (low_tables e) n x)) in (leb→le (extra p) (most n) h, l)

put : (i : Item Table Label) (K : Stack Table Label) → above_mark K + extra (form i) ≤ 10 → T (low (form i)) → Low K → Low (i ∷ K)
put i K h l s = item h l s

pub turn_low : (e : Edition) {x c : ℕ} {i : Item Table Label} {J K : Stack Table Label} → Turn (kaori e) x c i J → Low (i ∷ K) → Low (J ++ K)
unfolding extra low
turn_low e Turn.nothing (item h l s) = s
turn_low e (Turn.both {p = p} {q = q}) (item {K = K} h l s) = let (l₁, l₂) = both (low p) (low q) l in put (want p) (want q ∷ K) (omega arith) l₁ (put (want q) K (omega arith) l₂ s)
turn_low e (Turn.opens {k = k} {p = p}) (item {K = K} h l s) = let (l₁, l₂) = both (leb (extra p) 10) (low p) l in put (want p) (mark k _ ∷ K) (omega (arith, leb→le (extra p) 10 l₁)) l₂ (put (mark k _) K (omega arith) tt s)
turn_low e (Turn.labels {p = p}) (item {K = K} h l s) = put (want p) K h l s
turn_low e {x = x} (Turn.chooses {n = n} {p = p} k) (item {K = K} h l s) = let (h', l') = entry e n x k in put (want p) K (omega arith) l' s
turn_low e (Turn.starts {p = p} {n = n}) (item {K = K} h l s) = put (want p) (links true n ∷ K) (omega arith) l (put (links true n) K (omega arith) tt s)
turn_low e (Turn.only {p = p} {n = n}) (item {K = K} h l s) = put (want p) (links false n ∷ K) (omega arith) l (put (links false n) K (omega arith) tt s)
turn_low e {x = x} (Turn.joins {g = true} {n = n} {q = q} k) (item {K = K} h l s) = let (h', l') = entry e n x k in put (want q) (links true n ∷ K) (omega arith) l' (item h l s)
turn_low e {x = x} (Turn.joins {g = false} {n = n} {q = q} k) (item {K = K} h l s) = let (h', l') = entry e n x k in put (want q) K (omega arith) l' s
turn_low e (Turn.ends k) (item h l s) = s
turn_low e Turn.shuts (item h l s) = s

take_low : {x : ℕ} {p : Form} {K : Stack Table Label} → Low (want (token x p) ∷ K) → Low (want p ∷ K)
unfolding extra low
take_low (item h l s) = item h l s

pub goes_low : (e : Edition) {x c : ℕ} {K M : Stack Table Label} → Goes (kaori e) x c K (took M) → Low K → Low M
goes_low e (Goes.now k) s = take_low s
goes_low e (Goes.turn t g) s = goes_low e g (turn_low e t s)

pub script_low : Low (want script ∷ [])
unfolding extra low most
script_low = put (want script) [] (omega arith) tt bare

lower : {K : Stack Table Label} → Low K → above_mark K ≤ 11
lower bare = omega arith
lower (item {i = want p} h l s) = omega arith
lower (item {i = links g n} h l s) = omega arith
lower (item {i = mark k o} h l s) = omega arith

rows : {K : Stack Table Label} → Low K → length K ≤ 12 * marks K + above_mark K
rows bare = omega arith
rows (item {i = want p} h l s) = omega (arith, rows s)
rows (item {i = links g n} h l s) = omega (arith, rows s)
rows (item {i = mark k o} h l s) = omega (arith, rows s, lower s)

-- at most 12 for each opening, its mark among them, and 11 more
pub height : {K : Stack Table Label} → Low K → length K ≤ 12 * marks K + 11
height s = omega (arith, rows s, lower s)
