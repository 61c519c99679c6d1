-- `scan::word_end` meets its contract: past the first letter, what is left is a run of letters and digits, and it ends at the first other byte.
use mathlib.Core.Path.{refl, sym, ap, ◌∙◌}
use native.Mathlib.Omega.{arith}
use borrow.Author.Rules.{rules}
use Rattle.std.specs.Prelude.{ℕ, ◌+◌, ◌-◌, ◌≤◌, ◌<◌, ◌≡◌, List, true, false, drop, take, length, get_or, MatchOption}
use Rattle.std.specs.List.{AllWithin, HoldsAt}
use Rattle.std.proofs.Common.{get_or-take, get_or-drop, length-take, length-drop}
use Rattle.std.proofs.lemmas.Iterator.{IsFirst-from_position, YieldsList-from_slice}
use Rattle.lexeme.specs.Parts.{letter_or_digit}
use Rattle.lexer.proofs.Stretches.{becomes_then, ended, byte_on, many_run, many_stop}
use Rattle.lexer.proofs.scan.word_end.Goals as goal
use Rattle.lexer.proofs.scan.word_end.Goals.{After-position, In-Some, In-None}

-- the bytes that are left
abbrev left : (text : List ℕ) (from : ℕ) → List ℕ
left text from = take (length text - from) (drop from text)

long : (text : List ℕ) (from : ℕ) → length (left text from) ≡ length text - from
long text from = let l = length-drop from text in let m : length text - from ≤ length (drop from text) = omega (arith, l) in simp length-take (omega arith)

at : (text : List ℕ) (from k : ℕ) → k < length text - from → get_or (left text from) k 0 ≡ get_or text (from + k) 0
at text from k h = rw (get_or-take, get_or-drop) refl

-- the first byte that is neither a letter nor a digit, or none is
first : (c : After-position) → MatchOption c.position.result (AllWithin (λ b. letter_or_digit b ≡ true) (left c.args.text.now (c.args.start + 1)) 0 (length (left c.args.text.now (c.args.start + 1)))) (λ i. (i < length (left c.args.text.now (c.args.start + 1))) × HoldsAt (λ b. letter_or_digit b ≡ false) (left c.args.text.now (c.args.start + 1)) i × AllWithin (λ b. letter_or_digit b ≡ true) (left c.args.text.now (c.args.start + 1)) 0 i)
first c = IsFirst-from_position _ _ c.position.result (λ b. letter_or_digit b ≡ false) (λ b. letter_or_digit b ≡ true) c.position.ensures.ran (YieldsList-from_slice (left c.args.text.now (c.args.start + 1)) c.iter.ensures.rest) (λ x q k. search rules) (λ x q k. (search rules, search rules))

pub returns-in-Some : goal.returns-in-Some
returns-in-Some c =
    let p = c.requires in
    let (n, h, f) = rw c.in-Some.is at (first (goal.at.returns-in-Some c).After-position) in
    let l = long c.args.text.now (c.args.start + 1) in
    ended (becomes_then (byte_on p.1 p.2) (many_run c.in-Some.more (c.args.start + 1 + c.in-Some.more) refl (omega (arith, n, l)) (λ k m. ap letter_or_digit (sym (at c.args.text.now (c.args.start + 1) k (omega (arith, n, l)))) ∙ f k 0 (omega arith) m)))
    (many_stop (omega (arith, n, l)) (λ m. ap letter_or_digit (sym (at c.args.text.now (c.args.start + 1) c.in-Some.more (omega (arith, n, l)))) ∙ h 0))

pub returns-in-None : goal.returns-in-None
returns-in-None c =
    let p = c.requires in
    let f = rw c.in-None.is at (first (goal.at.returns-in-None c).After-position) in
    let l = long c.args.text.now (c.args.start + 1) in
    ended (becomes_then (byte_on p.1 p.2) (many_run (length c.args.text.now - (c.args.start + 1)) (length c.args.text.now) (omega arith) (omega arith) (λ k m. ap letter_or_digit (sym (at c.args.text.now (c.args.start + 1) k m)) ∙ f k 0 (omega arith) (omega (arith, l)))))
    (many_stop (omega arith) (λ m. absurd (omega arith)))
