-- `is_number` meets its contract: the first digits, a point and digits where there is a point, and then what `is_power` says.
use Prim.Native.Nat.{ℕ, ◌-◌}
use mathlib.Core.Bool.{not}
use mathlib.Core.List.{List}
use mathlib.Core.Path.{◌≡◌, sym, ap, ◌∙◌}
use native.Mathlib.Omega.{arith}
use lib.Dec.{eqb}
use lib.ListN.{length, take, drop}
use Rattle.grammar.specs.Derivative.{matches}
use Rattle.grammar.specs.Lexeme.{number}
use Rattle.grammar.specs.Pattern.{digit, maybe, sequence, some, byte}
use Rattle.lexeme.specs.Parts.{power}
use Rattle.lexeme.proofs.Numbers.{rest, rest_shy, power_shy, rest_none, rest_point, rest_other}
use Rattle.lexeme.proofs.Runs.{some_read, none_read, run_within}
use Rattle.lexeme.proofs.Texts.{opened, emptied, behind}
use Rattle.lexeme.proofs.is_number.Goals as goal
use Rattle.lexeme.proofs.is_number.Goals.{Else-whole-eq0, After-leading_digits-part}

-- past the first digits
begun : (c : Else-whole-eq0) → let w = c.args.word.now in let n = c.leading_digits-whole.result in matches number w ≡ matches rest (take (length w - n) (drop n w))
begun c =
    let w = c.args.word.now in
    let e = c.leading_digits-whole.ensures in
    some_read digit rest rest_shy w (λ z. c.if-whole-eq0.false (e ∙ z)) ∙ ap (matches rest) (ap (λ (n : ℕ). drop n w) (sym e) ∙ sym (behind w _))

-- what stands after the point
abbrev fraction : After-leading_digits-part → List ℕ
fraction c = let w = c.args.word.now in let n = c.leading_digits-whole.result in let l = take (length w - n) (drop n w) in take (length l - 1) (drop 1 l)

-- and past the point
pointed : (c : After-leading_digits-part) → (let w = c.args.word.now in let n = c.leading_digits-whole.result in matches number w ≡ matches rest (take (length w - n) (drop n w))) → matches number c.args.word.now ≡ matches (sequence (some (byte digit)) (maybe power)) (fraction c)
pointed c b = b ∙ ap (matches rest) (opened _ c.in-len1-up.len_at_least) ∙ rest_point _ _ c.if-point-ne46.false

pub returns-then-whole-eq0 : goal.returns-then-whole-eq0
returns-then-whole-eq0 c = sym (none_read digit rest rest_shy c.args.word.now (sym c.leading_digits-whole.ensures ∙ c.if-whole-eq0.true))

pub slice_bounds-after-count : goal.slice_bounds-after-count
slice_bounds-after-count c = rw c.leading_digits-whole.ensures (run_within digit c.args.word.now)

pub slice_bounds-after-start : goal.slice_bounds-after-start
slice_bounds-after-start c = omega (arith, c.leading_digits-whole.ensures, run_within digit c.args.word.now)

pub returns-in_default : goal.returns-in_default
returns-in_default c = sym (begun (goal.at.returns-in_default c).Else-whole-eq0 ∙ ap (matches rest) (emptied c.in_default.len_below) ∙ rest_none)

pub returns-then-point-ne46 : goal.returns-then-point-ne46
returns-then-point-ne46 c =
    let after = opened _ c.in-len1-up.len_at_least in
    c.is_power.ensures ∙ sym (begun (goal.at.returns-then-point-ne46 c).Else-whole-eq0 ∙ ap (matches rest) after ∙ rest_other _ _ c.if-point-ne46.true ∙ sym (ap (matches (maybe power)) after))

pub slice_bounds-is_power-count : goal.slice_bounds-is_power-count
slice_bounds-is_power-count c = rw c.leading_digits-part.ensures (run_within digit _)

pub slice_bounds-is_power-start : goal.slice_bounds-is_power-start
slice_bounds-is_power-start c = omega (arith, c.leading_digits-part.ensures, run_within digit (fraction (goal.at.slice_bounds-is_power-start c).After-leading_digits-part))

pub returns-then-part-ne0 : goal.returns-then-part-ne0
returns-then-part-ne0 c =
    let at = (goal.at.returns-then-part-ne0 c).After-leading_digits-part in
    let before = (goal.at.returns-then-part-ne0 c).Else-whole-eq0 in
    let e = c.leading_digits-part.ensures in
    let f = fraction at in
    c.is_power-then-part-ne0.ensures ∙ sym (pointed at (begun before) ∙ some_read digit (maybe power) power_shy f (λ z. c.if-part-ne0.true (e ∙ z)) ∙ ap (matches (maybe power)) (ap (λ (n : ℕ). drop n f) (sym e) ∙ sym (behind f _)))

pub returns-else-part-ne0 : goal.returns-else-part-ne0
returns-else-part-ne0 c =
    let at = (goal.at.returns-else-part-ne0 c).After-leading_digits-part in
    let before = (goal.at.returns-else-part-ne0 c).Else-whole-eq0 in
    ap (λ (n : ℕ). not (eqb n 0)) c.if-part-ne0.false ∙ sym (pointed at (begun before) ∙ none_read digit (maybe power) power_shy (fraction at) (sym c.leading_digits-part.ensures ∙ c.if-part-ne0.false))
