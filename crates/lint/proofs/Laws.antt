-- What a search has passed, how far a row reaches, which token is its sign, and how each rule is decided. Every notion has at most one answer: one end, one first token,
-- one sign.
use Prim.Native.Nat.{ℕ, zero, suc, ◌+◌, ◌-◌, min, ◌≤◌, ◌<◌}
use native.Mathlib.Decide.{ℕ_discrete, dec_lt}
use native.Mathlib.Omega.{arith}
use mathlib.Core.Bool.{Bool, true, false, not, cond, ◌&&◌, false≢true}
use mathlib.Core.List.{List}
use mathlib.Core.Logic.{◌⊎◌, inl, inr, ⊎_elim}
use mathlib.Core.Path.{◌≡◌, refl, sym, ap, ◌∙◌, subst}
use lib.Dec.{eqb, ltb}
use lib.ListN.{length, get_or-eq_default}
use borrow.Author.Tests.{ne_eqb, lt-ltb}
use Rattle.std.specs.Prelude.{Some, None}
use Rattle.grammar.specs.Edition.{Edition}
use Rattle.grammar.specs.Handle.{absent}
use Rattle.grammar.specs.Kind.{LeftParen, RightParen, Hash, LeftBrace, RightBrace}
use Rattle.grammar.specs.Label.{Node, number_of}
use Rattle.grammar.specs.Pattern.{among}
use Rattle.grammar.specs.Token.{count, kind, start, end}
use Rattle.spelling.specs.Decides.{Decides}
use Rattle.spelling.proofs.Deciding.{holds, fails, held, failed, said, carried}
use Rattle.diagnostics.specs.Line.{ends}
use Rattle.lint.specs.Reach.{number, kind_of, start_of, end_of, parent_of, LastNumber, last, Takes, Ends, here, Past, FirstPast, Sign, opens, closes, BracketCase, BracketOf, counted, after, brackets, encloses, enclosing, in_block}
use Rattle.lint.specs.declared.reach.Bracket.{Bracket}
use Rattle.lint.specs.Rules.{LineEnds, OnNewLine, joining, closed, going_on, Reached, ReachingNot, CutAt, CutOff, GoingOn, LongString, Any, Next}

-- a search from a number on: it has come to i, and none of those before is what is looked for
pub record Passed (P : ℕ → Type 0) (from i : ℕ) : Type 0 where
  pub reached : from ≤ i
  pub none : (j : ℕ) → from ≤ j → j < i → P j → ⊥

pub one_more : {P : ℕ → Type 0} {from i : ℕ} → Passed P from i → (P i → ⊥) → Passed P from (i + 1)
one_more {P} {i = i} s n = record { reached = omega (arith, s.reached); none = λ j l h p. elim (ℕ_discrete j i) [ yes e ↦ n (subst P e p) | no e ↦ s.none j l (omega arith) p ] }

pub not_both : {b : Bool} → b ≡ false → b ≡ true → ⊥
not_both f t = false≢true (sym f ∙ t)

pub is_true : {b r : Bool} → r ≡ b → Decides (b ≡ true) r
is_true {b = true} e = rw e (holds refl)
is_true {b = false} e = rw e (fails false≢true)

-- ends of lines
past_text : (text : List ℕ) (i : ℕ) → length text ≤ i → ends text i ≡ false
unfolding ends
past_text text i l = rw (get_or-eq_default text 0 l) refl

pub line_found : {text : List ℕ} {from upto i : ℕ} → Passed (λ j. ends text j ≡ true) from i → i < upto → ends text i ≡ true → Decides (LineEnds text from upto) true
line_found {i = i} s l e = holds (record { at = i; after = s.reached; before = l; there = e })

pub no_line : {text : List ℕ} {from upto i : ℕ} → Passed (λ j. ends text j ≡ true) from i → min (length text) upto ≤ i → Decides (LineEnds text from upto) false
no_line {text} {from} {upto} {i} s l = fails go
  where
    go : LineEnds text from upto → ⊥
    go r = elim (dec_lt r.at i) [
      | yes h ↦ s.none r.at r.after h r.there
      | no h ↦ let k : length text ≤ r.at = omega (arith, r.before) in not_both (past_text text r.at k) r.there
    ]

-- a token on a new line
pub first_token : {text ts : List ℕ} {k : ℕ} → k ≡ 0 → Decides (OnNewLine text ts k) false
first_token e = fails λ r. absurd (omega (arith, r.second))

pub no_token : {text ts : List ℕ} {k : ℕ} → count ts ≤ k → Decides (OnNewLine text ts k) false
no_token l = fails λ r. absurd (omega (arith, r.inside))

pub in_brackets : {text ts : List ℕ} {k : ℕ} → in_block ts k ≡ false → Decides (OnNewLine text ts k) false
in_brackets f = fails λ r. not_both f r.level

pub between : {text ts : List ℕ} {k s e : ℕ} {r : Bool} → 0 < k → k < count ts → in_block ts k ≡ true → e ≡ end ts (k - 1) → s ≡ start ts k → Decides (LineEnds text e s) r → Decides (OnNewLine text ts k) r
between l h i e s d = carried (λ b. record { second = l; inside = h; level = i; breaks = rw (sym e) (rw (sym s) b) }) (λ n. rw e (rw s n.breaks)) d

-- what a row takes last
pub takes_number : (nodes : List ℕ) (row : ℕ) {k i r : ℕ} → k ≡ kind_of nodes row → LastNumber k (Some i) → r ≡ number nodes row i → r ≡ last nodes row
unfolding last
takes_number nodes row {k} {i} e n x = let (m, l) = n.names in rw (sym e) (rw m (rw (ne_eqb i 0 (λ z. omega (arith, z, l))) x))

pub takes_nothing : (nodes : List ℕ) (row : ℕ) {k : ℕ} → k ≡ kind_of nodes row → LastNumber k None → absent ≡ last nodes row
unfolding last
takes_nothing nodes row e n = rw (sym e) (rw n.names refl)

-- where a row ends
pub one_end : {nodes : List ℕ} {row y z : ℕ} → Ends nodes row y → Ends nodes row z → y ≡ z
one_end (here l) (here m) = refl
one_end (here l) (Ends.on m e) = absurd (omega arith)
one_end (Ends.on l d) (here m) = absurd (omega arith)
one_end (Ends.on l d) (Ends.on m e) = one_end d e

-- the first token
pub other_kind : (ts : List ℕ) (k : ℕ) {x : ℕ} → x ≡ kind ts k → Decides (kind ts k ≡ RightParen → ⊥) (not (eqb x RightParen))
other_kind ts k {x} e = go (ℕ_discrete x RightParen)
  where
    go : Dec (x ≡ RightParen) → Decides (kind ts k ≡ RightParen → ⊥) (not (eqb x RightParen))
    go (yes z) = rw z (fails λ n. n (sym e ∙ z))
    go (no z) = rw (ne_eqb x RightParen z) (holds λ f. z (e ∙ f))

pub past_at : {ts : List ℕ} {offset k s : ℕ} → s ≡ start ts k → offset ≤ s → {r : Bool} → Decides (kind ts k ≡ RightParen → ⊥) r → Decides (Past ts offset k) r
past_at e l d = carried (λ o. record { from = omega (arith, l, e); other = o }) (λ p. p.other) d

pub not_past : {ts : List ℕ} {offset k s : ℕ} → s ≡ start ts k → s < offset → Decides (Past ts offset k) false
not_past e l = fails λ p. absurd (omega (arith, e, l, p.from))

no_earlier : {ts : List ℕ} {offset k l : ℕ} → FirstPast ts offset k → FirstPast ts offset l → k < l → ⊥
no_earlier {ts} {k = k} f g h = let i : k < count ts = omega (arith, g.within) in g.least k h (f.past i)

pub one_first : {ts : List ℕ} {offset k l : ℕ} → FirstPast ts offset k → FirstPast ts offset l → k ≡ l
one_first {k = k} {l} f g = elim (dec_lt k l) [ yes h ↦ absurd (no_earlier f g h) | no h ↦ elim (dec_lt l k) [ yes i ↦ absurd (no_earlier g f i) | no i ↦ omega arith ] ]

pub first_found : {ts : List ℕ} {offset k : ℕ} → Passed (Past ts offset) 0 k → k < count ts → Past ts offset k → FirstPast ts offset k
first_found s l p = record { within = omega arith; past = λ _. p; least = λ j h q. s.none j (omega arith) h q }

-- the sign
pub one_sign : {ts nodes : List ℕ} {row k l : ℕ} → Sign ts nodes row k → Sign ts nodes row l → k ≡ l
one_sign {ts} {nodes} s t = one_first s.first (subst (λ y. FirstPast ts (end_of nodes y) _) (one_end t.ends s.ends) t.first)

-- which kinds are brackets, and what they do to the count: past an offset, and going back
pub no_bracket : {k : ℕ} → (k ≡ LeftParen → ⊥) → (k ≡ LeftBrace → ⊥) → (k ≡ RightParen → ⊥) → (k ≡ RightBrace → ⊥) → BracketOf k None
unfolding BracketCase
no_bracket {k} a b c d = record { says = simp (ne_eqb k LeftParen a, ne_eqb k LeftBrace b, ne_eqb k RightParen c, ne_eqb k RightBrace d) (refl, refl) }

module _ (ts : List ℕ) (offset i n : ℕ) {s x : ℕ} (starts : s ≡ start ts i) (past : offset < s) (is : x ≡ kind ts i) where
  counts : (o c : Bool) → opens x ≡ o → closes x ≡ c → after ts offset i n ≡ counted o c n
  counts o c p q = rw (sym starts, lt-ltb offset s past, sym is) (ap (λ v. counted v (closes x) n) p ∙ ap (λ v. counted o v n) q)

  pub after_opening : BracketOf x (Some Bracket.Opens) → n + 1 ≡ after ts offset i n
  unfolding BracketCase
  after_opening b = let (o, c) = b.says in let e : n + 1 ≡ suc n = omega arith in e ∙ sym (counts true false o c)

  pub after_closing : {r : ℕ} → BracketOf x (Some Bracket.Closes) → r ≡ n - 1 → r ≡ after ts offset i n
  unfolding BracketCase
  after_closing b e = let (o, c) = b.says in e ∙ sym (counts false true o c)

  pub after_other : BracketOf x None → n ≡ after ts offset i n
  unfolding BracketCase
  after_other b = let (o, c) = b.says in sym (counts false false o c)

-- brackets: no more are open than there are tokens
pub grown : (more fewer : Bool) (n : ℕ) → counted more fewer n ≤ suc n
grown true c n = omega arith
grown false true n = omega arith
grown false false n = omega arith

pub few : (ts : List ℕ) (offset k : ℕ) → brackets ts offset k ≤ k
unfolding brackets
few ts offset zero = omega arith
few ts offset (suc i) = go (ltb offset (start ts i)) (few ts offset i)
  where
    go : (b : Bool) → brackets ts offset i ≤ i → cond b (counted (opens (kind ts i)) (closes (kind ts i)) (brackets ts offset i)) (brackets ts offset i) ≤ suc i
    go true l = omega (arith, grown (opens (kind ts i)) (closes (kind ts i)) (brackets ts offset i), l)
    go false l = omega (arith, l)

pub none_yet : (ts : List ℕ) (offset : ℕ) → 0 ≡ brackets ts offset 0
unfolding brackets
none_yet ts offset = refl

pub one_bracket_more : (ts : List ℕ) (offset i : ℕ) {n r : ℕ} → n ≡ brackets ts offset i → r ≡ after ts offset i n → r ≡ brackets ts offset (i + 1)
unfolding brackets
one_bracket_more ts offset i e f = let n : suc i ≡ i + 1 = omega arith in rw e at f ∙ ap (λ (k : ℕ). brackets ts offset k) n

-- the innermost open bracket, going back over one token
one_back : (ts : List ℕ) (n i : ℕ) → 0 < i → enclosing ts i n ≡ cond (encloses (kind ts (i - 1)) n) (i - 1) (enclosing ts (i - 1) (counted (closes (kind ts (i - 1))) (opens (kind ts (i - 1))) n))
unfolding enclosing
one_back ts n zero h = absurd (omega arith)
one_back ts n (suc j) h = let e : suc j - 1 ≡ j = omega arith in rw e refl

skip : (b : Bool) (x y : ℕ) → cond (b && false) x y ≡ y
skip true x y = refl
skip false x y = refl

module _ (ts : List ℕ) (n i : ℕ) (some : 0 < i) {x : ℕ} (is : x ≡ kind ts (i - 1)) where
  goes_back : (o c : Bool) → opens x ≡ o → closes x ≡ c → enclosing ts i n ≡ cond (eqb n 0 && o) (i - 1) (enclosing ts (i - 1) (counted c o n))
  goes_back o c p q =
      rw is (one_back ts n i some)
      ∙ ap (λ v. cond (eqb n 0 && v) (i - 1) (enclosing ts (i - 1) (counted (closes x) v n))) p
      ∙ ap (λ v. cond (eqb n 0 && o) (i - 1) (enclosing ts (i - 1) (counted v o n))) q

  pub back_closing : BracketOf x (Some Bracket.Closes) → enclosing ts (i - 1) (n + 1) ≡ enclosing ts i n
  unfolding BracketCase
  back_closing b =
      let (o, c) = b.says in
      let e : n + 1 ≡ suc n = omega arith in
      ap (λ m. enclosing ts (i - 1) m) e ∙ sym (goes_back false true o c ∙ skip (eqb n 0) _ _)

  pub found_open : BracketOf x (Some Bracket.Opens) → n ≡ 0 → i - 1 ≡ enclosing ts i n
  unfolding BracketCase
  found_open b z = let (o, c) = b.says in sym (goes_back true false o c ∙ rw z refl)

  pub back_opening : BracketOf x (Some Bracket.Opens) → (n ≡ 0 → ⊥) → enclosing ts (i - 1) (n - 1) ≡ enclosing ts i n
  unfolding BracketCase
  back_opening b z = let (o, c) = b.says in sym (goes_back true false o c ∙ rw (ne_eqb n 0 z) refl)

  pub back_other : BracketOf x None → enclosing ts (i - 1) n ≡ enclosing ts i n
  unfolding BracketCase
  back_other b = let (o, c) = b.says in sym (goes_back false false o c ∙ skip (eqb n 0) _ _)

pub none_open : (ts : List ℕ) (n : ℕ) → enclosing ts 0 n ≡ absent
unfolding enclosing
none_open ts n = refl

pub open_before : (ts : List ℕ) (k n : ℕ) → (enclosing ts k n ≡ absent) ⊎ (enclosing ts k n < k)
unfolding enclosing
open_before ts zero n = inl refl
open_before ts (suc i) n = go (encloses (kind ts i) n) (open_before ts i (counted (closes (kind ts i)) (opens (kind ts i)) n))
  where
    go : {e : ℕ} (b : Bool) → (e ≡ absent) ⊎ (e < i) → (cond b i e ≡ absent) ⊎ (cond b i e < suc i)
    go true d = inr (omega arith)
    go false (inl e) = inl e
    go false (inr l) = inr (omega (arith, l))

pub within_list : (ts : List ℕ) (k : ℕ) {e : ℕ} → e ≡ enclosing ts k 0 → (e ≡ absent → ⊥) → e < k
within_list ts k e n = ⊎_elim (λ a. absurd (n (e ∙ a))) (λ l. omega (arith, e, l)) (open_before ts k 0)

pub nothing_open : (ts : List ℕ) (k : ℕ) {e : ℕ} → e ≡ enclosing ts k 0 → e ≡ absent → true ≡ in_block ts k
unfolding in_block
nothing_open ts k e a = rw (sym e) (rw a refl)

pub other_open : (ts : List ℕ) (k : ℕ) {e x : ℕ} → e ≡ enclosing ts k 0 → (e ≡ absent → ⊥) → x ≡ kind ts e → (x ≡ LeftBrace → ⊥) → false ≡ in_block ts k
unfolding in_block
other_open ts k {e} {x} q a y b = rw (sym q) (rw (ne_eqb e absent a) (rw (sym y) (rw (ne_eqb x LeftBrace b) refl)))

pub first_open : (ts : List ℕ) (k : ℕ) {e x : ℕ} → e ≡ enclosing ts k 0 → (e ≡ absent → ⊥) → x ≡ kind ts e → x ≡ LeftBrace → e ≡ 0 → true ≡ in_block ts k
unfolding in_block
first_open ts k {e} {x} q a y b z = let f : kind ts 0 ≡ LeftBrace = rw z at (sym y) ∙ b in rw (sym q) (rw (ne_eqb e absent a) (rw z (rw f refl)))

pub brace_open : (ts : List ℕ) (k : ℕ) {e x y : ℕ} → e ≡ enclosing ts k 0 → (e ≡ absent → ⊥) → x ≡ kind ts e → x ≡ LeftBrace → y ≡ kind ts (e - 1) → not (eqb y Hash) ≡ in_block ts k
unfolding in_block
brace_open ts k {e} {x} {y} q a u b v = rw (sym q) (rw (ne_eqb e absent a) (rw (sym u) (rw b (rw (sym v) refl))))

-- a walk over what a row took: where it stands, and that nothing before is looked for
pub record Walked (nodes : List ℕ) (P : ℕ → Type 0) (row x : ℕ) : Type 0 where
  pub on : (y : ℕ) → Takes nodes x y → Takes nodes row y
  pub none : (y : ℕ) → Takes nodes row y → P y → Takes nodes x y

pub a_step : {nodes : List ℕ} {P : ℕ → Type 0} {row x y : ℕ} → Walked nodes P row x → y ≡ last nodes x → y < x → (P y → ⊥) → Walked nodes P row y
a_step {nodes} {P} {row} {x} {y} w e l n = record { on = λ z t. w.on z (Takes.on (rw (sym e) l) (rw (sym e) t)); none = λ z t p. go z (w.none z t p) p }
  where
    go : (z : ℕ) → Takes nodes x z → P z → Takes nodes y z
    go z (Takes.next h) p = absurd (n (rw e p))
    go z (Takes.on h t) p = rw e t

pub stops : {nodes : List ℕ} {P : ℕ → Type 0} {row x y : ℕ} → Walked nodes P row x → y ≡ last nodes x → x ≤ y → (z : ℕ) → Takes nodes row z → P z → ⊥
stops {nodes} {x = x} {y} w e l z t p = go (w.none z t p)
  where
    go : {v : ℕ} → Takes nodes x v → ⊥
    go (Takes.next h) = absurd (omega (arith, e, h, l))
    go (Takes.on h u) = absurd (omega (arith, e, h, l))

-- Rule 1
pub reached_by : {ts nodes : List ℕ} {row x y k s n : ℕ} {b : Bool} → y ≡ kind_of nodes x → b ≡ among joining y → b ≡ true → Sign ts nodes x k → s ≡ start_of nodes row → n ≡ brackets ts s k → Decides (Reached ts nodes row x) (eqb n 0)
reached_by {ts} {nodes} {row} {x} {k = k} {s} {n} y i v t e b = go (ℕ_discrete n 0)
  where
    at : brackets ts (start_of nodes row) k ≡ n
    at = rw (sym e) (sym b)

    go : Dec (n ≡ 0) → Decides (Reached ts nodes row x) (eqb n 0)
    go (yes z) = rw z (holds (record { joined = rw y at (sym i ∙ v); token = k; sign = t; bare = at ∙ z }))
    go (no z) = rw (ne_eqb n 0 z) (fails λ r. z (sym at ∙ subst (λ i. brackets ts (start_of nodes row) i ≡ 0) (one_sign r.sign t) r.bare))

pub reaching_from : {ts nodes : List ℕ} {row x above k : ℕ} → k ≡ kind_of nodes row → k ≡ number_of (Node.LogicalNot Edition.first) → Walked nodes (Reached ts nodes row) row above → x ≡ last nodes above → x < above → Reached ts nodes row x → Decides (ReachingNot ts nodes row) true
reaching_from {nodes = nodes} {x = x} {above} e n w l h r = holds (record { not = sym e ∙ n; taken = x; takes = w.on x (rw l (Takes.next {row = above} (rw (sym l) h))); reached = r })

pub no_not : {ts nodes : List ℕ} {row k : ℕ} → k ≡ kind_of nodes row → (k ≡ number_of (Node.LogicalNot Edition.first) → ⊥) → Decides (ReachingNot ts nodes row) false
no_not e n = fails λ r. n (e ∙ r.not)

pub reaching_nothing : {ts nodes : List ℕ} {row x above : ℕ} → Walked nodes (Reached ts nodes row) row above → x ≡ last nodes above → above ≤ x → Decides (ReachingNot ts nodes row) false
reaching_nothing w l h = fails λ r. stops w l h r.taken r.takes r.reached

pub not_joined : {ts nodes : List ℕ} {row x y : ℕ} {b : Bool} → y ≡ kind_of nodes x → b ≡ among joining y → b ≡ false → Decides (Reached ts nodes row x) false
not_joined y j f = fails λ r. not_both (rw y at (sym j ∙ f)) r.joined

-- Rule 2
pub cut_elsewhere : {ts : List ℕ} {offset k e : ℕ} → e ≡ end ts k → (e ≡ offset → ⊥) → Decides (CutAt ts offset k) false
cut_elsewhere e n = fails λ r. n (e ∙ r.last)

pub no_brace : {ts : List ℕ} {offset k x : ℕ} → x ≡ kind ts k → (x ≡ RightBrace → ⊥) → Decides (CutAt ts offset k) false
no_brace e n = fails λ r. n (e ∙ r.brace)

pub cut_here : {ts : List ℕ} {offset k e x y : ℕ} {r : Bool} → k + 1 < count ts → e ≡ end ts k → e ≡ offset → x ≡ kind ts k → x ≡ RightBrace → y ≡ kind ts (k + 1) → r ≡ among going_on y → Decides (CutAt ts offset k) r
cut_here l e f x b y g = carried (λ t. record { inside = l; last = sym e ∙ f; brace = sym x ∙ b; next = t }) (λ c. c.next) (is_true (g ∙ ap (λ (i : ℕ). among going_on i) y))

pub not_closed : {ts nodes : List ℕ} {row x : ℕ} {b : Bool} → x ≡ kind_of nodes row → b ≡ among closed x → b ≡ false → Decides (CutOff ts nodes row) false
not_closed x c f = fails λ r. not_both (rw x at (sym c ∙ f)) r.own

pub no_statement : {ts nodes : List ℕ} {row p x : ℕ} → p ≡ parent_of nodes row → x ≡ kind_of nodes p → (x ≡ number_of Node.Block → ⊥) → Decides (CutOff ts nodes row) false
no_statement {nodes = nodes} p x n = fails λ r. n (x ∙ ap (λ (i : ℕ). kind_of nodes i) p ∙ r.statement)

pub cut_found : {ts nodes : List ℕ} {row y p x e k : ℕ} {b : Bool} → y ≡ kind_of nodes row → b ≡ among closed y → b ≡ true → p ≡ parent_of nodes row → x ≡ kind_of nodes p → x ≡ number_of Node.Block → e ≡ end_of nodes row → CutAt ts e k → Decides (CutOff ts nodes row) true
cut_found {nodes = nodes} {k = k} y o t p x b e c = holds (record { own = rw y at (sym o ∙ t); statement = sym (ap (λ (i : ℕ). kind_of nodes i) p) ∙ sym x ∙ b; token = k; cut = rw (sym e) c })

pub cut_nowhere : {ts nodes : List ℕ} {row e k : ℕ} → e ≡ end_of nodes row → Passed (CutAt ts e) 0 k → count ts ≤ k + 1 → Decides (CutOff ts nodes row) false
cut_nowhere {ts} {k = k} e s l = fails λ r. let c = rw (sym e) at r.cut in s.none r.token (omega arith) (omega (arith, c.inside, l)) c

-- Rule 3
pub call_goes_on : {text ts nodes : List ℕ} {row x s k : ℕ} {r : Bool} → x ≡ kind_of nodes row → x ≡ number_of Node.FunctionCall → s ≡ start_of nodes row → FirstPast ts s k → Decides (OnNewLine text ts k) r → Decides (GoingOn text ts nodes row) r
call_goes_on {text} {ts} {nodes} {row} {x} {s} {k} e c i f d = carried to back d
  where
    to : OnNewLine text ts k → GoingOn text ts nodes row
    to n = inl (record { call = sym e ∙ c; token = k; opening = rw (sym i) f; line = n })

    back : GoingOn text ts nodes row → OnNewLine text ts k
    back (inl g) = subst (OnNewLine text ts) (one_first g.opening (rw (sym i) f)) g.line
    back (inr g) = absurd (omega (arith, e, c, g.binary))

pub sum_goes_on : {text ts nodes : List ℕ} {row x o k : ℕ} {r : Bool} → x ≡ kind_of nodes row → x ≡ number_of Node.Binary → o ≡ number nodes row 3 → o ≤ 1 → Sign ts nodes row k → Decides (OnNewLine text ts k) r → Decides (GoingOn text ts nodes row) r
sum_goes_on {text} {ts} {nodes} {row} {x} {o} {k} e b p l t d = carried to back d
  where
    to : OnNewLine text ts k → GoingOn text ts nodes row
    to n = inr (record { binary = sym e ∙ b; operator = omega (arith, p, l); token = k; sign = t; line = n })

    back : GoingOn text ts nodes row → OnNewLine text ts k
    back (inl g) = absurd (omega (arith, e, b, g.call))
    back (inr g) = subst (OnNewLine text ts) (one_sign g.sign t) g.line

pub neither : {text ts nodes : List ℕ} {row x : ℕ} → x ≡ kind_of nodes row → (x ≡ number_of Node.FunctionCall → ⊥) → (x ≡ number_of Node.Binary → ⊥) → Decides (GoingOn text ts nodes row) false
neither e c b = fails λ g. ⊎_elim (λ g. c (e ∙ g.call)) (λ g. b (e ∙ g.binary)) g

pub other_sign : {text ts nodes : List ℕ} {row x o : ℕ} → x ≡ kind_of nodes row → (x ≡ number_of Node.FunctionCall → ⊥) → o ≡ number nodes row 3 → 1 < o → Decides (GoingOn text ts nodes row) false
other_sign e c p l = fails λ g. ⊎_elim (λ g. c (e ∙ g.call)) (λ g. absurd (omega (arith, p, l, g.operator))) g

-- Rule 4
pub no_string : {text nodes : List ℕ} {row x : ℕ} → x ≡ kind_of nodes row → (x ≡ number_of Node.String → ⊥) → Decides (LongString text nodes row) false
no_string e n = fails λ r. n (e ∙ r.string)

pub a_string : {text nodes : List ℕ} {row x s t : ℕ} {r : Bool} → x ≡ kind_of nodes row → x ≡ number_of Node.String → s ≡ start_of nodes row → t ≡ end_of nodes row → Decides (LineEnds text s t) r → Decides (LongString text nodes row) r
a_string e x s t d = carried (λ l. record { string = sym e ∙ x; line = rw (sym s) (rw (sym t) l) }) (λ r. rw s (rw t r.line)) d

-- one of two statements, of which the second is asked where the first fails
pub first_decides : {P Q : Type 0} {r b : Bool} → Decides P r → r ≡ true → b ≡ r → Decides (P ⊎ Q) b
first_decides d e f = rw (f ∙ e) (holds (inl (held (said d e))))

pub second_decides : {P Q : Type 0} {r q b : Bool} → Decides P r → r ≡ false → Decides Q q → b ≡ q → Decides (P ⊎ Q) b
second_decides {P} {Q} d e k f = rw f (carried inr back k)
  where
    back : P ⊎ Q → Q
    back (inl p) = absurd (failed (said d e) p)
    back (inr q) = q

-- any rule: one of the first three, or the fourth
pub any_met : {text ts nodes : List ℕ} {row : ℕ} → (ReachingNot ts nodes row ⊎ CutOff ts nodes row) ⊎ GoingOn text ts nodes row → Decides (Any text ts nodes row) true
any_met (inl (inl r)) = holds (Any.reaching r)
any_met (inl (inr c)) = holds (Any.cut c)
any_met (inr g) = holds (Any.going g)

pub any_of : {text ts nodes : List ℕ} {row : ℕ} {r : Bool} → ((ReachingNot ts nodes row ⊎ CutOff ts nodes row) ⊎ GoingOn text ts nodes row → ⊥) → Decides (LongString text nodes row) r → Decides (Any text ts nodes row) r
any_of {text} {ts} {nodes} {row} none d = carried Any.long back d
  where
    back : Any text ts nodes row → LongString text nodes row
    back (Any.reaching x) = absurd (none (inl (inl x)))
    back (Any.cut x) = absurd (none (inl (inr x)))
    back (Any.going x) = absurd (none (inr x))
    back (Any.long x) = x

-- the next row
pub next_found : {M : ℕ → Type 0} {from count i : ℕ} → Passed M from i → i < count → M i → Next M from count i
next_found {M} {from} {count} {i} s l m = record { first = go; meets = λ _. (s.reached, l, m) }
  where
    go : (j : ℕ) → from ≤ j → j < count → M j → i ≤ j
    go j h k n = elim (dec_lt j i) [ yes e ↦ absurd (s.none j h e n) | no e ↦ omega arith ]
