-- The tables of the machine: what comes of each state before each kind. Their rule is one equation for each edition, computed.
use Prim.Native.Nat.{ℕ, zero, suc, ◌+◌, ◌*◌, ◌≤◌, ◌<◌}
use mathlib.Core.List.{List, [], ◌∷◌, map}
use mathlib.Core.Path.{◌≡◌, refl, sym, ap, ◌∙◌}
use native.Mathlib.Decide.{ℕ_discrete}
use native.Mathlib.Omega.{arith}
use lib.Dec.{T, ltb, ltb→lt}
use lib.ListN.{get_or, take, drop}
use lib.Seq.{drop-drop, get_or-take, get_or-drop}
use Rattle.grammar.specs.Edition.{Edition}
use Rattle.grammar.specs.Kaori.{above, rules, kaori}
use Rattle.grammar.proofs.Tests.{within}
use Rattle.grammar.proofs.Verdicts.{look, moved, move, needed, link_move}
use Rattle.expected.specs.Cells.{states, state, joined, list, entry, column_of, Plain, plain, Acts}
use Rattle.expected.specs.Tables.{table, lengths, lists}
use Rattle.expected.proofs.Lent.{every, at_every, table_length}

abbrev upto : ℕ → ℕ → List ℕ
upto a zero = []
upto a (suc n) = a ∷ upto (suc a) n

-- the first n lines of a table, of w numbers each
abbrev cut : ℕ → ℕ → List ℕ → List (List ℕ)
cut w zero l = []
cut w (suc n) l = take w l ∷ cut w n (drop w l)

-- what comes of a state before each kind, and what a line says
come : Edition → ℕ → ℕ → List Plain
come e c s = map (λ x. plain (look e x c 40 (get_or states s [])).verdict) (upto 0 45)

said : Edition → ℕ → List ℕ → List Plain
said e c line = map (λ x. entry c (get_or line (column_of e x) 0)) (upto 0 45)

right : (e : Edition) (c : ℕ) → map (come e c) (upto 0 54) ≡ map (said e c) (cut 49 54 table)
unfolding come said states table lengths lists state joined list entry column_of look moved move needed link_move kaori rules above ℕ_discrete
right Edition.first c = refl
right Edition.second c = refl

-- where two lists of this form are the same, so are their parts
same_parts : {A : Type 0} (f g : ℕ → A) (a n : ℕ) → map f (upto a n) ≡ map g (upto a n) → (i : ℕ) → a ≤ i → i < a + n → f i ≡ g i
same_parts f g a zero d i h l = absurd (omega arith)
same_parts f g a (suc n) d i h l =
    let (d₀, d₁) = parts d in
    elim (ℕ_discrete a i) [ yes k ↦ rw k at d₀ | no k ↦ same_parts f g (suc a) n d₁ i (omega (arith, k)) (omega arith) ]
  where
    parts : {A : Type 0} {x y : A} {xs ys : List A} → x ∷ xs ≡ y ∷ ys → (x ≡ y) × (xs ≡ ys)
    parts e = (cc, cc)

same_lines : {A : Type 0} (f : ℕ → A) (g : List ℕ → A) (w a n : ℕ) (l : List ℕ) → map f (upto a n) ≡ map g (cut w n l) → (i : ℕ) → i < n → f (a + i) ≡ g (take w (drop (w * i) l))
same_lines f g w a zero l d i h = absurd (omega arith)
same_lines f g w a (suc n) l d zero h =
    let k : f a ≡ g (take w l) = cc in
    let i : a + 0 ≡ a = omega arith in
    let m : 0 ≡ w * 0 = omega arith in
    ap f i ∙ k ∙ ap (λ j. g (take w (drop j l))) m
same_lines f g w a (suc n) l d (suc i) h =
    let d₁ : map f (upto (suc a) n) ≡ map g (cut w n (drop w l)) = cc in
    let m : w + w * i ≡ w * suc i = omega arith in
    let j : suc a + i ≡ a + suc i = omega arith in
    ap f (sym j) ∙ same_lines f g w (suc a) n (drop w l) d₁ i (omega arith) ∙ ap (λ k. g (take w k)) (drop-drop (w * i) w l ∙ ap (λ k. drop k l) m)

-- the column of a kind is one of the table's
pub column_small : (e : Edition) (x : ℕ) → x < 45 → column_of e x < 49
unfolding column_of
column_small Edition.first x h = omega arith
column_small Edition.second x h = ltb→lt (column_of Edition.second x) 49 (within (λ x. ltb (column_of Edition.second x) 49) 0 45 x tt (omega arith) h)

-- the rule of the table
rule : (e : Edition) (c s x : ℕ) → s < 54 → x < 45 → plain (look e x c 40 (get_or states s [])).verdict ≡ entry c (get_or table (s * 49 + column_of e x) 0)
unfolding come said
rule e c s x h l =
    let line : List ℕ = take 49 (drop (49 * s) table) in
    let m : 49 * s + column_of e x ≡ s * 49 + column_of e x = omega arith in
    let o : s ≡ 0 + s = omega arith in
    let d : come e c s ≡ said e c line = ap (come e c) o ∙ same_lines (come e c) (said e c) 49 0 54 table (right e c) s h in
    same_parts (λ x. plain (look e x c 40 (get_or states s [])).verdict) (λ x. entry c (get_or line (column_of e x) 0)) 0 45 d x (omega arith) l ∙ ap (entry c) (get_or-take 49 (drop (49 * s) table) (column_of e x) 0 (column_small e x l) ∙ get_or-drop (49 * s) table (column_of e x) 0 ∙ ap (λ i. get_or table i 0) m)

all_small : T (every (λ x. ltb x 177) table)
unfolding table every
all_small = tt

table_small : (i : ℕ) → i < 2646 → get_or table i 0 < 177
table_small i h = ltb→lt (get_or table i 0) 177 (at_every (λ x. ltb x 177) table i all_small (omega (arith, table_length)))

pub acts : (e : Edition) (s x : ℕ) → s < 54 → x < 45 → Acts e s x (get_or table (s * 49 + column_of e x) 0)
acts e s x h l = record { says = λ c. rule e c s x h l; bound = table_small (s * 49 + column_of e x) (omega (arith, column_small e x l)) }
