-- Parts that come on the stack, one by one and several at a time: what waited below stays.
use Prim.Native.Nat.{ℕ, zero, suc, ◌+◌, ◌-◌, ◌*◌, ◌≤◌, ◌<◌}
use native.Mathlib.Omega.{arith}
use mathlib.Core.Bool.{Bool, true, false, cond}
use mathlib.Core.List.{List, [], ◌∷◌, ◌++◌, append_assoc}
use mathlib.Core.Path.{◌≡◌, refl, sym, ap, ◌∙◌}
use lib.Dec.{eqb}
use borrow.Author.Tests.{eq-eqb, ne_eqb, lt-ltb, le-ltb, le-leb}
use lib.ListN.{length, get_or, set, length-append, length-set}
use lib.Seq.{get_or-set_same, get_or-set_other}
use Rattle.grammar.specs.Handle.{absent}
use Rattle.grammar.specs.Room.{node_width, link_width}
use Rattle.grammar.specs.Rows.{Rows}
use Rattle.parts.specs.Spoken.{Word, Part, word, row}
use Rattle.packing.specs.Roles.{at, link_word, link_parts, list_parts, name_at, string_at, number_parts, role_at, numbers_parts}
use Rattle.packing.specs.Stack.{source, stacked, present, RoomFor, Pushed}

-- what waits is read off the numbers up to the top
pub stacked_same : (w : Rows) (top : ℕ) (xs ys : List ℕ) → ((i : ℕ) → i < 2 * top → get_or xs i 0 ≡ get_or ys i 0) → stacked w xs top ≡ stacked w ys top
unfolding stacked
stacked_same w zero xs ys h = refl
stacked_same w (suc n) xs ys h = rw (h (2 * n) (omega arith), h (2 * n + 1) (omega arith), stacked_same w n xs ys (λ i q. h i (omega arith))) refl

pub stacked_length : (w : Rows) (xs : List ℕ) (top : ℕ) → length (stacked w xs top) ≡ top
unfolding stacked
stacked_length w xs zero = refl
stacked_length w xs (suc n) = ap suc (stacked_length w xs n)

pub present_append : (ps qs : List Part) → present (ps ++ qs) ≡ present ps ++ present qs
unfolding present
present_append [] qs = refl
present_append (word x ∷ ps) qs = ap (λ l. word x ∷ l) (present_append ps qs)
present_append (row i ∷ ps) qs = pick (eqb i absent) (present_append ps qs)
  where
    pick : (b : Bool) → present (ps ++ qs) ≡ present ps ++ present qs → cond b (present (ps ++ qs)) (row i ∷ present (ps ++ qs)) ≡ cond b (present ps) (row i ∷ present ps) ++ present qs
    pick true e = e
    pick false e = ap (λ l. row i ∷ l) e

pub none_present : present [] ≡ []
unfolding present
none_present = refl

-- nothing came
pub pushed_none : (w : Rows) (top : ℕ) {ps : List Part} (xs : List ℕ) → present ps ≡ [] → Pushed w top ps xs xs top
pushed_none w top xs e = record { stack = rw e refl; many = rw e (omega arith) }

-- one came
pub pushed_one : (w : Rows) (top tag x : ℕ) {p : Part} {xs ys : List ℕ} {r : ℕ} → RoomFor top 1 (length xs) → present (p ∷ []) ≡ source w tag x ∷ [] → (ys ≡ set (set xs (2 * top) tag) (2 * top + 1) x) × (r ≡ top + 1) → Pushed w top (p ∷ []) xs ys r
unfolding stacked
pushed_one w top tag x {p} {xs} {ys} {r} room e (z, q) =
    let n = 2 * top in
    let first : get_or ys n 0 ≡ tag = rw z (get_or-set_other (set xs n tag) (n + 1) n x 0 (λ k. omega arith) ∙ get_or-set_same xs n tag 0 (omega arith)) in
    let second : get_or ys (n + 1) 0 ≡ x = rw z (get_or-set_same (set xs n tag) (n + 1) x 0 (omega (arith, length-set xs n tag))) in
    let other : (i : ℕ) → i < n → get_or ys i 0 ≡ get_or xs i 0 = λ i h. rw z (get_or-set_other (set xs n tag) (n + 1) i x 0 (λ k. omega arith) ∙ get_or-set_other xs n i tag 0 (λ k. omega arith)) in
    let top_is : r ≡ suc top = omega arith in
    record {
      stack = rw (top_is, e, first, second) (ap (λ l. source w tag x ∷ l) (stacked_same w top ys xs other));
      many = rw e (omega arith);
    }

-- some came, and then others
pub pushed_both : {w : Rows} {top : ℕ} (ps qs : List Part) {xs ys zs : List ℕ} {r s : ℕ} → Pushed w top qs xs ys r → Pushed w r ps ys zs s → Pushed w top (ps ++ qs) xs zs s
pushed_both {w} {top} ps qs {xs} {ys} {zs} p q = record {
  stack = q.stack ∙ ap (λ l. present ps ++ l) p.stack ∙ sym (append_assoc (present ps) (present qs) (stacked w xs top)) ∙ ap (λ l. l ++ stacked w xs top) (sym (present_append ps qs));
  many = rw (present_append ps qs) (omega (arith, length-append (present ps) (present qs), p.many, q.many));
}

-- how many numbers of one and of the others
pub present_both : (ps qs : List Part) → length (present (ps ++ qs)) ≡ length (present ps) + length (present qs)
present_both ps qs = rw (present_append ps qs) (length-append (present ps) (present qs))

-- an absent row never waits, and another does
pub absent_none : {x : ℕ} → x ≡ absent → present (row x ∷ []) ≡ []
unfolding present
absent_none {x} e = rw (eq-eqb x absent e) refl

pub row_waits : (w : Rows) {x : ℕ} → (x ≡ absent → ⊥) → present (row x ∷ []) ≡ source w 0 x ∷ []
unfolding present source
row_waits w {x} e = rw (ne_eqb x absent e) refl

pub row_one : {x : ℕ} → (x ≡ absent → ⊥) → length (present (row x ∷ [])) ≡ 1
unfolding present
row_one {x} e = rw (ne_eqb x absent e) refl

-- the tags of words
pub link_waits : (w : Rows) (k : ℕ) → present (word (link_word w.links k) ∷ []) ≡ source w 1 k ∷ []
unfolding present source
link_waits w k = refl

pub name_waits : (w : Rows) (i j : ℕ) → 3 ≤ j → j < 16 → present (word (name_at w.nodes i j) ∷ []) ≡ source w j i ∷ []
unfolding present source
name_waits w i j h l = rw (ne_eqb j 0 (λ e. omega arith), ne_eqb j 1 (λ e. omega arith), lt-ltb j 16 l) refl

pub string_waits : (w : Rows) (i j : ℕ) → present (word (string_at w.nodes i j) ∷ []) ≡ source w (16 + j) i ∷ []
unfolding present source
string_waits w i j =
    let z : 16 + j - 16 ≡ j = omega arith in
    rw (ne_eqb (16 + j) 0 (λ e. omega arith), ne_eqb (16 + j) 1 (λ e. omega arith), le-ltb (16 + j) 16 (omega arith), z) refl

pub word_one : (x : Word) → length (present (word x ∷ [])) ≡ 1
unfolding present
word_one x = refl

pub add_zero : (n : ℕ) → n + 0 ≡ n
add_zero n = omega arith

-- a link row of a list: a name, a key with its value, a row
pub name_link : {sort : ℕ} (ls : List ℕ) (k : ℕ) → sort ≡ 5 → link_parts sort ls k ≡ word (link_word ls k) ∷ []
unfolding link_parts
name_link {sort} ls k e = rw e refl

pub entry_link : {sort : ℕ} (ls : List ℕ) (k : ℕ) → sort ≡ 6 → link_parts sort ls k ≡ row (get_or ls (link_width * k) 0) ∷ row (get_or ls (link_width * k + 1) 0) ∷ []
unfolding link_parts
entry_link {sort} ls k e = rw (e, add_zero (link_width * k)) refl

pub node_link : {sort : ℕ} (ls : List ℕ) (k : ℕ) → (sort ≡ 5 → ⊥) → (sort ≡ 6 → ⊥) → link_parts sort ls k ≡ row (get_or ls (link_width * k) 0) ∷ []
unfolding link_parts
node_link {sort} ls k d e = rw (ne_eqb sort 5 d, ne_eqb sort 6 e, add_zero (link_width * k)) refl

-- a link more in front of those that came
pub list_next : (sort : ℕ) (ls : List ℕ) (from n m k : ℕ) → n ≡ suc m → k ≡ from → list_parts sort ls from n ≡ link_parts sort ls k ++ list_parts sort ls (suc k) m
unfolding list_parts
list_next sort ls from n m k e f = rw (e, f) refl

-- how much room they ask
pub name_room : {sort : ℕ} (ls : List ℕ) (k : ℕ) → sort ≡ 5 → length (present (link_parts sort ls k)) ≡ 1
name_room ls k e = rw (name_link ls k e) (word_one (link_word ls k))

pub entry_room : {sort : ℕ} (ls : List ℕ) (k : ℕ) → sort ≡ 6 → length (present (link_parts sort ls k)) ≡ length (present (row (get_or ls (link_width * k) 0) ∷ [])) + length (present (row (get_or ls (link_width * k + 1) 0) ∷ []))
entry_room ls k e = rw (entry_link ls k e) (present_both (row (get_or ls (link_width * k) 0) ∷ []) (row (get_or ls (link_width * k + 1) 0) ∷ []))

pub node_room : {sort : ℕ} (ls : List ℕ) (k : ℕ) → (sort ≡ 5 → ⊥) → (sort ≡ 6 → ⊥) → length (present (link_parts sort ls k)) ≡ length (present (row (get_or ls (link_width * k) 0) ∷ []))
node_room ls k d e = rw (node_link ls k d e) refl

-- the links of a list from the one at `left` on: none, one more, and all
pub none_left : (sort : ℕ) (ls : List ℕ) (from count left : ℕ) → left ≡ count → list_parts sort ls (from + left) (count - left) ≡ []
unfolding list_parts
none_left sort ls from count left e = let z : count - left ≡ 0 = omega arith in rw z refl

pub list_more : (sort : ℕ) (ls : List ℕ) (from count left k : ℕ) → k ≡ left + 1 → k ≤ count → list_parts sort ls (from + left) (count - left) ≡ link_parts sort ls (from + left) ++ list_parts sort ls (from + k) (count - k)
unfolding list_parts
list_more sort ls from count left k e h = let z : count - left ≡ suc (count - k) = omega arith in let y : suc (from + left) ≡ from + k = omega arith in rw (z, sym y) refl

pub list_all : (sort : ℕ) (ls : List ℕ) (from count left : ℕ) → left ≡ 0 → list_parts sort ls (from + left) (count - left) ≡ list_parts sort ls from count
list_all sort ls from count left e = let z : count - left ≡ count = omega arith in let y : from + left ≡ from = omega arith in rw (z, y) refl

-- what is left of a list asks no more than all of it
pub list_rest : (sort : ℕ) (ls : List ℕ) (from n : ℕ) (m k : ℕ) → n ≡ m + k → length (present (list_parts sort ls from n)) ≡ length (present (list_parts sort ls from m)) + length (present (list_parts sort ls (from + m) k))
unfolding list_parts present
list_rest sort ls from n zero k e = let z : n ≡ k = omega arith in let y : from + 0 ≡ from = omega arith in rw (z, y) (omega arith)
list_rest sort ls from zero (suc m) k e = absurd (omega arith)
list_rest sort ls from (suc n) (suc m) k e =
    let y : suc from + m ≡ from + suc m = omega arith in
    let h = list_rest sort ls (suc from) n m k (omega arith) in
    omega (arith, present_both (link_parts sort ls from) (list_parts sort ls (suc from) n), present_both (link_parts sort ls from) (list_parts sort ls (suc from) m), rw y at h)

pub next_at : (ns : List ℕ) (i j : ℕ) → at ns i (j + 1) ≡ get_or ns (node_width * i + j + 1) 0
next_at ns i j = let z : node_width * i + (j + 1) ≡ node_width * i + j + 1 = omega arith in rw z refl

-- what a number of a row holds, by its role
module _ (ns ls : List ℕ) (i j : ℕ) {r : ℕ} where
  pub child_number : r ≡ 1 → number_parts ns ls i j r ≡ row (at ns i j) ∷ []
  unfolding number_parts
  child_number e = rw e refl

  pub string_number : r ≡ 2 → number_parts ns ls i j r ≡ word (string_at ns i j) ∷ []
  unfolding number_parts
  string_number e = rw e refl

  pub name_number : r ≡ 3 → number_parts ns ls i j r ≡ word (name_at ns i j) ∷ []
  unfolding number_parts
  name_number e = rw e refl

  pub list_number : 4 ≤ r → number_parts ns ls i j r ≡ list_parts r ls (at ns i j) (get_or ns (node_width * i + j + 1) 0)
  unfolding number_parts
  list_number h = rw (ne_eqb r 1 (λ e. omega arith), ne_eqb r 2 (λ e. omega arith), ne_eqb r 3 (λ e. omega arith), le-leb 4 r h, next_at ns i j) refl

  pub plain_number : r ≡ 0 → number_parts ns ls i j r ≡ []
  unfolding number_parts
  plain_number e = rw e refl

  -- and the room that it asks
  pub child_room : r ≡ 1 → length (present (number_parts ns ls i j r)) ≡ length (present (row (at ns i j) ∷ []))
  child_room e = ap (λ ps. length (present ps)) (child_number e)

  pub string_room : r ≡ 2 → length (present (number_parts ns ls i j r)) ≡ 1
  string_room e = ap (λ ps. length (present ps)) (string_number e) ∙ word_one (string_at ns i j)

  pub name_number_room : r ≡ 3 → length (present (number_parts ns ls i j r)) ≡ 1
  name_number_room e = ap (λ ps. length (present ps)) (name_number e) ∙ word_one (name_at ns i j)

  pub list_number_room : 4 ≤ r → length (present (number_parts ns ls i j r)) ≡ length (present (list_parts r ls (at ns i j) (get_or ns (node_width * i + j + 1) 0)))
  list_number_room h = ap (λ ps. length (present ps)) (list_number h)

-- the numbers of a row from number j on: none, one more, and what they ask of all
pub none_after : (ns ls : List ℕ) (i j : ℕ) → numbers_parts ns ls i j 0 ≡ []
unfolding numbers_parts
none_after ns ls i j = refl

pub number_more : (ns ls : List ℕ) (i j k : ℕ) → k ≡ j + 1 → k ≤ 9 → numbers_parts ns ls i j (9 - j) ≡ number_parts ns ls i j (role_at ns i j) ++ numbers_parts ns ls i k (9 - k)
unfolding numbers_parts
number_more ns ls i j k e h = let z : 9 - j ≡ suc (9 - k) = omega arith in let y : k ≡ suc j = omega arith in rw (z, y) refl

pub numbers_ask : (ns ls : List ℕ) (i j n m : ℕ) → length (present (numbers_parts ns ls i j (n + m))) ≡ length (present (numbers_parts ns ls i j n)) + length (present (numbers_parts ns ls i (j + n) m))
unfolding numbers_parts present
numbers_ask ns ls i j zero m = let z : 0 + m ≡ m = omega arith in rw (z, add_zero j) (omega arith)
numbers_ask ns ls i j (suc n) m =
    let z : suc n + m ≡ suc (n + m) = omega arith in
    let y : suc j + n ≡ j + suc n = omega arith in
    let p = number_parts ns ls i j (role_at ns i j) in
    rw z (omega (arith, present_both p (numbers_parts ns ls i (suc j) (n + m)), present_both p (numbers_parts ns ls i (suc j) n), rw y at (numbers_ask ns ls i (suc j) n m)))
