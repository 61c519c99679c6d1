-- Inputs. What an input holds has the form that the code measures, so an input that has no such form is bad; and an input of that form, with its tokens
-- written into a list, holds them. An input holds one text and one list at most: its bytes say every number of both. So two answers of `scan` are equal, and so
-- are two lists that `fill` leaves.
use Prim.Native.Nat.{ℕ, zero, suc, ◌+◌, ◌-◌, ◌*◌, ◌/◌, ◌%◌, ◌≤◌, ◌<◌}
use native.Mathlib.Decide.{ℕ_discrete}
use native.Mathlib.Numerals.{add-one}
use native.Mathlib.Omega.{arith}
use mathlib.Core.List.{List}
use mathlib.Core.Path.{◌≡◌, refl, sym, ap, ◌∙◌}
use lib.ListN.{length, get_or, take, drop, set, replicate, length-drop, length-set, length-replicate, take-append-drop}
use lib.Seq.{length-take-le, get_or-take, get_or-set_same, get_or-set_other, drop-set-lt, drop-drop, ext_get_or}
use mathlib.Core.Bool.{false}
use lib.Dec.{eqb}
use borrow.Author.Tests.{eq-eqb, ne_eqb}
use Rattle.spelling.specs.Decides.{Decides}
use Rattle.spelling.proofs.Deciding.{holds, fails}
use Rattle.grammar.specs.Token.{count, kind, start, end, lexeme}
use Rattle.wire.specs.Input.{Marked, TokenRecord, InputHolds, Broken, head_size, token_size}
use Rattle.wire.specs.Number.{number}
use Rattle.wire.specs.Scanned.{Marks, Sizes, FormCase, Scanned, TokensFilled}
use Rattle.wire.specs.declared.input.Script.{Script}
use Rattle.wire.specs.declared.input.Script.TheVariants.{Bad, Sized}

-- the form that the code measures: the records of a text of this size and of n tokens, by their marks and lengths, and no more
pub record InputSized (input : List ℕ) (size n : ℕ) : Type 0 where
  pub marked : Marked input 0 0x53
  pub size_is : number input 2 ≡ size
  pub most_bytes : size ≤ 8192
  pub most_tokens : n ≤ 512
  pub ends : length input ≡ head_size + size + token_size * n
  pub marks : Marks input (head_size + size) n

held_measured : {input text ts : List ℕ} → InputHolds input text ts → InputSized input (length text) (count ts)
held_measured h = record { marked = h.marked; size_is = h.size; most_bytes = h.most_bytes; most_tokens = h.most_tokens; ends = h.ends; marks = record { marked = λ i l. (h.tokens_are i l).marked } }

pub measured : {input : List ℕ} {size n : ℕ} → Sizes input size n → InputSized input size n
measured s = rw (s.size_is, s.count_is) at (held_measured s.holds)

-- a mark, by its two bytes
pub second_decides : {input : List ℕ} {at second : ℕ} → get_or input at 0 ≡ 0x4B → Decides (Marked input at second) (eqb (get_or input (at + 1) 0) second)
second_decides {input} {at} {second} e = elim (ℕ_discrete (get_or input (at + 1) 0) second) [
  | yes h ↦ rw (eq-eqb _ _ h) (holds (record { first = e; next = h }))
  | no n ↦ rw (ne_eqb _ _ n) (fails (λ m. n m.next))
]

pub other_first : {input : List ℕ} {at second : ℕ} → (get_or input at 0 ≡ 0x4B → ⊥) → Decides (Marked input at second) false
other_first n = fails (λ m. n m.first)

-- the marks of one record more
pub marks_none : (input : List ℕ) (at : ℕ) → Marks input at 0
marks_none input at = record { marked = λ i h. absurd (omega arith) }

pub marks_more : {input : List ℕ} {at i : ℕ} → Marks input at i → Marked input (at + token_size * i) 0x54 → Marks input at (i + 1)
marks_more {input} {at} {i} m k = record { marked = λ j h. elim (ℕ_discrete j i) [ yes e ↦ rw e k | no e ↦ m.marked j (omega arith) ] }

-- the tokens of one record more
pub filled_none : (input : List ℕ) (at : ℕ) (list : List ℕ) → TokensFilled input at 0 list list
filled_none input at list = record { size = refl; tokens = λ i h. absurd (omega arith); rest = refl }

-- the text of an input of a form has its size
text_size : {input : List ℕ} {size n : ℕ} → InputSized input size n → length (lexeme input head_size (head_size + size)) ≡ size
text_size {input} {size} m = let e : head_size + size - head_size ≡ size = omega arith in rw e (length-take-le size (drop head_size input) (rw (length-drop head_size input) (omega (arith, m.ends))))

-- three numbers that are written as token i, after the first two
abbrev with_start : List ℕ → (i k s : ℕ) → List ℕ
with_start list i k s = set (set list (3 * i) k) (3 * i + 1) s

abbrev pub with_token : List ℕ → (i k s e : ℕ) → List ℕ
with_token list i k s e = set (with_start list i k s) (3 * i + 2) e

module _ (list : List ℕ) (i k s e : ℕ) where
  before_token : (p : ℕ) → p < 3 * i → get_or (with_token list i k s e) p 0 ≡ get_or list p 0
  before_token p h =
      get_or-set_other (with_start list i k s) (3 * i + 2) p e 0 (λ x. omega arith)
      ∙ get_or-set_other (set list (3 * i) k) (3 * i + 1) p s 0 (λ x. omega arith)
      ∙ get_or-set_other list (3 * i) p k 0 (λ x. omega arith)

  after_token : drop (3 * (i + 1)) (with_token list i k s e) ≡ drop (3 * (i + 1)) list
  after_token =
      drop-set-lt (3 * (i + 1)) (with_start list i k s) (3 * i + 2) e (omega arith)
      ∙ drop-set-lt (3 * (i + 1)) (set list (3 * i) k) (3 * i + 1) s (omega arith)
      ∙ drop-set-lt (3 * (i + 1)) list (3 * i) k (omega arith)

pub filled_more : {input before list : List ℕ} {at i k s e : ℕ} → TokensFilled input at i before list → 3 * i + 2 < length list → Marked input (at + token_size * i) 0x54 → k ≡ get_or input (at + token_size * i + 2) 0 → s ≡ number input (at + token_size * i + 3) → e ≡ number input (at + token_size * i + 7) → TokensFilled input at (i + 1) before (with_token list i k s e)
filled_more {input} {before} {list} {at} {i} {k} {s} {e} f h m u v w =
    record {
      size = simp length-set f.size;
      tokens = λ j l. elim (ℕ_discrete j i) [ yes q ↦ rw q this | no q ↦ that j (omega arith) (f.tokens j (omega arith)) ];
      rest = after_token list i k s e ∙ rest f.rest;
    }
  where
    this : TokenRecord input (with_token list i k s e) (at + token_size * i) i
    this =
        record {
          marked = m;
          kind_is = get_or-set_other (with_start list i k s) (3 * i + 2) (3 * i) e 0 (λ x. omega arith) ∙ get_or-set_other (set list (3 * i) k) (3 * i + 1) (3 * i) s 0 (λ x. omega arith) ∙ get_or-set_same list (3 * i) k 0 (omega arith) ∙ u;
          start_is = get_or-set_other (with_start list i k s) (3 * i + 2) (3 * i + 1) e 0 (λ x. omega arith) ∙ get_or-set_same (set list (3 * i) k) (3 * i + 1) s 0 (simp length-set (omega arith)) ∙ v;
          end_is = get_or-set_same (with_start list i k s) (3 * i + 2) e 0 (simp length-set (omega arith)) ∙ w;
        }

    that : (j : ℕ) → j < i → TokenRecord input list (at + token_size * j) j → TokenRecord input (with_token list i k s e) (at + token_size * j) j
    that j l r =
        record {
          marked = r.marked;
          kind_is = before_token list i k s e (3 * j) (omega arith) ∙ r.kind_is;
          start_is = before_token list i k s e (3 * j + 1) (omega arith) ∙ r.start_is;
          end_is = before_token list i k s e (3 * j + 2) (omega arith) ∙ r.end_is;
        }

    rest : drop (3 * i) list ≡ drop (3 * i) before → drop (3 * (i + 1)) list ≡ drop (3 * (i + 1)) before
    rest q = let z : 3 * (i + 1) ≡ 3 * i + 3 = omega arith in rw z (sym (drop-drop 3 (3 * i) list) ∙ ap (drop 3) q ∙ drop-drop 3 (3 * i) before)

-- a token of a list is one of its first 3 n numbers
first_tokens : {input list : List ℕ} {at n i : ℕ} → i < n → TokenRecord input list at i → TokenRecord input (take (3 * n) list) at i
first_tokens {list = list} {n = n} {i = i} k r =
    record {
      marked = r.marked;
      kind_is = get_or-take (3 * n) list (3 * i) 0 (omega arith) ∙ r.kind_is;
      start_is = get_or-take (3 * n) list (3 * i + 1) 0 (omega arith) ∙ r.start_is;
      end_is = get_or-take (3 * n) list (3 * i + 2) 0 (omega arith) ∙ r.end_is;
    }

-- an input of a form, with its tokens written into a list
pub holding : {input before after : List ℕ} {size n : ℕ} → InputSized input size n → TokensFilled input (head_size + size) n before after → 3 * n ≤ length after → InputHolds input (lexeme input head_size (head_size + size)) (take (3 * n) after)
holding {input} {before} {after} {size} {n} m f h =
    let l : length (lexeme input head_size (head_size + size)) ≡ size = text_size m in
    let w : length (take (3 * n) after) ≡ 3 * n = length-take-le (3 * n) after h in
    record {
      marked = m.marked;
      size = m.size_is ∙ sym l;
      text_is = rw l;
      most_bytes = omega (arith, l, m.most_bytes);
      whole = omega arith;
      most_tokens = omega (arith, m.most_tokens);
      ends = omega (arith, m.ends);
      tokens_are = λ i k. rw l (first_tokens {n = n} (omega arith) (f.tokens i (omega arith)));
    }

-- the first i of the n tokens whose records stand from a place on, in a list of 3 n numbers
record Partly (input : List ℕ) (at n i : ℕ) : Type 0 where
  list : List ℕ
  size : length list ≡ 3 * n
  filled : TokensFilled input at i (replicate (3 * n) 0) list

partly : {input : List ℕ} {at n : ℕ} → Marks input at n → (i : ℕ) → i ≤ n → Partly input at n i
partly {input} {at} {n} m zero h = record { list = replicate (3 * n) 0; size = length-replicate (3 * n) 0; filled = filled_none input at (replicate (3 * n) 0) }
partly {input} {at} {n} m (suc i) h =
    let p = partly m i (omega arith) in
    let q = filled_more p.filled (omega (arith, p.size)) (m.marked i (omega arith)) refl refl refl in
    record { list = _; size = q.size ∙ length-replicate (3 * n) 0; filled = rw (add-one i) at q }

-- an input that has the form holds what it says, and one that has no form is bad
pub bad : {input : List ℕ} → ((size n : ℕ) → InputSized input size n → ⊥) → Scanned input Bad
unfolding FormCase
bad {input} f = record { says = record { holds_none = λ text ts h. f (length text) (count ts) (held_measured h) } }

pub sized : {input : List ℕ} {size n : ℕ} → InputSized input size n → Scanned input (Sized size n)
unfolding FormCase
sized {n = n} m =
    let p = partly m.marks n (omega arith) in
    let l : length (take (3 * n) p.list) ≡ 3 * n = length-take-le (3 * n) p.list (omega (arith, p.size)) in
    record { says = record { text = _; tokens = take (3 * n) p.list; holds = holding m p.filled (omega (arith, p.size)); size_is = text_size m; count_is = omega arith } }

-- what the form of an input says of it
pub scanned_bad : {input : List ℕ} {r : Script} → r ≡ Bad → Scanned input r → Broken input
unfolding FormCase
scanned_bad {input} e s = (rw e at s).says

pub scanned_sized : {input : List ℕ} {r : Script} {size n : ℕ} → r ≡ Sized size n → Scanned input r → Sizes input size n
unfolding FormCase
scanned_sized e s = (rw e at s).says

-- two lists of n tokens that are the same token by token
by_threes : (n : ℕ) (ts us : List ℕ) → length ts ≡ 3 * n → length us ≡ 3 * n → ((i : ℕ) → i < n → (kind ts i ≡ kind us i) × (start ts i ≡ start us i) × (end ts i ≡ end us i)) → ts ≡ us
by_threes n ts us h k f = ext_get_or 0 ts us (h ∙ sym k) (λ p l. at_place p (omega arith))
  where
    moved : (p q : ℕ) → p ≡ q → get_or ts q 0 ≡ get_or us q 0 → get_or ts p 0 ≡ get_or us p 0
    moved p q e x = rw e x

    at_place : (p : ℕ) → p < 3 * n → get_or ts p 0 ≡ get_or us p 0
    at_place p l =
        let (x, y, z) = f (p / 3) (omega arith) in
        elim (ℕ_discrete (p % 3) 0) [
          | yes e ↦ moved p (3 * (p / 3)) (omega arith) x
          | no d ↦ elim (ℕ_discrete (p % 3) 1) [ yes e ↦ moved p (3 * (p / 3) + 1) (omega arith) y | no g ↦ moved p (3 * (p / 3) + 2) (omega arith) z ]
        ]

same_token : {input ts us : List ℕ} {at i : ℕ} → TokenRecord input ts at i → TokenRecord input us at i → (kind ts i ≡ kind us i) × (start ts i ≡ start us i) × (end ts i ≡ end us i)
same_token x y = (x.kind_is ∙ sym y.kind_is, x.start_is ∙ sym y.start_is, x.end_is ∙ sym y.end_is)

-- every number of a list that was written is settled
pub one_fill : {input before after other : List ℕ} {at n : ℕ} → 3 * n ≤ length before → TokensFilled input at n before after → TokensFilled input at n before other → after ≡ other
one_fill {after = after} {other = other} {n = n} h p q = sym (take-append-drop (3 * n) after) ∙ rw (firsts, p.rest ∙ sym q.rest) (take-append-drop (3 * n) other)
  where
    firsts : take (3 * n) after ≡ take (3 * n) other
    firsts = by_threes n (take (3 * n) after) (take (3 * n) other) (length-take-le (3 * n) after (omega (arith, p.size))) (length-take-le (3 * n) other (omega (arith, q.size))) (λ i l. same_token (first_tokens l (p.tokens i l)) (first_tokens l (q.tokens i l)))

pub record Same (text other ts us : List ℕ) : Type 0 where
  pub texts : text ≡ other
  pub lists : ts ≡ us

-- an input holds one text and one list at most
pub one_script : {input text other ts us : List ℕ} → InputHolds input text ts → InputHolds input other us → Same text other ts us
one_script {input} {text} {other} {ts} {us} h k =
    let e : length text ≡ length other = sym h.size ∙ k.size in
    let n : count ts ≡ count us = omega (arith, h.ends, k.ends) in
    record {
      texts = sym h.text_is ∙ rw e k.text_is;
      lists = by_threes (count ts) ts us h.whole (omega (arith, k.whole)) (λ i l. same_token (h.tokens_are i l) (rw (← e) at (k.tokens_are i (omega arith))));
    }

-- the form of an input is settled
pub one_scan : {input : List ℕ} {r s : Script} → Scanned input r → Scanned input s → r ≡ s
unfolding FormCase
one_scan {r = Bad} {s = Bad} x y = refl
one_scan {r = Bad} {s = Sized b m} x y = absurd (x.says.holds_none _ _ y.says.holds)
one_scan {r = Sized a n} {s = Bad} x y = absurd (y.says.holds_none _ _ x.says.holds)
one_scan {r = Sized a n} {s = Sized b m} x y =
    let z = one_script x.says.holds y.says.holds in
    let e : a ≡ b = sym x.says.size_is ∙ ap length z.texts ∙ y.says.size_is in
    let f : n ≡ m = sym x.says.count_is ∙ ap count z.lists ∙ y.says.count_is in
    rw (e, f)
