-- What the pass has done after some rows, and that at its end each row has its parent.
use Prim.Native.Nat.{ℕ, zero, suc, ◌+◌, ◌-◌, ◌*◌, ◌/◌, ◌%◌, ◌≤◌, ◌<◌}
use native.Mathlib.Decide.{dec_lt}
use native.Mathlib.Nat.{mul-div_cancel_left}
use native.Mathlib.Omega.{arith}
use mathlib.Core.Bool.{cond}
use mathlib.Core.List.{List, ◌++◌}
use mathlib.Core.Path.{◌≡◌, refl, sym, ap, ◌∙◌}
use lib.Dec.{eqb}
use lib.ListN.{length, get_or, drop, length-append, length-take, length-drop, length-set, get_or-append}
use lib.Seq.{get_or-set_same, get_or-set_other, get_or-take, get_or-drop, get_or-append-add, ext_get_or, length-take-le}
use Rattle.grammar.specs.Handle.{absent}
use Rattle.grammar.specs.Naming.{height, named_by, named_below, times}
use Rattle.grammar.specs.Parent.{parent, own, parented}
use Rattle.grammar.specs.Room.{node_width, own_width}
use Rattle.grammar.specs.Rows.{Rows}
use Rattle.grammar.proofs.Forest.{times_append}
use Rattle.grammar.proofs.Parents.{rising_below, no_parent, named_own, own_at, parented_length, parented_own, parented_tenth}
use Rattle.parents.specs.Adopted.{rows, claims, orphaned, first, Adoptable, Adopted}
use Rattle.parents.proofs.Laws.{claims_length, claims_apart, claims_tenth}

-- the tenth number of row j
abbrev tenth_at : (j : ℕ) → ℕ
tenth_at j = node_width * j + own_width

-- the first n rows have their parents among them, and all other numbers are as they were
pub record Adopting (count : ℕ) (ls before : List ℕ) (n : ℕ) (ns : List ℕ) : Type 0 where
  pub size : length ns ≡ length before
  pub own : (i k : ℕ) → k < own_width → get_or ns (node_width * i + k) 0 ≡ get_or before (node_width * i + k) 0
  pub put : (j : ℕ) → j < n → get_or ns (tenth_at j) 0 ≡ parent (first count ls before) n j
  pub later : (j : ℕ) → n ≤ j → get_or ns (tenth_at j) 0 ≡ get_or before (tenth_at j) 0

pub begun : (count : ℕ) (ls before : List ℕ) → Adopting count ls before 0 before
begun count ls before = record { size = refl; own = λ i k h. refl; put = λ j h. absurd (omega arith); later = λ j h. refl }

module _ {count : ℕ} {ls before : List ℕ} (s : Adoptable count ls before) (few : count ≤ absent) where
  -- the rows that were there at the start
  abbrev w : Rows
  w = first count ls before

  tall : height w ≡ count
  tall = rw (length-take-le (node_width * count) before s.room) (mul-div_cancel_left count (omega arith))

  -- no row up to row n names it
  none_by : (n m : ℕ) → n < count → m ≤ n → times n (named_by w m) ≡ 0
  none_by n m h l = elim (dec_lt 0 (times n (named_by w m))) [ yes t ↦ absurd (omega (arith, rising_below (s.rising m (omega arith)) (omega arith) t)) | no t ↦ omega arith ]

  none_below : (n m : ℕ) → n < count → m ≤ n → times n (named_below w m) ≡ 0
  unfolding named_below
  none_below n zero h l = refl
  none_below n (suc m) h l = omega (arith, none_below n m h (omega arith), times_append n (named_below w m) (named_by w m), none_by n m h (omega arith))

  module _ {n : ℕ} {ns : List ℕ} (h : n < count) (a : Adopting count ls before n ns) where
    pub room : node_width * n + node_width ≤ length ns
    room = omega (arith, a.size, s.room)

    -- row n without a parent, and with its own numbers as they were
    abbrev lone : List ℕ
    lone = orphaned n ns

    lone_size : length lone ≡ length ns
    lone_size = length-set ns (tenth_at n) absent

    lone_at : (p : ℕ) → (p ≡ tenth_at n → ⊥) → get_or lone p 0 ≡ get_or ns p 0
    lone_at p f = get_or-set_other ns (tenth_at n) p absent 0 f

    same_own : own (rows lone ls) n ≡ own w n
    same_own = ext_get_or 0 (own (rows lone ls) n) (own w n) (lengths ∙ sym other) each
      where
        lengths : length (own (rows lone ls) n) ≡ own_width
        lengths = simp (length-take, length-drop) (omega (arith, lone_size, room))

        other : length (own w n) ≡ own_width
        other = simp (length-take, length-drop) (omega (arith, s.room))

        each : (k : ℕ) → k < length (own (rows lone ls) n) → get_or (own (rows lone ls) n) k 0 ≡ get_or (own w n) k 0
        each k l =
            let m : k < own_width = rw lengths at l in
            get_or-take own_width (drop (node_width * n) lone) k 0 m ∙ get_or-drop (node_width * n) lone k 0 ∙ lone_at (node_width * n + k) (λ q. omega arith) ∙ a.own n k m ∙
            sym (get_or-take own_width (drop (node_width * n) w.nodes) k 0 m ∙ get_or-drop (node_width * n) w.nodes k 0 ∙ get_or-take (node_width * count) before (node_width * n + k) 0 (omega arith))

    -- one row more
    pub next : {ks : List ℕ} → ks ≡ claims n (named_by (rows lone ls) n) lone → Adopting count ls before (n + 1) ks
    unfolding parent
    next {ks} f = let z : n + 1 ≡ suc n = omega arith in rw z (record { size = size; own = keeps; put = put; later = later })
      where
        e : ks ≡ claims n (named_by w n) lone
        e = f ∙ ap (λ (xs : List ℕ). claims n xs lone) (named_own (rows lone ls) w n same_own refl)

        size : length ks ≡ length before
        size = ap length e ∙ claims_length n (named_by w n) lone ∙ lone_size ∙ a.size

        -- a number that is no earlier row's tenth
        stays : (p : ℕ) → ((x : ℕ) → x < n → p ≡ tenth_at x → ⊥) → get_or ks p 0 ≡ get_or lone p 0
        stays p g = ap (λ (xs : List ℕ). get_or xs p 0) e ∙ claims_apart n (named_by w n) lone (record { no = g })

        keeps : (i k : ℕ) → k < own_width → get_or ks (node_width * i + k) 0 ≡ get_or before (node_width * i + k) 0
        keeps i k l = stays (node_width * i + k) (λ x m q. omega arith) ∙ lone_at (node_width * i + k) (λ q. omega arith) ∙ a.own i k l

        later : (j : ℕ) → suc n ≤ j → get_or ks (tenth_at j) 0 ≡ get_or before (tenth_at j) 0
        later j l = stays (tenth_at j) (λ x m q. omega arith) ∙ lone_at (tenth_at j) (λ q. omega arith) ∙ a.later j (omega arith)

        earlier : (j : ℕ) → j < n → get_or ks (tenth_at j) 0 ≡ cond (eqb (times j (named_by w n)) 0) (parent w n j) n
        earlier j l = ap (λ (xs : List ℕ). get_or xs (tenth_at j) 0) e ∙ claims_tenth n j l (named_by w n) lone (omega (arith, lone_size, room)) ∙ ap (λ (x : ℕ). cond (eqb (times j (named_by w n)) 0) x n) (lone_at (tenth_at j) (λ q. omega arith) ∙ a.put j l)

        self : get_or ks (tenth_at n) 0 ≡ cond (eqb (times n (named_by w n)) 0) (parent w n n) n
        self = stays (tenth_at n) (λ x m q. omega arith) ∙ get_or-set_same ns (tenth_at n) absent 0 (omega (arith, room)) ∙ sym (rw (none_by n n h (omega arith)) (no_parent w n n (none_below n n h (omega arith))))

        put : (j : ℕ) → j < suc n → get_or ks (tenth_at j) 0 ≡ cond (eqb (times j (named_by w n)) 0) (parent w n j) n
        put j l = elim (dec_lt j n) [ yes m ↦ earlier j m | no m ↦ let q : j ≡ n = omega arith in rw q self ]

  -- at the end
  pub done : {n : ℕ} {ks : List ℕ} → n ≡ count → Adopting count ls before n ks → Adopted count ls before ks
  done {n} {ks} all b = record { room = ext_get_or 0 ks ((parented w).nodes ++ drop (node_width * count) before) (a.size ∙ sym lengths) each }
    where
      a : Adopting count ls before count ks
      a = rw all at b

      whole : node_width * height w ≡ length w.nodes
      whole = rw (tall, length-take-le (node_width * count) before s.room) refl

      front : length (parented w).nodes ≡ node_width * count
      front = parented_length w whole ∙ length-take-le (node_width * count) before s.room

      lengths : length ((parented w).nodes ++ drop (node_width * count) before) ≡ length before
      lengths = simp (length-append, length-drop) (omega (arith, front, s.room))

      inside : (i k : ℕ) → i < count → k < node_width → get_or ks (node_width * i + k) 0 ≡ get_or (parented w).nodes (node_width * i + k) 0
      inside i k l m = elim (dec_lt k own_width) [
        | yes n ↦ a.own i k n ∙ sym (own_at (parented w) w i (parented_own w whole i (rw tall l)) k n ∙ get_or-take (node_width * count) before (node_width * i + k) 0 (omega arith))
        | no n ↦ let q : k ≡ own_width = omega arith in rw q (a.put i l ∙ sym (parented_tenth w whole i (rw tall l) ∙ ap (λ (n : ℕ). parent w n i) tall))
      ]

      outside : (i k : ℕ) → count ≤ i → k < node_width → get_or ks (node_width * i + k) 0 ≡ get_or before (node_width * i + k) 0
      outside i k l m = elim (dec_lt k own_width) [ yes n ↦ a.own i k n | no n ↦ let q : k ≡ own_width = omega arith in rw q (a.later i l) ]

      each : (p : ℕ) → p < length ks → get_or ks p 0 ≡ get_or ((parented w).nodes ++ drop (node_width * count) before) p 0
      each p l =
          let q : node_width * (p / node_width) + p % node_width ≡ p = omega arith in
          elim (dec_lt p (node_width * count)) [
            | yes m ↦ (rw q at (inside (p / node_width) (p % node_width) (omega arith) (omega arith))) ∙ sym (get_or-append (parented w).nodes (drop (node_width * count) before) 0 p (rw front m))
            | no m ↦ (let r : length (parented w).nodes + (p - node_width * count) ≡ p = omega (arith, front) in
                let t : node_width * count + (p - node_width * count) ≡ p = omega arith in
                (rw q at (outside (p / node_width) (p % node_width) (omega arith) (omega arith))) ∙ sym ((rw r at (get_or-append-add (parented w).nodes (drop (node_width * count) before) (p - node_width * count) 0)) ∙ get_or-drop (node_width * count) before (p - node_width * count) 0 ∙ ap (λ (n : ℕ). get_or before n 0) t))
          ]
