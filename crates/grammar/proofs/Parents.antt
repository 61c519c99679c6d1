-- A row with its parent put in names what it named, so rows that are one tree stay so; and what was put in is the one later row that names it.
use Prim.Native.Nat.{ℕ, zero, suc, ◌+◌, ◌-◌, ◌*◌, ◌/◌, ◌≤◌, ◌<◌}
use native.Mathlib.Decide.{dec_lt}
use native.Mathlib.Omega.{arith}
use mathlib.Core.Bool.{Bool, true, false, cond, ◌&&◌}
use mathlib.Core.List.{List, [], ◌∷◌, ◌++◌, append_assoc}
use mathlib.Core.Path.{◌≡◌, refl, sym, ap, ◌∙◌}
use lib.Dec.{T, leb, eqb, leb→le}
use borrow.Author.Tests.{eqb-true, eqb-false, ne_eqb}
use lib.ListN.{length, get_or, take, drop, replicate, length-replicate, length-append, length-take, length-drop}
use lib.Seq.{drop-append-le, drop_at, get_or-take, get_or-drop, take_at, get_or_at}
use Rattle.grammar.specs.Edition.{Edition}
use Rattle.grammar.specs.Handle.{absent}
use Rattle.grammar.specs.Layout.{Slot, below, child, option, symbol, name, nodes, names, entries, layouts, layout}
use Rattle.grammar.specs.Naming.{naming, height, named_by, named_below, times, Rising, OneTree}
use Rattle.grammar.specs.Parent.{parent, own, tenth, parented_below, parented, ParentOf, Parents}
use Rattle.grammar.specs.Room.{node_width, own_width}
use Rattle.grammar.specs.Rows.{Rows, lined, padded}
use Rattle.grammar.proofs.Growth.{padded_length}
use Rattle.grammar.proofs.Forest.{times_append}
use Rattle.grammar.proofs.Tests.{both}

-- a row that names j is a later one, where names rise
pub rising_below : {high low j : ℕ} {xs : List ℕ} → Rising high low xs → j < absent → 0 < times j xs → j < high
rising_below Rising.done h t = absurd (omega arith)
rising_below {j = j} (Rising.skip r) h t = rising_below r h (omega (arith, simp (ne_eqb j absent (λ e. omega arith)) at t))
rising_below {high = high} {j = j} (Rising.next {x = x} {xs = xs} l i r) h t = pick (eqb j x) refl t (rising_below r h)
  where
    pick : (b : Bool) → eqb j x ≡ b → 0 < cond b 1 0 + times j xs → (0 < times j xs → j < high) → j < high
    pick true e k f = omega (arith, eqb-true j x e)
    pick false e k f = f (omega arith)

-- a row that none of the first n rows names has no parent among them, and one that is named once has the row that names it
module _ (w : Rows) (j : ℕ) where
  unnamed : (n : ℕ) → times j (named_below w n) ≡ 0 → (i : ℕ) → i < n → times j (named_by w i) ≡ 0
  unfolding named_below
  unnamed zero e i h = absurd (omega arith)
  unnamed (suc n) e i h = elim (dec_lt i n) [ yes k ↦ unnamed n (omega (arith, times_append j (named_below w n) (named_by w n))) i k | no k ↦ let d : i ≡ n = omega arith in rw d (omega (arith, times_append j (named_below w n) (named_by w n))) ]

  pub no_parent : (n : ℕ) → times j (named_below w n) ≡ 0 → parent w n j ≡ absent
  unfolding named_below parent
  no_parent zero e = refl
  no_parent (suc n) e = let k = times_append j (named_below w n) (named_by w n) in let z : times j (named_by w n) ≡ 0 = omega arith in rw z (no_parent n (omega arith))

  pub record Found (n p : ℕ) : Type 0 where
    pub row : p < n
    pub names : times j (named_by w p) ≡ 1
    pub only : (i : ℕ) → i < n → 0 < times j (named_by w i) → i ≡ p

  pub found : (n : ℕ) → times j (named_below w n) ≡ 1 → Found n (parent w n j)
  unfolding named_below parent
  found zero e = absurd (omega arith)
  found (suc n) e = pick (eqb (times j (named_by w n)) 0) refl (found n)
    where
      sum : times j (named_below w n) + times j (named_by w n) ≡ 1
      sum = omega (arith, times_append j (named_below w n) (named_by w n))

      earlier : times j (named_by w n) ≡ 0 → Found n (parent w n j) → Found (suc n) (parent w n j)
      earlier z f = record { row = omega (arith, f.row); names = f.names; only = λ i h t. elim (dec_lt i n) [ yes k ↦ f.only i k t | no k ↦ let d : i ≡ n = omega arith in absurd (omega (arith, rw d at t)) ] }

      pick : (b : Bool) → eqb (times j (named_by w n)) 0 ≡ b → (times j (named_below w n) ≡ 1 → Found n (parent w n j)) → Found (suc n) (cond b (parent w n j) n)
      pick true z f = let y = eqb-true (times j (named_by w n)) 0 z in earlier y (f (omega (arith, sum)))
      pick false z f = let y = eqb-false (times j (named_by w n)) 0 z in
          record { row = omega arith; names = omega (arith, sum); only = λ i h t. elim (dec_lt i n) [ yes k ↦ absurd (omega (arith, unnamed n (omega (arith, sum)) i k)) | no k ↦ omega arith ] }

-- a row's names are read off its own nine numbers: no layout is wider

-- how many numbers slots take
abbrev width : List Slot → ℕ
width [] = 0
width (below n ∷ ss) = 1 + width ss
width (child ∷ ss) = 1 + width ss
width (option ∷ ss) = 1 + width ss
width (symbol ∷ ss) = 1 + width ss
width (name ∷ ss) = 3 + width ss
width (nodes ∷ ss) = 2 + width ss
width (names ∷ ss) = 2 + width ss
width (entries ∷ ss) = 2 + width ss

-- the first n numbers are the same
pub record SameFirst (n : ℕ) (xs ys : List ℕ) : Type 0 where
  pub at : (k : ℕ) → k < n → get_or xs k 0 ≡ get_or ys k 0

past : (m : ℕ) {n : ℕ} {xs ys : List ℕ} → SameFirst (m + n) xs ys → SameFirst n (drop m xs) (drop m ys)
past m {n} {xs} {ys} a = record { at = λ k h. get_or-drop m xs k 0 ∙ a.at (m + k) (omega arith) ∙ sym (get_or-drop m ys k 0) }

naming_alike : (ls : List ℕ) (ss : List Slot) {xs ys : List ℕ} → SameFirst (width ss) xs ys → naming ls ss xs ≡ naming ls ss ys
unfolding naming
naming_alike ls [] a = refl
naming_alike ls (below n ∷ ss) a = naming_alike ls ss (past 1 a)
naming_alike ls (child ∷ ss) a = rw (a.at 0 (omega arith), naming_alike ls ss (past 1 a))
naming_alike ls (option ∷ ss) a = rw (a.at 0 (omega arith), naming_alike ls ss (past 1 a))
naming_alike ls (symbol ∷ ss) a = naming_alike ls ss (past 1 a)
naming_alike ls (name ∷ ss) a = naming_alike ls ss (past 3 a)
naming_alike ls (nodes ∷ ss) a = rw (a.at 0 (omega arith), a.at 1 (omega arith), naming_alike ls ss (past 2 a))
naming_alike ls (names ∷ ss) a = naming_alike ls ss (past 2 a)
naming_alike ls (entries ∷ ss) a = rw (a.at 0 (omega arith), a.at 1 (omega arith), naming_alike ls ss (past 2 a))

all_narrow : List (List Slot) → Bool
all_narrow [] = true
all_narrow (ss ∷ sss) = leb (width ss) 6 && all_narrow sss

narrow : (k : ℕ) → width (layout Edition.second k) ≤ 6
unfolding layout all_narrow
narrow k = pick (layouts Edition.second) k tt
  where
    pick : (sss : List (List Slot)) (i : ℕ) → T (all_narrow sss) → width (get_or sss i []) ≤ 6
    pick [] i t = omega arith
    pick (ss ∷ sss) zero t = leb→le (width ss) 6 (both (leb (width ss) 6) (all_narrow sss) t).0
    pick (ss ∷ sss) (suc i) t = pick sss i (both (leb (width ss) 6) (all_narrow sss) t).1

module _ (v w : Rows) (i : ℕ) (e : own v i ≡ own w i) where
  pub own_at : (k : ℕ) → k < own_width → get_or v.nodes (node_width * i + k) 0 ≡ get_or w.nodes (node_width * i + k) 0
  own_at k h = sym (at v) ∙ ap (λ xs. get_or xs k 0) e ∙ at w
    where
      at : (u : Rows) → get_or (own u i) k 0 ≡ get_or u.nodes (node_width * i + k) 0
      at u = get_or-take own_width (drop (node_width * i) u.nodes) k 0 h ∙ get_or-drop (node_width * i) u.nodes k 0

  kind_own : get_or v.nodes (node_width * i) 0 ≡ get_or w.nodes (node_width * i) 0
  kind_own = let z : node_width * i + 0 ≡ node_width * i = omega arith in rw z at (own_at 0 (omega arith))

  fields_own : SameFirst 6 (drop (node_width * i + 3) v.nodes) (drop (node_width * i + 3) w.nodes)
  fields_own = record { at = λ m h. let f : node_width * i + (3 + m) ≡ node_width * i + 3 + m = omega arith in get_or-drop (node_width * i + 3) v.nodes m 0 ∙ (rw f at (own_at (3 + m) (omega arith))) ∙ sym (get_or-drop (node_width * i + 3) w.nodes m 0) }

  pub named_own : v.links ≡ w.links → named_by v i ≡ named_by w i
  unfolding named_by
  named_own l =
      let k = get_or w.nodes (node_width * i) 0 in
      rw (l, kind_own) (naming_alike w.links (layout Edition.second k) (record { at = λ m h. fields_own.at m (omega (arith, narrow k)) }))

-- parents put in: each row's own numbers stay
module _ (w : Rows) where
  row_length : (i : ℕ) → node_width * suc i ≤ length w.nodes → length (own w i) ≡ own_width
  row_length i h = simp (length-take, length-drop) (omega arith)

  below_length : (n : ℕ) → node_width * n ≤ length w.nodes → length (parented_below w n) ≡ node_width * n
  unfolding parented_below
  below_length zero h = refl
  below_length (suc n) h = simp length-append (omega (arith, below_length n (omega arith), row_length n h))

  stands : (n i : ℕ) → i < n → node_width * n ≤ length w.nodes → (rest : List ℕ) × (drop (node_width * i) (parented_below w n) ≡ own w i ++ parent w (height w) i ∷ rest)
  unfolding parented_below
  stands zero i h l = absurd (omega arith)
  stands (suc n) i h l = place (dec_lt i n) (λ k. stands n i k (omega arith))
    where
      place : Dec (i < n) → (i < n → (rest : List ℕ) × (drop (node_width * i) (parented_below w n) ≡ own w i ++ parent w (height w) i ∷ rest)) → (rest : List ℕ) × (drop (node_width * i) (parented_below w n ++ (own w n ++ parent w (height w) n ∷ [])) ≡ own w i ++ parent w (height w) i ∷ rest)
      place (yes k) f = let (r, e) = f k in (r ++ (own w n ++ parent w (height w) n ∷ []), rw (drop-append-le (node_width * i) (parented_below w n) (own w n ++ parent w (height w) n ∷ []) (omega (arith, below_length n (omega arith))), e, append_assoc))
      place (no k) f = let e : i ≡ n = omega arith in ([], rw e (drop_at (parented_below w n) _ (node_width * n) (below_length n (omega arith))))

  module _ (x : node_width * height w ≡ length w.nodes) where
    pub parented_length : length (parented w).nodes ≡ length w.nodes
    parented_length = omega (arith, below_length (height w) (omega (arith, x)), x)

    pub parented_own : (i : ℕ) → i < height w → own (parented w) i ≡ own w i
    parented_own i h = let (r, e) = stands (height w) i h (omega (arith, x)) in rw e (take_at (own w i) _ own_width (row_length i (omega (arith, x))))

    pub parented_tenth : (i : ℕ) → i < height w → tenth (parented w) i ≡ parent w (height w) i
    parented_tenth i h = let (r, e) = stands (height w) i h (omega (arith, x)) in sym (get_or-drop (node_width * i) (parented w).nodes own_width 0) ∙ rw e (get_or_at (own w i) _ r 0 own_width (row_length i (omega (arith, x))))

    pub parented_height : height (parented w) ≡ height w
    parented_height = ap (λ n. n / node_width) parented_length

    pub parented_names : (i : ℕ) → i < height w → named_by (parented w) i ≡ named_by w i
    parented_names i h = named_own (parented w) w i (parented_own i h) refl

    parented_named : (n : ℕ) → n ≤ height w → named_below (parented w) n ≡ named_below w n
    unfolding named_below
    parented_named zero h = refl
    parented_named (suc n) h = rw (parented_named n (omega arith), parented_names n h)

    pub parented_tree : OneTree w → OneTree (parented w)
    parented_tree t =
        let h = parented_height in
        record {
          some = rw h t.some;
          rising = λ i k. let l : i < height w = rw h at k in rw (parented_names i l) (t.rising i l);
          once = λ j k. rw (h, parented_named (height w) (omega arith)) (t.once j (rw h at k));
          root = rw (h, parented_named (height w) (omega arith)) t.root;
        }

    pub parents_put : OneTree w → height w ≤ absent → Parents (parented w)
    parents_put t m = record { parents = parents; root = root }
      where
        h : height (parented w) ≡ height w
        h = parented_height

        parents : (j : ℕ) → j + 1 < height (parented w) → ParentOf (parented w) j (tenth (parented w) j)
        parents j k =
            let l : j + 1 < height w = rw h at k in
            let f = found w j (height w) (t.once j l) in
            let p = parent w (height w) j in
            rw (parented_tenth j (omega arith)) (record {
              later = rising_below (t.rising p f.row) (omega arith) (omega (arith, f.names));
              row = rw h f.row;
              names = rw (parented_names p f.row) f.names;
              only = λ i q z. let r : i < height w = rw h at q in f.only i r (rw (parented_names i r) at z);
            })

        root : tenth (parented w) (height (parented w) - 1) ≡ absent
        root = rw h (parented_tenth (height w - 1) (omega (arith, t.some)) ∙ no_parent w (height w - 1) (height w) t.root)

    -- the root stays last
    pub last_own : (x xs : List ℕ) → w.nodes ≡ x ++ padded xs → own w (height w - 1) ≡ take own_width (xs ++ replicate own_width 0)
    last_own y xs e =
        let l : length (take own_width (xs ++ replicate own_width 0)) ≡ own_width = simp (length-take, length-append, length-replicate) (omega arith) in
        let m : length y ≡ node_width * (height w - 1) = omega (arith, x, ap length e, length-append y (padded xs), padded_length xs) in
        ap (λ zs. take own_width (drop (node_width * (height w - 1)) zs)) e ∙ rw (drop_at y (padded xs) (node_width * (height w - 1)) m) (take_at (take own_width (xs ++ replicate own_width 0)) (0 ∷ []) own_width l)

    pub parented_root : OneTree w → (y xs : List ℕ) → w.nodes ≡ y ++ padded xs → (parented w).nodes ≡ parented_below w (height w - 1) ++ lined xs absent
    unfolding parented_below
    parented_root t y xs e =
        let h : height w ≡ suc (height w - 1) = omega (arith, t.some) in
        ap (parented_below w) h ∙ rw (last_own y xs e, no_parent w (height w - 1) (height w) t.root)

-- parent by parent from a row
pub data Outward (w : Rows) : (from upto : ℕ) → Type 0 where
  here : {j : ℕ} → Outward w j j
  up : {j upto : ℕ} → Outward w (tenth w j) upto → Outward w j upto

-- the root is reached from every row: a parent is a later row, so after at most k steps, where no more than k rows follow
pub to_root : {w : Rows} → Parents w → (k j : ℕ) → j < height w → height w ≤ suc (j + k) → Outward w j (height w - 1)
to_root {w} p zero j h l = let e : j ≡ height w - 1 = omega arith in rw e Outward.here
to_root {w} p (suc k) j h l =
    elim (dec_lt (j + 1) (height w)) [
      | yes m ↦ let q = p.parents j m in Outward.up (to_root p k (tenth w j) q.row (omega (arith, q.later)))
      | no m ↦ let e : j ≡ height w - 1 = omega arith in rw e Outward.here
    ]
