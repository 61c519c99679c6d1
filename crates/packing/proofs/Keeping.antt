-- Which rows stay, number by number in the room: marks at the statements that are kept, then at what is below them, then how many stay before each.
use Prim.Native.Nat.{ℕ, suc, ◌+◌, ◌-◌, ◌*◌, ◌≤◌, ◌<◌}
use native.Mathlib.Numerals.{add-one}
use native.Mathlib.Omega.{arith}
use mathlib.Core.Bool.{Bool, true, false, cond, ◌||◌}
use mathlib.Core.List.{List, [], ◌∷◌, ◌++◌, append-nil}
use mathlib.Core.Path.{◌≡◌, refl, sym, ap, ◌∙◌}
use lib.Dec.{eqb}
use lib.ListN.{length, get_or, set, replicate, length-set, length-replicate, get_or-replicate}
use lib.Seq.{get_or-set_same, get_or-set_other}
use borrow.Author.Tests.{eqb-true, eqb-false, ne_eqb}
use Rattle.grammar.specs.Naming.{height}
use Rattle.grammar.specs.Pattern.{among}
use Rattle.grammar.specs.Room.{node_width, own_width, link_width}
use Rattle.grammar.specs.Rows.{Rows}
use Rattle.parts.specs.Packed.{root_row, statement, keeps, kept, kept_upto, stays, rows_kept}
use Rattle.parts.proofs.Sizes.{rows_kept_most, parent_later, parent_most, statement_stays, child_stays}
use Rattle.packing.specs.Good.{Good}
use Rattle.packing.specs.Kept.{one, Marked, Staying, Placed, Markable, Counted}
use Rattle.packing.proofs.Rooting.{root_ends, statement_below, statement_is}

-- one number of the room is new, the others stay
module _ (xs : List ℕ) (k x : ℕ) where
  stored_here : k < length xs → get_or (set xs k x) k 0 ≡ x
  stored_here h = get_or-set_same xs k x 0 h

  stored_there : {i : ℕ} → (i ≡ k → ⊥) → get_or (set xs k x) i 0 ≡ get_or xs i 0
  stored_there {i} n = get_or-set_other xs k i x 0 n

-- the marks so far
pub record Marking (w : Rows) (choice : List ℕ) (n j : ℕ) (sc : List ℕ) : Type 0 where
  pub marked : Marked (keeps choice) w j n sc
  pub size : length sc ≡ n
  pub most : j ≤ length choice

pub none_marked : (w : Rows) (choice : List ℕ) {n : ℕ} {sc : List ℕ} → sc ≡ replicate n 0 → Marking w choice n 0 sc
unfolding kept_upto
none_marked w choice {n} e = record {
  marked = record { each = λ i l. rw e (get_or-replicate n i 0 0 l) };
  size = rw e (length-replicate n 0);
  most = omega arith;
}

or_true : (t : Bool) → (t || true) ≡ true
or_true true = refl
or_true false = refl

or_false : (t : Bool) → (t || false) ≡ t
or_false true = refl
or_false false = refl

among_snoc : (xs : List ℕ) (y i : ℕ) → among (xs ++ (y ∷ [])) i ≡ (among xs i || eqb i y)
among_snoc [] y i = or_false (eqb i y)
among_snoc (x ∷ xs) y i = pick (eqb i x) (among_snoc xs y i)
  where
    pick : (t : Bool) → among (xs ++ (y ∷ [])) i ≡ (among xs i || eqb i y) → (t || among (xs ++ (y ∷ [])) i) ≡ ((t || among xs i) || eqb i y)
    pick true e = refl
    pick false e = e

module _ {w : Rows} {choice : List ℕ} {first n j : ℕ} {sc : List ℕ} (p : Markable w choice first n) (d : Marking w choice n j sc) (h : j < length choice) where
  abbrev row : ℕ
  row = get_or w.links (link_width * (first + j)) 0

  row_is : row ≡ statement w j
  row_is = ap (λ (x : ℕ). get_or w.links (link_width * (x + j)) 0) p.list

  pub row_below : row < n
  row_below = omega (arith, row_is, statement_is w j, statement_below p.sound.good j (omega (arith, p.all)), p.rows)

  pub link_there : link_width * (first + j) < length w.links
  link_there = omega (arith, p.list, p.all, root_ends p.sound.good, p.sound.good.links)

  next : kept_upto (keeps choice) w (j + 1) ≡ kept_upto (keeps choice) w j ++ cond (keeps choice j) (statement w j ∷ []) []
  unfolding kept_upto
  next = ap (kept_upto (keeps choice) w) (add-one j)

  pub statement_marked : {sc' : List ℕ} → (get_or choice j 0 ≡ 0 → ⊥) → sc' ≡ set sc row 1 → Marking w choice n (j + 1) sc'
  statement_marked {sc'} e q = rw q record {
    marked = record { each = λ i l. pick i l (eqb i (statement w j)) refl };
    size = length-set sc row 1 ∙ d.size;
    most = omega arith;
  }
    where
      all : kept_upto (keeps choice) w (j + 1) ≡ kept_upto (keeps choice) w j ++ (statement w j ∷ [])
      all = let f : keeps choice j ≡ true = rw (ne_eqb (get_or choice j 0) 0 e) refl in next ∙ rw f refl

      marks : (i : ℕ) (t : Bool) → eqb i (statement w j) ≡ t → among (kept_upto (keeps choice) w (j + 1)) i ≡ (among (kept_upto (keeps choice) w j) i || t)
      marks i t z = ap (λ (xs : List ℕ). among xs i) all ∙ among_snoc (kept_upto (keeps choice) w j) (statement w j) i ∙ ap (λ (b : Bool). among (kept_upto (keeps choice) w j) i || b) z

      pick : (i : ℕ) → i < n → (t : Bool) → eqb i (statement w j) ≡ t → get_or (set sc row 1) i 0 ≡ one (among (kept_upto (keeps choice) w (j + 1)) i)
      pick i l true z =
          let y : i ≡ row = eqb-true i (statement w j) z ∙ sym row_is in
          ap (λ (x : ℕ). get_or (set sc row 1) x 0) y ∙ stored_here sc row 1 (omega (arith, row_below, d.size)) ∙ sym (ap one (marks i true z ∙ or_true (among (kept_upto (keeps choice) w j) i)))
      pick i l false z = stored_there sc row 1 (λ y. eqb-false i (statement w j) z (y ∙ row_is)) ∙ d.marked.each i l ∙ sym (ap one (marks i false z ∙ or_false (among (kept_upto (keeps choice) w j) i)))

  pub statement_passed : {sc' : List ℕ} → get_or choice j 0 ≡ 0 → sc' ≡ sc → Marking w choice n (j + 1) sc'
  statement_passed e q =
      let f : keeps choice j ≡ false = rw e refl in
      let all : kept_upto (keeps choice) w (j + 1) ≡ kept_upto (keeps choice) w j = next ∙ rw f (append-nil (kept_upto (keeps choice) w j)) in
      rw q record { marked = record { each = λ i l. rw all (d.marked.each i l) }; size = d.size; most = omega arith }

-- rows from i on are marked as they stay, those before as they are kept
pub record Spreading (w : Rows) (choice : List ℕ) (i : ℕ) (sc : List ℕ) : Type 0 where
  pub staying : Staying (keeps choice) w i sc
  pub marked : (k : ℕ) → k < i → get_or sc k 0 ≡ one (among (kept (keeps choice) w) k)
  pub size : length sc ≡ height w
  pub most : i ≤ root_row w

module _ {w : Rows} {choice : List ℕ} {first n : ℕ} (p : Markable w choice first n) where
  pub none_spread : {root : ℕ} {sc : List ℕ} → root ≡ root_row w → length sc ≡ n → Marked (keeps choice) w (length choice) n sc → Spreading w choice root sc
  none_spread e l m = rw e record {
    staying = record { each = λ i a b. absurd (omega arith) };
    marked = λ k h. m.each k (omega (arith, p.rows)) ∙ ap (λ (n : ℕ). one (among (kept_upto (keeps choice) w n) k)) p.all;
    size = l ∙ p.rows;
    most = omega arith;
  }

  module _ {i : ℕ} {sc : List ℕ} (d : Spreading w choice i sc) (h : 0 < i) where
    abbrev good : Good p.sound.symbols w
    good = p.sound.good

    abbrev here : ℕ
    here = i - 1

    under : here < root_row w
    under = omega (arith, d.most)

    -- the parent stands later, and is the root or one that is marked already
    abbrev parent : ℕ
    parent = get_or w.nodes (node_width * here + own_width) 0

    parent_below : parent ≤ root_row w
    parent_below = parent_most good.checked good.short here under

    pub row_spread : {root : ℕ} → root ≡ root_row w → (parent ≡ root → ⊥) → Spreading w choice here (set sc here (get_or sc parent 0))
    row_spread e n =
        let l : parent < root_row w = omega (arith, parent_below, n) in
        let later = parent_later good.checked good.short here under in
        let x = get_or sc parent 0 in
        record {
          staying = record {
            each = λ k a b. pick k a b x (eqb k here) refl (d.staying.each parent (omega (arith, later)) l ∙ ap one (sym (child_stays good.checked good.short (keeps choice) here under l)));
          };
          marked = λ k a. stored_there sc here x (λ z. omega arith) ∙ d.marked k (omega arith);
          size = length-set sc here x ∙ d.size;
          most = omega (arith, under);
        }
      where
        pick : (k : ℕ) → here ≤ k → k < root_row w → (x : ℕ) (t : Bool) → eqb k here ≡ t → x ≡ one (stays (keeps choice) w here) → get_or (set sc here x) k 0 ≡ one (stays (keeps choice) w k)
        pick k a b x true z y =
            let f : k ≡ here = eqb-true k here z in
            rw f (stored_here sc here x (omega (arith, d.size, under)) ∙ y)
        pick k a b x false z y = let f = eqb-false k here z in stored_there sc here x f ∙ d.staying.each k (omega arith) b

    pub row_kept : {root : ℕ} → root ≡ root_row w → parent ≡ root → Spreading w choice here sc
    row_kept e n = record {
      staying = record { each = λ k a b. pick k a b (eqb k here) refl };
      marked = λ k a. d.marked k (omega arith);
      size = d.size;
      most = omega (arith, under);
    }
      where
        pick : (k : ℕ) → here ≤ k → k < root_row w → (t : Bool) → eqb k here ≡ t → get_or sc k 0 ≡ one (stays (keeps choice) w k)
        pick k a b true z =
            let f : k ≡ here = eqb-true k here z in
            rw f (d.marked here (omega arith) ∙ ap one (sym (statement_stays good.checked good.short (keeps choice) here under (n ∙ e))))
        pick k a b false z = let f = eqb-false k here z in d.staying.each k (omega arith) b

-- the same, whatever the choice was
pub record SpreadsUpto (w : Rows) (before : List ℕ) (i : ℕ) (sc : List ℕ) : Type 0 where
  pub says : {choice : List ℕ} {first : ℕ} → Markable w choice first (length before) → Marked (keeps choice) w (length choice) (length before) before → Spreading w choice i sc

pub spreads_none : (w : Rows) (before : List ℕ) {root : ℕ} → root ≡ root_row w → SpreadsUpto w before root before
spreads_none w before e = record { says = λ p m. none_spread p e refl m }

module _ {w : Rows} {before sc : List ℕ} {i root : ℕ} (k : SpreadsUpto w before i sc) (h : 0 < i) (e : root ≡ root_row w) where
  pub spreads_row : (get_or w.nodes (node_width * (i - 1) + own_width) 0 ≡ root → ⊥) → SpreadsUpto w before (i - 1) (set sc (i - 1) (get_or sc (get_or w.nodes (node_width * (i - 1) + own_width) 0) 0))
  spreads_row n = record { says = λ p m. row_spread p (k.says p m) h e n }

  pub spreads_kept : get_or w.nodes (node_width * (i - 1) + own_width) 0 ≡ root → SpreadsUpto w before (i - 1) sc
  spreads_kept n = record { says = λ p m. row_kept p (k.says p m) h e n }

-- rows before i have their place, those from i on are marked
pub record Counting (w : Rows) (c : ℕ → Bool) (i many : ℕ) (sc : List ℕ) : Type 0 where
  pub placed : (k : ℕ) → k < i → get_or sc k 0 ≡ rows_kept c w k
  pub staying : Staying c w i sc
  pub count : many ≡ rows_kept c w i
  pub size : length sc ≡ height w
  pub most : i ≤ root_row w

pub none_counted : {w : Rows} {c : ℕ → Bool} {sc : List ℕ} → length sc ≡ height w → Staying c w 0 sc → Counting w c 0 0 sc
unfolding rows_kept
none_counted l s = record { placed = λ k h. absurd (omega arith); staying = s; count = refl; size = l; most = omega arith }

one_most : (t : Bool) → one t ≤ 1
one_most true = omega arith
one_most false = omega arith

module _ {w : Rows} {c : ℕ → Bool} {i many : ℕ} {sc : List ℕ} (d : Counting w c i many sc) where
  rows_next : rows_kept c w (suc i) ≡ rows_kept c w i + one (stays c w i)
  unfolding rows_kept
  rows_next = refl

  pub mark_small : i < root_row w → many + get_or sc i 0 ≤ i + 1
  mark_small h = omega (arith, d.count, d.staying.each i (omega arith) h, one_most (stays c w i), rows_kept_most c w i)

  placed_next : (x : ℕ) → x ≡ rows_kept c w i → i < height w → (k : ℕ) → k ≤ i → get_or (set sc i x) k 0 ≡ rows_kept c w k
  placed_next x e h k l = pick (eqb k i) refl
    where
      pick : (t : Bool) → eqb k i ≡ t → get_or (set sc i x) k 0 ≡ rows_kept c w k
      pick true z = let f : k ≡ i = eqb-true k i z in rw f (stored_here sc i x (omega (arith, d.size)) ∙ e)
      pick false z = let f = eqb-false k i z in stored_there sc i x f ∙ d.placed k (omega arith)

  pub row_counted : i < root_row w → Counting w c (i + 1) (many + get_or sc i 0) (set sc i many)
  row_counted h = record {
    placed = λ k l. placed_next many d.count (omega arith) k (omega arith);
    staying = record { each = λ k a b. stored_there sc i many (λ z. omega arith) ∙ d.staying.each k (omega arith) b };
    count = rw (add-one i, rows_next, d.staying.each i (omega arith) h, d.count) refl;
    size = length-set sc i many ∙ d.size;
    most = omega arith;
  }

  pub root_counted : 0 < height w → i ≡ root_row w → Placed c w (set sc i many)
  root_counted s e = record { each = λ k l. placed_next many d.count (omega arith) k (omega arith) }

-- the same, whatever the rows and the choice were
pub record Counts (before : List ℕ) (i many : ℕ) (sc : List ℕ) : Type 0 where
  pub says : {c : ℕ → Bool} {w : Rows} → length before ≡ height w → Staying c w 0 before → Counting w c i many sc

pub counts_none : (before : List ℕ) → Counts before 0 0 before
counts_none before = record { says = λ e s. none_counted e s }

pub counts_row : {before sc : List ℕ} {i many : ℕ} → Counts before i many sc → i < length before - 1 → Counts before (i + 1) (many + get_or sc i 0) (set sc i many)
counts_row k h = record { says = λ e s. row_counted (k.says e s) (omega (arith, e)) }

pub counts_root : {before sc : List ℕ} {i many : ℕ} → Counts before i many sc → 0 < length before → i ≡ length before - 1 → Counted before (set sc i many)
counts_root k l h = record { says = λ e s. root_counted (k.says e s) (omega (arith, e)) (omega (arith, e)) }
