-- Whose rows stay: the parents of a statement's rows are rows of the same statement, up to its last, whose parent is the root. So a row stays as its statement does.
use Prim.Native.Nat.{ℕ, zero, suc, ◌+◌, ◌≤◌, ◌<◌}
use mathlib.Core.Bool.{Bool, true, false, cond, ◌||◌}
use mathlib.Core.List.{List, [], ◌∷◌, ◌++◌}
use mathlib.Core.Logic.{◌⊎◌, inl, inr}
use mathlib.Core.Path.{◌≡◌, refl, sym, ap, ◌∙◌}
use native.Mathlib.Decide.{dec_lt}
use native.Mathlib.Omega.{arith}
use borrow.Author.Tests.{eq-eqb, ne_eqb}
use lib.Dec.{eqb}
use Rattle.grammar.specs.Edition.{Edition}
use Rattle.grammar.specs.Handle.{Handle, absent, row}
use Rattle.grammar.specs.Label.{Node, Label, number_of}
use Rattle.grammar.specs.Layout.{layout}
use Rattle.grammar.specs.Naming.{height, named_by, times, OneTree}
use Rattle.grammar.specs.Parent.{tenth, written, Parents}
use Rattle.grammar.specs.Pattern.{among}
use Rattle.grammar.specs.Phrase.{Tree, more, made}
use Rattle.grammar.specs.Rows.{Rows, blank, Walked, put, make, walk, unparented}
use Rattle.grammar.specs.Rule.{fields, root}
use Rattle.grammar.proofs.Decoding.{Whole, Added, added}
use Rattle.grammar.proofs.Forest.{Later, Forest, later_self, later_both, kept, times_append, rooted}
use Rattle.grammar.proofs.Order.{rows_of, rows_append, Spread, Told, told_root}
use Rattle.grammar.proofs.Parents.{parented_height, parented_names, parents_put}
use Rattle.grammar.proofs.Shapes.{table, shape, ok}
use Rattle.grammar.proofs.Trees.{grows}
use Rattle.parts.specs.Dropped.{items}
use Rattle.parts.specs.Packed.{root_row, statement, kept_upto, kept as kept-rows, stays_in, stays}
use Rattle.parts.proofs.Kinship.{Items}
use Rattle.parts.proofs.Statements.{IsStatement, Ends, statement_ends, Initial, inner, initial_items, items_grow, one_more, initial_handles, script_rooted, rooted_height, rooted_whole, statements_count, statement_last}
use Rattle.parts.proofs.Walking.{walk_later, taller}
use Rattle.parts.proofs.Words.{among_append}

-- absent ones change nothing
spread : {w : Rows} {a b : ℕ} {xs ys : List ℕ} → Spread xs ys → Forest w a b xs → Forest w a b ys
spread Spread.end f = f
spread (Spread.keep s) (Forest.skip f) = Forest.skip (spread s f)
spread (Spread.keep s) (Forest.next n f g) = Forest.next n f (spread s g)
spread (Spread.gap s) f = Forest.skip (spread s f)

spread_times : (j : ℕ) {xs ys : List ℕ} → Spread xs ys → times j xs ≤ times j ys
spread_times j Spread.end = omega arith
spread_times j (Spread.keep s) = omega (arith, spread_times j s)
spread_times j (Spread.gap s) = omega (arith, spread_times j s)

ordered : {w : Rows} {a b : ℕ} {xs : List ℕ} → Forest w a b xs → a ≤ b
ordered Forest.done = omega arith
ordered (Forest.skip f) = ordered f
ordered (Forest.next n f g) = omega (arith, ordered f, ordered g)

-- a row of a forest is one of its roots, or is named by one of its rows
record NamedIn (w : Rows) (a b i : ℕ) : Type 0 where
  pub by : ℕ
  pub from : a ≤ by
  pub upto : by < b
  pub names : 0 < times i (named_by w by)

in_forest : {w : Rows} {a b : ℕ} {xs : List ℕ} → Forest w a b xs → (i : ℕ) → a ≤ i → i < b → (0 < times i xs) ⊎ NamedIn w a b i
in_forest Forest.done i h k = absurd (omega arith)
in_forest {w} {a} {b} (Forest.skip {xs = xs} f) i h k = one_more_root (in_forest f i h k)
  where
    one_more_root : (0 < times i xs) ⊎ NamedIn w a b i → (0 < times i (absent ∷ xs)) ⊎ NamedIn w a b i
    one_more_root (inl p) = inl (omega arith)
    one_more_root (inr p) = inr p
in_forest {w} {a} {b} (Forest.next {i = r} {xs = xs} {ys = ys} n f g) i h k = place (dec_lt i r) (dec_lt r i) (in_forest f i h) (in_forest g i)
  where
    below : (0 < times i xs) ⊎ NamedIn w a r i → (0 < times i (r ∷ ys)) ⊎ NamedIn w a b i
    below (inl p) = inr (record { by = r; from = ordered f; upto = omega (arith, ordered g); names = rw (n.says (later_self w)) p })
    below (inr p) = inr (record { by = p.by; from = p.from; upto = omega (arith, p.upto, ordered g); names = p.names })

    above : (0 < times i ys) ⊎ NamedIn w (suc r) b i → (0 < times i (r ∷ ys)) ⊎ NamedIn w a b i
    above (inl p) = inl (omega arith)
    above (inr p) = inr (record { by = p.by; from = omega (arith, p.from, ordered f); upto = p.upto; names = p.names })

    place : Dec (i < r) → Dec (r < i) → (i < r → (0 < times i xs) ⊎ NamedIn w a r i) → (suc r ≤ i → i < b → (0 < times i ys) ⊎ NamedIn w (suc r) b i) → (0 < times i (r ∷ ys)) ⊎ NamedIn w a b i
    place (yes p) q x y = below (x p)
    place (no p) (yes q) x y = above (y (omega arith) k)
    place (no p) (no q) x y = let z : i ≡ r = omega arith in inl (rw (eq-eqb i r z) (omega arith))

-- the row of a statement is the root of its forest
statement_rows : {h : Handle} → IsStatement h → rows_of (h ∷ []) ≡ row h ∷ []
statement_rows IsStatement.a_node = refl
statement_rows IsStatement.an_end = refl

ends_rows : {r : Walked} (y : Ends r) → rows_of r.first ++ rows_of r.rest ≡ row y.handle ∷ []
ends_rows y = rw (y.made, y.alone, statement_rows y.sort)

-- its row is one of the rows of all
has_row : (xs zs : List Handle) {h : Handle} → IsStatement h → (us : List ℕ) → 0 < times (row h) (rows_of ((xs ++ (h ∷ [])) ++ zs) ++ us)
has_row xs zs {h} s us =
    let self : times (row h) (row h ∷ []) ≡ 1 = rw (eq-eqb (row h) (row h) refl) in
    rw (rows_append (xs ++ (h ∷ [])) zs, rows_append xs (h ∷ []), statement_rows s) (omega (arith, times_append (row h) ((rows_of xs ++ (row h ∷ [])) ++ rows_of zs) us, times_append (row h) (rows_of xs ++ (row h ∷ [])) (rows_of zs), times_append (row h) (rows_of xs) (row h ∷ [])))

top_above : {w : Rows} {a b i : ℕ} → Forest w a b (i ∷ []) → i < absent → a ≤ i
top_above (Forest.skip f) h = absurd (omega arith)
top_above (Forest.next n f g) h = ordered f

forest_as : {w : Rows} {a b c : ℕ} {xs ys : List ℕ} → Forest w a b xs → b ≡ c → xs ≡ ys → Forest w a c ys
forest_as f p q = rw (← p, ← q) f

items_below : {l : Label} {a b : ℕ} {t u t₀ : Tree Label} → Initial (made l a b (more t u)) t₀ → items t < items t₀
unfolding items
items_below Initial.same = omega arith
items_below (Initial.further i) = omega (arith, items_below i)

or_false : (b : Bool) → (b || false) ≡ b
or_false true = refl
or_false false = refl

same_among : (b : Bool) (x : ℕ) → among (cond b (x ∷ []) []) x ≡ b
same_among true x = rw (eq-eqb x x refl)
same_among false x = refl

other_among : (b : Bool) (x y : ℕ) → (x ≡ y → ⊥) → among (cond b (y ∷ []) []) x ≡ false
other_among true x y h = rw (ne_eqb x y h)
other_among false x y h = refl

-- what items begin with is written first
initial_later : (ts : List ℕ) (σ : ℕ → ℕ) {e : Edition} {k : ℕ → ℕ} {t : Tree Label} {n : ℕ} {t₀ : Tree Label} → Items e k n t₀ → Initial t t₀ → Later (walk ts σ t blank).rows (walk ts σ t₀ blank).rows
unfolding walk make
initial_later ts σ i Initial.same = later_self _
initial_later ts σ (Items.next {t = s} {u = u} i x) (Initial.further j) = later_both (initial_later ts σ i j) (walk_later ts σ u (walk ts σ s blank).rows)

module _ {e : Edition} (ts : List ℕ) (σ : ℕ → ℕ) {k : ℕ → ℕ} {n : ℕ} {t₀ : Tree Label} (i₀ : Items e k n t₀) (z : ℕ) where
  -- the script's rows, before and after the parents are put in
  abbrev pub before : Rows
  before = unparented ts σ (made Label.Script 0 z t₀)

  abbrev pub script : Rows
  script = written ts σ (made Label.Script 0 z t₀)

  abbrev pub body : Rows
  body = (walk ts σ t₀ blank).rows

  pub body_whole : Whole body
  body_whole = (items_grow ts σ i₀).whole

  pub before_whole : Whole before
  before_whole = rooted_whole body_whole (script_rooted ts σ z t₀)

  pub before_height : height before ≡ suc (height body)
  before_height = rooted_height body_whole (script_rooted ts σ z t₀)

  pub script_height : height script ≡ suc (height body)
  unfolding written
  script_height = parented_height before before_whole.nodes ∙ before_height

  abbrev handles : List Handle
  handles = (walk ts σ t₀ blank).first

  root_told : Told (layout Edition.second (number_of Node.Block)) (fields (root handles)) (rows_of handles ++ rows_of (walk ts σ t₀ blank).rest)
  root_told = told_root (items_grow ts σ i₀).first (items_grow ts σ i₀).rest

  root_added : Added body before root_told.named
  unfolding unparented walk make put
  root_added = added (number_of Node.Block) 0 0 root_told.laid body_whole

  -- what items begin with is written first
  pub initial_before : {t : Tree Label} → Initial t t₀ → Later (walk ts σ t blank).rows before
  initial_before j = later_both (initial_later ts σ i₀ j) root_added.later

  module _ (few : height script ≤ absent) where
    pub one_tree : OneTree before
    one_tree = rooted {i = height body} before_height (omega (arith, script_height)) (rw root_added.taller (Forest.next root_added.names (spread root_told.order (kept root_added.later (items_grow ts σ i₀).forest)) Forest.done))

    pub parents : Parents script
    unfolding written
    parents = parents_put before before_whole.nodes one_tree (omega (arith, script_height, before_height))

    -- a row that names another is its parent
    pub parent_is : (i p : ℕ) → i < height body → p < height before → 0 < times i (named_by before p) → tenth script i ≡ p
    unfolding written
    parent_is i p h l t =
        let q = parents.parents i (omega (arith, script_height)) in
        sym (q.only p (omega (arith, script_height, before_height)) (rw (parented_names before before_whole.nodes p l) t))

    -- a statement of the script
    module _ {a b : ℕ} {t u : Tree Label} (j : Initial (made Label.Item a b (more t u)) t₀) where
      abbrev pub start_row : ℕ
      start_row = height (walk ts σ t blank).rows

      abbrev pub last_row : ℕ
      last_row = statement script (items t)

      abbrev after : Rows
      after = (walk ts σ u (walk ts σ t blank).rows).rows

      pub after_is : height after ≡ suc last_row
      after_is = sym (statement_last ts σ i₀ z j)

      after_later : Later after before
      unfolding walk make
      after_later = initial_before j

      pub last_below : last_row < height body
      unfolding walk make
      last_below = omega (arith, after_is, taller (initial_later ts σ i₀ j))

      stretch : Forest before start_row (suc last_row) (last_row ∷ [])
      unfolding ok shape table
      stretch =
          let (p, x) = initial_items i₀ j in
          let g = grows e ts σ x tt {w = (walk ts σ t blank).rows} (items_grow ts σ p).whole in
          let y = statement_ends e ts σ x (walk ts σ t blank).rows in
          forest_as (kept after_later g.forest) after_is (ends_rows y ∙ ap (λ r. r ∷ []) (omega (arith, y.tall, after_is)))

      pub start_below : start_row ≤ last_row
      start_below = top_above stretch (omega (arith, few, script_height, last_below))

      -- a row of it but its last: its parent is a later one of them
      pub record Inside (i : ℕ) : Type 0 where
        pub later : i < tenth script i
        pub upto : tenth script i ≤ last_row
        pub names : 0 < times i (named_by before (tenth script i))

      pub inside : (i : ℕ) → start_row ≤ i → i < last_row → Inside i
      inside i h l = told_by (in_forest stretch i h (omega arith))
        where
          told_by : (0 < times i (last_row ∷ [])) ⊎ NamedIn before start_row (suc last_row) i → Inside i
          told_by (inl p) = absurd (omega (arith, simp (ne_eqb i last_row (λ q. omega arith)) at p))
          told_by (inr p) =
              let q = parent_is i p.by (omega (arith, last_below)) (omega (arith, p.upto, last_below, before_height)) p.names in
              let r = parents.parents i (omega (arith, script_height, last_below)) in
              record { later = r.later; upto = rw q (omega (arith, p.upto)); names = rw q p.names }

      -- its last row's parent is the root
      last_named : 0 < times last_row (named_by before (height body))
      last_named =
          let (p, x) = initial_items i₀ j in
          let y = statement_ends e ts σ x (walk ts σ t blank).rows in
          let (zs, q) = initial_handles ts σ i₀ j in
          let l : row y.handle ≡ last_row = omega (arith, y.tall, after_is) in
          let o : handles ≡ ((walk ts σ t blank).first ++ (y.handle ∷ [])) ++ zs = q ∙ ap (λ hs. hs ++ zs) (one_more ts σ p x) in
          let f : 0 < times last_row (rows_of handles ++ rows_of (walk ts σ t₀ blank).rest) = rw (o, ← l) (has_row (walk ts σ t blank).first zs y.sort (rows_of (walk ts σ t₀ blank).rest)) in
          rw (root_added.names.says (later_self before)) (omega (arith, f, spread_times last_row root_told.order))

      pub last_parent : tenth script last_row ≡ height body
      last_parent = parent_is last_row (height body) last_below (omega (arith, before_height)) last_named

    -- the rows of the statements before
    earlier : {m : ℕ} {t : Tree Label} → Items e k m t → Initial t t₀ → (j : ℕ) → j < items t → statement script j < height (walk ts σ t blank).rows
    unfolding items walk make
    earlier Items.nil q j h = absurd (omega arith)
    earlier (Items.next {t = t} {u = u} i x) q j h =
        elim (dec_lt j (items t)) [
          | yes p ↦ omega (arith, earlier i (inner q) j p, taller (walk_later ts σ u (walk ts σ t blank).rows))
          | no p ↦ let y : j ≡ items t = omega arith in rw y (omega (arith, after_is q))
        ]

    -- statement j
    record At (j : ℕ) : Type 0 where
      pub from : ℕ
      pub upto : ℕ
      pub others : Tree Label
      pub this : Tree Label
      pub initial : Initial (made Label.Item from upto (more others this)) t₀
      pub number : items others ≡ j

    find : {m : ℕ} {t : Tree Label} → Items e k m t → Initial t t₀ → (j : ℕ) → j < items t → At j
    unfolding items
    find Items.nil q j h = absurd (omega arith)
    find (Items.next {b = b} {c = c} {t = t} {u = u} i x) q j h =
        elim (dec_lt j (items t)) [
          | yes p ↦ find i (inner q) j p
          | no p ↦ record { from = b; upto = c; others = t; this = u; initial = q; number = omega arith }
        ]

    rises : (j l : ℕ) → j < l → l < items t₀ → statement script j < statement script l
    rises j l h m =
        let p = find i₀ Initial.same l m in
        let (q, x) = initial_items i₀ p.initial in
        let f = earlier q (inner p.initial) j (omega (arith, p.number)) in
        let o : statement script j < statement script (items p.others) = omega (arith, f, start_below p.initial) in
        rw p.number at o

    module _ (c : ℕ → Bool) where
      among_none : (m j : ℕ) → m ≤ j → j < items t₀ → among (kept_upto c script m) (statement script j) ≡ false
      unfolding kept_upto
      among_none zero j h l = refl
      among_none (suc m) j h l = among_append (kept_upto c script m) (cond (c m) (statement script m ∷ []) []) (statement script j) ∙ rw (among_none m j (omega arith) l, other_among (c m) (statement script j) (statement script m) (λ q. omega (arith, rises m j h l)))

      among_kept : (m j : ℕ) → j < m → m ≤ items t₀ → among (kept_upto c script m) (statement script j) ≡ c j
      unfolding kept_upto
      among_kept zero j h l = absurd (omega arith)
      among_kept (suc m) j h l = among_append (kept_upto c script m) (cond (c m) (statement script m ∷ []) []) (statement script j) ∙ pick (dec_lt j m) (λ p. among_kept m j p (omega arith))
        where
          pick : Dec (j < m) → (j < m → among (kept_upto c script m) (statement script j) ≡ c j) → (among (kept_upto c script m) (statement script j) || among (cond (c m) (statement script m ∷ []) []) (statement script j)) ≡ c j
          pick (yes p) f = rw (f p, other_among (c m) (statement script j) (statement script m) (λ q. omega (arith, rises j m p l))) (or_false (c j))
          pick (no p) f = let q : m ≡ j = omega arith in rw (q, among_none j j (omega arith) (omega arith)) (same_among (c j) (statement script j))

      module _ {a b : ℕ} {t u : Tree Label} (j : Initial (made Label.Item a b (more t u)) t₀) where
        climb : (d i : ℕ) → start_row j ≤ i → i ≤ last_row j → last_row j < i + d → stays_in c script d i ≡ among (kept-rows c script) (last_row j)
        unfolding stays_in
        climb zero i h l m = absurd (omega arith)
        climb (suc d) i h l m = pick (dec_lt i (last_row j)) (climb d)
          where
            pick : Dec (i < last_row j) → ((p : ℕ) → start_row j ≤ p → p ≤ last_row j → last_row j < p + d → stays_in c script d p ≡ among (kept-rows c script) (last_row j)) → cond (eqb (tenth script i) (root_row script)) (among (kept-rows c script) i) (stays_in c script d (tenth script i)) ≡ among (kept-rows c script) (last_row j)
            pick (yes p) f =
                let q = inside j i h p in
                rw (ne_eqb (tenth script i) (root_row script) (λ o. omega (arith, q.upto, last_below j, script_height))) (f (tenth script i) (omega (arith, q.later)) q.upto (omega (arith, q.later)))
            pick (no p) f =
                let q : i ≡ last_row j = omega arith in
                let o : tenth script (last_row j) ≡ root_row script = last_parent j ∙ omega (arith, script_height) in
                rw (q, eq-eqb (tenth script (last_row j)) (root_row script) o)

        pub stays_as : (i : ℕ) → start_row j ≤ i → i ≤ last_row j → stays c script i ≡ c (items t)
        unfolding stays
        stays_as i h l = climb (height script) i h l (omega (arith, script_height, last_below j)) ∙ rw (statements_count ts σ i₀ z) (among_kept (items t₀) (items t) (items_below j) (omega arith))
