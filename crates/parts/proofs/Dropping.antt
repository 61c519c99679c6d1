-- Document 02, L12: the rows of a script without some of its statements are those of the others, packed. Statement by statement: a kept one is walked alike where
-- its tokens stand now, and a dropped one adds nothing; then the parents, which are the old ones moved, as what a row names is.
use Prim.Native.Nat.{ℕ, zero, suc, ◌+◌, ◌-◌, ◌≤◌, ◌<◌}
use mathlib.Core.Bool.{Bool, true, false, cond}
use mathlib.Core.List.{List, [], ◌∷◌, ◌++◌, map, append-nil}
use mathlib.Core.Path.{◌≡◌, refl, sym, ap, ◌∙◌}
use native.Mathlib.Decide.{dec_lt}
use native.Mathlib.Omega.{arith}
use borrow.Author.Tests.{eqb-true, eq-eqb, ne_eqb}
use lib.Dec.{eqb}
use lib.ListN.{length, get_or, drop}
use Rattle.grammar.specs.Edition.{Edition}
use Rattle.grammar.specs.Handle.{Handle, absent, row}
use Rattle.grammar.specs.Label.{Node, Label, number_of}
use Rattle.grammar.specs.Layout.{layout}
use Rattle.grammar.specs.Naming.{height, named_by, times}
use Rattle.grammar.specs.Parent.{own, tenth, parent, parented_below, written}
use Rattle.grammar.specs.Phrase.{Tree, none, more, made}
use Rattle.grammar.specs.Rows.{Rows, lined, blank, links_of, make, walk, unparented}
use Rattle.grammar.specs.Symbol.{is_name}
use Rattle.grammar.specs.Token.{kind, end}
use Rattle.grammar.proofs.Forest.{Later}
use Rattle.grammar.proofs.Growth.{links_length}
use Rattle.grammar.proofs.Parents.{parented_own, parented_tenth, parented_root}
use Rattle.grammar.proofs.Shapes.{table, shape, ok}
use Rattle.grammar.proofs.Trees.{grows}
use Rattle.foreign.specs.Check.{link_count}
use Rattle.foreign.proofs.Suits.{suits}
use Rattle.parts.specs.Dropped.{items}
use Rattle.parts.specs.Moved.{Move, moved_node, moved_lists, moved_numbers, list_links, moved_row, moved_links, row_links}
use Rattle.parts.specs.Packed.{root_row, statement, kept as kept-rows, kept_upto, stays, rows_kept, links_kept, links_before, packing, packed_nodes, packed_links, root_links, root_line, packed_with}
use Rattle.parts.proofs.Kinship.{Items, Keeps, Kin, Lies, All, kept, replaced}
use Rattle.parts.proofs.Carrying.{moved_own, Step, Place, RowLike}
use Rattle.parts.proofs.Likeness.{sent, moved_handle, moved_all}
use Rattle.parts.proofs.Moving.{covers, Toks, alike}
use Rattle.parts.proofs.Spanned.{fine}
use Rattle.parts.proofs.Statements.{IsStatement, statement_ends, Initial, inner, initial_items, blank_whole, links_append, script_rooted, root_own, statements_count, statement_last}
use Rattle.parts.proofs.Upward.{initial_before, body_whole, before_whole, before_height, script_height, one_tree, parent_is, last_below, start_below, after_is, inside, last_parent, stays_as}
use Rattle.parts.proofs.Walking.{walk_later, taller}
use Rattle.parts.proofs.Sizes.{packed_links_length, root_links_length, rows_kept_most, rows_kept_before, rows_kept_next}

-- the nodes of each statement lie in its own tokens
pub data Settled : Tree Label → Type 0 where
  nil : Settled none
  next : {l : Label} {a b : ℕ} {t u : Tree Label} → All (Lies a b) u → Settled t → Settled (made l a b (more t u))

-- a name of a kept statement has the new number of its symbol
pub data Renumbers (ts : List ℕ) (c : ℕ → Bool) (σ σ' f ρ : ℕ → ℕ) : Tree Label → Type 0 where
  nil : Renumbers ts c σ σ' f ρ none
  next : {l : Label} {a b : ℕ} {t u : Tree Label} → (c (items t) ≡ true → (i : ℕ) → a ≤ i → i < b → is_name ts i ≡ true → σ' (f i) ≡ ρ (σ i)) → Renumbers ts c σ σ' f ρ t → Renumbers ts c σ σ' f ρ (made l a b (more t u))

module _ (c : ℕ → Bool) (ρ : ℕ → ℕ) (w : Rows) where
  root_append : (xs ys : List ℕ) → root_links c ρ w (xs ++ ys) ≡ root_links c ρ w xs ++ root_links c ρ w ys
  unfolding root_links
  root_append [] ys = refl
  root_append (x ∷ xs) ys = rw (root_append xs ys)

  -- where no row stays, nothing is added
  none_kept : (n d : ℕ) → ((i : ℕ) → n ≤ i → i < n + d → stays c w i ≡ false) → (rows_kept c w (n + d) ≡ rows_kept c w n) × (packed_links c ρ w (n + d) ≡ packed_links c ρ w n)
  unfolding rows_kept packed_links
  none_kept n zero h = let z : n + 0 ≡ n = omega arith in rw z (refl, refl)
  none_kept n (suc d) h =
      let z : n + suc d ≡ suc (n + d) = omega arith in
      let (p, q) = none_kept n d (λ i l m. h i l (omega arith)) in
      rw (z, h (n + d) (omega arith) (omega arith)) (omega (arith, p), append-nil (packed_links c ρ w (n + d)) ∙ q)

-- what is moved stands as often in what is moved
times_map : (g : ℕ → ℕ) (j : ℕ) (xs : List ℕ) → 0 < times j xs → 0 < times (g j) (map g xs)
times_map g j [] h = h
times_map g j (x ∷ xs) h = pick (eqb j x) refl h (times_map g j xs)
  where
    pick : (b : Bool) → eqb j x ≡ b → 0 < cond b 1 0 + times j xs → (0 < times j xs → 0 < times (g j) (map g xs)) → 0 < times (g j) (g x ∷ map g xs)
    pick true q k r = rw (eq-eqb (g j) (g x) (ap g (eqb-true j x q))) (omega arith)
    pick false q k r = omega (arith, r (omega arith))

-- of what items begin with
settled_at : {t t₀ : Tree Label} → Initial t t₀ → Settled t₀ → Settled t
settled_at Initial.same s = s
settled_at (Initial.further i) (Settled.next l s) = settled_at i s

renumbers_at : {ts : List ℕ} {c : ℕ → Bool} {σ σ' f ρ : ℕ → ℕ} {t t₀ : Tree Label} → Initial t t₀ → Renumbers ts c σ σ' f ρ t₀ → Renumbers ts c σ σ' f ρ t
renumbers_at Initial.same s = s
renumbers_at (Initial.further i) (Renumbers.next w s) = renumbers_at i s

keeps_at : {ts ts' : List ℕ} {c : ℕ → Bool} {f span : ℕ → ℕ} {t t₀ : Tree Label} → Initial t t₀ → Keeps ts ts' c f span t₀ → Keeps ts ts' c f span t
keeps_at Initial.same q = q
keeps_at (Initial.further i) (Keeps.stays z k q) = keeps_at i q
keeps_at (Initial.further i) (Keeps.goes z y q) = keeps_at i q

both_parts : {xs ys us vs : List ℕ} → xs ≡ us → ys ≡ vs → xs ++ ys ≡ us ++ vs
both_parts p q = rw (p, q)

line_same : {s e x y x' y' : ℕ} → s ≡ 0 → e ≡ 0 → x ≡ x' → y ≡ y' → lined (number_of Node.Block ∷ 0 ∷ 0 ∷ x ∷ y ∷ absent ∷ []) absent ≡ number_of Node.Block ∷ s ∷ e ∷ x' ∷ y' ∷ absent ∷ 0 ∷ 0 ∷ 0 ∷ absent ∷ []
line_same p q r t = rw (p, q, r, t)

same_rows : {w v : Rows} → w.nodes ≡ v.nodes → w.links ≡ v.links → w ≡ v
same_rows {w} {v} p q = ap (λ x. of x w.links) p ∙ ap (λ x. of v.nodes x) q
  where
    of : List ℕ → List ℕ → Rows
    of x y = record { nodes = x; links = y }

false_true : false ≡ true → ⊥
false_true h = let x : ◌≡◌ {A = ℕ} 0 1 = cc in omega (arith, x)

weaken : {P Q : Label → ℕ → ℕ → Type 0} {t : Tree Label} → ((l : Label) (x y : ℕ) → P l x y → Q l x y) → All P t → All Q t
weaken f All.nothing = All.nothing
weaken f (All.two p q) = All.two (weaken f p) (weaken f q)
weaken f (All.under p) = All.under (weaken f p)
weaken f (All.at {l = l} {x = x} {y = y} p q) = All.at (f l x y p) (weaken f q)

-- what the kept items begin with
kept_initial : (c : ℕ → Bool) (f : ℕ → ℕ) {t t₀ : Tree Label} → Initial t t₀ → Initial (kept c f none t) (kept c f none t₀)
unfolding kept
kept_initial c f Initial.same = Initial.same
kept_initial c f {t = t} (Initial.further {l = l} {a = a} {b = b} {s = s} {u = u} i) = pick (c (items s)) (kept_initial c f i)
  where
    pick : (b₁ : Bool) → Initial (kept c f none t) (kept c f none s) → Initial (kept c f none t) (cond b₁ (made l (f a) (f b) (more (kept c f none s) (replaced f u))) (kept c f none s))
    pick true j = Initial.further j
    pick false j = j

module _ (e : Edition) (ts ts' : List ℕ) (σ σ' : ℕ → ℕ) (c : ℕ → Bool) (f ρ : ℕ → ℕ) (n : ℕ) {t₀ : Tree Label} (i₀ : Items e (kind ts) n t₀) (i₁ : Items e (kind ts') (f n) (kept c f none t₀)) (few : height (written ts σ (made Label.Script 0 n t₀)) ≤ absent) where
  -- the old rows and the new ones, before and after the parents are put in
  abbrev U : Rows
  U = unparented ts σ (made Label.Script 0 n t₀)

  abbrev F : Rows
  F = written ts σ (made Label.Script 0 n t₀)

  abbrev U' : Rows
  U' = unparented ts' σ' (made Label.Script 0 (f n) (kept c f none t₀))

  abbrev F' : Rows
  F' = written ts' σ' (made Label.Script 0 (f n) (kept c f none t₀))

  -- where rows go
  abbrev m : Move
  m = record { node = rows_kept c F; first = λ l. l; span = λ x. x; symbol = ρ }

  abbrev first : ℕ → ℕ → ℕ
  first i l = l - links_before F i + links_kept c F i

  abbrev P : ℕ → List ℕ
  P = packed_links c ρ F

  -- a row's own numbers have no parent in them
  same_own : (i : ℕ) → i < height U → own F i ≡ own U i
  unfolding written
  same_own i h = parented_own U (before_whole ts σ i₀ n).nodes i h

  same_row : (i : ℕ) → i < height U → row_links F i ≡ row_links U i
  unfolding row_links
  same_row i h = ap (λ o. list_links (layout Edition.second (get_or o 0 0)) (drop 3 o)) (same_own i h)

  same_links : (g : Move) (i : ℕ) → i < height U → moved_links g F i ≡ moved_links g U i
  unfolding moved_links written
  same_links g i h = ap (λ o. moved_lists g U.links (layout Edition.second (get_or o 0 0)) (drop 3 o)) (same_own i h)

  same_before : (i : ℕ) → i ≤ height U → links_before F i ≡ links_before U i
  unfolding links_before
  same_before zero h = refl
  same_before (suc i) h = rw (same_before i (omega arith), same_row i h)

  -- a row that stays
  step : (i : ℕ) → i < height U → stays c F i ≡ true → Step m first P U U' i
  unfolding rows_kept packed_links
  step i h s = record {
    node_next = rw s (omega arith);
    links_next = rw s (ap (λ x. packed_links c ρ F i ++ x) (same_links (packing c ρ F i) i h));
    lead = λ k. omega (arith, same_before i (omega arith), packed_links_length c F ρ i);
  }

  -- the tokens of the nodes of a kept statement
  toks : (a b : ℕ) → ((i : ℕ) → a ≤ i → i < b → Kin ts ts' f (λ x. x) i) → ((i : ℕ) → a ≤ i → i < b → is_name ts i ≡ true → σ' (f i) ≡ ρ (σ i)) → (l : Label) (x y : ℕ) → Lies a b l x y → Toks e ts ts' σ σ' f m first P U U' l x y
  toks a b kin words l x y p = λ o.
      let less = p.some o in
      let k = kin (y - 1) (omega (arith, p.from)) (omega (arith, p.upto)) in
      let d : y - 1 + 1 ≡ y = omega arith in
      let s : f y ≡ f (y - 1) + 1 = rw d at k.step in
      let q : f y - 1 ≡ f (y - 1) = omega arith in
      record { first = kin x p.from (omega (arith, p.upto)); word_is = words x p.from (omega (arith, p.upto)); close = ap (λ j. end ts' j) q ∙ k.end_is; after = λ i. (kin y (omega (arith, p.from)) (p.after i)).end_is }

  -- so far: what the items t have become, and the statements that are kept of them
  record Packing (t t' : Tree Label) (is : List ℕ) : Type 0 where
    pub place : Place m first P U U' (walk ts σ t blank).rows (walk ts' σ' t' blank).rows
    pub each : (i : ℕ) → i < height (walk ts σ t blank).rows → stays c F i ≡ true → RowLike m first P U U' i
    pub rest : (walk ts' σ' t' blank).rest ≡ []
    pub list : links_of (walk ts' σ' t' blank).first ≡ root_links c ρ F is

  -- one statement more in the root's list
  sent_link : {h : Handle} → IsStatement h → row h < absent → links_of (moved_handle m h ∷ []) ≡ root_links c ρ F (row h ∷ [])
  unfolding links_of root_links
  sent_link (IsStatement.a_node {i = i}) l = rw (ne_eqb i absent (λ q. omega arith))
  sent_link (IsStatement.an_end {i = i}) l = rw (ne_eqb i absent (λ q. omega arith))

  list_next : (hs : List Handle) {rs gs os : List Handle} {h : Handle} (is : List ℕ) {i : ℕ} → IsStatement h → row h < absent → row h ≡ i → rs ≡ [] → gs ≡ moved_handle m h ∷ [] → os ≡ [] → links_of hs ≡ root_links c ρ F is → links_of ((hs ++ rs) ++ (gs ++ os)) ≡ root_links c ρ F (is ++ (i ∷ []))
  list_next hs {h = h} is s l o p q r x = rw (p, q, r, ← o, append-nil hs) (links_append hs (moved_handle m h ∷ []) ∙ rw (x, sent_link s l) (sym (root_append c ρ F is (row h ∷ []))))

  module _ {a b : ℕ} {t u t' : Tree Label} {is : List ℕ} (j : Initial (made Label.Item a b (more t u)) t₀) (g : Packing t t' is) where
    abbrev w : Rows
    w = (walk ts σ t blank).rows

    abbrev v : Rows
    v = (walk ts' σ' t' blank).rows

    last_is : height (walk ts σ u w).rows ≡ suc (statement F (items t))
    last_is = sym (statement_last ts σ i₀ n j)

    after_later : Later (walk ts σ u w).rows U
    unfolding walk make
    after_later = initial_before ts σ i₀ n j

    -- the new rows stay as they are
    goes : c (items t) ≡ false → Packing (made Label.Item a b (more t u)) t' is
    unfolding walk make ok shape table
    goes z =
        let (p, x) = initial_items i₀ j in
        let d = height (walk ts σ u w).rows - height w in
        let o : height w + d ≡ height (walk ts σ u w).rows = omega (arith, taller (walk_later ts σ u w)) in
        let gone : (i : ℕ) → height w ≤ i → i < height (walk ts σ u w).rows → stays c F i ≡ false = λ i h l. stays_as ts σ i₀ n few c j i h (omega (arith, last_is)) ∙ z in
        let (q, r) = none_kept c ρ F (height w) d (λ i h l. gone i h (omega arith)) in
        let y = covers e ts σ x tt g.place.old after_later (record { links = g.place.before }) in
        record {
          place = record { old = (grows e ts σ x tt g.place.old).whole; new = g.place.new; rows = g.place.rows ∙ sym (rw o at q); before = y.links; links = g.place.links ∙ sym (rw o at r) };
          each = λ i h s. elim (dec_lt i (height w)) [ yes k ↦ g.each i k s | no k ↦ absurd (false_true (sym (gone i (omega arith) h) ∙ s)) ];
          rest = g.rest;
          list = g.list;
        }

    -- the new rows go on as the old ones do
    stay : c (items t) ≡ true → All (Lies a b) u → ((i : ℕ) → a ≤ i → i < b → Kin ts ts' f (λ x. x) i) → ((i : ℕ) → a ≤ i → i < b → is_name ts i ≡ true → σ' (f i) ≡ ρ (σ i)) → Later (walk ts' σ' (replaced f u) v).rows U' → Packing (made Label.Item a b (more t u)) (made Label.Item (f a) (f b) (more t' (replaced f u))) (is ++ (statement F (items t) ∷ []))
    unfolding walk make ok shape table suits fine
    stay z lies kin words later =
        let (p, x) = initial_items i₀ j in
        let y = statement_ends e ts σ x w in
        let high = height (walk ts σ u w).rows in
        let steps : (i : ℕ) → height w ≤ i → i < high → Step m first P U U' i = λ i h l. step i (omega (arith, taller after_later)) (stays_as ts σ i₀ n few c j i h (omega (arith, last_is)) ∙ z) in
        let al = alike e ts ts' σ σ' f m first P U U' (height w) high (omega (arith, few, taller after_later, before_height ts σ i₀ n, script_height ts σ i₀ n)) steps x tt tt tt (weaken (toks a b kin words) lies) g.place (omega arith) (omega arith) after_later later in
        record {
          place = al.place;
          each = λ i h s. elim (dec_lt i (height w)) [ yes k ↦ g.each i k s | no k ↦ al.each i (omega arith) h ];
          rest = refl;
          list = list_next (walk ts' σ' t' blank).first is y.sort (omega (arith, few, script_height ts σ i₀ n, y.tall, taller after_later, before_height ts σ i₀ n)) (omega (arith, y.tall, last_is)) g.rest (al.first_is ∙ ap (moved_all m) y.made) (al.rest_is ∙ ap (moved_all m) y.alone) g.list;
        }

  blank_packing : Packing none none []
  unfolding walk rows_kept links_before packed_links links_of root_links
  blank_packing = record { place = record { old = blank_whole; new = blank_whole; rows = refl; before = refl; links = refl }; each = λ i h s. absurd (omega arith); rest = refl; list = refl }

  -- a kept statement among the new ones
  kept_there : {a b : ℕ} {t u : Tree Label} → Initial (made Label.Item a b (more t u)) t₀ → c (items t) ≡ true → Initial (made Label.Item (f a) (f b) (more (kept c f none t) (replaced f u))) (kept c f none t₀)
  unfolding kept
  kept_there j z = rw z at (kept_initial c f j)

  new_later : {a b : ℕ} {t u : Tree Label} → Initial (made Label.Item a b (more t u)) t₀ → c (items t) ≡ true → Later (walk ts' σ' (replaced f u) (walk ts' σ' (kept c f none t) blank).rows).rows U'
  unfolding walk make
  new_later j z = initial_before ts' σ' i₁ (f n) (kept_there j z)

  packing_all : {k : ℕ} {t : Tree Label} → Items e (kind ts) k t → Initial t t₀ → Settled t → Renumbers ts c σ σ' f ρ t → Keeps ts ts' c f (λ x. x) t → Packing t (kept c f none t) (kept_upto c F (items t))
  unfolding kept items kept_upto
  packing_all Items.nil j s o q = blank_packing
  packing_all (Items.next {t = t} i x) j (Settled.next l s) (Renumbers.next w o) (Keeps.stays z kin q) = rw z (stay j (packing_all i (inner j) s o q) z l kin (w z) (new_later j z))
  packing_all (Items.next {t = t} i x) j (Settled.next l s) (Renumbers.next w o) (Keeps.goes z y q) = rw (z, append-nil (kept_upto c F (items t))) (goes j (packing_all i (inner j) s o q) z)

  -- where a row goes that is there
  sent_is : (i : ℕ) → i < absent → sent m i ≡ rows_kept c F i
  sent_is i h = rw (ne_eqb i absent (λ q. omega arith))

  -- once all statements are packed: the parents
  module _ (settled : Settled t₀) (renumbers : Renumbers ts c σ σ' f ρ t₀) (keeps : Keeps ts ts' c f (λ x. x) t₀) where
    all : {k : ℕ} {t : Tree Label} → Items e (kind ts) k t → Initial t t₀ → Packing t (kept c f none t) (kept_upto c F (items t))
    all i j = packing_all i j (settled_at j settled) (renumbers_at j renumbers) (keeps_at j keeps)

    abbrev R : ℕ
    R = height (walk ts σ t₀ blank).rows

    abbrev R' : ℕ
    R' = height (walk ts' σ' (kept c f none t₀) blank).rows

    root_goes : R' ≡ rows_kept c F R
    root_goes = (all i₀ Initial.same).place.rows

    row_goes : (i : ℕ) → i < R → stays c F i ≡ true → RowLike m first P U U' i
    row_goes = (all i₀ Initial.same).each

    few_new : height F' ≤ absent
    few_new = omega (arith, few, script_height ts σ i₀ n, script_height ts' σ' i₁ (f n), root_goes, rows_kept_most c F R)

    -- a row that stays, in its statement
    module _ {a b : ℕ} {t u : Tree Label} (j : Initial (made Label.Item a b (more t u)) t₀) (z : c (items t) ≡ true) where
      abbrev S : ℕ
      S = height (walk ts σ t blank).rows

      abbrev L : ℕ
      L = statement F (items t)

      below_root : L < R
      below_root = last_below ts σ i₀ n few j

      here_stays : (i : ℕ) → S ≤ i → i ≤ L → stays c F i ≡ true
      here_stays i h l = stays_as ts σ i₀ n few c j i h l ∙ z

      inside_parent : (i : ℕ) → S ≤ i → i < L → tenth F' (rows_kept c F i) ≡ sent m (tenth F i)
      inside_parent i h l =
          let q = inside ts σ i₀ n few j i h l in
          let p = tenth F i in
          let there = here_stays p (omega (arith, q.later)) q.upto in
          let r = row_goes p (omega (arith, q.upto, below_root)) there in
          let y : 0 < times (rows_kept c F i) (named_by U' (rows_kept c F p)) = rw (r.names_are, ← sent_is i (omega (arith, few, script_height ts σ i₀ n, below_root))) (times_map (sent m) i (named_by U p) q.names) in
          let b₁ = rows_kept_before c F i R (here_stays i h (omega arith)) (omega (arith, below_root)) in
          let b₂ = rows_kept_before c F p R there (omega (arith, q.upto, below_root)) in
          parent_is ts' σ' i₁ (f n) few_new (rows_kept c F i) (rows_kept c F p) (omega (arith, root_goes)) (omega (arith, root_goes, before_height ts' σ' i₁ (f n))) y ∙ sym (sent_is p (omega (arith, q.upto, few, script_height ts σ i₀ n, below_root)))

      after_goes : height (walk ts' σ' (replaced f u) (walk ts' σ' (kept c f none t) blank).rows).rows ≡ rows_kept c F (height (walk ts σ u (walk ts σ t blank).rows).rows)
      unfolding kept walk make
      after_goes = let (p, x) = initial_items i₀ j in rw z at (all (Items.next p x) j).place.rows

      last_goes : statement F' (items (kept c f none t)) ≡ rows_kept c F L
      last_goes =
          let k = ap (rows_kept c F) (after_is ts σ i₀ n few j) ∙ rows_kept_next c F L (here_stays L (start_below ts σ i₀ n few j) (omega arith)) in
          omega (arith, k, after_goes, after_is ts' σ' i₁ (f n) few_new (kept_there j z))

      last_parents : tenth F' (rows_kept c F L) ≡ sent m (tenth F L)
      last_parents = ap (λ i. tenth F' i) (sym last_goes) ∙ last_parent ts' σ' i₁ (f n) few_new (kept_there j z) ∙ root_goes ∙ sym (sent_is R (omega (arith, few, script_height ts σ i₀ n))) ∙ ap (sent m) (sym (last_parent ts σ i₀ n few j))

    parents_go : {k : ℕ} {t : Tree Label} → Items e (kind ts) k t → Initial t t₀ → (i : ℕ) → i < height (walk ts σ t blank).rows → stays c F i ≡ true → tenth F' (rows_kept c F i) ≡ sent m (tenth F i)
    unfolding walk make
    parents_go Items.nil j i h s = absurd (omega arith)
    parents_go (Items.next {t = t} {u = u} p x) j i h s = place (dec_lt i (height (walk ts σ t blank).rows)) (λ l. parents_go p (inner j) i l s)
      where
        place : Dec (i < height (walk ts σ t blank).rows) → (i < height (walk ts σ t blank).rows → tenth F' (rows_kept c F i) ≡ sent m (tenth F i)) → tenth F' (rows_kept c F i) ≡ sent m (tenth F i)
        place (yes l) r = r l
        place (no l) r =
            let o = after_is ts σ i₀ n few j in
            let z : c (items t) ≡ true = sym (stays_as ts σ i₀ n few c j i (omega arith) (omega arith)) ∙ s in
            elim (dec_lt i (statement F (items t))) [
              | yes d ↦ inside_parent j z i (omega arith) d
              | no d ↦ let q : i ≡ statement F (items t) = omega arith in rw q (last_parents j z)
            ]

    -- a row with its parent
    own_packed : (k : ℕ) → k < R → stays c F k ≡ true → own U' (rows_kept c F k) ≡ moved_own (packing c ρ F k) F k
    own_packed k h z = (row_goes k h z).own_is ∙ ap (λ o. get_or o 0 0 ∷ get_or o 1 0 ∷ get_or o 2 0 ∷ moved_numbers (packing c ρ F k) (layout Edition.second (get_or o 0 0)) (drop 3 o)) (sym (same_own k (omega (arith, before_height ts σ i₀ n))))

    parent_packed : (k : ℕ) → k < R → stays c F k ≡ true → parent U' (height U') (rows_kept c F k) ≡ moved_node (packing c ρ F k) (tenth F k)
    unfolding written moved_node
    parent_packed k h z = sym (parented_tenth U' (before_whole ts' σ' i₁ (f n)).nodes (rows_kept c F k) (omega (arith, rows_kept_before c F k R z h, root_goes, before_height ts' σ' i₁ (f n)))) ∙ parents_go i₀ Initial.same k h z

    row_packed : (k : ℕ) → k < R → stays c F k ≡ true → own U' (rows_kept c F k) ++ parent U' (height U') (rows_kept c F k) ∷ [] ≡ moved_row (packing c ρ F k) F k
    unfolding moved_row
    row_packed k h z = rw (own_packed k h z, parent_packed k h z)

    -- all rows
    below_packed : (k : ℕ) → k ≤ R → parented_below U' (rows_kept c F k) ≡ packed_nodes c ρ F k
    unfolding parented_below rows_kept packed_nodes
    below_packed zero h = refl
    below_packed (suc k) h = pick (stays c F k) refl (below_packed k (omega arith))
      where
        pick : (b : Bool) → stays c F k ≡ b → parented_below U' (rows_kept c F k) ≡ packed_nodes c ρ F k → parented_below U' (rows_kept c F k + cond b 1 0) ≡ packed_nodes c ρ F k ++ cond b (moved_row (packing c ρ F k) F k) []
        pick true z r = let y : rows_kept c F k + 1 ≡ suc (rows_kept c F k) = omega arith in ap (parented_below U') y ∙ rw (r, row_packed k h z)
        pick false z r = let y : rows_kept c F k + 0 ≡ rows_kept c F k = omega arith in rw y (r ∙ sym (append-nil (packed_nodes c ρ F k)))

    root_is : root_row F ≡ R
    root_is = omega (arith, script_height ts σ i₀ n)

    abbrev handles : List Handle
    handles = (walk ts' σ' (kept c f none t₀) blank).first

    list_packed : links_of handles ≡ root_links c ρ F (kept-rows c F)
    list_packed = (all i₀ Initial.same).list ∙ ap (λ k. root_links c ρ F (kept_upto c F k)) (sym (statements_count ts σ i₀ n))

    many : length handles ≡ length (kept-rows c F)
    many = omega (arith, ap length list_packed, links_length handles, root_links_length c F ρ (kept-rows c F))

    body_links : (walk ts' σ' (kept c f none t₀) blank).rows.links ≡ packed_links c ρ F (root_row F)
    body_links = (all i₀ Initial.same).place.links ∙ ap (packed_links c ρ F) (sym root_is)

    links_packed : F'.links ≡ packed_links c ρ F (root_row F) ++ root_links c ρ F (kept-rows c F)
    unfolding written
    links_packed = (script_rooted ts' σ' (f n) (kept c f none t₀)).links ∙ ap (λ x. x ++ links_of handles) body_links ∙ ap (λ x. packed_links c ρ F (root_row F) ++ x) list_packed

    line_packed : lined (number_of Node.Block ∷ 0 ∷ 0 ∷ link_count (walk ts' σ' (kept c f none t₀) blank).rows ∷ length handles ∷ absent ∷ []) absent ≡ root_line c ρ F
    unfolding written
    line_packed =
        let o = root_own (body_whole ts σ i₀ n) (script_rooted ts σ n t₀) in
        let l : link_count (walk ts' σ' (kept c f none t₀) blank).rows ≡ links_kept c F (root_row F) = omega (arith, ap length body_links, packed_links_length c F ρ (root_row F)) in
        line_same (ap (λ x. get_or x 1 0) o) (ap (λ x. get_or x 2 0) o) l many

    nodes_packed : F'.nodes ≡ packed_nodes c ρ F (root_row F) ++ root_line c ρ F
    unfolding written
    nodes_packed =
        let h : height U' - 1 ≡ rows_kept c F R = omega (arith, before_height ts' σ' i₁ (f n), root_goes) in
        parented_root U' (before_whole ts' σ' i₁ (f n)).nodes (one_tree ts' σ' i₁ (f n) few_new) (walk ts' σ' (kept c f none t₀) blank).rows.nodes (number_of Node.Block ∷ 0 ∷ 0 ∷ link_count (walk ts' σ' (kept c f none t₀) blank).rows ∷ length handles ∷ absent ∷ []) (script_rooted ts' σ' (f n) (kept c f none t₀)).nodes ∙ both_parts (ap (parented_below U') h ∙ below_packed R (omega arith) ∙ ap (packed_nodes c ρ F) (sym root_is)) line_packed

-- the new script's rows are the old ones, packed
pub rows_dropped : (e : Edition) (ts ts' : List ℕ) (σ σ' : ℕ → ℕ) (c : ℕ → Bool) (f : ℕ → ℕ) (ρ : ℕ → ℕ) (n : ℕ) {t₀ : Tree Label} → Items e (kind ts) n t₀ → Items e (kind ts') (f n) (kept c f none t₀) → Settled t₀ → Keeps ts ts' c f (λ x. x) t₀ → Renumbers ts c σ σ' f ρ t₀ → height (written ts σ (made Label.Script 0 n t₀)) ≤ absent → written ts' σ' (made Label.Script 0 (f n) (kept c f none t₀)) ≡ packed_with c ρ (written ts σ (made Label.Script 0 n t₀))
unfolding packed_with
rows_dropped e ts ts' σ σ' c f ρ n i₀ i₁ s q o few = same_rows (nodes_packed e ts ts' σ σ' c f ρ n i₀ i₁ few s o q) (links_packed e ts ts' σ σ' c f ρ n i₀ i₁ few s o q)
