-- A reading looks at the tokens up to the one where it ends, and there at the kind alone, but for an import's row. An expression asks there whether it goes on, and a `;`
-- gives the same answer as an Eof: so an expression that ends at an Eof is read, as the same tree with the same rows, where a `;` stands in its place.
use Prim.Native.Nat.{ℕ, zero, suc, ◌-◌, ◌≤◌, ◌<◌}
use mathlib.Core.Bool.{Bool, true, false, cond, not, ◌&&◌, ◌||◌}
use mathlib.Core.List.{List}
use mathlib.Core.Path.{◌≡◌, refl, sym, ap, ◌∙◌}
use native.Mathlib.Decide.{dec_lt}
use native.Mathlib.Omega.{arith}
use lib.Dec.{eqb, T}
use borrow.Author.Tests.{eq-eqb}
use Rattle.grammar.specs.Edition.{Edition}
use Rattle.grammar.specs.Kaori.{Table, Form, above, expression, rules, kaori}
use Rattle.grammar.specs.Kind.{Semicolon, Eof}
use Rattle.grammar.specs.Label.{Node, Label, number_of}
use Rattle.grammar.specs.Phrase.{empty, token, part, nested, node, choice, chain, once, refusal, Grammar, Tree, Aim, whole, Reads}
use Rattle.grammar.specs.Rows.{Rows, walk}
use Rattle.grammar.specs.Token.{kind, start, end}
use Rattle.grammar.proofs.Asking.{Agree, more_same, made_same}
use Rattle.grammar.proofs.Follow.{forth}
use Rattle.grammar.proofs.Machine.{asked}
use Rattle.grammar.proofs.Tables.{each, in_tables}
use Rattle.grammar.proofs.Tests.{both}

-- a table that an expression may look at where it ends: it has for Eof what it has for `;`
abbrev blind : Table → Bool
blind Table.statement = false
blind Table.returned = false
blind Table.bindings = false
blind Table.path_name = false
blind Table.otherwise = true
blind Table.branch = true
blind Table.operand = true
blind Table.body = true
blind Table.value = false
blind (Table.comma z) = false
blind Table.script_items = false
blind Table.block_items = false
blind Table.arguments = false
blind Table.entries = false
blind (Table.names z) = false
blind Table.may_end = false
blind Table.must_end = false
blind Table.assigned = false
blind Table.dots = false
blind Table.calls = true
blind (Table.operators n) = true

-- a form that begins with a token, and that one is no Eof
unfoldable solid : Form → Bool
solid empty = false
solid (token x p) = not (eqb x Eof)
solid (part p q) = solid p
solid (nested k p) = solid p
solid (node f p) = solid p
solid (choice n) = false
solid (chain p n) = false
solid (once p n) = false
solid (refusal e) = false

-- the row of an import looks at the token after it
abbrev looks_on : Label → Bool
looks_on (Label.Row n) = eqb (number_of n) (number_of Node.Import)
looks_on Label.Script = false
looks_on Label.Ended = false
looks_on Label.Item = false
looks_on Label.Entry = false
looks_on Label.Name = false

-- a form that looks at such tables alone where it ends, if it ends at an Eof: before what begins with a token it does not end there
unfoldable steady : Form → Bool
steady empty = true
steady (token x p) = steady p
steady (part p q) = (solid q || steady p) && steady q
steady (nested k p) = steady p
steady (node f p) = solid p && (not (looks_on f) && steady p)
steady (choice n) = blind n
steady (chain p n) = blind n && steady p
steady (once p n) = blind n && steady p
steady (refusal e) = true

abbrev fit : Table → Form → Bool
fit n p = cond (blind n) (steady p) true

tables_fit : (e : Edition) (n : Table) → T (each (fit n) (rules e n).0 (rules e n).1) × (T (blind n) → kaori e n Semicolon ≡ kaori e n Eof)
unfolding kaori rules solid steady above
tables_fit e Table.statement = (tt, λ h. absurd h)
tables_fit Edition.first Table.returned = (tt, λ h. absurd h)
tables_fit Edition.second Table.returned = (tt, λ h. absurd h)
tables_fit e Table.bindings = (tt, λ h. absurd h)
tables_fit e Table.path_name = (tt, λ h. absurd h)
tables_fit e Table.otherwise = (tt, λ h. refl)
tables_fit e Table.branch = (tt, λ h. refl)
tables_fit Edition.first Table.operand = (tt, λ h. refl)
tables_fit Edition.second Table.operand = (tt, λ h. refl)
tables_fit e Table.body = (tt, λ h. refl)
tables_fit e Table.value = (tt, λ h. absurd h)
tables_fit e (Table.comma z) = (tt, λ h. absurd h)
tables_fit e Table.script_items = (tt, λ h. absurd h)
tables_fit e Table.block_items = (tt, λ h. absurd h)
tables_fit e Table.arguments = (tt, λ h. absurd h)
tables_fit e Table.entries = (tt, λ h. absurd h)
tables_fit e (Table.names z) = (tt, λ h. absurd h)
tables_fit e Table.may_end = (tt, λ h. absurd h)
tables_fit e Table.must_end = (tt, λ h. absurd h)
tables_fit e Table.assigned = (tt, λ h. absurd h)
tables_fit e Table.dots = (tt, λ h. absurd h)
tables_fit e Table.calls = (tt, λ h. refl)
tables_fit e (Table.operators zero) = (tt, λ h. refl)
tables_fit e (Table.operators (suc zero)) = (tt, λ h. refl)
tables_fit e (Table.operators (suc (suc zero))) = (tt, λ h. refl)
tables_fit e (Table.operators (suc (suc (suc zero)))) = (tt, λ h. refl)
tables_fit e (Table.operators (suc (suc (suc (suc zero))))) = (tt, λ h. refl)
tables_fit e (Table.operators (suc (suc (suc (suc (suc zero)))))) = (tt, λ h. refl)
tables_fit e (Table.operators (suc (suc (suc (suc (suc (suc n))))))) = (tt, λ h. refl)

implied : (a b : Bool) → T (cond a b true) → T a → T b
implied true b h i = h
implied false b h i = absurd i

other : (a b : Bool) → T (a || b) → (T a → ⊥) → T b
other true b h i = absurd (i tt)
other false b h i = h

steady_entry : (e : Edition) (n : Table) (x : ℕ) {p : Form} → kaori e n x ≡ p → T (blind n) → T (steady p)
steady_entry e n x {p} k = implied (blind n) (steady p) (rw k at (in_tables e fit (λ m. (tables_fit e m).0) n x))

-- from a node to what is in it
inside : (f : Label) (p : Form) → T (steady (node f p)) → T (steady p)
unfolding steady
inside f p h = (both (not (looks_on f)) (steady p) (both (solid p) (not (looks_on f) && steady p) h).1).1

-- what begins with a token takes it
solid_takes : {G : Grammar Table Label} {kind : ℕ → ℕ} {p : Form} {a b : ℕ} {t : Tree Label} → Reads G kind (whole p) a b t → T (solid p) → (a < b) × (kind a ≡ Eof → ⊥)
unfolding solid
solid_takes Reads.nothing h = absurd h
solid_takes (Reads.taken {x = x} k r) h = (omega (arith, forth r), λ i. let z : x ≡ Eof = sym k ∙ i in rw (eq-eqb x Eof z) at h)
solid_takes (Reads.both x y) h = let (i, j) = solid_takes x h in (omega (arith, forth y), j)
solid_takes (Reads.opened x) h = solid_takes x h
solid_takes (Reads.labelled x) h = solid_takes x h
solid_takes (Reads.chosen k x) h = absurd h
solid_takes (Reads.ended l k) h = absurd h
solid_takes (Reads.alone x k) h = absurd h
solid_takes (Reads.joined x k y) h = absurd h

-- token i is the same in two lists
pub record SameToken (ts us : List ℕ) (i : ℕ) : Type 0 where
  pub kinds : kind ts i ≡ kind us i
  pub starts : start ts i ≡ start us i
  pub ends : end ts i ≡ end us i

-- two lists with their symbols that are the same below n, where the one has Eof and the other `;`
module _ (e : Edition) (ts us : List ℕ) (σ τ : ℕ → ℕ) (n : ℕ) (eof : kind ts n ≡ Eof) (semicolon : kind us n ≡ Semicolon) (same : (i : ℕ) → i < n → SameToken ts us i) (symbols : (i : ℕ) → i < n → σ i ≡ τ i) where
  -- what is read of the one is read of the other, with the same rows
  pub record Carried (m : Aim Table Label) (a b : ℕ) (t : Tree Label) : Type 0 where
    pub reads : Reads (kaori e) (kind us) m a b t
    pub rows : (w : Rows) → walk ts σ t w ≡ walk us τ t w

  entry_same : (m : Table) (a : ℕ) {p : Form} → a ≤ n → (a ≡ n → T (blind m)) → kaori e m (kind ts a) ≡ p → kaori e m (kind us a) ≡ p
  entry_same m a l h k = elim (dec_lt a n) [
    | yes i ↦ ap (kaori e m) (sym (same a i).kinds) ∙ k
    | no i ↦ let z : a ≡ n = omega arith in ap (λ j. kaori e m (kind us j)) z ∙ ap (kaori e m) semicolon ∙ (tables_fit e m).1 (h z) ∙ ap (kaori e m) (sym eof) ∙ ap (λ j. kaori e m (kind ts j)) (sym z) ∙ k
  ]

  node_agrees : (f : Label) {p : Form} {a b : ℕ} {t : Tree Label} → Reads (kaori e) (kind ts) (whole p) a b t → b ≤ n → (b ≡ n → T (steady (node f p))) → Agree ts us σ τ f a b
  unfolding steady
  node_agrees f {p} {a} {b} x l h = elim (dec_lt b n) [
    | yes i ↦ agrees (omega (arith, forth x)) (omega arith) (λ j. (same b i).ends)
    | no i ↦
        let (u, v) = both (solid p) (not (looks_on f) && steady p) (h (omega arith)) in
        let j = (solid_takes x u).0 in
        agrees (omega arith) (omega arith) (λ k. absurd (rw k at (both (not (looks_on f)) (steady p) v).0))
  ]
    where
      agrees : a < n → b - 1 < n → (f ≡ Label.Row Node.Import → end ts b ≡ end us b) → Agree ts us σ τ f a b
      agrees i j k = let z = same a i in record { kinds = z.kinds; starts = z.starts; ends = z.ends; last = (same (b - 1) j).ends; after = k; word = λ u. symbols a i }

  carried : {m : Aim Table Label} {a b : ℕ} {t : Tree Label} → Reads (kaori e) (kind ts) m a b t → b ≤ n → (b ≡ n → T (steady (asked m))) → Carried m a b t
  unfolding steady walk
  carried Reads.nothing l h = record { reads = Reads.nothing; rows = λ w. refl }
  carried (Reads.taken {a = a} k x) l h = let c = carried x l h in record { reads = Reads.taken (sym (same a (omega (arith, forth x))).kinds ∙ k) c.reads; rows = c.rows }
  carried (Reads.both {b = b} {p = p} {q = q} {t = t} {u = u} x y) l h =
      let d = carried y l (λ j. (both (solid q || steady p) (steady q) (h j)).1) in
      let c = carried x (omega (arith, forth y)) (λ j. other (solid q) (steady p) (both (solid q || steady p) (steady q) (h (omega (arith, forth y)))).0 (λ k. (solid_takes y k).1 (ap (kind ts) j ∙ eof))) in
      record { reads = Reads.both c.reads d.reads; rows = more_same ts us σ τ t u c.rows d.rows }
  carried (Reads.opened x) l h = let c = carried x l h in record { reads = Reads.opened c.reads; rows = c.rows }
  carried (Reads.labelled {f = f} {a = a} {b = b} {p = p} {t = t} x) l h = let c = carried x l (λ j. inside f p (h j)) in record { reads = Reads.labelled c.reads; rows = made_same ts us σ τ f a b t (node_agrees f x l h) c.rows }
  carried (Reads.chosen {n = m} {a = a} k x) l h = let c = carried x l (λ j. steady_entry e m _ k (h j)) in record { reads = Reads.chosen (entry_same m a (omega (arith, forth x)) (λ j. h (omega (arith, forth x))) k) c.reads; rows = c.rows }
  carried (Reads.first {n = m} {p = p} x) l h = let c = carried x l (λ j. (both (blind m) (steady p) (h j)).1) in record { reads = Reads.first c.reads; rows = c.rows }
  carried (Reads.link {n = m} {f = f} {b = b} {c = c} {p = p} {q = q} {t = t} {u = u} x k y) l h =
      let on : c ≡ n → T (blind m) = λ j. (both (blind m) (steady p) (h j)).0 in
      let g = carried x (omega (arith, forth y)) (λ j. h (omega (arith, forth y))) in
      let d = carried y l (λ j. inside f q (steady_entry e m _ k (on j))) in
      record { reads = Reads.link g.reads (entry_same m b (omega (arith, forth y)) (λ j. on (omega (arith, forth y))) k) d.reads; rows = made_same ts us σ τ f b c (Tree.more t u) (node_agrees f y l (λ j. steady_entry e m _ k (on j))) (more_same ts us σ τ t u g.rows d.rows) }
  carried (Reads.ended {n = m} {b = b} {p = p} x k) l h = let c = carried x l h in record { reads = Reads.ended c.reads (entry_same m b l (λ j. (both (blind m) (steady p) (h j)).0) k); rows = c.rows }
  carried (Reads.alone {n = m} {b = b} {p = p} x k) l h = let c = carried x l (λ j. (both (blind m) (steady p) (h j)).1) in record { reads = Reads.alone c.reads (entry_same m b l (λ j. (both (blind m) (steady p) (h j)).0) k); rows = c.rows }
  carried (Reads.joined {n = m} {f = f} {b = b} {c = c} {p = p} {q = q} {t = t} {u = u} x k y) l h =
      let on : c ≡ n → T (blind m) = λ j. (both (blind m) (steady p) (h j)).0 in
      let g = carried x (omega (arith, forth y)) (λ j. (both (blind m) (steady p) (h (omega (arith, forth y)))).1) in
      let d = carried y l (λ j. inside f q (steady_entry e m _ k (on j))) in
      record { reads = Reads.joined g.reads (entry_same m b (omega (arith, forth y)) (λ j. on (omega (arith, forth y))) k) d.reads; rows = made_same ts us σ τ f b c (Tree.more t u) (node_agrees f y l (λ j. steady_entry e m _ k (on j))) (more_same ts us σ τ t u g.rows d.rows) }

  -- of an expression
  pub expression_carried : {a : ℕ} {t : Tree Label} → Reads (kaori e) (kind ts) (whole expression) a n t → Carried (whole expression) a n t
  unfolding steady above
  expression_carried x = carried x (omega arith) (λ j. tt)
