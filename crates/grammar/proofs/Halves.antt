-- A list has at most one item for every two of its tokens, and one more: an item that is not the last has its comma or `;` after it, or takes two tokens itself. So
-- items that wait on a stack, three numbers each, stay below two thirds of a room with three numbers for each token, where the opener of each list pays for its last.
use Prim.Native.Nat.{ℕ, suc, ◌+◌, ◌*◌, ◌≤◌}
use mathlib.Core.Bool.{Bool, true, false, cond, not, false≢true}
use mathlib.Core.List.{[]}
use mathlib.Core.Logic.{◌⊎◌, inl, inr}
use mathlib.Core.Path.{◌≡◌, refl, sym, ◌∙◌}
use native.Mathlib.Omega.{arith}
use lib.Dec.{eqb, leb, T, leb→le, le→leb}
use borrow.Author.Tests.{eq-eqb, eqb-true}
use lib.ListN.{get_or}
use Rattle.grammar.specs.Edition.{Edition}
use Rattle.grammar.specs.Kaori.{Table, Form, name, above, expression, listed, rules, kaori, semicolon}
use Rattle.grammar.specs.Kind.{Comma, RightParen, RightBrace, Semicolon, Eof}
use Rattle.grammar.specs.Label.{Label}
use Rattle.grammar.specs.Operator.{levels}
use Rattle.grammar.specs.Phrase.{empty, token, part, nested, node, choice, chain, once, refusal, Tree, none, more, deeper, made, Aim, whole, begun, Reads}
use Rattle.grammar.proofs.Machine.{asked}
use Rattle.grammar.proofs.Tables.{each, each_mapped, found, in_tables}

-- of a table: how many tokens what it has takes at least; whether a link is missing before `}` alone; and whether nothing is read at a `}`
unfoldable pub traits : Table → ℕ × Bool × Bool
traits Table.statement = (1, false, true)
traits Table.returned = (0, false, false)
traits Table.bindings = (0, false, false)
traits Table.path_name = (0, false, false)
traits Table.otherwise = (0, false, false)
traits Table.branch = (1, false, false)
traits Table.operand = (1, false, true)
traits Table.body = (1, false, false)
traits Table.value = (0, false, false)
traits (Table.comma z) = (0, false, false)
traits Table.script_items = (0, false, false)
traits Table.block_items = (0, false, false)
traits Table.arguments = (0, false, false)
traits Table.entries = (0, false, false)
traits (Table.names z) = (0, false, false)
traits Table.may_end = (0, false, false)
traits Table.must_end = (0, true, false)
traits Table.assigned = (0, false, false)
traits Table.dots = (0, false, false)
traits Table.calls = (0, false, false)
traits (Table.operators n) = (0, false, false)

-- of a form: how many tokens it takes at least, and whether it cannot be read at a `}`
unfoldable pub least : Form → ℕ
least empty = 0
least (token x p) = suc (least p)
least (part p q) = least p + least q
least (nested k p) = least p
least (node f p) = least p
least (choice n) = (traits n).0
least (chain p n) = least p
least (once p n) = least p
least (refusal e) = 1

unfoldable pub avoids : Form → Bool
avoids empty = false
avoids (token x p) = not (eqb RightBrace x)
avoids (part p q) = avoids p
avoids (nested k p) = avoids p
avoids (node f p) = avoids p
avoids (choice n) = (traits n).2
avoids (chain p n) = avoids p
avoids (once p n) = avoids p
avoids (refusal e) = true

enough : Table → Form → Bool
enough n p = leb (traits n).0 (least p)

tables_pass : (e : Edition) (n : Table) → T (each (enough n) (rules e n).0 (rules e n).1) × T (cond (traits n).2 (avoids (kaori e n RightBrace)) true)
unfolding kaori rules least avoids above enough traits
tables_pass e Table.statement = (tt, tt)
tables_pass Edition.first Table.returned = (tt, tt)
tables_pass Edition.second Table.returned = (tt, tt)
tables_pass e Table.bindings = (tt, tt)
tables_pass e Table.path_name = (tt, tt)
tables_pass e Table.otherwise = (tt, tt)
tables_pass e Table.branch = (tt, tt)
tables_pass Edition.first Table.operand = (tt, tt)
tables_pass Edition.second Table.operand = (tt, tt)
tables_pass e Table.body = (tt, tt)
tables_pass e Table.value = (tt, tt)
tables_pass e (Table.comma z) = (tt, tt)
tables_pass e Table.script_items = (tt, tt)
tables_pass e Table.block_items = (tt, tt)
tables_pass e Table.arguments = (tt, tt)
tables_pass e Table.entries = (tt, tt)
tables_pass e (Table.names z) = (tt, tt)
tables_pass e Table.may_end = (tt, tt)
tables_pass e Table.must_end = (tt, tt)
tables_pass e Table.assigned = (tt, tt)
tables_pass e Table.dots = (tt, tt)
tables_pass e Table.calls = (tt, tt)
tables_pass e (Table.operators n) = (each_mapped (enough (Table.operators n)) _ (get_or levels n []) empty (λ x. le→leb 0 (suc (least (above n))) (omega arith)) tt, tt)

-- a link that may be missing before `}` alone is missing there, or is a `;`
data Link (e : Edition) (n : Table) (x : ℕ) : Type 0 where
  any : (traits n).1 ≡ false → Link e n x
  missing : kaori e n x ≡ empty → x ≡ RightBrace → Link e n x
  there : kaori e n x ≡ semicolon → Link e n x

link : (e : Edition) (n : Table) (x : ℕ) → Link e n x
unfolding kaori rules traits
link e Table.statement x = Link.any refl
link e Table.returned x = Link.any refl
link e Table.bindings x = Link.any refl
link e Table.path_name x = Link.any refl
link e Table.otherwise x = Link.any refl
link e Table.branch x = Link.any refl
link e Table.operand x = Link.any refl
link e Table.body x = Link.any refl
link e Table.value x = Link.any refl
link e (Table.comma z) x = Link.any refl
link e Table.script_items x = Link.any refl
link e Table.block_items x = Link.any refl
link e Table.arguments x = Link.any refl
link e Table.entries x = Link.any refl
link e (Table.names z) x = Link.any refl
link e Table.may_end x = Link.any refl
link e Table.must_end x = pick (eqb x RightBrace) refl
  where
    pick : (b : Bool) → eqb x RightBrace ≡ b → Link e Table.must_end x
    pick true h = Link.missing (rw h) (eqb-true x RightBrace h)
    pick false h = Link.there (rw h)
link e Table.assigned x = Link.any refl
link e Table.dots x = Link.any refl
link e Table.calls x = Link.any refl
link e (Table.operators n) x = Link.any refl

-- a statement, which takes two tokens or needs its `;`
ends : Form → Bool
ends empty = false
ends (token x p) = false
ends (part p q) = false
ends (nested k p) = false
ends (node f p) = false
ends (choice n) = false
ends (chain p n) = false
ends (once p n) = leb (cond (traits n).1 1 2) (least p)
ends (refusal e) = false

some : (b : Bool) → 1 ≤ cond b 1 2
some true = omega arith
some false = omega arith

-- an item where a list goes on
goes : (b : Bool) {p q : Form} {f : Label} → cond b empty p ≡ node f q → (b ≡ false) × (p ≡ node f q)
goes true e = absurd (let z : ◌≡◌ {A = ℕ} 0 1 = cc in omega arith)
goes false e = (refl, e)

apart : (b : Bool) → b ≡ true → b ≡ false → ⊥
apart b e f = false≢true (sym f ∙ e)

-- the tables of lists: with commas, or of statements
pub data Lists (e : Edition) : Table → Type 0 where
  commas : {t : Table} (z : ℕ) (p : Form) → rules e t ≡ listed z p → 1 ≤ least p → Lists e t
  script : Lists e Table.script_items
  block : Lists e Table.block_items

pub names_list : (e : Edition) (z : ℕ) → Lists e (Table.names z)
unfolding rules least
names_list e z = Lists.commas z name refl (omega arith)

pub arguments_list : (e : Edition) → Lists e Table.arguments
unfolding rules least above traits
arguments_list e = Lists.commas RightParen expression refl (omega arith)

pub entries_list : (e : Edition) → Lists e Table.entries
unfolding rules least above traits
entries_list e = Lists.commas RightBrace (node Label.Entry (part expression (choice Table.value))) refl (omega arith)

-- how many items a list has
unfoldable pub items : Tree Label → ℕ
items none = 0
items (more t u) = items t
items (deeper t) = 0
items (made f a b t) = suc (items t)

-- the items of a list as far as it is read, from a to b; and where another follows
pub record Half (e : Edition) (kind : ℕ → ℕ) (t : Table) (a b : ℕ) (u : Tree Label) : Type 0 where
  pub few : a + 2 * items u ≤ b + 1
  pub fewer : {d : ℕ} {g : Label} {r : Form} {v : Tree Label} → kaori e t (kind b) ≡ node g r → Reads (kaori e) kind (whole r) b d v → a + 2 * items u ≤ b

module _ (e : Edition) {kind : ℕ → ℕ} where
  -- a reading takes as many tokens
  pub takes : {m : Aim Table Label} {a b : ℕ} {t : Tree Label} → Reads (kaori e) kind m a b t → a + least (asked m) ≤ b
  unfolding least enough
  takes Reads.nothing = omega arith
  takes (Reads.taken e x) = omega (arith, takes x)
  takes (Reads.both x y) = omega (arith, takes x, takes y)
  takes (Reads.opened x) = takes x
  takes (Reads.labelled x) = takes x
  takes (Reads.chosen {n = n} {a = a} {p = p} k x) = omega (arith, leb→le (traits n).0 (least p) (rw k at (in_tables e enough (λ m. (tables_pass e m).0) n (kind a))), takes x)
  takes (Reads.first x) = takes x
  takes (Reads.link l e x) = omega (arith, takes l, takes x)
  takes (Reads.ended l e) = takes l
  takes (Reads.alone x e) = takes x
  takes (Reads.joined x e y) = omega (arith, takes x, takes y)

  -- and none that avoids a `}` is read there
  pub avoided : {m : Aim Table Label} {a b : ℕ} {t : Tree Label} → Reads (kaori e) kind m a b t → kind a ≡ RightBrace → T (avoids (asked m)) → ⊥
  unfolding avoids
  avoided Reads.nothing k h = h
  avoided (Reads.taken {x = x} e y) k h = rw (eq-eqb RightBrace x (sym k ∙ e)) at h
  avoided (Reads.both x y) k h = avoided x k h
  avoided (Reads.opened x) k h = avoided x k h
  avoided (Reads.labelled x) k h = avoided x k h
  avoided (Reads.chosen {n = n} j x) k h = avoided x k (passes (traits n).2 h (tables_pass e n).1 (rw k at j))
    where
      passes : {p q : Form} (b : Bool) → T b → T (cond b (avoids p) true) → p ≡ q → T (avoids q)
      passes true t u e = rw e at u
      passes false t u e = absurd t
  avoided (Reads.first x) k h = avoided x k h
  avoided (Reads.link l e x) k h = avoided l k h
  avoided (Reads.ended l e) k h = avoided l k h
  avoided (Reads.alone x e) k h = avoided x k h
  avoided (Reads.joined x e y) k h = avoided x k h

  stays : {a b : ℕ} {t : Tree Label} → Reads (kaori e) kind (whole empty) a b t → a ≡ b
  stays Reads.nothing = refl

  -- an item of a comma list takes two tokens, or its closer follows
  comma_two : {z b c : ℕ} {p : Form} {u : Tree Label} → 1 ≤ least p → Reads (kaori e) kind (whole (part p (choice (Table.comma z)))) b c u → (b + 2 ≤ c) ⊎ (kind c ≡ z)
  unfolding kaori rules least
  comma_two {z} {b} {c} h (Reads.both {b = m} x (Reads.chosen {p = q} {t = t} e y)) = pick (eqb (kind m) z) refl e
    where
      pick : (g : Bool) → eqb (kind m) z ≡ g → cond g empty (token Comma empty) ≡ q → (b + 2 ≤ c) ⊎ (kind c ≡ z)
      pick true g e = inr (rw (← stays (rw (← e) at y)) (eqb-true (kind m) z g))
      pick false g e = inl (omega (arith, takes x, rw (← e) at (takes y)))

  -- a statement takes two, or a `}` follows
  ending : {b c : ℕ} {p : Form} {u : Tree Label} → Reads (kaori e) kind (whole p) b c u → T (ends p) → (b + 2 ≤ c) ⊎ (kind c ≡ RightBrace)
  unfolding ends least
  ending Reads.nothing h = absurd h
  ending (Reads.taken e x) h = absurd h
  ending (Reads.both x y) h = absurd h
  ending (Reads.opened x) h = absurd h
  ending (Reads.labelled x) h = absurd h
  ending (Reads.chosen e x) h = absurd h
  ending (Reads.ended l e) h = absurd h
  ending {b} {c} (Reads.alone {n = n} {p = p} x k) h = elim (link e n (kind c)) [
    | any z ↦ inl (omega (arith, takes x, leb→le 2 (least p) (rw z at h)))
    | missing i z ↦ inr z
    | there i ↦ absurd (let z : ◌≡◌ {A = ℕ} 0 1 = cc in omega arith)
  ]
  ending {b} {c} (Reads.joined {n = n} {b = m} {p = p} {q = q} x k y) h = elim (link e n (kind m)) [
    | any z ↦ inl (omega (arith, takes x, takes y, leb→le 2 (least p) (rw z at h)))
    | missing i z ↦ absurd (let z : ◌≡◌ {A = ℕ} 0 1 = cc in omega arith)
    | there i ↦ let z : q ≡ token Semicolon empty = cc in inl (omega (arith, takes x, rw z at (takes y), leb→le (cond (traits n).1 1 2) (least p) h, some (traits n).1))
  ]

  statement_two : {b c : ℕ} {u : Tree Label} → Reads (kaori e) kind (whole (choice Table.statement)) b c u → (b + 2 ≤ c) ⊎ (kind c ≡ RightBrace)
  unfolding kaori rules ends least traits above
  statement_two {b} (Reads.chosen k x) = ending x (rw k at (found ends (rules e Table.statement).0 (rules e Table.statement).1 (kind b) tt))

  unread : {c d : ℕ} {v : Tree Label} → kind c ≡ RightBrace → Reads (kaori e) kind (whole (choice Table.statement)) c d v → ⊥
  unfolding avoids traits
  unread s y = avoided y s tt

  -- an item takes a token
  item_some : {t : Table} {b c : ℕ} {f : Label} {q : Form} {u : Tree Label} → Lists e t → kaori e t (kind b) ≡ node f q → Reads (kaori e) kind (whole q) b c u → b + 1 ≤ c
  unfolding kaori rules least traits
  item_some {b = b} {q = q} (Lists.commas z p l h) e x =
      let (m, n) = goes (eqb (kind b) Eof) (goes (eqb (kind b) z) (rw l at e)).1 in
      let w : q ≡ part p (choice (Table.comma z)) = cc in
      omega (arith, rw w at (takes x))
  item_some {b = b} {q = q} Lists.script e x =
      let (m, n) = goes (eqb (kind b) Eof) e in
      let w : q ≡ choice Table.statement = cc in
      omega (arith, rw w at (takes x))
  item_some {b = b} {q = q} Lists.block e x =
      let (m, n) = goes (eqb (kind b) Eof) (goes (eqb (kind b) RightBrace) e).1 in
      let w : q ≡ choice Table.statement = cc in
      omega (arith, rw w at (takes x))

  -- an item that another follows takes two
  two : {t : Table} {b c d : ℕ} {f g : Label} {q r : Form} {u v : Tree Label} → Lists e t → kaori e t (kind b) ≡ node f q → Reads (kaori e) kind (whole q) b c u → kaori e t (kind c) ≡ node g r → Reads (kaori e) kind (whole r) c d v → b + 2 ≤ c
  unfolding kaori rules
  two {b = b} {c = c} {q = q} (Lists.commas z p l h) e x k y =
      let (i, j) = goes (eqb (kind b) z) (rw l at e) in
      let (m, n) = goes (eqb (kind b) Eof) j in
      let w : q ≡ part p (choice (Table.comma z)) = cc in
      elim (comma_two h (rw w at x)) [ inl o ↦ o | inr o ↦ absurd (apart (eqb (kind c) z) (eq-eqb (kind c) z o) (goes (eqb (kind c) z) (rw l at k)).0) ]
  two {b = b} {c = c} {q = q} {r = r} Lists.script e x k y =
      let (i, j) = goes (eqb (kind b) Eof) e in
      let (m, n) = goes (eqb (kind c) Eof) k in
      let w : q ≡ choice Table.statement = cc in
      let o : r ≡ choice Table.statement = cc in
      elim (statement_two (rw w at x)) [ inl s ↦ s | inr s ↦ absurd (unread s (rw o at y)) ]
  two {b = b} {c = c} {q = q} Lists.block e x k y =
      let (i, j) = goes (eqb (kind b) RightBrace) e in
      let (m, n) = goes (eqb (kind b) Eof) j in
      let w : q ≡ choice Table.statement = cc in
      elim (statement_two (rw w at x)) [ inl s ↦ s | inr s ↦ absurd (apart (eqb (kind c) RightBrace) (eq-eqb (kind c) RightBrace s) (goes (eqb (kind c) RightBrace) k).0) ]

  pub half : {t : Table} {a b : ℕ} {u : Tree Label} → Lists e t → Reads (kaori e) kind (begun empty t) a b u → Half e kind t a b u
  unfolding items
  half l (Reads.first Reads.nothing) = record { few = omega arith; fewer = λ k y. omega arith }
  half l (Reads.link x e y) = let z = (half l x).fewer e y in record { few = omega (arith, item_some l e y); fewer = λ k w. omega (arith, two l e y k w) }
