-- Readings carried to other tokens. What is read depends on the tokens read and the one after them; and a statement of the root on its own tokens alone, as long as
-- what follows could not go on with it.
use Prim.Native.Nat.{ℕ, ◌+◌, ◌≤◌, ◌<◌}
use mathlib.Core.Bool.{Bool, true, false, not, ◌&&◌, ◌||◌}
use mathlib.Core.List.{[]}
use mathlib.Core.Path.{◌≡◌, refl, sym, ap, ◌∙◌}
use native.Mathlib.Decide.{dec_lt}
use native.Mathlib.Omega.{arith}
use lib.Dec.{eqb, T}
use lib.ListN.{get_or}
use borrow.Author.Tests.{eqb-true, eq-eqb}
use Rattle.grammar.specs.Edition.{Edition}
use Rattle.grammar.specs.Kaori.{Table, Form, semicolon, above, rules, kaori}
use Rattle.grammar.specs.Kind.{RightBrace, Else, Semicolon, Eof}
use Rattle.grammar.specs.Label.{Label}
use Rattle.grammar.specs.Operator.{levels}
use Rattle.grammar.specs.Phrase.{empty, token, part, nested, node, choice, chain, once, refusal, Grammar, Tree, none, more, made, Aim, whole, Reads}
use Rattle.grammar.specs.Rows.{blank}
use Rattle.grammar.proofs.Follow.{forth}
use Rattle.grammar.proofs.Machine.{asked}
use Rattle.grammar.proofs.Room.{cost, spare, paid, paid_node, paid_entry, pays}
use Rattle.grammar.proofs.Tables.{each, each_mapped, in_tables, unlisted}
use Rattle.grammar.proofs.Tests.{both}
use Rattle.parts.proofs.Kinship.{replaced, Fresh, is_import, Lies, All}

-- the tokens from a up to b stand together at f, and are of the same kinds there
pub record Along (f k k' : ℕ → ℕ) (a b : ℕ) : Type 0 where
  pub steps : (i : ℕ) → a ≤ i → i < b → f (i + 1) ≡ f i + 1
  pub kinds : (i : ℕ) → a ≤ i → i < b → k' (f i) ≡ k i

pub narrow : {f k k' : ℕ → ℕ} {a b c d : ℕ} → Along f k k' a b → a ≤ c → d ≤ b → Along f k k' c d
narrow h p q = record { steps = λ i u v. h.steps i (omega arith) (omega arith); kinds = λ i u v. h.kinds i (omega arith) (omega arith) }

module _ {f k k' : ℕ → ℕ} where
  at_end : {a c : ℕ} → Along f k k' a c → k' (f c) ≡ k c → (b : ℕ) → a ≤ b → b ≤ c → k' (f b) ≡ k b
  at_end {c = c} h e b p q = elim (dec_lt b c) [ yes i ↦ h.kinds b p i | no i ↦ (let z : b ≡ c = omega arith in rw z e) ]

  -- the tokens read, and the one after them, decide
  carried : {G : Grammar Table Label} {m : Aim Table Label} {a b : ℕ} {t : Tree Label} → Reads G k m a b t → Along f k k' a b → k' (f b) ≡ k b → Reads G k' m (f a) (f b) (replaced f t)
  unfolding replaced
  carried Reads.nothing h e = Reads.nothing
  carried (Reads.taken {a = a} d x) h e = let g = forth x in Reads.taken (h.kinds a (omega arith) (omega arith) ∙ d) (rw (h.steps a (omega arith) (omega arith)) at (carried x (narrow h (omega arith) (omega arith)) e))
  carried (Reads.both {b = b} x y) h e = let p = forth x in let q = forth y in Reads.both (carried x (narrow h (omega arith) q) (at_end h e b p q)) (carried y (narrow h p (omega arith)) e)
  carried (Reads.opened x) h e = Reads.opened (carried x h e)
  carried (Reads.labelled x) h e = Reads.labelled (carried x h e)
  carried {G = G} (Reads.chosen {n = n} {a = a} d x) h e = Reads.chosen (ap (G n) (at_end h e a (omega arith) (forth x)) ∙ d) (carried x h e)
  carried (Reads.first x) h e = Reads.first (carried x h e)
  carried {G = G} (Reads.link {n = n} {b = b} l d x) h e = let p = forth l in let q = forth x in Reads.link (carried l (narrow h (omega arith) q) (at_end h e b p q)) (ap (G n) (at_end h e b p q) ∙ d) (carried x (narrow h p (omega arith)) e)
  carried {G = G} (Reads.ended {n = n} l d) h e = Reads.ended (carried l h e) (ap (G n) e ∙ d)
  carried {G = G} (Reads.alone {n = n} x d) h e = Reads.alone (carried x h e) (ap (G n) e ∙ d)
  carried {G = G} (Reads.joined {n = n} {b = b} x d y) h e = let p = forth x in let q = forth y in Reads.joined (carried x (narrow h (omega arith) q) (at_end h e b p q)) (ap (G n) (at_end h e b p q) ∙ d) (carried y (narrow h p (omega arith)) e)

-- the tables that matter here: statements, what a conditional goes on with, operands, and how a statement ends
data Role : Table → Type 0 where
  statement : Role Table.statement
  otherwise : Role Table.otherwise
  branch : Role Table.branch
  operand : Role Table.operand
  may_end : Role Table.may_end
  must_end : Role Table.must_end
  other : {n : Table} → Role n

role : (n : Table) → Role n
role Table.statement = Role.statement
role Table.returned = Role.other
role Table.bindings = Role.other
role Table.path_name = Role.other
role Table.otherwise = Role.otherwise
role Table.branch = Role.branch
role Table.operand = Role.operand
role Table.body = Role.other
role Table.value = Role.other
role (Table.comma z) = Role.other
role Table.script_items = Role.other
role Table.block_items = Role.other
role Table.arguments = Role.other
role Table.entries = Role.other
role (Table.names z) = Role.other
role Table.may_end = Role.may_end
role Table.must_end = Role.must_end
role Table.assigned = Role.other
role Table.dots = Role.other
role Table.calls = Role.other
role (Table.operators n) = Role.other

-- a form that takes a token
abbrev solid_role : {n : Table} → Role n → Bool
solid_role Role.statement = true
solid_role Role.otherwise = false
solid_role Role.branch = true
solid_role Role.operand = true
solid_role Role.may_end = false
solid_role Role.must_end = false
solid_role Role.other = false

solid : Form → Bool
solid empty = false
solid (token x p) = true
solid (part p q) = solid p || solid q
solid (nested s p) = solid p
solid (node f p) = solid p
solid (choice n) = solid_role (role n)
solid (chain p n) = solid p
solid (once p n) = solid p
solid (refusal c) = true

-- a form whose end is settled by its own tokens, whatever comes that is no `else`; and no import stands last in it, whose span goes on to the token after it
abbrev firm_role : {n : Table} → Role n → Bool
firm_role Role.statement = false
firm_role Role.otherwise = true
firm_role Role.branch = true
firm_role Role.operand = false
firm_role Role.may_end = false
firm_role Role.must_end = false
firm_role Role.other = false

firm : Form → Bool
firm empty = true
firm (token x p) = firm p
firm (part p q) = firm q && (solid q || firm p)
firm (nested s p) = firm p
firm (node f p) = not (is_import f) && firm p
firm (choice n) = firm_role (role n)
firm (chain p n) = false
firm (once p n) = false
firm (refusal c) = true

-- a statement: a form and how it ends. One that need not take its `;` is firm
abbrev ends_with : {n : Table} → Role n → Form → Bool
ends_with Role.statement p = false
ends_with Role.otherwise p = false
ends_with Role.branch p = false
ends_with Role.operand p = false
ends_with Role.may_end p = firm p
ends_with Role.must_end p = true
ends_with Role.other p = false

final : Form → Bool
final empty = false
final (token x p) = false
final (part p q) = false
final (nested s p) = false
final (node f p) = false
final (choice n) = false
final (chain p n) = false
final (once p n) = ends_with (role n) p
final (refusal c) = false

-- what ends a statement: nothing, or a token that settles its end
closing : Form → Bool
closing empty = true
closing (token x p) = false
closing (part p q) = false
closing (nested s p) = false
closing (node f p) = (not (is_import f) && firm p) && solid p
closing (choice n) = false
closing (chain p n) = false
closing (once p n) = false
closing (refusal c) = false

-- all forms of the tables are as their roles say
abbrev is_statement : {n : Table} → Role n → Bool
is_statement Role.statement = true
is_statement Role.otherwise = false
is_statement Role.branch = false
is_statement Role.operand = false
is_statement Role.may_end = false
is_statement Role.must_end = false
is_statement Role.other = false

abbrev is_ender : {n : Table} → Role n → Bool
is_ender Role.statement = false
is_ender Role.otherwise = false
is_ender Role.branch = false
is_ender Role.operand = false
is_ender Role.may_end = true
is_ender Role.must_end = true
is_ender Role.other = false

an_ender : {n : Table} (r : Role n) (p : Form) → T (ends_with r p) → T (is_ender r)
an_ender Role.statement p h = h
an_ender Role.otherwise p h = h
an_ender Role.branch p h = h
an_ender Role.operand p h = h
an_ender Role.may_end p h = tt
an_ender Role.must_end p h = tt
an_ender Role.other p h = h

fit : Table → Form → Bool
fit n p = (not (solid_role (role n)) || solid p) && ((not (firm_role (role n)) || firm p) && ((not (is_statement (role n)) || final p) && (not (is_ender (role n)) || closing p)))

fit_tables : (e : Edition) (n : Table) → T (each (fit n) (rules e n).0 (rules e n).1)
unfolding rules above fit role solid firm final closing
fit_tables e Table.statement = tt
fit_tables Edition.first Table.returned = tt
fit_tables Edition.second Table.returned = tt
fit_tables e Table.bindings = tt
fit_tables e Table.path_name = tt
fit_tables e Table.otherwise = tt
fit_tables e Table.branch = tt
fit_tables Edition.first Table.operand = tt
fit_tables Edition.second Table.operand = tt
fit_tables e Table.body = tt
fit_tables e Table.value = tt
fit_tables e (Table.comma z) = tt
fit_tables e Table.script_items = tt
fit_tables e Table.block_items = tt
fit_tables e Table.arguments = tt
fit_tables e Table.entries = tt
fit_tables e (Table.names z) = tt
fit_tables e Table.may_end = tt
fit_tables e Table.must_end = tt
fit_tables e Table.assigned = tt
fit_tables e Table.dots = tt
fit_tables e Table.calls = tt
fit_tables e (Table.operators n) = each_mapped (fit (Table.operators n)) _ (get_or levels n []) empty (λ x. tt) tt

record Entry (n : Table) (p : Form) : Type 0 where
  pub is_solid : T (solid_role (role n)) → T (solid p)
  pub is_firm : T (firm_role (role n)) → T (firm p)
  pub is_final : T (is_statement (role n)) → T (final p)
  pub is_closing : T (is_ender (role n)) → T (closing p)

pub implied : (a b : Bool) → T (not a || b) → T a → T b
implied true b h i = h
implied false b h i = absurd i

either_of : (a b : Bool) → T (a || b) → (C : Type 0) → (T a → C) → (T b → C) → C
either_of true b t C f g = f tt
either_of false b t C f g = g t

entry : (e : Edition) (n : Table) (x : ℕ) {p : Form} → kaori e n x ≡ p → Entry n p
unfolding fit
entry e n x {p} d =
    let (i, h) = both (not (solid_role (role n)) || solid p) _ (rw d at (in_tables e fit (fit_tables e) n x)) in
    let (j, g) = both (not (firm_role (role n)) || firm p) _ h in
    let (l, m) = both (not (is_statement (role n)) || final p) (not (is_ender (role n)) || closing p) g in
    record { is_solid = implied (solid_role (role n)) (solid p) i; is_firm = implied (firm_role (role n)) (firm p) j; is_final = implied (is_statement (role n)) (final p) l; is_closing = implied (is_ender (role n)) (closing p) m }

pub weaken : {P Q : Label → ℕ → ℕ → Type 0} → ((l : Label) (x y : ℕ) → P l x y → Q l x y) → {t : Tree Label} → All P t → All Q t
weaken f All.nothing = All.nothing
weaken f (All.two x y) = All.two (weaken f x) (weaken f y)
weaken f (All.under x) = All.under (weaken f x)
weaken f (All.at {l = l} {x = x} {y = y} p t) = All.at (f l x y p) (weaken f t)

pub wider : {a b c d : ℕ} → c ≤ a → b ≤ d → {t : Tree Label} → All (Lies a b) t → All (Lies c d) t
wider g h = weaken (λ l x y p. record { from = omega (arith, p.from); some = p.some; upto = omega (arith, p.upto); after = λ i. omega (arith, p.after i) })

placed : {a z x y : ℕ} {l : Label} {t : Tree Label} → a ≤ x → (1 ≤ cost l → x < y) → y ≤ z → (T (is_import l) → y < z) → All (Lies a z) t → All (Lies a z) (made l x y t)
placed p q r s u = All.at (record { from = p; some = q; upto = r; after = s }) u

no_import : (l : Label) → T (not (is_import l)) → T (is_import l) → ⊥
no_import l h i = pick (is_import l) h i
  where
    pick : (b : Bool) → T (not b) → T b → ⊥
    pick true h i = h
    pick false h i = i

-- what a statement does not start with
abbrev stops : ℕ → Bool
stops x = eqb x RightBrace || (eqb x Else || (eqb x Semicolon || eqb x Eof))

-- a form that is not read at a kind of token
abbrev barred_role : {n : Table} → Role n → ℕ → Bool
barred_role Role.statement x = stops x
barred_role Role.otherwise x = false
barred_role Role.branch x = false
barred_role Role.operand x = stops x
barred_role Role.may_end x = false
barred_role Role.must_end x = false
barred_role Role.other x = false

barred : Form → ℕ → Bool
barred empty x = false
barred (token y p) x = not (eqb x y)
barred (part p q) x = barred p x
barred (nested s p) x = barred p x
barred (node f p) x = barred p x
barred (choice n) x = barred_role (role n) x
barred (chain p n) x = barred p x
barred (once p n) x = barred p x
barred (refusal c) x = true

each_stop : (P : ℕ → Type 0) (x : ℕ) → T (stops x) → P RightBrace → P Else → P Semicolon → P Eof → P x
each_stop P x h p q r s = go (eqb x RightBrace) refl (eqb x Else) refl (eqb x Semicolon) refl (eqb x Eof) refl h
  where
    go : (a : Bool) → eqb x RightBrace ≡ a → (b : Bool) → eqb x Else ≡ b → (c : Bool) → eqb x Semicolon ≡ c → (d : Bool) → eqb x Eof ≡ d → T (a || (b || (c || d))) → P x
    go true e b f c g d h t = rw (eqb-true x RightBrace e) p
    go false e true f c g d h t = rw (eqb-true x Else f) q
    go false e false f true g d h t = rw (eqb-true x Semicolon g) r
    go false e false f false g true h t = rw (eqb-true x Eof h) s
    go false e false f false g false h t = absurd t

barred_at : (e : Edition) {n : Table} (r : Role n) (x : ℕ) → T (barred_role r x) → T (barred (kaori e n x) x)
unfolding barred role kaori rules above
barred_at e Role.statement x h = each_stop (λ y. T (barred (kaori e Table.statement y) y)) x h tt tt tt tt
barred_at e Role.otherwise x h = absurd h
barred_at e Role.branch x h = absurd h
barred_at e Role.operand x h = each_stop (λ y. T (barred (kaori e Table.operand y) y)) x h tt tt tt tt
barred_at e Role.may_end x h = absurd h
barred_at e Role.must_end x h = absurd h
barred_at e Role.other x h = absurd h

-- what a statement starts with
pub record Starts (x : ℕ) : Type 0 where
  pub fresh : Fresh x
  pub no_eof : x ≡ Eof → ⊥

-- a reading stands at f, and its nodes lie below z
pub record Carries (e : Edition) (f k' : ℕ → ℕ) (m : Aim Table Label) (a b z : ℕ) (t : Tree Label) : Type 0 where
  pub reading : Reads (kaori e) k' m (f a) (f b) (replaced f t)
  pub nodes : All (Lies a z) t

module _ (e : Edition) where
  takes : {k : ℕ → ℕ} {m : Aim Table Label} {a b : ℕ} {t : Tree Label} → Reads (kaori e) k m a b t → T (solid (asked m)) → a < b
  unfolding solid
  takes Reads.nothing h = absurd h
  takes (Reads.taken d x) h = omega (arith, forth x)
  takes (Reads.both {a = a} {b = b} {c = c} {p = p} {q = q} x y) h = either_of (solid p) (solid q) h (a < c) (λ i. omega (arith, takes x i, forth y)) (λ i. omega (arith, forth x, takes y i))
  takes (Reads.opened x) h = takes x h
  takes (Reads.labelled x) h = takes x h
  takes (Reads.chosen {n = n} d x) h = takes x ((entry e n _ d).is_solid h)
  takes (Reads.first x) h = takes x h
  takes (Reads.link l d x) h = omega (arith, takes l h, forth x)
  takes (Reads.ended l d) h = takes l h
  takes (Reads.alone x d) h = takes x h
  takes (Reads.joined x d y) h = omega (arith, takes x h, forth y)

  pub statement_takes : {k : ℕ → ℕ} {a b : ℕ} {t : Tree Label} → Reads (kaori e) k (whole (choice Table.statement)) a b t → a < b
  unfolding solid role
  statement_takes x = takes x tt

  not_at : {k : ℕ → ℕ} {m : Aim Table Label} {a b : ℕ} {t : Tree Label} → Reads (kaori e) k m a b t → T (barred (asked m) (k a)) → ⊥
  unfolding barred
  not_at Reads.nothing h = h
  not_at {k} (Reads.taken {x = x} {a = a} d r) h = rw (eq-eqb (k a) x d) at h
  not_at (Reads.both x y) h = not_at x h
  not_at (Reads.opened x) h = not_at x h
  not_at (Reads.labelled x) h = not_at x h
  not_at {k} (Reads.chosen {n = n} {a = a} d x) h = not_at x (rw d at (barred_at e (role n) (k a) h))
  not_at (Reads.first x) h = not_at x h
  not_at (Reads.link l d x) h = not_at l h
  not_at (Reads.ended l d) h = not_at l h
  not_at (Reads.alone x d) h = not_at x h
  not_at (Reads.joined x d y) h = not_at x h

  pub statement_starts : {k : ℕ → ℕ} {a b : ℕ} {t : Tree Label} → Reads (kaori e) k (whole (choice Table.statement)) a b t → Starts (k a)
  unfolding barred role
  statement_starts {k} {a} x = record { fresh = record { no_brace = λ d. stop RightBrace d tt; no_else = λ d. stop Else d tt; no_semicolon = λ d. stop Semicolon d tt }; no_eof = λ d. stop Eof d tt }
    where
      stop : (y : ℕ) → k a ≡ y → T (stops y) → ⊥
      stop y d h = not_at x (rw d h)

  -- how many tokens a reading takes at least
  least : {k : ℕ → ℕ} {m : Aim Table Label} {a b : ℕ} {t : Tree Label} → Reads (kaori e) k m a b t → T (paid (asked m)) → a + spare (asked m) ≤ b
  least x h = let (n, i, g) = (pays e [] (λ j. 0) x h).pay blank in omega arith

  -- the nodes of a reading lie in its tokens and the one after them
  lying : {k : ℕ → ℕ} {m : Aim Table Label} {a b z : ℕ} {t : Tree Label} → Reads (kaori e) k m a b t → T (paid (asked m)) → b < z → All (Lies a z) t
  unfolding paid
  lying Reads.nothing h i = All.nothing
  lying (Reads.taken d x) h i = wider (omega arith) (omega arith) (lying x h i)
  lying (Reads.both {p = p} {q = q} x y) h i = let (u, v) = both (paid p) (paid q) h in All.two (lying x u (omega (arith, forth y))) (wider (forth x) (omega arith) (lying y v i))
  lying (Reads.opened x) h i = All.under (lying x h i)
  lying (Reads.labelled {f = f} {p = p} x) h i = let (u, v) = paid_node f p h in placed (omega arith) (λ j. omega (arith, least x v)) (omega arith) (λ j. i) (lying x v i)
  lying (Reads.chosen {n = n} d x) h i = lying x (paid_entry e n _ d) i
  lying (Reads.first x) h i = lying x h i
  lying (Reads.link {n = n} {f = f} {q = q} l d x) h i = let (u, v) = paid_node f q (paid_entry e n _ d) in let p = forth l in placed p (λ j. omega (arith, least x v)) (omega arith) (λ j. i) (All.two (lying l h (omega (arith, forth x))) (wider p (omega arith) (lying x v i)))
  lying (Reads.ended l d) h i = lying l h i
  lying (Reads.alone x d) h i = lying x h i
  lying (Reads.joined {n = n} {f = f} {q = q} x d y) h i = let (u, v) = paid_node f q (paid_entry e n _ d) in let p = forth x in placed p (λ j. omega (arith, least y v)) (omega arith) (λ j. i) (All.two (lying x h (omega (arith, forth y))) (wider p (omega arith) (lying y v i)))

  none_read : {k : ℕ → ℕ} {a b : ℕ} {t : Tree Label} → Reads (kaori e) k (whole empty) a b t → t ≡ none
  none_read Reads.nothing = refl

  must_take : (x : ℕ) → (x ≡ RightBrace → ⊥) → kaori e Table.must_end x ≡ empty → ⊥
  unfolding rules
  must_take x h o = let d : empty ≡ semicolon = sym o ∙ unlisted e Table.must_end x (h, tt) in let z : ◌≡◌ {A = ℕ} 0 1 = cc in omega arith

module _ (e : Edition) (f k k' : ℕ → ℕ) where
  at_otherwise : {a b : ℕ} {p : Form} {t : Tree Label} → a ≡ b → (k b ≡ Else → ⊥) → (k' (f b) ≡ Else → ⊥) → kaori e Table.otherwise (k a) ≡ p → Reads (kaori e) k (whole p) a b t → Carries e f k' (whole (choice Table.otherwise)) a b b t
  unfolding rules replaced
  at_otherwise {a} {b} {p} {t} z u v d x =
      let o : empty ≡ p = sym (unlisted e Table.otherwise (k a) (λ g. u (ap k (sym z) ∙ g), tt)) ∙ d in
      let n : t ≡ none = none_read e (rw (sym o) at x) in
      rw n (record { reading = rw z (Reads.chosen (unlisted e Table.otherwise (k' (f b)) (v, tt)) Reads.nothing); nodes = All.nothing })

  -- of the tables that are firm, `branch` takes a token and `otherwise` has nothing for what is no `else`
  chosen_firm : {n : Table} {a b : ℕ} {p : Form} {t : Tree Label} → T (firm_role (role n)) → Along f k k' a b → (k b ≡ Else → ⊥) → (k' (f b) ≡ Else → ⊥) → kaori e n (k a) ≡ p → Reads (kaori e) k (whole p) a b t → Carries e f k' (whole p) a b b t → Carries e f k' (whole (choice n)) a b b t
  unfolding role
  chosen_firm {n} {a} {b} {p} {t} w l u v d x r = elim (dec_lt a b) [ yes i ↦ record { reading = Reads.chosen (ap (kaori e n) (l.kinds a (omega arith) i) ∙ d) r.reading; nodes = r.nodes } | no i ↦ at (role n) w d i ]
    where
      at : {m : Table} (r : Role m) → T (firm_role r) → kaori e m (k a) ≡ p → (a < b → ⊥) → Carries e f k' (whole (choice m)) a b b t
      at Role.statement w d i = absurd w
      at Role.otherwise w d i = let g = forth x in at_otherwise (omega arith) u v d x
      at Role.branch w d i = absurd (i (takes e x ((entry e Table.branch (k a) d).is_solid tt)))
      at Role.operand w d i = absurd w
      at Role.may_end w d i = absurd w
      at Role.must_end w d i = absurd w
      at Role.other w d i = absurd w

  -- a firm form's reading stands wherever its tokens do
  settled : {m : Aim Table Label} {a b : ℕ} {t : Tree Label} → Reads (kaori e) k m a b t → T (firm (asked m)) → T (paid (asked m)) → Along f k k' a b → (k b ≡ Else → ⊥) → (k' (f b) ≡ Else → ⊥) → Carries e f k' m a b b t
  unfolding firm paid replaced
  settled Reads.nothing h i l u v = record { reading = Reads.nothing; nodes = All.nothing }
  settled (Reads.taken {a = a} d x) h i l u v = let g = forth x in let r = settled x h i (narrow l (omega arith) (omega arith)) u v in record { reading = Reads.taken (l.kinds a (omega arith) (omega arith) ∙ d) (rw (l.steps a (omega arith) (omega arith)) at r.reading); nodes = wider (omega arith) (omega arith) r.nodes }
  settled (Reads.both {a = a} {b = b} {c = c} {p = p} {q = q} {t = t} x y) h i l u v =
      let (hq, hp) = both (firm q) (solid q || firm p) h in
      let (ip, iq) = both (paid p) (paid q) i in
      let ab = forth x in
      let bc = forth y in
      let ry = settled y hq iq (narrow l ab (omega arith)) u v in
      let near : b < c → Carries e f k' (whole p) a b c t = λ j. record { reading = carried x (narrow l (omega arith) (omega arith)) (l.kinds b (omega arith) j); nodes = lying e x ip j } in
      let here : b ≡ c → T (firm p) → Carries e f k' (whole p) a b c t = λ z j. (let r = settled x j ip (narrow l (omega arith) (omega arith)) (λ g. u (ap k (sym z) ∙ g)) (λ g. v (ap (λ n. k' (f n)) (sym z) ∙ g)) in record { reading = r.reading; nodes = wider (omega arith) (omega arith) r.nodes }) in
      let rx = either_of (solid q) (firm p) hp (Carries e f k' (whole p) a b c t) (λ j. near (takes e y j)) (λ j. elim (dec_lt b c) [ yes o ↦ near o | no o ↦ here (omega arith) j ]) in
      record { reading = Reads.both rx.reading ry.reading; nodes = All.two rx.nodes (wider ab (omega arith) ry.nodes) }
  settled (Reads.opened x) h i l u v = let r = settled x h i l u v in record { reading = Reads.opened r.reading; nodes = All.under r.nodes }
  settled (Reads.labelled {f = g} {p = p} x) h i l u v =
      let (hg, hp) = both (not (is_import g)) (firm p) h in
      let (ig, ip) = paid_node g p i in
      let r = settled x hp ip l u v in
      record { reading = Reads.labelled r.reading; nodes = placed (omega arith) (λ j. omega (arith, least e x ip)) (omega arith) (λ j. absurd (no_import g hg j)) r.nodes }
  settled (Reads.chosen {n = n} d x) h i l u v = chosen_firm h l u v d x (settled x ((entry e n _ d).is_firm h) (paid_entry e n _ d) l u v)
  settled (Reads.first x) h i l u v = absurd h
  settled (Reads.link x d y) h i l u v = absurd h
  settled (Reads.ended x d) h i l u v = absurd h
  settled (Reads.alone x d) h i l u v = absurd h
  settled (Reads.joined x d y) h i l u v = absurd h

  ended_alone : {n : Table} {p : Form} {a b : ℕ} {t : Tree Label} → (r : Role n) → T (ends_with r p) → T (paid p) → Along f k k' a b → Fresh (k b) → Fresh (k' (f b)) → Reads (kaori e) k (whole p) a b t → kaori e n (k b) ≡ empty → Carries e f k' (whole (once p n)) a b b t
  unfolding rules
  ended_alone Role.statement h i l u v x d = absurd h
  ended_alone Role.otherwise h i l u v x d = absurd h
  ended_alone Role.branch h i l u v x d = absurd h
  ended_alone Role.operand h i l u v x d = absurd h
  ended_alone {b = b} Role.may_end h i l u v x d =
      let r = settled x h i l u.no_else v.no_else in
      record { reading = Reads.alone r.reading (unlisted e Table.may_end (k' (f b)) (v.no_semicolon, tt)); nodes = r.nodes }
  ended_alone {b = b} Role.must_end h i l u v x d = absurd (must_take e (k b) u.no_brace d)
  ended_alone Role.other h i l u v x d = absurd h

  ended_joined : {n : Table} {p q : Form} {g : Label} {a b c : ℕ} {t u : Tree Label} → T (is_ender (role n)) → T (paid p) → Along f k k' a c → Fresh (k c) → Fresh (k' (f c)) → Reads (kaori e) k (whole p) a b t → kaori e n (k b) ≡ node g q → Reads (kaori e) k (whole q) b c u → Carries e f k' (whole (once p n)) a c c (made g b c (more t u))
  unfolding replaced closing
  ended_joined {n} {p} {q} {g} {a} {b} {c} w i l u v x d y =
      let (hh, hs) = both (not (is_import g) && firm q) (solid q) ((entry e n (k b) d).is_closing w) in
      let (hg, hq) = both (not (is_import g)) (firm q) hh in
      let (ig, iq) = paid_node g q (paid_entry e n (k b) d) in
      let ab = forth x in
      let bc = takes e y hs in
      let kb = l.kinds b ab bc in
      let r = settled y hq iq (narrow l ab (omega arith)) u.no_else v.no_else in
      record {
        reading = Reads.joined (carried x (narrow l (omega arith) (omega arith)) kb) (ap (kaori e n) kb ∙ d) r.reading;
        nodes = placed ab (λ j. bc) (omega arith) (λ j. absurd (no_import g hg j)) (All.two (lying e x i bc) (wider ab (omega arith) r.nodes));
      }

  ended_carried : {p : Form} {a b : ℕ} {t : Tree Label} → Reads (kaori e) k (whole p) a b t → T (final p) → T (paid p) → Along f k k' a b → Fresh (k b) → Fresh (k' (f b)) → Carries e f k' (whole p) a b b t
  unfolding final paid
  ended_carried Reads.nothing h i l u v = absurd h
  ended_carried (Reads.taken d x) h i l u v = absurd h
  ended_carried (Reads.both x y) h i l u v = absurd h
  ended_carried (Reads.opened x) h i l u v = absurd h
  ended_carried (Reads.labelled x) h i l u v = absurd h
  ended_carried (Reads.chosen d x) h i l u v = absurd h
  ended_carried (Reads.ended x d) h i l u v = absurd h
  ended_carried (Reads.alone {n = n} x d) h i l u v = ended_alone (role n) h i l u v x d
  ended_carried (Reads.joined {n = n} {p = p} x d y) h i l u v = ended_joined (an_ender (role n) p h) i l u v x d y

  -- a statement's reading stands wherever its tokens do, whatever fresh token follows
  pub statement_carried : {a b : ℕ} {t : Tree Label} → Reads (kaori e) k (whole (choice Table.statement)) a b t → Along f k k' a b → Fresh (k b) → Fresh (k' (f b)) → Carries e f k' (whole (choice Table.statement)) a b b t
  unfolding role
  statement_carried {a} {b} (Reads.chosen d x) l u v =
      let g = takes e x ((entry e Table.statement (k a) d).is_solid tt) in
      let r = ended_carried x ((entry e Table.statement (k a) d).is_final tt) (paid_entry e Table.statement (k a) d) l u v in
      record { reading = Reads.chosen (ap (kaori e Table.statement) (l.kinds a (omega arith) g) ∙ d) r.reading; nodes = r.nodes }

-- so its nodes lie in its own tokens
pub statement_lies : (e : Edition) {k : ℕ → ℕ} {a b : ℕ} {u : Tree Label} → Reads (kaori e) k (whole (choice Table.statement)) a b u → Fresh (k b) → All (Lies a b) u
statement_lies e {k} x h = (statement_carried e (λ i. i) k k x (record { steps = λ i p q. refl; kinds = λ i p q. refl }) h h).nodes

pub eof_fresh : Fresh Eof
eof_fresh = record { no_brace = λ e. omega arith; no_else = λ e. omega arith; no_semicolon = λ e. omega arith }
