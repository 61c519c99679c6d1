-- Whatever is left to read can be finished. For each table there is a kind by which it ends soonest, and what may follow then; a test over the tables, computed,
-- says that this is so of each of their forms, and so it stays true of what is left, token by token.
use Prim.Native.Nat.{ℕ, zero, suc, ◌+◌, ◌≤◌}
use mathlib.Core.Bool.{Bool, true, false, not, ◌&&◌, ◌||◌}
use mathlib.Core.List.{List, [], ◌∷◌}
use mathlib.Core.Path.{◌≡◌, refl, ap, ◌∙◌}
use native.Mathlib.Omega.{arith}
use lib.Dec.{eqb, T, eqb→eq, eqb_refl}
use borrow.Author.Tests.{eqb-true}
use Rattle.grammar.specs.Edition.{Edition}
use Rattle.grammar.specs.Kaori.{Table, Form, statement, returned, bindings, path_name, otherwise, branch, operand, body, value, comma, script_items, block_items, arguments, entries, names, may_end, must_end, assigned, dots, calls, operators, above, rules, kaori, script}
use Rattle.grammar.specs.Kind.{Semicolon, RightParen, LeftBrace, RightBrace, Identifier, Nil, Break, Eof}
use Rattle.grammar.specs.Label.{Label}
use Rattle.grammar.specs.Phrase.{empty, token, part, nested, node, choice, chain, once, refusal, Tree, whole, Reads}
use Rattle.grammar.proofs.Stack.{Item, want, links, mark, Stack, form, Turn, Goes, took, After, All, end, then, linking, joining, shut}
use Rattle.grammar.proofs.Tables.{each, found}
use Rattle.grammar.proofs.Tests.{both, all, as_true}

-- the kinds that follow a place, up to the Eof
abbrev head : List ℕ → ℕ
head [] = Eof
head (x ∷ w) = x

ends : List ℕ → Bool
ends [] = true
ends (x ∷ w) = false

closed : ℕ → List ℕ → Bool
closed z w = eqb (head w) z

-- what may follow an expression
final : List ℕ → Bool
final [] = false
final (x ∷ w) = eqb x Semicolon || (eqb x RightParen || (eqb x LeftBrace || eqb x RightBrace))

-- by which kind a table ends soonest, and what may follow then
soonest : Table → (List ℕ → ℕ) × (List ℕ → Bool)
soonest statement = (λ w. Break, λ w. true)
soonest returned = (λ w. Nil, final)
soonest bindings = (head, closed Semicolon)
soonest path_name = (λ w. Identifier, λ w. true)
soonest otherwise = (head, final)
soonest branch = (λ w. LeftBrace, final)
soonest operand = (λ w. Nil, final)
soonest body = (λ w. LeftBrace, final)
soonest value = (head, final)
soonest (comma z) = (head, closed z)
soonest script_items = (head, ends)
soonest block_items = (head, closed RightBrace)
soonest arguments = (head, closed RightParen)
soonest entries = (head, closed RightBrace)
soonest (names z) = (head, closed z)
soonest may_end = (λ w. Semicolon, λ w. true)
soonest must_end = (λ w. Semicolon, λ w. true)
soonest assigned = (head, final)
soonest dots = (head, closed Semicolon)
soonest calls = (head, final)
soonest (operators n) = (head, final)

none : Form → Bool
none empty = true
none (token x p) = false
none (part p q) = false
none (nested k p) = false
none (node f p) = false
none (choice n) = false
none (chain p n) = false
none (once p n) = false
none (refusal e) = false

link : Form → Bool
link empty = true
link (token x p) = false
link (part p q) = false
link (nested k p) = false
link (node f p) = true
link (choice n) = false
link (chain p n) = false
link (once p n) = false
link (refusal e) = false

-- nothing is ever taken
dead : Form → Bool
dead empty = false
dead (token x p) = false
dead (part p q) = false
dead (nested k p) = false
dead (node f p) = false
dead (choice n) = false
dead (chain p n) = false
dead (once p n) = dead p
dead (refusal e) = true

-- the tokens that finish a form before others; of the tables that is given
module _ (words : Table → List ℕ → List ℕ) where
  spell : Form → List ℕ → List ℕ
  spell empty w = w
  spell (token x p) w = x ∷ spell p w
  spell (part p q) w = spell p (spell q w)
  spell (nested k p) w = spell p w
  spell (node f p) w = spell p w
  spell (choice n) w = words n w
  spell (chain p n) w = spell p w
  spell (once p n) w = spell p (words n w)
  spell (refusal e) w = w

module _ (e : Edition) (words : Table → List ℕ → List ℕ) where
  -- a table's, by the form that it ends soonest by
  words_next : Table → List ℕ → List ℕ
  words_next n w = spell words (kaori e n ((soonest n).0 w)) w

  -- whether they do finish it
  module _ (can : Table → List ℕ → Bool) where
    fits : Form → List ℕ → Bool
    fits empty w = true
    fits (token x p) w = fits p w
    fits (part p q) w = fits p (spell words q w) && fits q w
    fits (nested k p) w = fits p w
    fits (node f p) w = fits p w
    fits (choice n) w = can n w
    fits (chain p n) w = fits p w && (none (kaori e n (head w)) && (soonest n).1 w)
    fits (once p n) w = fits p (words n w) && (link (kaori e n (head (words n w))) && can n w)
    fits (refusal k) w = false

    can_next : Table → List ℕ → Bool
    can_next n w = (soonest n).1 w && (eqb (head (words_next n w)) ((soonest n).0 w) && fits (kaori e n ((soonest n).0 w)) w)

-- the kinds from a on
pub data At (kind : ℕ → ℕ) : ℕ → List ℕ → Type 0 where
  stop : {a : ℕ} → kind a ≡ Eof → At kind a []
  next : {a x : ℕ} {w : List ℕ} → kind a ≡ x → At kind (a + 1) w → At kind a (x ∷ w)

at_head : {kind : ℕ → ℕ} {a : ℕ} {w : List ℕ} → At kind a w → kind a ≡ head w
at_head (stop e) = e
at_head (next e h) = e

none_means : (p : Form) → T (none p) → p ≡ empty
unfolding none
none_means empty h = refl
none_means (token x p) h = absurd h
none_means (part p q) h = absurd h
none_means (nested k p) h = absurd h
none_means (node f p) h = absurd h
none_means (choice n) h = absurd h
none_means (chain p n) h = absurd h
none_means (once p n) h = absurd h
none_means (refusal e) h = absurd h

-- a form is read, up to the others
record Finished (e : Edition) (kind : ℕ → ℕ) (p : Form) (a : ℕ) (w : List ℕ) : Type 0 where
  upto : ℕ
  tree : Tree Label
  reads : Reads (kaori e) kind (whole p) a upto tree
  rest : At kind upto w
  onward : a ≤ upto

module _ (e : Edition) {kind : ℕ → ℕ} where
  -- a link, or none
  close : (p q : Form) (n : Table) {a b c : ℕ} {t u : Tree Label} → T (link q) → Reads (kaori e) kind (whole p) a b t → kaori e n (kind b) ≡ q → Reads (kaori e) kind (whole q) b c u → (v : Tree Label) × Reads (kaori e) kind (whole (once p n)) a c v
  unfolding link
  close p empty n h x k Reads.nothing = (_, Reads.alone x k)
  close p (token y q) n h x k r = absurd h
  close p (part q s) n h x k r = absurd h
  close p (nested s q) n h x k r = absurd h
  close p (node f q) n h x k (Reads.labelled r) = (_, Reads.joined x k r)
  close p (choice m) n h x k r = absurd h
  close p (chain q m) n h x k r = absurd h
  close p (once q m) n h x k r = absurd h
  close p (refusal y) n h x k r = absurd h

  module _ (words : Table → List ℕ → List ℕ) (can : Table → List ℕ → Bool) (given : (n : Table) (w : List ℕ) (a : ℕ) → T (can n w) → At kind a (words n w) → Finished e kind (kaori e n (kind a)) a w) where
    finish : (p : Form) (w : List ℕ) (a : ℕ) → T (fits e words can p w) → At kind a (spell words p w) → Finished e kind p a w
    unfolding spell fits
    finish empty w a h s = record { upto = a; tree = _; reads = Reads.nothing; rest = s; onward = omega arith }
    finish (token x p) w a h (next k s) = let r = finish p w (a + 1) h s in record { upto = r.upto; tree = _; reads = Reads.taken k r.reads; rest = r.rest; onward = omega (arith, r.onward) }
    finish (part p q) w a h s =
        let (h₁, h₂) = both (fits e words can p (spell words q w)) (fits e words can q w) h in
        let r = finish p (spell words q w) a h₁ s in
        let r' = finish q w r.upto h₂ r.rest in
        record { upto = r'.upto; tree = _; reads = Reads.both r.reads r'.reads; rest = r'.rest; onward = omega (arith, r.onward, r'.onward) }
    finish (nested k p) w a h s = let r = finish p w a h s in record { upto = r.upto; tree = _; reads = Reads.opened r.reads; rest = r.rest; onward = r.onward }
    finish (node f p) w a h s = let r = finish p w a h s in record { upto = r.upto; tree = _; reads = Reads.labelled r.reads; rest = r.rest; onward = r.onward }
    finish (choice n) w a h s = let r = given n w a h s in record { upto = r.upto; tree = _; reads = Reads.chosen refl r.reads; rest = r.rest; onward = r.onward }
    finish (chain p n) w a h s =
        let (h₁, h₂) = both (fits e words can p w) _ h in
        let r = finish p w a h₁ s in
        let k = ap (kaori e n) (at_head r.rest) ∙ none_means _ (both (none (kaori e n (head w))) _ h₂).0 in
        record { upto = r.upto; tree = _; reads = Reads.ended (Reads.first r.reads) k; rest = r.rest; onward = r.onward }
    finish (once p n) w a h s =
        let (h₁, h₂) = both (fits e words can p (words n w)) _ h in
        let (h₃, h₄) = both (link (kaori e n (head (words n w)))) (can n w) h₂ in
        let r = finish p (words n w) a h₁ s in
        let r' = given n w r.upto h₄ r.rest in
        let h₅ : T (link (kaori e n (kind r.upto))) = rw (at_head r.rest) h₃ in
        record { upto = r'.upto; tree = _; reads = (close p _ n h₅ r.reads refl r'.reads).1; rest = r'.rest; onward = omega (arith, r.onward, r'.onward) }
    finish (refusal k) w a h s = absurd h

    given_next : (n : Table) (w : List ℕ) (a : ℕ) → T (can_next e words can n w) → At kind a (words_next e words n w) → Finished e kind (kaori e n (kind a)) a w
    unfolding words_next can_next
    given_next n w a h s =
        let (h₁, h₂) = both ((soonest n).1 w) _ h in
        let (h₃, h₄) = both (eqb (head (words_next e words n w)) ((soonest n).0 w)) _ h₂ in
        let k : kind a ≡ (soonest n).0 w = at_head s ∙ eqb→eq _ _ h₃ in
        rw k (finish (kaori e n ((soonest n).0 w)) w a h₄ s)

-- two tables deep is enough: a statement's, and the one that ends it
abbrev words_0 : Table → List ℕ → List ℕ
words_0 n w = w

abbrev can_0 : Table → List ℕ → Bool
can_0 n w = false

abbrev words_2 : Edition → Table → List ℕ → List ℕ
words_2 e = words_next e (words_next e words_0)

abbrev can_2 : Edition → Table → List ℕ → Bool
can_2 e = can_next e (words_next e words_0) (can_next e words_0 can_0)

abbrev word : Edition → Form → List ℕ → List ℕ
word e = spell (words_2 e)

abbrev ready : Edition → Form → List ℕ → Bool
ready e = fits e (words_2 e) (can_2 e)

-- each form of a table, before what may follow the table
abbrev lasts : Edition → Table → List ℕ → Bool
lasts e n w = each (λ p. dead p || ready e p w) (rules e n).0 (rules e n).1

on_final : (f : List ℕ → Bool) → ((w : List ℕ) → T (f (Semicolon ∷ w))) → ((w : List ℕ) → T (f (RightParen ∷ w))) → ((w : List ℕ) → T (f (LeftBrace ∷ w))) → ((w : List ℕ) → T (f (RightBrace ∷ w))) → (w : List ℕ) → T (final w) → T (f w)
unfolding final
on_final f s p l r [] h = absurd h
on_final f s p l r (x ∷ w) h = pick (eqb x Semicolon) (eqb x RightParen) (eqb x LeftBrace) (eqb x RightBrace) refl refl refl refl h
  where
    pick : (a b c d : Bool) → eqb x Semicolon ≡ a → eqb x RightParen ≡ b → eqb x LeftBrace ≡ c → eqb x RightBrace ≡ d → T (a || (b || (c || d))) → T (f (x ∷ w))
    pick true b c d e₁ e₂ e₃ e₄ h = rw (eqb-true x Semicolon e₁) (s w)
    pick false true c d e₁ e₂ e₃ e₄ h = rw (eqb-true x RightParen e₂) (p w)
    pick false false true d e₁ e₂ e₃ e₄ h = rw (eqb-true x LeftBrace e₃) (l w)
    pick false false false true e₁ e₂ e₃ e₄ h = rw (eqb-true x RightBrace e₄) (r w)
    pick false false false false e₁ e₂ e₃ e₄ h = absurd h

on_closed : (f : List ℕ → Bool) (z : ℕ) → T (not (eqb Eof z)) → ((w : List ℕ) → T (f (z ∷ w))) → (w : List ℕ) → T (closed z w) → T (f w)
unfolding closed
on_closed f z d s [] h = absurd (rw (as_true (eqb Eof z) h) at d)
on_closed f z d s (x ∷ w) h = rw (eqb→eq x z h) (s w)

table_lasts : (e : Edition) (n : Table) (w : List ℕ) → T ((soonest n).1 w) → T (lasts e n w)
unfolding rules kaori above soonest spell fits words_next can_next none link dead final closed ends
table_lasts Edition.first statement w h = tt
table_lasts Edition.second statement w h = tt
table_lasts Edition.first returned w h = on_final (lasts Edition.first returned) (λ w. tt) (λ w. tt) (λ w. tt) (λ w. tt) w h
table_lasts Edition.second returned w h = on_final (lasts Edition.second returned) (λ w. tt) (λ w. tt) (λ w. tt) (λ w. tt) w h
table_lasts e bindings w h = on_closed (lasts e bindings) Semicolon tt (λ w. tt) w h
table_lasts e path_name w h = tt
table_lasts e otherwise w h = on_final (lasts e otherwise) (λ w. tt) (λ w. tt) (λ w. tt) (λ w. tt) w h
table_lasts e branch w h = on_final (lasts e branch) (λ w. tt) (λ w. tt) (λ w. tt) (λ w. tt) w h
table_lasts Edition.first operand w h = on_final (lasts Edition.first operand) (λ w. tt) (λ w. tt) (λ w. tt) (λ w. tt) w h
table_lasts Edition.second operand w h = on_final (lasts Edition.second operand) (λ w. tt) (λ w. tt) (λ w. tt) (λ w. tt) w h
table_lasts e body w h = on_final (lasts e body) (λ w. tt) (λ w. tt) (λ w. tt) (λ w. tt) w h
table_lasts e value w h = on_final (lasts e value) (λ w. tt) (λ w. tt) (λ w. tt) (λ w. tt) w h
table_lasts e (comma z) w h = tt
table_lasts e script_items [] h = tt
table_lasts e script_items (x ∷ w) h = absurd h
table_lasts e block_items w h = on_closed (lasts e block_items) RightBrace tt (λ w. tt) w h
table_lasts e arguments w h = on_closed (lasts e arguments) RightParen tt (λ w. tt) w h
table_lasts e entries w h = on_closed (lasts e entries) RightBrace tt (λ w. tt) w h
table_lasts e (names z) w h = rw (as_true (eqb (head w) z) h) (all (eqb (head w) (head w)) true (eqb_refl (head w)) tt)
table_lasts e may_end w h = tt
table_lasts e must_end w h = tt
table_lasts e assigned w h = on_final (lasts e assigned) (λ w. tt) (λ w. tt) (λ w. tt) (λ w. tt) w h
table_lasts e dots w h = on_closed (lasts e dots) Semicolon tt (λ w. tt) w h
table_lasts e calls w h = on_final (lasts e calls) (λ w. tt) (λ w. tt) (λ w. tt) (λ w. tt) w h
table_lasts e (operators zero) w h = on_final (lasts e (operators zero)) (λ w. tt) (λ w. tt) (λ w. tt) (λ w. tt) w h
table_lasts e (operators (suc zero)) w h = on_final (lasts e (operators 1)) (λ w. tt) (λ w. tt) (λ w. tt) (λ w. tt) w h
table_lasts e (operators (suc (suc zero))) w h = on_final (lasts e (operators 2)) (λ w. tt) (λ w. tt) (λ w. tt) (λ w. tt) w h
table_lasts e (operators (suc (suc (suc zero)))) w h = on_final (lasts e (operators 3)) (λ w. tt) (λ w. tt) (λ w. tt) (λ w. tt) w h
table_lasts e (operators (suc (suc (suc (suc zero))))) w h = on_final (lasts e (operators 4)) (λ w. tt) (λ w. tt) (λ w. tt) (λ w. tt) w h
table_lasts e (operators (suc (suc (suc (suc (suc zero)))))) w h = on_final (lasts e (operators 5)) (λ w. tt) (λ w. tt) (λ w. tt) (λ w. tt) w h
table_lasts e (operators (suc (suc (suc (suc (suc (suc n))))))) w h = tt

alive : (d r : Bool) → T (d || r) → (T d → ⊥) → T r
alive true r h f = absurd (f tt)
alive false r h f = h

-- what finishes a stack, and that it does
module _ (e : Edition) where
  closing : Stack Table Label → List ℕ
  closing [] = []
  closing (i ∷ K) = word e (form i) (closing K)

  data Steady : Stack Table Label → Type 0 where
    bare : Steady []
    item : {i : Item Table Label} {K : Stack Table Label} → T (ready e (form i) (closing K)) → Steady K → Steady (i ∷ K)

  -- what a table has, where it is ready
  entry : (n : Table) (x : ℕ) {p : Form} (w : List ℕ) → T ((soonest n).1 w) → kaori e n x ≡ p → T (dead p || ready e p w)
  unfolding kaori
  entry n x w h k = rw k at (found (λ p. dead p || ready e p w) (rules e n).0 (rules e n).1 x (table_lasts e n w h))

  barred : {x c : ℕ} {K M : Stack Table Label} {k : ℕ} → Goes (kaori e) x c (want (refusal k) ∷ K) (took M) → ⊥
  barred (Goes.turn t g) = elim t [ ]

  untaken : {x c : ℕ} {K M : Stack Table Label} (p : Form) → T (dead p) → Goes (kaori e) x c (want p ∷ K) (took M) → ⊥
  unfolding dead
  untaken empty d g = absurd d
  untaken (token y p) d g = absurd d
  untaken (part p q) d g = absurd d
  untaken (nested k p) d g = absurd d
  untaken (node f p) d g = absurd d
  untaken (choice n) d g = absurd d
  untaken (chain p n) d g = absurd d
  untaken (once p n) d (Goes.turn Turn.only g) = untaken p d g
  untaken (refusal k) d g = barred g

  -- it stays so, whatever is taken
  stays : {x c : ℕ} {K M : Stack Table Label} → Goes (kaori e) x c K (took M) → Steady K → Steady M
  unfolding spell fits can_next closing dead
  stays (Goes.now k) (item h s) = item h s
  stays (Goes.turn Turn.nothing g) (item h s) = stays g s
  stays (Goes.turn (Turn.both {p = p} {q = q}) g) (item {K = K} h s) = let (h₁, h₂) = both (ready e p (word e q (closing K))) (ready e q (closing K)) h in stays g (item h₁ (item h₂ s))
  stays (Goes.turn Turn.opens g) (item h s) = stays g (item h (item tt s))
  stays (Goes.turn Turn.labels g) (item h s) = stays g (item h s)
  stays {x = x} (Goes.turn (Turn.chooses {n = n} {p = p} k) g) (item {K = K} h s) = stays g (item (alive (dead p) (ready e p (closing K)) (entry n x (closing K) (both ((soonest n).1 (closing K)) _ h).0 k) (λ d. untaken p d g)) s)
  stays (Goes.turn (Turn.starts {p = p} {n = n}) g) (item {K = K} h s) = let (h₁, h₂) = both (ready e p (closing K)) _ h in stays g (item h₁ (item h₂ s))
  stays (Goes.turn (Turn.only {p = p} {n = n}) g) (item {K = K} h s) = let (h₁, h₂) = both (ready e p (words_2 e n (closing K))) _ h in stays g (item h₁ (item h₂ s))
  stays {x = x} (Goes.turn (Turn.joins {g = true} {n = n} k) g) (item {K = K} h s) = stays g (item (entry n x (closing K) (both (none (kaori e n (head (closing K)))) _ h).1 k) (item h s))
  stays {x = x} (Goes.turn (Turn.joins {g = false} {n = n} k) g) (item {K = K} h s) = stays g (item (entry n x (closing K) (both ((soonest n).1 (closing K)) _ (both (link (kaori e n (head (words_2 e n (closing K))))) _ h).1).0 k) s)
  stays (Goes.turn (Turn.ends k) g) (item h s) = stays g s
  stays (Goes.turn Turn.shuts g) (item h s) = stays g s

  stays_over : {kind : ℕ → ℕ} {J K : Stack Table Label} {a b : ℕ} → After (kaori e) kind J a K b → Steady J → Steady K
  stays_over After.here s = s
  stays_over (After.on g x) s = stays_over x (stays g s)

  module _ {kind : ℕ → ℕ} where
    finish_2 : (p : Form) (w : List ℕ) (a : ℕ) → T (ready e p w) → At kind a (word e p w) → Finished e kind p a w
    finish_2 = finish e (words_2 e) (can_2 e) (given_next e (words_next e words_0) (can_next e words_0 can_0) (given_next e words_0 can_0 (λ n w a h. absurd h)))

    finish_all : {K : Stack Table Label} (a : ℕ) → Steady K → At kind a (closing K) → (b : ℕ) × (a ≤ b) × All (kaori e) kind K a b
    unfolding closing spell
    finish_all a bare s = (a, omega arith, end)
    finish_all a (item {i = want p} {K = K} h k) s = let r = finish_2 p (closing K) a h s in let (b, l, x) = finish_all r.upto k r.rest in (b, omega (arith, l, r.onward), then r.reads x)
    finish_all a (item {i = links true n} {K = K} h k) s = let r = finish_2 (chain empty n) (closing K) a h s in let (b, l, x) = finish_all r.upto k r.rest in (b, omega (arith, l, r.onward), linking r.reads x)
    finish_all a (item {i = links false n} {K = K} h k) s = let r = finish_2 (once empty n) (closing K) a h s in let (b, l, x) = finish_all r.upto k r.rest in (b, omega (arith, l, r.onward), joining r.reads x)
    finish_all a (item {i = mark o c} {K = K} h k) s = let (b, l, x) = finish_all a k s in (b, l, shut x)

  -- tokens that finish what is left
  pub record Ends (K : Stack Table Label) : Type 0 where
    pub tokens : List ℕ
    pub finish : {kind : ℕ → ℕ} {a : ℕ} → At kind a tokens → (b : ℕ) × (a ≤ b) × All (kaori e) kind K a b

  pub can_end : {kind : ℕ → ℕ} {K M : Stack Table Label} {x b : ℕ} → After (kaori e) kind (want script ∷ []) 0 K b → Goes (kaori e) x b K (took M) → Ends M
  unfolding closing spell fits soonest none kaori rules ends
  can_end {M = M} x g = let s = stays g (stays_over x (item tt bare)) in record { tokens = closing M; finish = λ h. finish_all _ s h }
