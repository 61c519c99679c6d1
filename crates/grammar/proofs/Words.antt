-- A name that a reading hands up stands at an Identifier: its symbol has a row.
use Prim.Native.Nat.{ℕ, zero, suc, ◌+◌, ◌*◌, ◌≤◌}
use mathlib.Core.Bool.{Bool, true, false, ◌&&◌}
use mathlib.Core.List.{List, [], ◌∷◌, ◌++◌}
use mathlib.Core.Path.{◌≡◌, ◌∙◌}
use native.Mathlib.Omega.{arith}
use lib.Dec.{eqb, T, eqb→eq}
use borrow.Author.Tests.{eq-eqb}
use lib.ListN.{length, get_or}
use Rattle.grammar.specs.Builtin.{Builtins}
use Rattle.grammar.specs.Edition.{Edition}
use Rattle.grammar.specs.Handle.{Handle}
use Rattle.grammar.specs.Kaori.{Table, Form, above, rules, kaori}
use Rattle.grammar.specs.Kind.{Identifier}
use Rattle.grammar.specs.Label.{Label}
use Rattle.grammar.specs.Operator.{levels}
use Rattle.grammar.specs.Phrase.{empty, token, part, nested, node, choice, chain, once, refusal, Tree, Aim, whole, Reads}
use Rattle.grammar.specs.Rows.{Rows, Walked, put, make, walk}
use Rattle.grammar.specs.Rule.{Row, writes}
use Rattle.grammar.specs.Symbol.{symbol_rows, symbol}
use Rattle.grammar.specs.Token.{kind}
use Rattle.grammar.proofs.Halves.{takes}
use Rattle.grammar.proofs.Machine.{asked}
use Rattle.grammar.proofs.Symbols.{rows_grow, name_has_row}
use Rattle.grammar.proofs.Tables.{each, each_mapped, in_tables}
use Rattle.grammar.proofs.Tests.{both}

-- a form whose first token is an Identifier
unfoldable pub spells : Form → Bool
spells empty = false
spells (token x p) = eqb x Identifier
spells (part p q) = false
spells (nested k p) = false
spells (node f p) = false
spells (choice n) = false
spells (chain p n) = false
spells (once p n) = false
spells (refusal e) = false

-- a name has such a form
abbrev leads : Label → Form → Bool
leads (Label.Row n) p = true
leads Label.Script p = true
leads Label.Ended p = true
leads Label.Item p = true
leads Label.Entry p = true
leads Label.Name p = spells p

-- and so has each name in a form
unfoldable pub named : Form → Bool
named empty = true
named (token x p) = named p
named (part p q) = named p && named q
named (nested k p) = named p
named (node f p) = leads f p && named p
named (choice n) = true
named (chain p n) = named p
named (once p n) = named p
named (refusal e) = true

named_above : (n : ℕ) → T (named (above n))
unfolding above named
named_above zero = tt
named_above (suc n) = named_above n

named_tables : (e : Edition) (n : Table) → T (each named (rules e n).0 (rules e n).1)
unfolding rules named spells above
named_tables e Table.statement = tt
named_tables Edition.first Table.returned = tt
named_tables Edition.second Table.returned = tt
named_tables e Table.bindings = tt
named_tables e Table.path_name = tt
named_tables e Table.otherwise = tt
named_tables e Table.branch = tt
named_tables Edition.first Table.operand = tt
named_tables Edition.second Table.operand = tt
named_tables e Table.body = tt
named_tables e Table.value = tt
named_tables e (Table.comma z) = tt
named_tables e Table.script_items = tt
named_tables e Table.block_items = tt
named_tables e Table.arguments = tt
named_tables e Table.entries = tt
named_tables e (Table.names z) = tt
named_tables e Table.may_end = tt
named_tables e Table.must_end = tt
named_tables e Table.assigned = tt
named_tables e Table.dots = tt
named_tables e Table.calls = tt
named_tables e (Table.operators n) = each_mapped named _ (get_or levels n []) empty (λ x. named_above n) tt

named_entry : (e : Edition) (n : Table) (x : ℕ) {p : Form} → kaori e n x ≡ p → T (named p)
named_entry e n x k = rw k at (in_tables e (λ n. named) (named_tables e) n x)

named_node : (f : Label) (p : Form) → T (named (node f p)) → T (leads f p) × T (named p)
unfolding named
named_node f p h = both (leads f p) (named p) h

stands : (e : Edition) {kind : ℕ → ℕ} {a b : ℕ} {p : Form} {t : Tree Label} → Reads (kaori e) kind (whole p) a b t → T (spells p) → (kind a ≡ Identifier) × (suc a ≤ b)
unfolding spells
stands e Reads.nothing h = absurd h
stands e (Reads.taken {x = x} k y) h = (k ∙ eqb→eq x Identifier h, omega (arith, takes e y))
stands e (Reads.both x y) h = absurd h
stands e (Reads.opened x) h = absurd h
stands e (Reads.labelled x) h = absurd h
stands e (Reads.chosen k x) h = absurd h
stands e (Reads.ended l k) h = absurd h
stands e (Reads.alone x k) h = absurd h
stands e (Reads.joined x k y) h = absurd h

module _ (names : Builtins) (text ts : List ℕ) (n : ℕ) where
  -- a name's symbol is one of the rows of the first n tokens
  abbrev pub HasRow : Handle → Type 0
  HasRow (Handle.node i s e) = Unit {0}
  HasRow (Handle.name x s e) = 2 * (x + 1) ≤ length (symbol_rows names text ts n)
  HasRow (Handle.entry k v) = Unit {0}
  HasRow (Handle.ended i) = Unit {0}
  HasRow Handle.other = Unit {0}

  abbrev pub AllHave : List Handle → Type 0
  AllHave [] = Unit {0}
  AllHave (h ∷ hs) = HasRow h × AllHave hs

  pub record Handed (r : Walked) : Type 0 where
    pub first : AllHave r.first
    pub rest : AllHave r.rest

  append : (xs ys : List Handle) → AllHave xs → AllHave ys → AllHave (xs ++ ys)
  append [] ys h i = i
  append (x ∷ xs) ys h i = (h.0, append xs ys h.1 i)

  all_handed : {r : Walked} → Handed r → AllHave (r.first ++ r.rest)
  all_handed {r} h = append r.first r.rest h.first h.rest

  put_handed : (k : ℕ) (r : Row) (w : Rows) → Handed (put k r w)
  unfolding put
  put_handed k (writes s e fs) w = record { first = (tt, tt); rest = tt }

module _ (e : Edition) (names : Builtins) (text ts : List ℕ) (n : ℕ) where
  make_handed : (f : Label) {p : Form} {a b : ℕ} {t : Tree Label} → T (leads f p) → Reads (kaori e) (kind ts) (whole p) a b t → b ≤ n → (w : Rows) (xs ys : List Handle) → AllHave names text ts n xs → AllHave names text ts n ys → Handed names text ts n (make ts (symbol names text ts) f a b w xs ys)
  unfolding make
  make_handed (Label.Row k) l x m w xs ys h i = put_handed names text ts n _ _ w
  make_handed Label.Script l x m w xs ys h i = put_handed names text ts n _ _ w
  make_handed Label.Ended l x m w xs ys h i = record { first = (tt, tt); rest = tt }
  make_handed Label.Item l x m w xs ys h i = record { first = append names text ts n xs ys h i; rest = tt }
  make_handed Label.Entry l x m w [] ys h i = record { first = tt; rest = tt }
  make_handed Label.Entry l x m w (y ∷ xs) ys h i = record { first = (tt, tt); rest = tt }
  make_handed Label.Name {a = a} l x m w xs ys h i =
      let (k, j) = stands e x l in
      record { first = (omega (arith, name_has_row names text ts a (rw (eq-eqb (kind ts a) Identifier k)), rows_grow names text ts (suc a) n (omega arith)), tt); rest = tt }

  -- what a reading of some of the first n tokens hands up
  pub names_have_rows : {m : Aim Table Label} {a b : ℕ} {t : Tree Label} → Reads (kaori e) (kind ts) m a b t → T (named (asked m)) → b ≤ n → (w : Rows) → Handed names text ts n (walk ts (symbol names text ts) t w)
  unfolding walk named
  names_have_rows Reads.nothing h l w = record { first = tt; rest = tt }
  names_have_rows (Reads.taken k x) h l w = names_have_rows x h l w
  names_have_rows (Reads.both {p = p} {q = q} {t = t} x y) h l w =
      let (i, j) = both (named p) (named q) h in
      record { first = all_handed names text ts n (names_have_rows x i (omega (arith, takes e y)) w); rest = all_handed names text ts n (names_have_rows y j l (walk ts (symbol names text ts) t w).rows) }
  names_have_rows (Reads.opened x) h l w = names_have_rows x h l w
  names_have_rows (Reads.labelled {f = f} {p = p} x) h l w =
      let (i, j) = named_node f p h in
      let r = names_have_rows x j l w in
      make_handed f i x l _ _ _ r.first r.rest
  names_have_rows (Reads.chosen {n = m} k x) h l w = names_have_rows x (named_entry e m _ k) l w
  names_have_rows (Reads.first x) h l w = names_have_rows x h l w
  names_have_rows (Reads.link {n = m} {f = f} {q = q} {t = t} x k y) h l w =
      let (i, j) = named_node f q (named_entry e m _ k) in
      make_handed f i y l _ _ _ (all_handed names text ts n (names_have_rows x h (omega (arith, takes e y)) w)) (all_handed names text ts n (names_have_rows y j l (walk ts (symbol names text ts) t w).rows))
  names_have_rows (Reads.ended x k) h l w = names_have_rows x h l w
  names_have_rows (Reads.alone x k) h l w = names_have_rows x h l w
  names_have_rows (Reads.joined {n = m} {f = f} {q = q} {t = t} x k y) h l w =
      let (i, j) = named_node f q (named_entry e m _ k) in
      make_handed f i y l _ _ _ (all_handed names text ts n (names_have_rows x h (omega (arith, takes e y)) w)) (all_handed names text ts n (names_have_rows y j l (walk ts (symbol names text ts) t w).rows))
