-- A script is a sequence of statements, and statements put one after another are a script, wherever they come from.
use Prim.Native.Nat.{ℕ, ◌≤◌, max}
use mathlib.Core.Bool.{Bool, true, false, cond}
use mathlib.Core.Path.{◌≡◌, refl, sym}
use native.Mathlib.Omega.{arith}
use lib.Dec.{eqb}
use Rattle.grammar.specs.Edition.{Edition}
use Rattle.grammar.specs.Kaori.{Table, Form, rules, kaori, Script}
use Rattle.grammar.specs.Kind.{Eof}
use Rattle.grammar.specs.Label.{Label}
use Rattle.grammar.specs.Phrase.{empty, node, choice, Tree, none, more, deeper, made, whole, begun, Reads, depth}
use Rattle.grammar.proofs.Outcomes.{ends_at_eof}
use Rattle.grammar.proofs.Tables.{unlisted}
use Rattle.parts.specs.Dropped.{items}
use Rattle.parts.proofs.Carried.{Along, statement_carried, statement_takes, statement_starts}
use Rattle.parts.proofs.Kinship.{replaced, kept, Items, Fresh}

item_link : (e : Edition) (x : ℕ) {l : Label} {q : Form} → kaori e Table.script_items x ≡ node l q → (l ≡ Label.Item) × (q ≡ choice Table.statement)
unfolding kaori rules
item_link e x {l} {q} d = pick (eqb x Eof) d
  where
    pick : (b : Bool) → ◌≡◌ {A = Form} (cond b empty (node Label.Item (choice Table.statement))) (node l q) → (l ≡ Label.Item) × (q ≡ choice Table.statement)
    pick true d = absurd (let z : ◌≡◌ {A = ℕ} 0 1 = cc in omega arith)
    pick false d = (cc, cc)

none_first : (e : Edition) {k : ℕ → ℕ} {b : ℕ} {t : Tree Label} → Reads (kaori e) k (whole empty) 0 b t → Items e k b t
none_first e Reads.nothing = Items.nil

item_next : {e : Edition} {k : ℕ → ℕ} {b c : ℕ} {l : Label} {q : Form} {t u : Tree Label} → (l ≡ Label.Item) × (q ≡ choice Table.statement) → Items e k b t → Reads (kaori e) k (whole q) b c u → Items e k c (made l b c (more t u))
item_next d i x = rw d.0 (Items.next i (rw d.1 at x))

items_of : (e : Edition) {k : ℕ → ℕ} {n : ℕ} {t : Tree Label} → Reads (kaori e) k (begun empty Table.script_items) 0 n t → Items e k n t
items_of e (Reads.first x) = none_first e x
items_of e {k} (Reads.link {b = b} l d x) = item_next (item_link e (k b) d) (items_of e l) x

reading_of : {e : Edition} {k : ℕ → ℕ} {n : ℕ} {t : Tree Label} → Items e k n t → Reads (kaori e) k (begun empty Table.script_items) 0 n t
unfolding rules
reading_of Items.nil = Reads.first Reads.nothing
reading_of {e} {k} (Items.next {b = b} i x) = Reads.link (reading_of i) (unlisted e Table.script_items (k b) ((statement_starts e x).no_eof, tt)) x

-- a script's statements
pub data AsItems (e : Edition) (k : ℕ → ℕ) (n : ℕ) : Tree Label → Type 0 where
  as_items : {t : Tree Label} → Items e k n t → k n ≡ Eof → AsItems e k n (made Label.Script 0 n t)

pub script_items : {e : Edition} {k : ℕ → ℕ} {n : ℕ} {t : Tree Label} → Script e k n t → AsItems e k n t
script_items {e} (Reads.labelled (Reads.ended l d)) = AsItems.as_items (items_of e l) (ends_at_eof e (Reads.labelled {f = Label.Script} (Reads.ended l d)))

pub script_of : {e : Edition} {k : ℕ → ℕ} {n : ℕ} {t : Tree Label} → Items e k n t → k n ≡ Eof → Script e k n (made Label.Script 0 n t)
unfolding kaori rules
script_of {k = k} {n = n} i d = Reads.labelled (Reads.ended (reading_of i) (rw d))

-- where the statements that are kept go, and that the others leave no gap
pub data Kept (c : ℕ → Bool) (f k k' : ℕ → ℕ) : Tree Label → Type 0 where
  nil : Kept c f k k' none
  keep : {l : Label} {a b : ℕ} {t u : Tree Label} → c (items t) ≡ true → Along f k k' a b → Kept c f k k' t → Kept c f k k' (made l a b (more t u))
  drop : {l : Label} {a b : ℕ} {t u : Tree Label} → c (items t) ≡ false → f b ≡ f a → Kept c f k k' t → Kept c f k k' (made l a b (more t u))

module _ {e : Edition} {c : ℕ → Bool} {f k k' : ℕ → ℕ} where
  -- the kept statements, after others, are statements
  pub kept_items : {n : ℕ} {t s : Tree Label} → Items e k n t → Kept c f k k' t → Fresh (k n) → Fresh (k' (f n)) → Items e k' (f 0) s → Items e k' (f n) (kept c f s t)
  unfolding kept
  kept_items Items.nil h u v s = s
  kept_items (Items.next {b = b} i x) (Kept.keep d l h) u v s =
      let g = (statement_starts e x).fresh in
      let eq = l.kinds b (omega arith) (statement_takes e x) in
      rw d (Items.next (kept_items i h g (rw eq g) s) (statement_carried e f k k' x l u v).reading)
  kept_items (Items.next {b = b} {c = n} {t = t} i x) (Kept.drop d z h) u v s = rw (d, z) (kept_items i h (statement_starts e x).fresh (rw (sym z) v) s)

-- no deeper than what they come from
replaced_depth : {L : Type 0} (f : ℕ → ℕ) (t : Tree L) → depth (replaced f t) ≡ depth t
unfolding depth replaced
replaced_depth f none = refl
replaced_depth f (more t u) = rw (replaced_depth f t, replaced_depth f u)
replaced_depth f (deeper t) = rw (replaced_depth f t)
replaced_depth f (made l a b t) = replaced_depth f t

pub kept_depth : {e : Edition} {k : ℕ → ℕ} {n : ℕ} {t : Tree Label} (c : ℕ → Bool) (f : ℕ → ℕ) (s : Tree Label) → Items e k n t → depth (kept c f s t) ≤ max (depth s) (depth t)
unfolding kept depth
kept_depth c f s Items.nil = omega arith
kept_depth c f s (Items.next {b = b} {c = n} {t = t} {u = u} i x) = pick Label.Item (f b) (f n) (c (items t)) (kept_depth c f s i)
  where
    pick : (l : Label) (a b : ℕ) (h : Bool) → depth (kept c f s t) ≤ max (depth s) (depth t) → depth (cond h (made l a b (more (kept c f s t) (replaced f u))) (kept c f s t)) ≤ max (depth s) (max (depth t) (depth u))
    pick l a b true g = omega (arith, replaced_depth f u)
    pick l a b false g = omega arith
