-- What a node that has a name must have, and neither the sizes of its parts (Shapes.antt) nor what it needs (Suits.antt) say: a binding and a property have one name
-- at most, and an identifier, a string and a name begin with a token of their own kind. A test of all forms of the tables, and what follows from it.
use Prim.Native.Nat.{ℕ, zero, suc}
use mathlib.Core.Bool.{Bool, true, false, cond, not, ◌&&◌, ◌||◌}
use mathlib.Core.List.{List, [], ◌∷◌}
use mathlib.Core.Path.{◌≡◌, ◌∙◌}
use lib.Dec.{T, eqb, eqb→eq}
use Rattle.grammar.specs.Edition.{Edition}
use Rattle.grammar.specs.Handle.{Handle}
use Rattle.grammar.specs.Kaori.{Table, Form, above, rules, kaori}
use Rattle.grammar.specs.Kind.{StringLiteral, Identifier}
use Rattle.grammar.specs.Label.{Node, Label, number_of}
use Rattle.grammar.specs.Pattern.{among}
use Rattle.grammar.specs.Phrase.{empty, token, part, nested, node, choice, chain, once, refusal, Tree, whole, Reads}
use Rattle.grammar.specs.Space.{has_word}
use Rattle.grammar.proofs.Shapes.{table, gives, joined, shape, ok, choose}
use Rattle.grammar.proofs.Sizes.{Size, Fits, sub, add, fits_sub, none, a_name}
use Rattle.grammar.proofs.Tables.{each, in_tables}
use Rattle.grammar.proofs.Tests.{both}
use Rattle.parts.proofs.Carried.{implied}

-- the kind of the token of a node that has a word
abbrev pub word_kind : Label → ℕ
word_kind (Label.Row n) = cond (eqb (number_of n) (number_of Node.String)) StringLiteral Identifier
word_kind Label.Script = Identifier
word_kind Label.Ended = Identifier
word_kind Label.Item = Identifier
word_kind Label.Entry = Identifier
word_kind Label.Name = Identifier

-- a form whose first token is of this kind
abbrev opens : ℕ → Form → Bool
opens x empty = false
opens x (token y p) = eqb y x
opens x (part p q) = false
opens x (nested k p) = false
opens x (node f p) = false
opens x (choice n) = false
opens x (chain p n) = false
opens x (once p n) = false
opens x (refusal c) = false

-- whether a node's first part may make one name at most, and whether the rest may
abbrev pub lone : Label → Bool × Bool
lone (Label.Row n) = (among (number_of Node.Variable ∷ number_of Node.Constant ∷ number_of Node.Ref ∷ []) (number_of n), eqb (number_of n) (number_of Node.PropertyAccess))
lone Label.Script = (false, false)
lone Label.Ended = (false, false)
lone Label.Item = (false, false)
lone Label.Entry = (false, false)
lone Label.Name = (false, false)

-- a node of a form p begins as it has to, and has no name too much, where its parts make so much
unfoldable spell : Label → Form → Size × Size → Bool
spell f p z = (not (has_word f) || opens (word_kind f) p) && ((not (lone f).0 || sub z.0 a_name) && (not (lone f).1 || sub z.1 a_name))

unfoldable pub spells : Form → Bool
unfolding spell
spells empty = true
spells (token x p) = spells p
spells (part p q) = spells p && spells q
spells (nested k p) = spells p
spells (node f p) = spell f p (shape p) && spells p
spells (choice n) = true
spells (chain p n) = spells p
spells (once p n) = spells p
spells (refusal c) = true

-- of a link what was made so far is the first part, and its own form makes the rest
spell_link : Size → Form → Bool
spell_link z empty = true
spell_link z (token x p) = false
spell_link z (part p q) = false
spell_link z (nested k p) = false
spell_link z (node f p) = spell f p (joined (z, none) (shape p)) && spells p
spell_link z (choice n) = false
spell_link z (chain p n) = false
spell_link z (once p n) = false
spell_link z (refusal c) = false

spell_entry : Table → Form → Bool
spell_entry n p = cond (table n).0 (spells p) (spell_link (table n).1 p)

spell_tables : (e : Edition) (n : Table) → T (each (spell_entry n) (rules e n).0 (rules e n).1)
unfolding rules above table gives joined shape sub add has_word spell spells spell_link spell_entry
spell_tables e Table.statement = tt
spell_tables Edition.first Table.returned = tt
spell_tables Edition.second Table.returned = tt
spell_tables e Table.bindings = tt
spell_tables e Table.path_name = tt
spell_tables e Table.otherwise = tt
spell_tables e Table.branch = tt
spell_tables Edition.first Table.operand = tt
spell_tables Edition.second Table.operand = tt
spell_tables e Table.body = tt
spell_tables e Table.value = tt
spell_tables e (Table.comma z) = tt
spell_tables e Table.script_items = tt
spell_tables e Table.block_items = tt
spell_tables e Table.arguments = tt
spell_tables e Table.entries = tt
spell_tables e (Table.names z) = tt
spell_tables e Table.may_end = tt
spell_tables e Table.must_end = tt
spell_tables e Table.assigned = tt
spell_tables e Table.dots = tt
spell_tables e Table.calls = tt
spell_tables e (Table.operators zero) = tt
spell_tables e (Table.operators (suc zero)) = tt
spell_tables e (Table.operators (suc (suc zero))) = tt
spell_tables e (Table.operators (suc (suc (suc zero)))) = tt
spell_tables e (Table.operators (suc (suc (suc (suc zero))))) = tt
spell_tables e (Table.operators (suc (suc (suc (suc (suc zero)))))) = tt
spell_tables e (Table.operators (suc (suc (suc (suc (suc (suc n))))))) = tt

entry_spells : (e : Edition) (n : Table) (x : ℕ) {p : Form} → kaori e n x ≡ p → T (spell_entry n p)
entry_spells e n x k = rw k at (in_tables e spell_entry (spell_tables e) n x)

-- the token that a node begins with
opened : (e : Edition) (y : ℕ) {kind : ℕ → ℕ} {p : Form} {a b : ℕ} {t : Tree Label} → Reads (kaori e) kind (whole p) a b t → T (opens y p) → kind a ≡ y
opened e y Reads.nothing h = absurd h
opened e y (Reads.taken {x = x} k r) h = k ∙ eqb→eq x y h
opened e y (Reads.both r q) h = absurd h
opened e y (Reads.opened r) h = absurd h
opened e y (Reads.labelled r) h = absurd h
opened e y (Reads.chosen k r) h = absurd h
opened e y (Reads.ended r k) h = absurd h
opened e y (Reads.alone r k) h = absurd h
opened e y (Reads.joined r k q) h = absurd h

-- a node that starts at token a, of what its parts made
pub record Spelt (kind : ℕ → ℕ) (f : Label) (a : ℕ) (xs ys : List Handle) : Type 0 where
  pub opens_with : T (has_word f) → kind a ≡ word_kind f
  pub first : T (lone f).0 → Fits a_name xs
  pub rest : T (lone f).1 → Fits a_name ys

spelt : (e : Edition) (f : Label) {kind : ℕ → ℕ} {p : Form} {a b : ℕ} {t : Tree Label} {z : Size × Size} {xs ys : List Handle} → T (spell f p z) → Reads (kaori e) kind (whole p) a b t → Fits z.0 xs → Fits z.1 ys → Spelt kind f a xs ys
unfolding spell
spelt e f {p = p} {z = z} h x i j =
    let (u, v) = both (not (has_word f) || opens (word_kind f) p) _ h in
    let (q, r) = both (not (lone f).0 || sub z.0 a_name) (not (lone f).1 || sub z.1 a_name) v in
    record { opens_with = λ k. opened e (word_kind f) x (implied (has_word f) (opens (word_kind f) p) u k); first = λ k. fits_sub (implied (lone f).0 (sub z.0 a_name) q k) i; rest = λ k. fits_sub (implied (lone f).1 (sub z.1 a_name) r k) j }

-- what a choice reads, what a node is, and what a link is
pub choice_spells : (e : Edition) (n : Table) (x : ℕ) {p : Form} → kaori e n x ≡ p → T (ok (choice n)) → T (spells p)
unfolding ok spell_entry
choice_spells e n x {p} k h = (choose (table n).0 (spells p) (spell_link (table n).1 p) (entry_spells e n x k)).0 h

pub node_spelt : (e : Edition) (f : Label) {kind : ℕ → ℕ} {p : Form} {a b : ℕ} {t : Tree Label} {xs ys : List Handle} → T (spells (node f p)) → Reads (kaori e) kind (whole p) a b t → Fits (shape p).0 xs → Fits (shape p).1 ys → Spelt kind f a xs ys × T (spells p)
unfolding spells
node_spelt e f {p = p} h x i j = let (u, v) = both (spell f p (shape p)) (spells p) h in (spelt e f u x i j, v)

pub link_spelt : (e : Edition) (n : Table) (x : ℕ) (f : Label) {kind : ℕ → ℕ} {q : Form} {a b : ℕ} {t : Tree Label} {xs ys : List Handle} → kaori e n x ≡ node f q → T (not (table n).0) → Reads (kaori e) kind (whole q) a b t → Fits (joined ((table n).1, none) (shape q)).0 xs → Fits (joined ((table n).1, none) (shape q)).1 ys → Spelt kind f a xs ys × T (spells q)
unfolding spell_entry spell_link
link_spelt e n x f {q = q} k h r i j = let (u, v) = both (spell f q (joined ((table n).1, none) (shape q))) (spells q) ((choose (table n).0 (spells (node f q)) (spell_link (table n).1 (node f q)) (entry_spells e n x k)).1 h) in (spelt e f u r i j, v)
