-- Rows ask for the symbols of identifiers and strings, and of no other token: symbols that are the same there give the same rows. What a node's row asks of the list
-- is its first token, the end of its last one and, of an import, that of the one after it.
use Prim.Native.Nat.{ℕ, ◌-◌, ◌≤◌, ◌<◌}
use mathlib.Core.Bool.{true, not}
use mathlib.Core.List.{List}
use mathlib.Core.Path.{◌≡◌, refl, ap}
use native.Mathlib.Omega.{arith}
use lib.Dec.{T}
use Rattle.grammar.specs.Edition.{Edition}
use Rattle.grammar.specs.Handle.{Handle}
use Rattle.grammar.specs.Kaori.{Table, Form, above, kaori}
use Rattle.grammar.specs.Label.{Node, Label}
use Rattle.grammar.specs.Parent.{parented, written}
use Rattle.grammar.specs.Phrase.{node, Tree, Aim, whole, Reads}
use Rattle.grammar.specs.Profile.{Profile, ReadsAll}
use Rattle.grammar.specs.Rows.{Rows, blank, make, walk, unparented}
use Rattle.grammar.specs.Rule.{rule}
use Rattle.grammar.specs.Space.{has_word}
use Rattle.grammar.specs.Token.{kind as kind_of, start, end}
use Rattle.grammar.proofs.Halves.{takes}
use Rattle.grammar.proofs.Machine.{asked}
use Rattle.grammar.proofs.Tests.{both}
use Rattle.grammar.proofs.Worded.{a_name, spoken, spoken_entry, Speech, speech}

-- two lists with their symbols
module _ (ts us : List ℕ) (σ τ : ℕ → ℕ) where
  -- they agree in all that a node of the tokens from a up to b asks
  pub record Agree (f : Label) (a b : ℕ) : Type 0 where
    pub kinds : kind_of ts a ≡ kind_of us a
    pub starts : start ts a ≡ start us a
    pub ends : end ts a ≡ end us a
    pub last : end ts (b - 1) ≡ end us (b - 1)
    pub after : f ≡ Label.Row Node.Import → end ts b ≡ end us b
    pub word : has_word f ≡ true → σ a ≡ τ a

  rule_same : (n : Node) (a b : ℕ) (xs ys : List Handle) (x y : Handle) → Agree (Label.Row n) a b → rule ts σ n a b xs ys x y ≡ rule us τ n a b xs ys x y
  unfolding rule has_word
  rule_same Node.Binary a b xs ys x y h = rw h.kinds
  rule_same Node.LogicalAnd a b xs ys x y h = refl
  rule_same Node.LogicalOr a b xs ys x y h = refl
  rule_same (Node.LogicalNot Edition.first) a b xs ys x y h = rw (h.starts, h.ends)
  rule_same (Node.LogicalNot Edition.second) a b xs ys x y h = rw h.starts
  rule_same Node.Unary a b xs ys x y h = rw (h.starts, h.kinds)
  rule_same Node.Assign a b xs ys x y h = refl
  rule_same Node.Variable a b xs ys x y h = rw h.starts
  rule_same Node.Constant a b xs ys x y h = rw h.starts
  rule_same Node.Ref a b xs ys x y h = rw h.starts
  rule_same Node.Identifier a b xs ys x y h = rw (h.starts, h.ends, h.word refl)
  rule_same Node.String a b xs ys x y h = rw (h.starts, h.ends, h.word refl)
  rule_same Node.Number a b xs ys x y h = rw (h.starts, h.ends)
  rule_same Node.Boolean a b xs ys x y h = rw (h.starts, h.ends, h.kinds)
  rule_same Node.Nil a b xs ys x y h = rw (h.starts, h.ends)
  rule_same Node.FunctionCall a b xs ys x y h = rw (h.starts, h.last)
  rule_same Node.PropertyAccess a b xs ys x y h = rw h.starts
  rule_same Node.Map a b xs ys x y h = rw (h.starts, h.last)
  rule_same Node.Function a b xs ys x y h = rw h.starts
  rule_same Node.Lambda a b xs ys x y h = rw h.starts
  rule_same Node.Block a b xs ys x y h = rw (h.starts, h.last)
  rule_same Node.If a b xs ys x y h = rw h.starts
  rule_same Node.WhileLoop a b xs ys x y h = rw h.starts
  rule_same Node.Return a b xs ys x y h = rw (h.starts, h.ends)
  rule_same Node.Break a b xs ys x y h = rw (h.starts, h.ends)
  rule_same Node.Continue a b xs ys x y h = rw (h.starts, h.ends)
  rule_same Node.Import a b xs ys x y h = rw (h.starts, h.after refl)

  make_same : (f : Label) (a b : ℕ) (w : Rows) (xs ys : List Handle) → Agree f a b → make ts σ f a b w xs ys ≡ make us τ f a b w xs ys
  unfolding make has_word
  make_same (Label.Row n) a b w xs ys h = rw (rule_same n a b xs ys _ _ h)
  make_same Label.Script a b w xs ys h = refl
  make_same Label.Ended a b w xs ys h = refl
  make_same Label.Item a b w xs ys h = refl
  make_same Label.Entry a b w xs ys h = refl
  make_same Label.Name a b w xs ys h = rw (h.starts, h.ends, h.word refl)

  -- from tree to tree
  pub more_same : (t u : Tree Label) → ((w : Rows) → walk ts σ t w ≡ walk us τ t w) → ((w : Rows) → walk ts σ u w ≡ walk us τ u w) → (w : Rows) → walk ts σ (Tree.more t u) w ≡ walk us τ (Tree.more t u) w
  unfolding walk
  more_same t u h k w = rw (h w, k (walk us τ t w).rows)

  pub made_same : (f : Label) (a b : ℕ) (t : Tree Label) → Agree f a b → ((w : Rows) → walk ts σ t w ≡ walk us τ t w) → (w : Rows) → walk ts σ (Tree.made f a b t) w ≡ walk us τ (Tree.made f a b t) w
  unfolding walk
  made_same f a b t h k w = let r = walk us τ t w in rw (k w) (make_same f a b r.rows r.first r.rest h)

-- one list with two symbols: a node that has no word asks for no symbol, and one that has asks for its first token's
module _ (ts : List ℕ) (σ τ : ℕ → ℕ) where
  agree : {f : Label} {a b : ℕ} → (has_word f ≡ true → σ a ≡ τ a) → Agree ts ts σ τ f a b
  agree h = record { kinds = refl; starts = refl; ends = refl; last = refl; after = λ i. refl; word = h }

  bare_same : {t : Tree Label} → t ≡ Tree.none → (w : Rows) → walk ts σ t w ≡ walk ts τ t w
  unfolding walk
  bare_same e w = rw e

  module _ (e : Edition) {kind : ℕ → ℕ} {n : ℕ} (same : (i : ℕ) → i < n → a_name (kind i) ≡ true → σ i ≡ τ i) where
    -- what a node has, and what it asks for itself
    node_same : (f : Label) {p : Form} {a b : ℕ} {t : Tree Label} → Reads (kaori e) kind (whole p) a b t → T (spoken (node f p)) → b ≤ n → (T (spoken p) → (w : Rows) → walk ts σ t w ≡ walk ts τ t w) → (has_word f ≡ true → σ a ≡ τ a) × ((w : Rows) → walk ts σ t w ≡ walk ts τ t w)
    node_same f {p} {a} {b} {t} x h l g = pick (speech e f x h)
      where
        pick : Speech kind f p a b t → (has_word f ≡ true → σ a ≡ τ a) × ((w : Rows) → walk ts σ t w ≡ walk ts τ t w)
        pick (Speech.word i y) = (λ _. same a (omega (arith, y.ends)) y.spells, bare_same y.bare)
        pick (Speech.wordless i k) = (λ j. absurd (let z : ◌≡◌ {A = ℕ} 0 1 = cc in omega arith), g k)

    walk_same : {m : Aim Table Label} {a b : ℕ} {t : Tree Label} → Reads (kaori e) kind m a b t → T (spoken (asked m)) → b ≤ n → (w : Rows) → walk ts σ t w ≡ walk ts τ t w
    unfolding walk spoken
    walk_same Reads.nothing h l w = refl
    walk_same (Reads.taken {x = x} {p = p} k r) h l w = walk_same r (both (not (a_name x)) (spoken p) h).1 l w
    walk_same (Reads.both {p = p} {q = q} {t = t} {u = u} x y) h l w = let (i, j) = both (spoken p) (spoken q) h in more_same ts ts σ τ t u (walk_same x i (omega (arith, takes e y))) (walk_same y j l) w
    walk_same (Reads.opened x) h l w = walk_same x h l w
    walk_same (Reads.labelled {f = f} {a = a} {b = b} {t = t} x) h l w = let (i, j) = node_same f x h l (λ v. walk_same x v l) in made_same ts ts σ τ f a b t (agree i) j w
    walk_same (Reads.chosen {n = m} k x) h l w = walk_same x (spoken_entry e m _ k) l w
    walk_same (Reads.first x) h l w = walk_same x h l w
    walk_same (Reads.link {n = m} {f = f} {b = b} {c = c} {t = t} {u = u} x k y) h l w =
        let (i, j) = node_same f y (spoken_entry e m _ k) l (λ v. walk_same y v l) in
        made_same ts ts σ τ f b c (Tree.more t u) (agree i) (more_same ts ts σ τ t u (walk_same x h (omega (arith, takes e y))) j) w
    walk_same (Reads.ended x k) h l w = walk_same x h l w
    walk_same (Reads.alone x k) h l w = walk_same x h l w
    walk_same (Reads.joined {n = m} {f = f} {b = b} {c = c} {t = t} {u = u} x k y) h l w =
        let (i, j) = node_same f y (spoken_entry e m _ k) l (λ v. walk_same y v l) in
        made_same ts ts σ τ f b c (Tree.more t u) (agree i) (more_same ts ts σ τ t u (walk_same x h (omega (arith, takes e y))) j) w

-- the rows of a script and of a guard
pub written_same : (p : Profile) (n : ℕ) (e : Edition) (ts : List ℕ) (σ τ : ℕ → ℕ) {kind : ℕ → ℕ} {t : Tree Label} → ReadsAll p e kind n t → ((i : ℕ) → i < n → a_name (kind i) ≡ true → σ i ≡ τ i) → written ts σ t ≡ written ts τ t
unfolding written unparented spoken has_word above
written_same Profile.script n e ts σ τ x same = ap (λ r. parented r.rows) (walk_same ts σ τ e same x tt (omega arith) blank)
written_same Profile.guard n e ts σ τ x same = ap (λ r. parented r.rows) (walk_same ts σ τ e same x tt (omega arith) blank)
