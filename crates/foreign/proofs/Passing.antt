-- What a reading writes keeps the rules, and the handles that it makes name rows and symbols that are there.
use Prim.Native.Nat.{ℕ, ◌≤◌, ◌<◌}
use native.Mathlib.Omega.{arith}
use mathlib.Core.List.{List, [], ◌∷◌}
use mathlib.Core.Logic.{inl, inr}
use mathlib.Core.Path.{ap}
use lib.Dec.{T, leb, leb→le}
use lib.ListN.{length, length-append}
use Rattle.grammar.specs.Edition.{Edition}
use Rattle.grammar.specs.Handle.{Handle, entry_of}
use Rattle.grammar.specs.Kaori.{Table, kaori}
use Rattle.grammar.specs.Label.{Label, number_of}
use Rattle.grammar.specs.Layout.{layout}
use Rattle.grammar.specs.Naming.{height}
use Rattle.grammar.specs.Phrase.{Tree, Aim, Reads}
use Rattle.grammar.specs.Rows.{Rows, Walked, keep, parts, put, make, walk}
use Rattle.grammar.specs.Rule.{Row, writes, fields}
use Rattle.grammar.specs.Token.{kind}
use Rattle.grammar.proofs.Decoding.{Whole, fill_later}
use Rattle.grammar.proofs.Forest.{Later, later_self, later_both}
use Rattle.grammar.proofs.Growth.{filled as one_more}
use Rattle.grammar.proofs.Machine.{asked}
use Rattle.grammar.proofs.Shapes.{takes, shape, ok, choice_ok, chain_ok, link_ok}
use Rattle.grammar.proofs.Sizes.{Size, one, maybe}
use Rattle.grammar.proofs.Tests.{both}
use Rattle.grammar.proofs.Trees.{Grows, weaker, both_grow, grows}
use Rattle.grammar.proofs.Worded.{a_name}
use Rattle.foreign.specs.Check.{Each, nil, cons, Before}
use Rattle.foreign.proofs.Each.{each_map, each_both}
use Rattle.foreign.proofs.Lawful.{Lawful, row_lawful}
use Rattle.foreign.proofs.Sitting.{Is, Stands, stands, Holds, Sits, sits, sits_root, one_row, maybe_row}
use Rattle.foreign.proofs.Suits.{suits, Suited, suited, choice_suits, link_suits, node_suits, filled, filled_link}

-- handles that stand go on standing
module _ {n m : ℕ} (h : n ≤ m) where
  before_more : {x : ℕ} → Before n x → Before m x
  before_more (inl l) = inl (omega arith)
  before_more (inr e) = inr e

  stands_later : {s : ℕ} {g : Handle} → Stands n s g → Stands m s g
  stands_later (stands (Is.node {i = i} l)) = stands (Is.node {i = i} (omega arith))
  stands_later (stands (Is.ended {i = i} l)) = stands (Is.ended {i = i} (omega arith))
  stands_later (stands (Is.name l)) = stands (Is.name l)
  stands_later (stands (Is.entry {k = k} l b)) = stands (Is.entry {k = k} (omega arith) (before_more b))

entry_stands : {n s : ℕ} (xs ys : List Handle) → Holds n s one xs → Holds n s maybe ys → Each (Stands n s) (entry_of xs ys)
entry_stands [] ys f g = nil
entry_stands (x ∷ xs) ys f g = cons (stands (Is.entry (one_row f) (maybe_row g))) nil

taller : {w v : Rows} → Later w v → height w ≤ height v
taller {w} {v} l = omega (arith, ap length l.nodes.same, length-append w.nodes l.nodes.rest)

module _ (e : Edition) (ts : List ℕ) (σ : ℕ → ℕ) (s : ℕ) where
  -- from w on, what a walk wrote keeps the rules, and what it made stands
  pub record Stood (w : Rows) (r : Walked) : Type 0 where
    pub later : Later w r.rows
    pub lawful : Lawful e s r.rows
    pub first : Each (Stands (height r.rows) s) r.first
    pub rest : Each (Stands (height r.rows) s) r.rest

  both_stood : {w : Rows} {r q : Walked} → Stood w r → Stood r.rows q → Stood w (parts r q)
  both_stood x y = record { later = later_both x.later y.later; lawful = y.lawful; first = each_map (λ g. stands_later (taller y.later)) (each_both x.first x.rest); rest = each_both y.first y.rest }

  -- handles alone
  made_stood : {w : Rows} {r : Walked} {hs : List Handle} → Each (Stands (height r.rows) s) hs → Stood w r → Stood w (keep r.rows hs)
  made_stood i x = record { later = x.later; lawful = x.lawful; first = i; rest = nil }

  -- one row more
  row_stood : {w : Rows} {r : Walked} (k : ℕ) (x : Row) → 1 ≤ k → k ≤ 26 → Sits (height r.rows) s 6 (layout e k) (fields x) → Whole r.rows → Stood w r → Stood w (put k x r.rows)
  unfolding put
  row_stood {r = r} k (writes a b fs) l m i h x =
      let z = one_more fs (k ∷ a ∷ b ∷ []) r.rows in
      record { later = later_both x.later (fill_later fs (k ∷ a ∷ b ∷ []) r.rows); lawful = row_lawful e k a b i h l m x.lawful; first = cons (stands (Is.node {i = height r.rows} (omega (arith, z.nodes)))) nil; rest = nil }

  holds : {y z : Size} {w : Rows} {r : Walked} → Grows (y, z) w r → Stood w r → Holds (height r.rows) s y r.first × Holds (height r.rows) s z r.rest
  holds g x = (record { fits = g.first; stand = x.first }, record { fits = g.rest; stand = x.rest })

  -- where a word's symbol is there
  module _ (words : (i : ℕ) → T (a_name (kind ts i)) → σ i < s) where
    node_stood : {z : Size × Size} {w : Rows} {r : Walked} (f : Label) (a b : ℕ) → T (takes f z) → Suited e (kind ts) f a r.first r.rest → Grows z w r → Stood w r → Stood w (make ts σ f a b r.rows r.first r.rest)
    unfolding takes make
    node_stood (Label.Row n) a b t i g x =
        let h = weaker t g in
        let (p, q) = holds h x in
        let (l, m) = both (leb 1 (number_of n)) (leb (number_of n) 26) i.kind_known in
        row_stood _ _ (leb→le 1 (number_of n) l) (leb→le (number_of n) 26 m) (sits e ts σ n a b (words a) i p q) h.whole x
    node_stood Label.Script a b t i g x = let h = weaker t g in row_stood _ _ (omega arith) (omega arith) (sits_root e (holds h x).0) h.whole x
    node_stood Label.Ended a b t i g x = made_stood (cons (stands (Is.ended (one_row (holds (weaker t g) x).0))) nil) x
    node_stood Label.Item a b t i g x = made_stood (each_both x.first x.rest) x
    node_stood {r = r} Label.Entry a b t i g x = let (p, q) = holds (weaker t g) x in made_stood (entry_stands r.first r.rest p q) x
    node_stood Label.Name a b t i g x = made_stood (cons (stands (Is.name (words a i.spelt))) nil) x

    -- what a reading writes
    pub stood : {m : Aim Table Label} {a b : ℕ} {t : Tree Label} → Reads (kaori e) (kind ts) m a b t → T (ok (asked m)) → T (suits e (asked m)) → {w : Rows} → Whole w → Lawful e s w → Stood w (walk ts σ t w)
    unfolding ok shape walk suits
    stood Reads.nothing h j {w} i l = record { later = later_self w; lawful = l; first = nil; rest = nil }
    stood (Reads.taken k x) h j i l = stood x h j i l
    stood (Reads.both {p = p} {q = q} x y) h j i l =
        let (u, v) = both (ok p) (ok q) h in
        let (c, d) = both (suits e p) (suits e q) j in
        let z = stood x u c i l in
        both_stood z (stood y v d (grows e ts σ x u i).whole z.lawful)
    stood (Reads.opened x) h j i l = stood x h j i l
    stood (Reads.labelled {f = f} {p = p} x) h j i l =
        let (u, v) = both (takes f (shape p)) (ok p) h in
        let (c, d) = node_suits e f p j in
        node_stood f _ _ u (suited e f c x (filled e ts σ x v i)) (grows e ts σ x v i) (stood x v d i l)
    stood (Reads.chosen {n = n} k x) h j i l = stood x (choice_ok e n _ k h).1 (choice_suits e n _ k h) i l
    stood (Reads.first {n = n} {p = p} x) h j i l = stood x (chain_ok n p h).2 j i l
    stood (Reads.link {n = n} {f = f} {p = p} {q = q} x k y) h j i l =
        let o = (chain_ok n p h).0 in
        let (t, u, v) = link_ok e n _ f q k o in
        let (c, d) = link_suits e n _ f q k o in
        let g = grows e ts σ x h i in
        let z = stood x h j i l in
        node_stood f _ _ t (suited e f c y (filled_link (filled e ts σ y v g.whole))) (both_grow g (grows e ts σ y v g.whole)) (both_stood z (stood y v d g.whole z.lawful))
    stood (Reads.ended x k) h j i l = stood x h j i l
    stood (Reads.alone {n = n} {p = p} x k) h j i l = stood x (chain_ok n p h).2 j i l
    stood (Reads.joined {n = n} {f = f} {p = p} {q = q} x k y) h j i l =
        let (o, r, v) = chain_ok n p h in
        let (t, u, m) = link_ok e n _ f q k o in
        let (c, d) = link_suits e n _ f q k o in
        let g = weaker r (grows e ts σ x v i) in
        let z = stood x v j i l in
        node_stood f _ _ t (suited e f c y (filled_link (filled e ts σ y m g.whole))) (both_grow g (grows e ts σ y m g.whole)) (both_stood z (stood y m d g.whole z.lawful))
