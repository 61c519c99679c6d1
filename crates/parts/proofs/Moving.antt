-- A walk of what stands elsewhere writes the rows moved: two walks of one reading, of which the second meets each token where it stands now. For any move that goes on
-- from row to row as the second walk does.
use Prim.Native.Nat.{ℕ, ◌≤◌, ◌<◌}
use mathlib.Core.Bool.{Bool, true, false, not, ◌&&◌, ◌||◌}
use mathlib.Core.List.{List, [], ◌∷◌, ◌++◌}
use mathlib.Core.Path.{◌≡◌, refl, sym}
use native.Mathlib.Decide.{dec_lt}
use native.Mathlib.Omega.{arith}
use borrow.Author.Tests.{ne_eqb}
use lib.Dec.{T}
use Rattle.grammar.specs.Edition.{Edition}
use Rattle.grammar.specs.Handle.{Handle, absent}
use Rattle.grammar.specs.Kaori.{Table, Form, kaori}
use Rattle.grammar.specs.Label.{Label, number_of}
use Rattle.grammar.specs.Layout.{layout}
use Rattle.grammar.specs.Naming.{height}
use Rattle.grammar.specs.Phrase.{node, Tree, more, made, Aim, whole, Reads}
use Rattle.grammar.specs.Rows.{Rows, Walked, keep, parts, put, make, walk}
use Rattle.grammar.specs.Rule.{Row, writes, fields}
use Rattle.grammar.specs.Token.{kind}
use Rattle.grammar.proofs.Decoding.{Whole}
use Rattle.grammar.proofs.Forest.{Later, later_both}
use Rattle.grammar.proofs.Growth.{filled as one_more}
use Rattle.grammar.proofs.Machine.{asked}
use Rattle.grammar.proofs.Order.{Laid, told, told_root}
use Rattle.grammar.proofs.Room.{cost}
use Rattle.grammar.proofs.Shapes.{table, takes, shape, ok, choice_ok, chain_ok, link_ok}
use Rattle.grammar.proofs.Sizes.{Size, none as no-handles}
use Rattle.grammar.proofs.Tests.{both, all, as_true}
use Rattle.grammar.proofs.Trees.{Grows, weaker, both_grow, grows}
use Rattle.foreign.specs.Check.{link_count}
use Rattle.foreign.proofs.Suits.{suits, Suited, suited, choice_suits, link_suits, node_suits, filled, filled_link}
use Rattle.parts.specs.Moved.{Move}
use Rattle.parts.specs.Packed.{links_before}
use Rattle.parts.proofs.Kinship.{All, replaced}
use Rattle.parts.proofs.Spanned.{flat, plain, fine, wants_plain, is_block, Spanned, joined, spanned, choice_fine, chain_fine, link_fine}
use Rattle.parts.proofs.Carrying.{Step, Place, RowLike, row_alike, links_next}
use Rattle.parts.proofs.Likeness.{moved_all, moved_append, head_row, entry_moved, RowCarried, Tokens, rule_carried}
use Rattle.parts.proofs.Walking.{make_later, walk_later, taller}

either : (a b : Bool) → T (a || b) → T (not a) → T b
either true b h i = absurd i
either false b h i = h

-- the links of the rows so far are those of their lists
pub record Covers (U v : Rows) : Type 0 where
  pub links : link_count v ≡ links_before U (height v)

module _ (e : Edition) (ts : List ℕ) (σ : ℕ → ℕ) {U : Rows} where
  put_covers : (k : ℕ) (x : Row) {is : List ℕ} {w : Rows} → Laid 6 (layout Edition.second k) (fields x) is → Whole w → Later (put k x w).rows U → Covers U w → Covers U (put k x w).rows
  unfolding put
  put_covers k (writes s u fs) l h n c = record { links = links_next k s u l h n c.links }

  node_covers : {z : Size × Size} {w : Rows} {r : Walked} (f : Label) (a b : ℕ) → T (takes f z) → Grows z w r → Later (make ts σ f a b r.rows r.first r.rest).rows U → Covers U r.rows → Covers U (make ts σ f a b r.rows r.first r.rest).rows
  unfolding takes make
  node_covers (Label.Row n) a b t g n' c = let h = weaker t g in put_covers _ _ (told ts σ n a b h.first h.rest).laid h.whole n' c
  node_covers Label.Script a b t g n c = let h = weaker t g in put_covers _ _ (told_root h.first h.rest).laid h.whole n c
  node_covers Label.Ended a b t g n c = c
  node_covers Label.Item a b t g n c = c
  node_covers Label.Entry a b t g n c = c
  node_covers Label.Name a b t g n c = c

  pub covers : {k : ℕ → ℕ} {g : Aim Table Label} {a b : ℕ} {t : Tree Label} → Reads (kaori e) k g a b t → T (ok (asked g)) → {w : Rows} → Whole w → Later (walk ts σ t w).rows U → Covers U w → Covers U (walk ts σ t w).rows
  unfolding ok shape walk
  covers Reads.nothing h i n c = c
  covers (Reads.taken k x) h i n c = covers x h i n c
  covers (Reads.both {p = p} {q = q} {t = t} {u = u} x y) h {w} i n c =
      let (o, v) = both (ok p) (ok q) h in
      covers y v (grows e ts σ x o i).whole n (covers x o i (later_both (walk_later ts σ u (walk ts σ t w).rows) n) c)
  covers (Reads.opened x) h i n c = covers x h i n c
  covers (Reads.labelled {f = f} {a = a} {b = b} {p = p} {t = t} x) h {w} i n c =
      let (u, v) = both (takes f (shape p)) (ok p) h in
      let r = walk ts σ t w in
      node_covers f a b u (grows e ts σ x v i) n (covers x v i (later_both (make_later ts σ f a b r.rows r.first r.rest) n) c)
  covers (Reads.chosen {n = z} k x) h i n c = covers x (choice_ok e z _ k h).1 i n c
  covers (Reads.first {n = z} {p = p} x) h i n c = covers x (chain_ok z p h).2 i n c
  covers (Reads.link {n = z} {f = f} {b = a} {c = b} {p = p} {q = q} {t = t} {u = u} x k y) h {w} i n c =
      let (o, l, v) = link_ok e z _ f q k (chain_ok z p h).0 in
      let r = walk ts σ t w in
      let s = walk ts σ u r.rows in
      let g = grows e ts σ x h i in
      let n' = later_both (make_later ts σ f a b s.rows (r.first ++ r.rest) (s.first ++ s.rest)) n in
      node_covers f a b o (both_grow g (grows e ts σ y v g.whole)) n (covers y v g.whole n' (covers x h i (later_both (walk_later ts σ u r.rows) n') c))
  covers (Reads.ended x k) h i n c = covers x h i n c
  covers (Reads.alone {n = z} {p = p} x k) h i n c = covers x (chain_ok z p h).2 i n c
  covers (Reads.joined {n = z} {f = f} {b = a} {c = b} {p = p} {q = q} {t = t} {u = u} x k y) h {w} i n c =
      let (j, l, v) = chain_ok z p h in
      let (o, l₁, d) = link_ok e z _ f q k j in
      let r = walk ts σ t w in
      let s = walk ts σ u r.rows in
      let g = weaker l (grows e ts σ x v i) in
      let n' = later_both (make_later ts σ f a b s.rows (r.first ++ r.rest) (s.first ++ s.rest)) n in
      node_covers f a b o (both_grow g (grows e ts σ y d g.whole)) n (covers y d g.whole n' (covers x v i (later_both (walk_later ts σ u r.rows) n') c))

module _ (e : Edition) (ts ts' : List ℕ) (σ σ' f : ℕ → ℕ) (m : Move) (first : ℕ → ℕ → ℕ) (P : ℕ → List ℕ) (U U' : Rows) where
  -- the tokens of a node that takes one
  abbrev pub Toks : Label → ℕ → ℕ → Type 0
  Toks l a b = 1 ≤ cost l → Tokens ts ts' σ σ' f m l a b

  -- from w on, two walks that are alike
  pub record Alike (w : Rows) (r r' : Walked) : Type 0 where
    pub place : Place m first P U U' r.rows r'.rows
    pub each : (i : ℕ) → height w ≤ i → i < height r.rows → RowLike m first P U U' i
    pub first_is : r'.first ≡ moved_all m r.first
    pub rest_is : r'.rest ≡ moved_all m r.rest

  both_alike : {w : Rows} {r r' s s' : Walked} → Alike w r r' → Alike r.rows s s' → Alike w (parts r s) (parts r' s')
  both_alike {r = r} {s = s} g h = record {
    place = h.place;
    each = λ i a b. elim (dec_lt i (height r.rows)) [ yes c ↦ g.each i a c | no c ↦ h.each i (omega arith) b ];
    first_is = rw (g.first_is, g.rest_is) (sym (moved_append m r.first r.rest));
    rest_is = rw (h.first_is, h.rest_is) (sym (moved_append m s.first s.rest));
  }

  kept_alike : {w : Rows} {r r' : Walked} {hs hs' : List Handle} → hs' ≡ moved_all m hs → Alike w r r' → Alike w (keep r.rows hs) (keep r'.rows hs')
  kept_alike q g = record { place = g.place; each = g.each; first_is = q; rest_is = refl }

  -- rows from `low` on and below `high` go on from row to row
  module _ (low high : ℕ) (small : high ≤ absent) (steps : (i : ℕ) → low ≤ i → i < high → Step m first P U U' i) where
    put_alike : (k : ℕ) {x x' : Row} → RowCarried m (layout Edition.second k) x x' → {w : Rows} {r r' : Walked} → Alike w r r' → low ≤ height r.rows → height (put k x r.rows).rows ≤ high → Later (put k x r.rows).rows U → Later (put k x' r'.rows).rows U' → Alike w (put k x r.rows) (put k x' r'.rows)
    unfolding put
    put_alike k (RowCarried.carried_row {s = s} {e = u} {s' = s'} {e' = u'} {fs = fs} p q c) {w} {r} {r'} g a b l l' =
        let o = one_more fs (k ∷ s ∷ u ∷ []) r.rows in
        let less : height r.rows < high = omega (arith, o.nodes) in
        let (x, y) = row_alike m first P U U' k s u p q c g.place (steps (height r.rows) a less) l l' in
        record {
          place = x;
          each = λ i d j. elim (dec_lt i (height r.rows)) [ yes z ↦ g.each i d z | no z ↦ let h : i ≡ height r.rows = omega (arith, o.nodes) in rw h y ];
          first_is = rw (p, q, g.place.rows, ne_eqb (height r.rows) absent (λ z. omega arith));
          rest_is = refl;
        }

    node_alike : {z : Size × Size} {w : Rows} {r r' : Walked} (b₁ : Bool) (l : Label) (a b : ℕ) → T (takes l z) → Toks l a b → Suited e (kind ts) l a r.first r.rest → Grows z w r → T (wants_plain l b₁) → (T b₁ → Spanned r.first r.rest) → Alike w r r' → low ≤ height r.rows → height (make ts σ l a b r.rows r.first r.rest).rows ≤ high → Later (make ts σ l a b r.rows r.first r.rest).rows U → Later (make ts' σ' l (f a) (f b) r'.rows r'.first r'.rest).rows U' → Alike w (make ts σ l a b r.rows r.first r.rest) (make ts' σ' l (f a) (f b) r'.rows r'.first r'.rest)
    unfolding takes make
    node_alike {r = r} {r' = r'} b₁ (Label.Row n) a b t k i g o h x u v c d =
        let y = weaker t g in
        let z = rule_carried ts ts' σ σ' f m e n (k (omega arith)) i y.first y.rest (λ s. h (either (is_block n) b₁ o s)) in
        put_alike (number_of n) (rw (← x.first_is, ← x.rest_is) at z) x u v c d
    node_alike b₁ Label.Script a b t k i g o h x u v c d = absurd o
    node_alike {r = r} {r' = r'} b₁ Label.Ended a b t k i g o h x u v c d = kept_alike (rw (x.first_is, head_row m r.first)) x
    node_alike {r = r} {r' = r'} b₁ Label.Item a b t k i g o h x u v c d = kept_alike (rw (x.first_is, x.rest_is) (sym (moved_append m r.first r.rest))) x
    node_alike {r = r} {r' = r'} b₁ Label.Entry a b t k i g o h x u v c d = kept_alike (rw (x.first_is, x.rest_is) (entry_moved m r.first r.rest)) x
    node_alike {r = r} {r' = r'} b₁ Label.Name a b t k i g o h x u v c d = let y = k (omega arith) in kept_alike (rw (y.word_is (as_true _ i.spelt), y.first.start_is, y.first.end_is)) x

    -- what was read so far, and then a link
    linked : (n : Table) (l : Label) (t : Tree Label) (w w' : Rows) {q : Form} {a b : ℕ} {s : Tree Label} → kaori e n (kind ts a) ≡ node l q → Reads (kaori e) (kind ts) (whole q) a b s → T (not (table n).0) → Toks l a b → Grows ((table n).1, no-handles) w (walk ts σ t w) → (T (flat n) → Spanned (walk ts σ t w).first (walk ts σ t w).rest) → low ≤ height w
        → (height (walk ts σ t w).rows ≤ high → Later (walk ts σ t w).rows U → Later (walk ts' σ' (replaced f t) w').rows U' → Alike w (walk ts σ t w) (walk ts' σ' (replaced f t) w'))
        → (T (ok q) → T (suits e q) → T (fine q) → Place m first P U U' (walk ts σ t w).rows (walk ts' σ' (replaced f t) w').rows → low ≤ height (walk ts σ t w).rows → height (walk ts σ s (walk ts σ t w).rows).rows ≤ high → Later (walk ts σ s (walk ts σ t w).rows).rows U → Later (walk ts' σ' (replaced f s) (walk ts' σ' (replaced f t) w').rows).rows U' → Alike (walk ts σ t w).rows (walk ts σ s (walk ts σ t w).rows) (walk ts' σ' (replaced f s) (walk ts' σ' (replaced f t) w').rows))
        → height (walk ts σ (made l a b (more t s)) w).rows ≤ high → Later (walk ts σ (made l a b (more t s)) w).rows U → Later (walk ts' σ' (replaced f (made l a b (more t s))) w').rows U' → Alike w (walk ts σ (made l a b (more t s)) w) (walk ts' σ' (replaced f (made l a b (more t s))) w')
    unfolding walk replaced
    linked n l t w w' {q = q} {a = a} {b = b} {s = s} z y ck k grown spans u before own v c d =
        let (tk, bf, oq) = link_ok e n _ l q z ck in
        let (j₁, j₂) = link_suits e n _ l q z ck in
        let (f₁, f₂) = link_fine e n _ l q z ck in
        let r = walk ts σ t w in
        let r' = walk ts' σ' (replaced f t) w' in
        let o = walk ts σ s r.rows in
        let o' = walk ts' σ' (replaced f s) r'.rows in
        let n₁ = make_later ts σ l a b o.rows (r.first ++ r.rest) (o.first ++ o.rest) in
        let c₁ = later_both n₁ c in
        let d₁ = later_both (make_later ts' σ' l (f a) (f b) o'.rows (r'.first ++ r'.rest) (o'.first ++ o'.rest)) d in
        let n₂ = walk_later ts σ s r.rows in
        let n₃ = walk_later ts σ t w in
        let g = before (omega (arith, taller n₁, taller n₂)) (later_both n₂ c₁) (later_both (walk_later ts' σ' (replaced f s) r'.rows) d₁) in
        let y₁ = own oq j₂ f₂ g.place (omega (arith, taller n₃)) (omega (arith, taller n₁)) c₁ d₁ in
        node_alike (flat n && plain q) l a b tk k (suited e l j₁ y (filled_link (filled e ts σ y oq grown.whole))) (both_grow grown (grows e ts σ y oq grown.whole)) f₁ (λ s₁. let (fl, pl) = both (flat n) (plain q) s₁ in joined (spans fl) (spanned ts σ e y pl r.rows)) (both_alike g y₁) (omega (arith, taller n₂, taller n₃)) v c d

    -- a walk here and a walk there of one reading
    pub alike : {g : Aim Table Label} {a b : ℕ} {t : Tree Label} → Reads (kaori e) (kind ts) g a b t → T (ok (asked g)) → T (suits e (asked g)) → T (fine (asked g)) → All Toks t → {w w' : Rows} → Place m first P U U' w w' → low ≤ height w → height (walk ts σ t w).rows ≤ high → Later (walk ts σ t w).rows U → Later (walk ts' σ' (replaced f t) w').rows U' → Alike w (walk ts σ t w) (walk ts' σ' (replaced f t) w')
    unfolding ok shape walk suits replaced fine plain
    alike Reads.nothing h j y₀ k p u v c d = record { place = p; each = λ i a b. absurd (omega arith); first_is = refl; rest_is = refl }
    alike (Reads.taken q x) h j y₀ k p u v c d = alike x h j y₀ k p u v c d
    alike (Reads.both {p = p₁} {q = p₂} {t = t} {u = s} x y) h j y₀ (All.two k₁ k₂) {w} {w'} p u v c d =
        let (o₁, o₂) = both (ok p₁) (ok p₂) h in
        let (j₁, j₂) = both (suits e p₁) (suits e p₂) j in
        let (f₁, f₂) = both (fine p₁) (fine p₂) y₀ in
        let r = walk ts σ t w in
        let r' = walk ts' σ' (replaced f t) w' in
        let n = walk_later ts σ s r.rows in
        let g = alike x o₁ j₁ f₁ k₁ p u (omega (arith, taller n)) (later_both n c) (later_both (walk_later ts' σ' (replaced f s) r'.rows) d) in
        both_alike g (alike y o₂ j₂ f₂ k₂ g.place (omega (arith, taller (walk_later ts σ t w))) v c d)
    alike (Reads.opened x) h j y₀ (All.under k) p u v c d = alike x h j y₀ k p u v c d
    alike (Reads.labelled {f = l} {a = a} {b = b} {p = p₁} {t = t} x) h j y₀ (All.at k₁ k₂) {w} {w'} p u v c d =
        let (y, o) = both (takes l (shape p₁)) (ok p₁) h in
        let (j₁, j₂) = node_suits e l p₁ j in
        let (f₁, f₂) = both (wants_plain l (plain p₁)) (fine p₁) y₀ in
        let r = walk ts σ t w in
        let r' = walk ts' σ' (replaced f t) w' in
        let n = make_later ts σ l a b r.rows r.first r.rest in
        let g = alike x o j₂ f₂ k₂ p u (omega (arith, taller n)) (later_both n c) (later_both (make_later ts' σ' l (f a) (f b) r'.rows r'.first r'.rest) d) in
        node_alike (plain p₁) l a b y k₁ (suited e l j₁ x (filled e ts σ x o p.old)) (grows e ts σ x o p.old) f₁ (λ s. spanned ts σ e x s w) g (omega (arith, taller (walk_later ts σ t w))) v c d
    alike (Reads.chosen {n = n} q x) h j y₀ k p u v c d = alike x (choice_ok e n _ q h).1 (choice_suits e n _ q h) (choice_fine e n _ q h) k p u v c d
    alike (Reads.first {n = n} {p = p₁} x) h j y₀ k p u v c d = alike x (chain_ok n p₁ h).2 j (chain_fine n p₁ y₀).0 k p u v c d
    alike (Reads.link {n = n} {f = l} {p = p₁} {t = t} x z y) h j y₀ (All.at k₁ (All.two k₂ k₃)) {w} {w'} p u v c d =
        let f₄ = (chain_fine n p₁ y₀).1 in
        linked n l t w w' z y (chain_ok n p₁ h).0 k₁ (grows e ts σ x h p.old) (λ fl. spanned ts σ e x (all (plain p₁) (flat n) (f₄ fl) fl) w) u (λ v₁ c₁ d₁. alike x h j y₀ k₂ p u v₁ c₁ d₁) (λ oq jq fq p₂ u₂ v₂ c₂ d₂. alike y oq jq fq k₃ p₂ u₂ v₂ c₂ d₂) v c d
    alike (Reads.ended x q) h j y₀ k p u v c d = alike x h j y₀ k p u v c d
    alike (Reads.alone {n = n} {p = p₁} x q) h j y₀ k p u v c d = alike x (chain_ok n p₁ h).2 j (chain_fine n p₁ y₀).0 k p u v c d
    alike (Reads.joined {n = n} {f = l} {p = p₁} {t = t} x z y) h j y₀ (All.at k₁ (All.two k₂ k₃)) {w} {w'} p u v c d =
        let (ck, fits, ip) = chain_ok n p₁ h in
        let (f₃, f₄) = chain_fine n p₁ y₀ in
        linked n l t w w' z y ck k₁ (weaker fits (grows e ts σ x ip p.old)) (λ fl. spanned ts σ e x (f₄ fl) w) u (λ v₁ c₁ d₁. alike x ip j f₃ k₂ p u v₁ c₁ d₁) (λ oq jq fq p₂ u₂ v₂ c₂ d₂. alike y oq jq fq k₃ p₂ u₂ v₂ c₂ d₂) v c d
