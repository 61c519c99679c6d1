-- The numbers in the room move a row as the specs do: two moves that agree on rows, symbols and lists of a row's numbers move it alike. And a row that is still as it
-- was can be moved.
use Prim.Native.Nat.{ℕ, zero, suc, ◌+◌, ◌-◌, ◌*◌, ◌≤◌, ◌<◌}
use native.Mathlib.Omega.{arith}
use mathlib.Core.Bool.{Bool, true, false, cond, ◌||◌}
use mathlib.Core.List.{List, [], ◌∷◌}
use mathlib.Core.Logic.{inl, inr}
use mathlib.Core.Path.{◌≡◌, refl, sym, ap, ◌∙◌}
use lib.Dec.{eqb, leb, eqb-suc-zero}
use lib.ListN.{length, get_or, drop}
use lib.Seq.{get_or-drop}
use borrow.Author.Tests.{eqb-true, eqb-false, leb-true, leb-false}
use Rattle.grammar.specs.Handle.{absent}
use Rattle.grammar.specs.Naming.{height}
use Rattle.grammar.specs.Operator.{place}
use Rattle.grammar.specs.Pattern.{among}
use Rattle.grammar.specs.Room.{node_width, own_width, link_width}
use Rattle.grammar.specs.Rows.{Rows}
use Rattle.foreign.specs.Check.{Before, link_count}
use Rattle.parts.specs.Moved.{Move, moved_node, moved_row, moved_links}
use Rattle.parts.specs.Packed.{root_row, links_kept, links_before, packing}
use Rattle.parts.proofs.Sizes.{parent_most}
use Rattle.packing.specs.Good.{Good}
use Rattle.packing.specs.Known.{numbered}
use Rattle.packing.specs.Roles.{role, at, role_at, linked, link_moved, list_moved, number_moved, numbers_moved, lists_moved, lists_size, StandsRow}
use Rattle.packing.specs.Rows.{Maps, moving, Mapped, MovesLists, MovesRow}
use Rattle.packing.proofs.Moving.{plain_moved, node_moved, first_moved, symbol_moved}
use Rattle.packing.proofs.Numbers.{row_names, row_ranges}
use Rattle.packing.proofs.Slots.{role_known, last_role, row_moved, lists_all, stood}

-- rows below h, symbols below s, and all lists
pub record Agrees (m m' : Move) (h s : ℕ) : Type 0 where
  pub node : (x : ℕ) → x < h → m.node x ≡ m'.node x
  pub symbol : (x : ℕ) → x < s → m.symbol x ≡ m'.symbol x
  pub first : (x : ℕ) → m.first x ≡ m'.first x

module _ {m m' : Move} {h s : ℕ} (a : Agrees m m' h s) where
  node_agrees : (x : ℕ) → Before h x → moved_node m x ≡ moved_node m' x
  unfolding moved_node
  node_agrees x (inl l) = rw (a.node x l) refl
  node_agrees x (inr e) = rw e refl

  number_agrees : (r x : ℕ) → (r ≡ 1 → Before h x) → (2 ≤ r → r ≤ 3 → x < s) → number_moved m r x ≡ number_moved m' r x
  number_agrees zero x f g = plain_moved m x refl ∙ sym (plain_moved m' x refl)
  number_agrees (suc zero) x f g = node_moved m x refl ∙ node_agrees x (f refl) ∙ sym (node_moved m' x refl)
  number_agrees (suc (suc zero)) x f g = symbol_moved m x (omega arith) (omega arith) ∙ a.symbol x (g (omega arith) (omega arith)) ∙ sym (symbol_moved m' x (omega arith) (omega arith))
  number_agrees (suc (suc (suc zero))) x f g = symbol_moved m x (omega arith) (omega arith) ∙ a.symbol x (g (omega arith) (omega arith)) ∙ sym (symbol_moved m' x (omega arith) (omega arith))
  number_agrees (suc (suc (suc (suc r)))) x f g = first_moved m x (omega arith) ∙ a.first x ∙ sym (first_moved m' x (omega arith))

  first_agrees : (r x : ℕ) → (r ≡ 5 → x < s) → ((r ≡ 5 → ⊥) → Before h x) → cond (eqb r 5) (m.symbol x) (moved_node m x) ≡ cond (eqb r 5) (m'.symbol x) (moved_node m' x)
  first_agrees r x f g = pick (eqb r 5) refl
    where
      pick : (t : Bool) → eqb r 5 ≡ t → cond t (m.symbol x) (moved_node m x) ≡ cond t (m'.symbol x) (moved_node m' x)
      pick true e = a.symbol x (f (eqb-true r 5 e))
      pick false e = node_agrees x (g (eqb-false r 5 e))

  second_agrees : (r x : ℕ) → (r ≡ 6 → Before h x) → cond (eqb r 6) (moved_node m x) x ≡ cond (eqb r 6) (moved_node m' x) x
  second_agrees r x f = pick (eqb r 6) refl
    where
      pick : (t : Bool) → eqb r 6 ≡ t → cond t (moved_node m x) x ≡ cond t (moved_node m' x) x
      pick true e = node_agrees x (f (eqb-true r 6 e))
      pick false e = refl

  -- the links of a list, the same in both rooms
  list_agrees : (r from n : ℕ) (ls ls' : List ℕ) → ((k : ℕ) → from ≤ k → (j : ℕ) → linked ls k j ≡ linked ls' k j) → (r ≡ 5 → (k : ℕ) → from ≤ k → k < from + n → linked ls' k 0 < s) →
      ((r ≡ 5 → ⊥) → (k : ℕ) → from ≤ k → k < from + n → Before h (linked ls' k 0)) → (r ≡ 6 → (k : ℕ) → from ≤ k → k < from + n → Before h (linked ls' k 1)) →
      list_moved m r ls from n ≡ list_moved m' r ls' from n
  unfolding list_moved link_moved
  list_agrees r from zero ls ls' e f g i = refl
  list_agrees r from (suc n) ls ls' e f g i =
      let x = first_agrees r (linked ls' (from + n) 0) (λ z. f z (from + n) (omega arith) (omega arith)) (λ z. g z (from + n) (omega arith) (omega arith)) in
      let y = second_agrees r (linked ls' (from + n) 1) (λ z. i z (from + n) (omega arith) (omega arith)) in
      rw (list_agrees r from n ls ls' e (λ z k p q. f z k p (omega arith)) (λ z k p q. g z k p (omega arith)) (λ z k p q. i z k p (omega arith)), e (from + n) (omega arith) 0, e (from + n) (omega arith) 1, e (from + n) (omega arith) 2, x, y) refl

-- row i is as it was, and so are the links from `from` on
pub record AsWas (w : Rows) (i from : ℕ) (ns ls : List ℕ) : Type 0 where
  pub number : (j : ℕ) → at ns i j ≡ at w.nodes i j
  pub link : (k : ℕ) → from ≤ k → (j : ℕ) → linked ls k j ≡ linked w.links k j
  pub high : length ns ≡ length w.nodes
  pub long : length ls ≡ length w.links

pub as_was : (w : Rows) (i from : ℕ) (ns ls : List ℕ) → drop (node_width * i) ns ≡ drop (node_width * i) w.nodes → drop (link_width * from) ls ≡ drop (link_width * from) w.links → length ns ≡ length w.nodes → length ls ≡ length w.links → AsWas w i from ns ls
as_was w i from ns ls p q a b = record {
  number = λ j. sym (get_or-drop (node_width * i) ns j 0) ∙ ap (λ (xs : List ℕ). get_or xs j 0) p ∙ get_or-drop (node_width * i) w.nodes j 0;
  link = λ k h j.
      let e : link_width * from + (link_width * k + j - link_width * from) ≡ link_width * k + j = omega arith in
      let x = link_width * k + j - link_width * from in
      ap (λ (y : ℕ). get_or ls y 0) (sym e) ∙ sym (get_or-drop (link_width * from) ls x 0) ∙ ap (λ (xs : List ℕ). get_or xs x 0) q ∙ get_or-drop (link_width * from) w.links x 0 ∙ ap (λ (y : ℕ). get_or w.links y 0) e;
  high = a;
  long = b;
}

module _ {w : Rows} {i from : ℕ} {ns ls : List ℕ} (a : AsWas w i from ns ls) where
  pub role_was : (j : ℕ) → role_at ns i j ≡ role_at w.nodes i j
  role_was j = ap (λ (k : ℕ). role k j) (a.number 0)

  pub sizes_was : (n : ℕ) → lists_size ns i n ≡ lists_size w.nodes i n
  unfolding lists_size
  sizes_was zero = refl
  sizes_was (suc n) = rw (sizes_was n, role_was n, a.number (n + 1)) refl

  pub stands_was : {s : ℕ} → Good s w → i < height w → StandsRow ns i
  stands_was g h = let s = stood g h in record { room = omega (arith, s.room, a.high); least = omega (arith, s.least, a.number 0); most = omega (arith, s.most, a.number 0) }

-- a row that is there has a number
row_there : {h n x : ℕ} → h ≤ n → Before h x → eqb x absent ≡ false → x < n
row_there r (inl l) e = omega arith
row_there {x = x} r (inr z) e = absurd (eqb-false x absent e z)

-- all ten numbers of a row but the last one: a row that it names is one of them or absent, a symbol is in range
wider : {i h x : ℕ} → i ≤ h → Before i x → Before h x
wider l (inl k) = inl (omega arith)
wider l (inr e) = inr e

module _ {s : ℕ} {w : Rows} (g : Good s w) (i : ℕ) (h : i < root_row w) where
  inside : i < height w
  inside = omega arith

  -- the first nine, or the parent
  nine_or : (R : ℕ → Type 0) → ((j : ℕ) → j < own_width → R j) → R own_width → (j : ℕ) → j < node_width → R j
  nine_or R f p j k = pick (leb j 8) refl
    where
      pick : (t : Bool) → leb j 8 ≡ t → R j
      pick true e = f j (omega (arith, leb-true j 8 e))
      pick false e = let z : own_width ≡ j = omega (arith, leb-false j 8 e) in rw z at p

  row_node : (j : ℕ) → j < node_width → role_at w.nodes i j ≡ 1 → Before (height w) (at w.nodes i j)
  row_node = nine_or (λ j. role_at w.nodes i j ≡ 1 → Before (height w) (at w.nodes i j)) (λ j k e. wider (omega arith) ((row_names g i inside j k).node e)) (λ e. inl (omega (arith, parent_most g.checked g.short i h)))

  row_symbol : (j : ℕ) → j < node_width → 2 ≤ role_at w.nodes i j → role_at w.nodes i j ≤ 3 → at w.nodes i j < s
  row_symbol = nine_or (λ j. 2 ≤ role_at w.nodes i j → role_at w.nodes i j ≤ 3 → at w.nodes i j < s) (λ j k. (row_ranges g i inside j k).symbol) (λ a b. absurd (omega (arith, last_role w i (stood g inside))))

  row_list : (j : ℕ) → j < node_width → 4 ≤ role_at w.nodes i j → links_before w i ≤ at w.nodes i j
  row_list = nine_or (λ j. 4 ≤ role_at w.nodes i j → links_before w i ≤ at w.nodes i j) (λ j k l. omega (arith, (row_names g i inside j k).begins l)) (λ l. absurd (omega (arith, last_role w i (stood g inside))))

  row_few : (j : ℕ) → j < node_width → 4 ≤ role_at w.nodes i j → at w.nodes i j ≤ link_count w
  row_few = nine_or (λ j. 4 ≤ role_at w.nodes i j → at w.nodes i j ≤ link_count w) (λ j k l. omega (arith, (row_ranges g i inside j k).list l)) (λ l. absurd (omega (arith, last_role w i (stood g inside))))

  -- two moves that agree move it alike
  module _ {ns ls : List ℕ} (a : AsWas w i (links_before w i) ns ls) {m m' : Move} (b : Agrees m m' (height w) s) where
    numbers_agree : (n : ℕ) → n ≤ node_width → numbers_moved m ns i n ≡ numbers_moved m' w.nodes i n
    unfolding numbers_moved
    numbers_agree zero k = refl
    numbers_agree (suc n) k = rw (numbers_agree n (omega arith), role_was a n, a.number n, number_agrees b (role_at w.nodes i n) (at w.nodes i n) (row_node n k) (row_symbol n k)) refl

    list_part : (j : ℕ) → j < own_width → (t : Bool) → leb 4 (role_at w.nodes i j) ≡ t →
        cond t (list_moved m (role_at w.nodes i j) ls (at w.nodes i j) (at w.nodes i (j + 1))) [] ≡ cond t (list_moved m' (role_at w.nodes i j) w.links (at w.nodes i j) (at w.nodes i (j + 1))) []
    list_part j k false e = refl
    list_part j k true e =
        let l = leb-true 4 (role_at w.nodes i j) e in
        let n = row_names g i inside j k in
        let r = row_ranges g i inside j k in
        let f : links_before w i ≤ at w.nodes i j = omega (arith, n.begins l) in
        list_agrees b (role_at w.nodes i j) (at w.nodes i j) (at w.nodes i (j + 1)) ls w.links (λ q p. a.link q (omega arith)) r.name (λ z q p o. wider (omega arith) (n.first l z q p o)) (λ z q p o. wider (omega arith) (n.second z q p o))

    lists_agree : (n : ℕ) → n ≤ own_width → lists_moved m ns ls i n ≡ lists_moved m' w.nodes w.links i n
    unfolding lists_moved
    lists_agree zero k = refl
    lists_agree (suc n) k = rw (lists_agree n (omega arith), role_was a n, a.number n, a.number (n + 1), list_part n k (leb 4 (role_at w.nodes i n)) refl) refl

    pub row_agrees : ((x : ℕ) → m'.span x ≡ x) → numbers_moved m ns i node_width ≡ moved_row m' w i
    row_agrees same_span = numbers_agree node_width (omega arith) ∙ row_moved w i (stood g inside) m' same_span

    pub links_agree : ((x : ℕ) → m'.span x ≡ x) → lists_moved m ns ls i own_width ≡ moved_links m' w i
    links_agree same_span = lists_agree own_width (omega arith) ∙ lists_all w i (stood g inside) m' same_span

  -- and it can be moved, where there is a number for each symbol and row
  module _ {ns ls : List ℕ} (a : AsWas w i (links_before w i) ns ls) {m : Maps} (wide : length m.words ≡ s) (from_is : m.from ≡ links_before w i) (low : m.to ≤ m.from) (room : height w ≤ length m.places) where
    pub moves_row : {to : ℕ} → to ≤ i → MovesRow m ns i to
    moves_row back = record {
      stands = stands_was a g inside;
      back = back;
      each = λ j k. rw (role_was a j, a.number j) record {
        known = role_known (at w.nodes i 0) j;
        node = λ e. row_there room (row_node j k e);
        symbol = λ p q. omega (arith, row_symbol j k p q);
        list = λ l. omega (arith, row_list j k l);
        fits = λ l. omega (arith, row_list j k l, row_few j k l, g.few);
      };
    }

    pub moves_lists : MovesLists m ns ls i
    moves_lists = record {
      stands = stands_was a g inside;
      each = λ j k.
          let n = row_names g i inside j k in
          let r = row_ranges g i inside j k in
          rw (role_was a j, sizes_was a j, a.number j, a.number (j + 1)) (λ l.
          let f : links_before w i ≤ at w.nodes i j = omega (arith, n.begins l) in
          record {
            back = omega (arith, n.begins l);
            room = omega (arith, r.list l, g.links, a.long);
            first = λ q p o. rw (a.link q (omega arith) 0) record { name = λ e. omega (arith, r.name e q p o); node = λ e. row_there room (wider (omega arith) (n.first l e q p o)) };
            second = λ q p o e. rw (a.link q (omega arith) 1) record { name = λ z. absurd (let y : ◌≡◌ {A = ℕ} 6 5 = z in omega arith); node = λ z. row_there room (wider (omega arith) (n.second e q p o)) };
          });
    }

-- the numbers in the room move as the packing does
past : (x : ℕ) (ks : List ℕ) → among ks x ≡ false → length ks ≡ place x ks
past x [] e = refl
past x (k ∷ ks) e = pick (eqb x k) e (past x ks)
  where
    pick : (t : Bool) → (t || among ks x) ≡ false → (among ks x ≡ false → length ks ≡ place x ks) → suc (length ks) ≡ cond t 0 (suc (place x ks))
    pick true z f = absurd (let y : ◌≡◌ {A = ℕ} 0 1 = cc in omega arith)
    pick false z f = ap suc (f z)

known_place : (x : ℕ) (ks : List ℕ) → cond (eqb (numbered ks x) 0) (length ks) (numbered ks x - 1) ≡ place x ks
unfolding numbered
known_place x ks = pick (among ks x) refl
  where
    pick : (t : Bool) → among ks x ≡ t → cond (eqb (cond t (suc (place x ks)) 0) 0) (length ks) (cond t (suc (place x ks)) 0 - 1) ≡ place x ks
    pick true e = rw (eqb-suc-zero (place x ks)) (omega arith)
    pick false e = past x ks e

pub packing_agrees : {c : ℕ → Bool} {left : List ℕ} {w : Rows} {count from to : ℕ} {words places : List ℕ} (i : ℕ) → Mapped c left w count words places → 0 < height w → from ≡ links_before w i → to ≡ links_kept c w i →
    Agrees (moving (record { words = words; places = places; symbols = count; from = from; to = to })) (packing c (λ x. place x left) w i) (height w) (length words)
packing_agrees {left = left} i p some f t = record {
  node = λ x h. p.rows.each x (omega arith);
  symbol = λ x h. rw (p.numbers x h, p.many) (known_place x left);
  first = λ x. rw (f, t) refl;
}
