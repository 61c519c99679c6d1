-- A number, a link and a list moved by what the room says, in place: what is written so far is before what is still to be read.
use Prim.Native.Nat.{ℕ, zero, suc, ◌+◌, ◌-◌, ◌*◌, ◌≤◌, ◌<◌}
use native.Mathlib.Numerals.{add-one}
use native.Mathlib.Omega.{arith}
use mathlib.Core.Bool.{true, false, cond}
use mathlib.Core.List.{List, [], ◌∷◌, ◌++◌, append-nil}
use mathlib.Core.Path.{◌≡◌, refl, sym, ap, ◌∙◌}
use lib.Dec.{eqb, leb}
use lib.ListN.{length, get_or, set}
use lib.Seq.{get_or-drop}
use borrow.Author.Tests.{le-leb, lt-leb, ne_eqb}
use Rattle.grammar.specs.Room.{node_width, own_width, link_width}
use Rattle.ast.specs.Written.{Written}
use Rattle.ast.proofs.Rooms.{unwritten, stored, joined, said}
use Rattle.parts.specs.Moved.{Move, moved_node}
use Rattle.parts.specs.Packed.{keeps}
use Rattle.packing.specs.Roles.{role, at, role_at, linked, link_moved, list_moved, number_moved, numbers_moved, lists_moved, lists_size, StandsRow}
use Rattle.packing.specs.Rows.{Maps, MovesList, MovesLists, chosen, chosen_count}
use Rattle.packing.proofs.Slots.{none_sized, size_plain, size_list, numbers_none, numbers_suc}

-- a number by its role
module _ (m : Move) {r : ℕ} (x : ℕ) where
  pub plain_moved : r ≡ 0 → number_moved m r x ≡ x
  unfolding number_moved
  plain_moved e = rw e refl

  pub node_moved : r ≡ 1 → number_moved m r x ≡ moved_node m x
  unfolding number_moved
  node_moved e = rw e refl

  pub first_moved : 4 ≤ r → number_moved m r x ≡ m.first x
  unfolding number_moved
  first_moved h = rw (ne_eqb r 0 (λ e. omega arith), ne_eqb r 1 (λ e. omega arith), le-leb 4 r h) refl

  pub symbol_moved : 2 ≤ r → r < 4 → number_moved m r x ≡ m.symbol x
  unfolding number_moved
  symbol_moved h l = rw (ne_eqb r 0 (λ e. omega arith), ne_eqb r 1 (λ e. omega arith), lt-leb 4 r l) refl

-- what stands behind a stretch is as it was
pub unchanged : {a b : ℕ} {xs l m : List ℕ} (j : ℕ) → b ≤ j → Written a b xs l m → get_or m j 0 ≡ get_or l j 0
unchanged {b = b} {l = l} {m} j h w =
    let e : b + (j - b) ≡ j = omega arith in
    rw e at (sym (get_or-drop b m (j - b) 0) ∙ ap (λ (ys : List ℕ). get_or ys (j - b) 0) w.rest ∙ get_or-drop b l (j - b) 0)

list_next : (m : Move) (r : ℕ) (l : List ℕ) (from k : ℕ) {x y z : ℕ} → x ≡ cond (eqb r 5) (m.symbol (linked l (from + k) 0)) (moved_node m (linked l (from + k) 0)) → y ≡ cond (eqb r 6) (moved_node m (linked l (from + k) 1)) (linked l (from + k) 1) → z ≡ linked l (from + k) 2 →
    list_moved m r l from k ++ (x ∷ y ∷ z ∷ []) ≡ list_moved m r l from (k + 1)
unfolding list_moved link_moved
list_next m r l from k a b c = rw (a, b, c) (sym (ap (list_moved m r l from) (add-one k)))

-- so many links of a list are moved
pub record Listed (m : Move) (r : ℕ) (l : List ℕ) (from to k : ℕ) (ls : List ℕ) : Type 0 where
  pub done : Written (link_width * to) (link_width * (to + k)) (list_moved m r l from k) l ls

pub none_listed : (m : Move) (r : ℕ) (l : List ℕ) (from to : ℕ) → Listed m r l from to 0 l
unfolding list_moved
none_listed m r l from to = let e : link_width * to ≡ link_width * (to + 0) = omega arith in record { done = said refl e refl (unwritten (link_width * to) l) }

module _ {m : Move} {r : ℕ} {l : List ℕ} {from to k : ℕ} {ls : List ℕ} (back : to ≤ from) (w : Listed m r l from to k ls) where
  still : (j : ℕ) → get_or ls (link_width * (from + k) + j) 0 ≡ linked l (from + k) j
  still j = unchanged (link_width * (from + k) + j) (omega arith) w.done

  pub still_first : get_or ls (link_width * (from + k)) 0 ≡ linked l (from + k) 0
  still_first = let z : link_width * (from + k) + 0 ≡ link_width * (from + k) = omega arith in ap (λ (i : ℕ). get_or ls i 0) (sym z) ∙ still 0

  pub still_second : get_or ls (link_width * (from + k) + 1) 0 ≡ linked l (from + k) 1
  still_second = still 1

  -- one link more
  pub link_turn : {x y : ℕ} {ls' : List ℕ} →
      x ≡ cond (eqb r 5) (m.symbol (get_or ls (link_width * (from + k)) 0)) (moved_node m (get_or ls (link_width * (from + k)) 0)) →
      y ≡ cond (eqb r 6) (moved_node m (get_or ls (link_width * (from + k) + 1) 0)) (get_or ls (link_width * (from + k) + 1) 0) →
      Written (link_width * (to + k)) (link_width * (to + k) + link_width) (x ∷ y ∷ get_or ls (link_width * (from + k) + 2) 0 ∷ []) ls ls' →
      Listed m r l from to (k + 1) ls'
  link_turn {x} {y} a b put =
      let e : link_width * (to + k) + link_width ≡ link_width * (to + (k + 1)) = omega arith in
      let g : x ≡ cond (eqb r 5) (m.symbol (linked l (from + k) 0)) (moved_node m (linked l (from + k) 0)) = a ∙ rw still_first refl in
      let h : y ≡ cond (eqb r 6) (moved_node m (linked l (from + k) 1)) (linked l (from + k) 1) = b ∙ rw (still 1) refl in
      record { done = said refl e (list_next m r l from k g h (still 2)) (joined (omega arith) w.done put) }

-- a row's kind and numbers, as the code reads them
module _ (ns : List ℕ) (row : ℕ) where
  pub kind_read : get_or ns (node_width * row) 0 ≡ at ns row 0
  kind_read = let z : node_width * row ≡ node_width * row + 0 = omega arith in ap (λ (i : ℕ). get_or ns i 0) z

  pub role_read : (j : ℕ) → role (get_or ns (node_width * row) 0) j ≡ role_at ns row j
  role_read j = ap (λ (k : ℕ). role k j) kind_read

  pub next_read : (j : ℕ) → get_or ns (node_width * row + j + 1) 0 ≡ at ns row (j + 1)
  next_read j = let z : node_width * row + j + 1 ≡ node_width * row + (j + 1) = omega arith in ap (λ (i : ℕ). get_or ns i 0) z

pub record OfKind (k : ℕ) : Type 0 where
  pub least : 1 ≤ k
  pub most : k ≤ 26

pub kind_of_row : {ns : List ℕ} {row : ℕ} → StandsRow ns row → OfKind (get_or ns (node_width * row) 0)
kind_of_row {ns} {row} s = rw (kind_read ns row) record { least = s.least; most = s.most }

-- how many links the lists among the first numbers have
pub record Sized (ns : List ℕ) (row j size : ℕ) : Type 0 where
  pub is : size ≡ lists_size ns row j
  pub few : size ≤ 4294967295 * j
  pub most : j ≤ own_width

pub none_counted : (ns : List ℕ) (row : ℕ) → Sized ns row 0 0
none_counted ns row = record { is = sym (none_sized ns row); few = omega arith; most = omega arith }

module _ {ns : List ℕ} {row j size r : ℕ} (s : Sized ns row j size) (e : r ≡ role (get_or ns (node_width * row) 0) j) (h : j < own_width) where
  pub plain_counted : {size' : ℕ} → r < 4 → size' ≡ size → Sized ns row (j + 1) size'
  plain_counted l q = let f : role_at ns row j ≡ r = sym (role_read ns row j) ∙ sym e in record { is = q ∙ s.is ∙ sym (size_plain ns row j (rw f l)); few = omega (arith, s.few); most = omega arith }

  pub list_counted : {size' : ℕ} → 4 ≤ r → get_or ns (node_width * row + j + 1) 0 ≤ 4294967295 → size' ≡ size + get_or ns (node_width * row + j + 1) 0 → Sized ns row (j + 1) size'
  list_counted l k q =
      let f : role_at ns row j ≡ r = sym (role_read ns row j) ∙ sym e in
      record { is = q ∙ rw (s.is, next_read ns row j) (sym (size_list ns row j (rw f l))); few = omega (arith, s.few); most = omega arith }

-- so many numbers of a row are moved
pub record Rowed (m : Move) (l : List ℕ) (row to j : ℕ) (ns : List ℕ) : Type 0 where
  pub done : Written (node_width * to) (node_width * to + j) (numbers_moved m l row j) l ns
  pub most : j ≤ node_width

pub none_rowed : (m : Move) (l : List ℕ) (row to : ℕ) → Rowed m l row to 0 l
none_rowed m l row to = let e : node_width * to ≡ node_width * to + 0 = omega arith in record { done = said refl e (sym (numbers_none m l row)) (unwritten (node_width * to) l); most = omega arith }

module _ {m : Move} {l : List ℕ} {row to j : ℕ} {ns : List ℕ} (back : to ≤ row) (w : Rowed m l row to j ns) where
  pub still_number : get_or ns (node_width * row + j) 0 ≡ at l row j
  still_number = unchanged (node_width * row + j) (omega arith) w.done

  pub number_turn : {r x : ℕ} → r ≡ role (get_or l (node_width * row) 0) j → x ≡ number_moved m r (get_or ns (node_width * row + j) 0) → node_width * to + j < length ns → j < node_width → Rowed m l row to (j + 1) (set ns (node_width * to + j) x)
  number_turn {r} {x} e f h k =
      let d : node_width * to + j + 1 ≡ node_width * to + (j + 1) = omega arith in
      let g : x ≡ number_moved m (role_at l row j) (at l row j) = f ∙ rw (e ∙ role_read l row j, still_number) refl in
      record { done = said refl d (ap (λ (y : ℕ). numbers_moved m l row j ++ (y ∷ [])) g ∙ sym (numbers_suc m l row j) ∙ sym (ap (numbers_moved m l row) (add-one j))) (joined (omega arith) w.done (stored ns (node_width * to + j) x h)); most = omega arith }

-- the lists among the first numbers of a row are moved, to one behind another
pub record ListsDone (m : Move) (ns l : List ℕ) (row start to j : ℕ) (ls : List ℕ) : Type 0 where
  pub done : Written (link_width * start) (link_width * to) (lists_moved m ns l row j) l ls
  pub reached : to ≡ start + lists_size ns row j
  pub most : j ≤ own_width

pub none_done : (m : Move) (ns l : List ℕ) (row start : ℕ) → ListsDone m ns l row start start 0 l
unfolding lists_moved
none_done m ns l row start = record { done = unwritten (link_width * start) l; reached = omega (arith, none_sized ns row); most = omega arith }

-- what is to be moved next is as it was
pub moves_still : {m : Maps} {r from to n a : ℕ} {xs l ls : List ℕ} → MovesList m r l from to n → Written a (link_width * to) xs l ls → MovesList m r ls from to n
moves_still {m} {r} {from} {to} {n} {a} {xs} {l} {ls} p w = record {
  back = p.back;
  room = rw w.size p.room;
  first = λ k h i. rw (unchanged (link_width * k + 0) (omega (arith, p.back)) w) (p.first k h i);
  second = λ k h i e. rw (unchanged (link_width * k + 1) (omega (arith, p.back)) w) (p.second k h i e);
}

list_still : (m : Move) (r from n : ℕ) {a b : ℕ} {xs l ls : List ℕ} → b ≤ link_width * from → Written a b xs l ls → list_moved m r ls from n ≡ list_moved m r l from n
unfolding list_moved link_moved
list_still m r from n {a} {b} {xs} {l} {ls} h w = go n
  where
    go : (k : ℕ) → list_moved m r ls from k ≡ list_moved m r l from k
    go zero = refl
    go (suc k) = rw (go k, unchanged (link_width * (from + k) + 0) (omega arith) w, unchanged (link_width * (from + k) + 1) (omega arith) w, unchanged (link_width * (from + k) + 2) (omega arith) w) refl

module _ {m : Move} {ns l ls : List ℕ} {row start to j r : ℕ} (d : ListsDone m ns l row start to j ls) (e : r ≡ role (get_or ns (node_width * row) 0) j) (h : j < own_width) where
  lists_next : lists_moved m ns l row (j + 1) ≡ lists_moved m ns l row j ++ cond (leb 4 (role_at ns row j)) (list_moved m (role_at ns row j) l (at ns row j) (at ns row (j + 1))) []
  unfolding lists_moved
  lists_next = ap (lists_moved m ns l row) (add-one j)

  same_role : role_at ns row j ≡ r
  same_role = sym (role_read ns row j) ∙ sym e

  pub moves_next : {k : Maps} → MovesLists k ns l row → start ≡ k.to → 4 ≤ r → MovesList k r ls (at ns row j) to (get_or ns (node_width * row + j + 1) 0)
  moves_next {k} p s q =
      let f : 4 ≤ role_at ns row j = rw same_role q in
      let g : k.to + lists_size ns row j ≡ to = omega (arith, d.reached) in
      let a = p.each j h f in
      moves_still (rw (next_read ns row j, ← same_role, ← g) a) d.done

  pub list_skipped : {to' : ℕ} {ls' : List ℕ} → r < 4 → ls' ≡ ls → to' ≡ to → ListsDone m ns l row start to' (j + 1) ls'
  list_skipped k p q =
      let f : role_at ns row j < 4 = rw same_role k in
      rw (p, q) record { done = said refl refl (sym (lists_next ∙ rw (lt-leb 4 (role_at ns row j) f) (append-nil (lists_moved m ns l row j)))) d.done; reached = d.reached ∙ ap (λ (x : ℕ). start + x) (sym (size_plain ns row j f)); most = omega arith }

  pub list_done : {n to' : ℕ} {ls' ls'' : List ℕ} → 4 ≤ r → to ≤ at ns row j → n ≡ at ns row (j + 1) → Written (link_width * to) (link_width * (to + n)) (list_moved m r ls (at ns row j) n) ls ls' → ls'' ≡ ls' → to' ≡ to + n → ListsDone m ns l row start to' (j + 1) ls''
  list_done {n} k back c w p q =
      let f : 4 ≤ role_at ns row j = rw same_role k in
      let g = list_still m r (at ns row j) n (omega arith) d.done ∙ ap (list_moved m r l (at ns row j)) c ∙ ap (λ (x : ℕ). list_moved m x l (at ns row j) (at ns row (j + 1))) (sym same_role) in
      rw (p, q) record {
        done = said refl refl (ap (λ (ys : List ℕ). lists_moved m ns l row j ++ ys) g ∙ sym (lists_next ∙ rw (le-leb 4 (role_at ns row j) f) refl)) (joined (omega arith) d.done w);
        reached = rw (d.reached, c) (omega (arith, size_list ns row j f));
        most = omega arith;
      }

-- the root's list so far: the statements that are kept
pub record Chosen (l places choice : List ℕ) (first to at j : ℕ) (ls : List ℕ) : Type 0 where
  pub done : Written (link_width * to) (link_width * at) (chosen l places choice first j) l ls
  pub reached : at ≡ to + chosen_count choice j
  pub few : at ≤ to + j
  pub low : to ≤ at
  pub most : j ≤ length choice

pub none_chosen : (l places choice : List ℕ) (first to : ℕ) → Chosen l places choice first to to 0 l
unfolding chosen chosen_count
none_chosen l places choice first to = record { done = unwritten (link_width * to) l; reached = omega arith; few = omega arith; low = omega arith; most = omega arith }

module _ {l places choice : List ℕ} {first to at' j : ℕ} {ls : List ℕ} (d : Chosen l places choice first to at' j ls) (h : j < length choice) where
  chosen_next : chosen l places choice first (j + 1) ≡ chosen l places choice first j ++ cond (keeps choice j) (get_or places (linked l (first + j) 0) 0 ∷ 0 ∷ 0 ∷ []) []
  unfolding chosen
  chosen_next = ap (chosen l places choice first) (add-one j)

  count_next : chosen_count choice (j + 1) ≡ chosen_count choice j + cond (keeps choice j) 1 0
  unfolding chosen_count
  count_next = ap (chosen_count choice) (add-one j)

  pub still_statement : to ≤ first → get_or ls (link_width * (first + j)) 0 ≡ linked l (first + j) 0
  still_statement back = let z : link_width * (first + j) ≡ link_width * (first + j) + 0 = omega arith in ap (λ (i : ℕ). get_or ls i 0) z ∙ unchanged (link_width * (first + j) + 0) (omega (arith, d.few)) d.done

  pub statement_left : {at'' : ℕ} {ls' : List ℕ} → get_or choice j 0 ≡ 0 → ls' ≡ ls → at'' ≡ at' → Chosen l places choice first to at'' (j + 1) ls'
  statement_left e p q =
      let f : keeps choice j ≡ false = rw e refl in
      rw (p, q) record {
        done = said refl refl (sym (chosen_next ∙ rw f (append-nil (chosen l places choice first j)))) d.done;
        reached = d.reached ∙ sym (ap (λ (x : ℕ). to + x) (count_next ∙ rw f (omega arith)));
        few = omega (arith, d.few);
        low = d.low;
        most = omega arith;
      }

  pub statement_kept : {at'' : ℕ} {ls' ls'' : List ℕ} → to ≤ first → (get_or choice j 0 ≡ 0 → ⊥) → Written (link_width * at') (link_width * at' + link_width) (get_or places (get_or ls (link_width * (first + j)) 0) 0 ∷ 0 ∷ 0 ∷ []) ls ls'' → ls' ≡ ls'' → at'' ≡ at' + 1 → Chosen l places choice first to at'' (j + 1) ls'
  statement_kept back e put p q =
      let f : keeps choice j ≡ true = rw (ne_eqb (get_or choice j 0) 0 e) refl in
      let x = get_or places (get_or ls (link_width * (first + j)) 0) 0 in
      let y : x ≡ get_or places (linked l (first + j) 0) 0 = ap (λ (k : ℕ). get_or places k 0) (still_statement back) in
      let z : link_width * at' + link_width ≡ link_width * (at' + 1) = omega arith in
      rw (p, q) record {
        done = said refl z (ap (λ (k : ℕ). chosen l places choice first j ++ (k ∷ 0 ∷ 0 ∷ [])) y ∙ sym (chosen_next ∙ rw f refl)) (joined (omega arith) d.done put);
        reached = omega (arith, d.reached, rw f at count_next);
        few = omega (arith, d.few);
        low = omega (arith, d.low);
        most = omega arith;
      }
