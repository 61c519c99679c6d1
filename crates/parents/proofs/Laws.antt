-- What a turn of the pass does to the room, number by number: the rows that are named and earlier have the row as their parent, and no other number changes.
use Prim.Native.Nat.{ℕ, zero, suc, ◌+◌, ◌*◌, ◌<◌}
use native.Mathlib.Omega.{arith}
use mathlib.Core.Bool.{Bool, true, false, cond, ◌&&◌}
use mathlib.Core.List.{List, [], ◌∷◌, ◌++◌, append-nil}
use mathlib.Core.Path.{◌≡◌, refl, sym, ap, ◌∙◌}
use lib.Dec.{eqb, ltb, leb, leb→le}
use borrow.Author.Tests.{eq-eqb, eqb-true, eqb-false, ltb-true, lt-ltb, ne_eqb}
use lib.ListN.{length, get_or, set, drop, length-set}
use lib.Seq.{get_or-set_same, get_or-set_other, get_or-drop}
use Rattle.grammar.specs.Edition.{Edition}
use Rattle.grammar.specs.Layout.{layout}
use Rattle.grammar.specs.Naming.{linked_nodes, linked_entries, named_by, times}
use Rattle.grammar.specs.Room.{node_width, own_width, link_width}
use Rattle.grammar.proofs.Pieces.{Piece, single, list, pieces, rows as piece-rows, naming_pieces, none_of_leaf}
use Rattle.grammar.proofs.Tests.{both}
use Rattle.parents.specs.Adopted.{rows, claim, claims, listed}

-- one list and then another
pub claims_append : (row : ℕ) (xs ys ns : List ℕ) → claims row (xs ++ ys) ns ≡ claims row ys (claims row xs ns)
unfolding claims
claims_append row [] ys ns = refl
claims_append row (x ∷ xs) ys ns = claims_append row xs ys (claim row x ns)

-- the room has as many numbers
claim_length : (row x : ℕ) (ns : List ℕ) → length (claim row x ns) ≡ length ns
claim_length row x ns = pick (ltb x row)
  where
    pick : (c : Bool) → length (cond c (set ns (node_width * x + own_width) row) ns) ≡ length ns
    pick true = length-set ns (node_width * x + own_width) row
    pick false = refl

pub claims_length : (row : ℕ) (xs ns : List ℕ) → length (claims row xs ns) ≡ length ns
unfolding claims
claims_length row [] ns = refl
claims_length row (x ∷ xs) ns = claims_length row xs (claim row x ns) ∙ claim_length row x ns

-- a number that is no earlier row's parent stays
pub record Apart (row p : ℕ) : Type 0 where
  pub no : (x : ℕ) → x < row → p ≡ node_width * x + own_width → ⊥

pub claims_apart : (row : ℕ) (xs ns : List ℕ) {p : ℕ} → Apart row p → get_or (claims row xs ns) p 0 ≡ get_or ns p 0
unfolding claims
claims_apart row [] ns a = refl
claims_apart row (x ∷ xs) ns {p} a = claims_apart row xs (claim row x ns) a ∙ pick (ltb x row) refl
  where
    pick : (c : Bool) → ltb x row ≡ c → get_or (cond c (set ns (node_width * x + own_width) row) ns) p 0 ≡ get_or ns p 0
    pick true e = get_or-set_other ns (node_width * x + own_width) p row 0 (a.no x (ltb-true x row e))
    pick false e = refl

-- an earlier row's parent is this row, if it is one of those; else it stays
pub claims_tenth : (row j : ℕ) → j < row → (xs ns : List ℕ) → node_width * j + own_width < length ns → get_or (claims row xs ns) (node_width * j + own_width) 0 ≡ cond (eqb (times j xs) 0) (get_or ns (node_width * j + own_width) 0) row
unfolding claims
claims_tenth row j h [] ns r = refl
claims_tenth row j h (x ∷ xs) ns r = claims_tenth row j h xs (claim row x ns) (rw (claim_length row x ns) r) ∙ pick (eqb j x) refl
  where
    either : (c : Bool) → cond c row row ≡ row
    either true = refl
    either false = refl

    other : (j ≡ x → ⊥) → (c : Bool) → get_or (cond c (set ns (node_width * x + own_width) row) ns) (node_width * j + own_width) 0 ≡ get_or ns (node_width * j + own_width) 0
    other n true = get_or-set_other ns (node_width * x + own_width) (node_width * j + own_width) row 0 (λ e. n (omega arith))
    other n false = refl

    pick : (c : Bool) → eqb j x ≡ c → cond (eqb (times j xs) 0) (get_or (claim row x ns) (node_width * j + own_width) 0) row ≡ cond (eqb (cond c 1 0 + times j xs) 0) (get_or ns (node_width * j + own_width) 0) row
    pick true e = let z = eqb-true j x e in rw (← z, lt-ltb j row h, get_or-set_same ns (node_width * j + own_width) row 0 r, either (eqb (times j xs) 0), ne_eqb (1 + times j xs) 0 (λ q. omega arith)) refl
    pick false e = let z : 0 + times j xs ≡ times j xs = omega arith in rw (z, other (eqb-false j x e) (ltb x row)) refl

-- a number of the links from a link on, and one link more
link_at : (ls : List ℕ) (from i k : ℕ) → get_or (drop (link_width * from) ls) (link_width * i + k) 0 ≡ get_or ls (link_width * (from + i) + k) 0
link_at ls from i k = let e : link_width * from + (link_width * i + k) ≡ link_width * (from + i) + k = omega arith in get_or-drop (link_width * from) ls (link_width * i + k) 0 ∙ ap (λ (n : ℕ). get_or ls n 0) e

next_link : (ls : List ℕ) (i k : ℕ) → get_or (drop link_width ls) (link_width * i + k) 0 ≡ get_or ls (link_width * suc i + k) 0
next_link ls i k = let e : link_width + (link_width * i + k) ≡ link_width * suc i + k = omega arith in get_or-drop link_width ls (link_width * i + k) 0 ∙ ap (λ (n : ℕ). get_or ls n 0) e

one_more : (i : ℕ) (ls : List ℕ) → linked_nodes (suc i) ls ≡ linked_nodes i ls ++ (get_or ls (link_width * i + 0) 0 ∷ [])
unfolding linked_nodes
one_more zero ls = refl
one_more (suc i) ls = ap (λ (xs : List ℕ). get_or ls 0 0 ∷ xs) (one_more i (drop link_width ls) ∙ rw (next_link ls i 0))

two_more : (i : ℕ) (ls : List ℕ) → linked_entries (suc i) ls ≡ linked_entries i ls ++ (get_or ls (link_width * i + 0) 0 ∷ get_or ls (link_width * i + 1) 0 ∷ [])
unfolding linked_entries
two_more zero ls = refl
two_more (suc i) ls = ap (λ (xs : List ℕ). get_or ls 0 0 ∷ get_or ls 1 0 ∷ xs) (two_more i (drop link_width ls) ∙ rw (next_link ls i 0, next_link ls i 1))

-- the first i of the links from a link on are claimed, as nodes or as entries
pub record Claimed (linked : ℕ → List ℕ → List ℕ) (row : ℕ) (ls : List ℕ) (from i : ℕ) (before now : List ℕ) : Type 0 where
  pub taken : now ≡ claims row (linked i (drop (link_width * from) ls)) before
  pub size : length now ≡ length before

pub no_nodes : {row from : ℕ} {ls ns : List ℕ} → Claimed linked_nodes row ls from 0 ns ns
unfolding linked_nodes claims
no_nodes = record { taken = refl; size = refl }

pub no_entries : {row from : ℕ} {ls ns : List ℕ} → Claimed linked_entries row ls from 0 ns ns
unfolding linked_entries claims
no_entries = record { taken = refl; size = refl }

pub none_listed : (each : ℕ) {row from : ℕ} {ls ns : List ℕ} → Claimed (listed each) row ls from 0 ns ns
none_listed each {row} {from} {ls} {ns} = pick (eqb each 2)
  where
    pick : (b : Bool) → Claimed (cond b linked_entries linked_nodes) row ls from 0 ns ns
    pick true = no_entries
    pick false = no_nodes

module _ {row from i : ℕ} {ls before now : List ℕ} where
  pub node_more : {after : List ℕ} → Claimed linked_nodes row ls from i before now → after ≡ claim row (get_or ls (link_width * (from + i)) 0) now → Claimed linked_nodes row ls from (i + 1) before after
  unfolding claims
  node_more t e =
      let z : link_width * (from + i) + 0 ≡ link_width * (from + i) = omega arith in
      let j : i + 1 ≡ suc i = omega arith in
      let n : get_or (drop (link_width * from) ls) (link_width * i + 0) 0 ≡ get_or ls (link_width * (from + i)) 0 = link_at ls from i 0 ∙ ap (λ (m : ℕ). get_or ls m 0) z in
      record {
        taken = e ∙ rw (j, one_more i (drop (link_width * from) ls), claims_append row (linked_nodes i (drop (link_width * from) ls)), n, t.taken) refl;
        size = ap (λ (xs : List ℕ). length xs) e ∙ claim_length row _ now ∙ t.size;
      }

  pub entry_more : {between after : List ℕ} → Claimed linked_entries row ls from i before now → between ≡ claim row (get_or ls (link_width * (from + i)) 0) now → after ≡ claim row (get_or ls (link_width * (from + i) + 1) 0) between → Claimed linked_entries row ls from (i + 1) before after
  unfolding claims
  entry_more {between} t e f =
      let z : link_width * (from + i) + 0 ≡ link_width * (from + i) = omega arith in
      let j : i + 1 ≡ suc i = omega arith in
      let n : get_or (drop (link_width * from) ls) (link_width * i + 0) 0 ≡ get_or ls (link_width * (from + i)) 0 = link_at ls from i 0 ∙ ap (λ (m : ℕ). get_or ls m 0) z in
      record {
        taken = f ∙ rw (e, j, two_more i (drop (link_width * from) ls), claims_append row (linked_entries i (drop (link_width * from) ls)), n, link_at ls from i 1, t.taken) refl;
        size = ap (λ (xs : List ℕ). length xs) f ∙ claim_length row _ between ∙ ap (λ (xs : List ℕ). length xs) e ∙ claim_length row _ now ∙ t.size;
      }

  -- as either
  pub listed_two : (each : ℕ) {between after : List ℕ} → each ≡ 2 → Claimed (listed each) row ls from i before now → between ≡ claim row (get_or ls (link_width * (from + i)) 0) now →
      after ≡ claim row (get_or ls (link_width * (from + i) + 1) 0) between → Claimed (listed each) row ls from (i + 1) before after
  listed_two each n t e f = let two = eq-eqb each 2 n in rw two (entry_more (rw two at t) e f)

  pub listed_one : (each : ℕ) {after : List ℕ} → (each ≡ 2 → ⊥) → Claimed (listed each) row ls from i before now → after ≡ claim row (get_or ls (link_width * (from + i)) 0) now → Claimed (listed each) row ls from (i + 1) before after
  listed_one each n t e = let one = ne_eqb each 2 n in rw one (node_more (rw one at t) e)

-- what a row's numbers after its kind and span are in the room
field : (ns : List ℕ) (row i : ℕ) → get_or (drop (node_width * row + 3) ns) i 0 ≡ get_or ns (node_width * row + (3 + i)) 0
field ns row i = let e : node_width * row + 3 + i ≡ node_width * row + (3 + i) = omega arith in get_or-drop (node_width * row + 3) ns i 0 ∙ ap (λ (m : ℕ). get_or ns m 0) e

-- what a row of each sort names is claimed: its kind's pieces say which of its numbers are rows and lists
module _ (ns ls : List ℕ) (row : ℕ) where
  abbrev kind : ℕ
  kind = get_or ns (node_width * row) 0

  abbrev at : ℕ → ℕ
  at i = get_or ns (node_width * row + (3 + i)) 0

  -- the links of the list whose numbers are those from i on
  abbrev list_at : ℕ → List ℕ
  list_at i = drop (link_width * at i) ls

  abbrev pub AllClaimed : List ℕ → Type 0
  AllClaimed after = after ≡ claims row (named_by (rows ns ls) row) ns

  by_pieces : (ps : List Piece) → pieces (layout Edition.second kind) 0 ≡ ps → named_by (rows ns ls) row ≡ piece-rows ls (drop (node_width * row + 3) ns) ps
  unfolding named_by
  by_pieces ps e = naming_pieces ls (drop (node_width * row + 3) ns) (layout Edition.second kind) 0 ∙ ap (piece-rows ls (drop (node_width * row + 3) ns)) e

  module _ {after : List ℕ} where
    pub names_none : pieces (layout Edition.second kind) 0 ≡ [] → after ≡ ns → AllClaimed after
    unfolding piece-rows claims
    names_none e h = rw (by_pieces [] e) h

    pub names_one : (i : ℕ) → pieces (layout Edition.second kind) 0 ≡ single i ∷ [] → after ≡ claim row (at i) ns → AllClaimed after
    unfolding piece-rows claims
    names_one i e h = rw (by_pieces (single i ∷ []) e, field ns row i) h

    pub names_two : (i j : ℕ) → pieces (layout Edition.second kind) 0 ≡ single i ∷ single j ∷ [] → after ≡ claims row (at i ∷ at j ∷ []) ns → AllClaimed after
    unfolding piece-rows
    names_two i j e h = rw (by_pieces (single i ∷ single j ∷ []) e, field ns row i, field ns row j) h

    pub names_three : (i j k : ℕ) → pieces (layout Edition.second kind) 0 ≡ single i ∷ single j ∷ single k ∷ [] → {between : List ℕ} → between ≡ claims row (at i ∷ at j ∷ []) ns → after ≡ claim row (at k) between → AllClaimed after
    unfolding piece-rows claims
    names_three i j k e g h = rw (by_pieces (single i ∷ single j ∷ single k ∷ []) e, field ns row i, field ns row j, field ns row k) (h ∙ ap (claim row (at k)) g)

    pub names_row_list : (i j : ℕ) → pieces (layout Edition.second kind) 0 ≡ single i ∷ list false j ∷ [] → {between : List ℕ} → between ≡ claim row (at i) ns → after ≡ claims row (linked_nodes (at (suc j)) (list_at j)) between → AllClaimed after
    unfolding piece-rows claims
    names_row_list i j e g h = rw (by_pieces (single i ∷ list false j ∷ []) e, field ns row i, field ns row j, field ns row (suc j), append-nil (linked_nodes (at (suc j)) (list_at j))) (h ∙ ap (claims row (linked_nodes (at (suc j)) (list_at j))) g)

    pub names_list_row : (i j : ℕ) → pieces (layout Edition.second kind) 0 ≡ list false i ∷ single j ∷ [] → {between : List ℕ} → between ≡ claims row (linked_nodes (at (suc i)) (list_at i)) ns → after ≡ claim row (at j) between → AllClaimed after
    unfolding piece-rows claims
    names_list_row i j e g h = rw (by_pieces (list false i ∷ single j ∷ []) e, field ns row i, field ns row (suc i), field ns row j, claims_append row (linked_nodes (at (suc i)) (list_at i)) (at j ∷ []) ns) (h ∙ ap (claim row (at j)) g)

    pub names_entries : (i : ℕ) → pieces (layout Edition.second kind) 0 ≡ list true i ∷ [] → after ≡ claims row (linked_entries (at (suc i)) (list_at i)) ns → AllClaimed after
    unfolding piece-rows
    names_entries i e h = rw (by_pieces (list true i ∷ []) e, field ns row i, field ns row (suc i), append-nil (linked_entries (at (suc i)) (list_at i))) h

-- what a name or a literal names
pub leaf_none : (k : ℕ) {leaf : Bool} → leaf ≡ (leb 10 k && leb k 14) → leaf ≡ true → pieces (layout Edition.second k) 0 ≡ []
leaf_none k e t =
    let z : (leb 10 k && leb k 14) ≡ true = sym e ∙ t in
    let (u, v) = both (leb 10 k) (leb k 14) (rw z tt) in
    none_of_leaf (leb→le 10 k u) (leb→le k 14 v)
