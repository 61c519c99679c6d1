-- What `get_or_intern` leaves, in each case; and what its callers lean on: the symbol and the rows are the grammar's `seek` and `interned` of the rows before,
-- where these fit the room, the index past its own part is as it was, and two outcomes are equal, as are two answers of a search.
use Prim.Native.Nat.{ℕ, ◌+◌, ◌*◌, ◌/◌, ◌≤◌, ◌<◌}
use borrow.Author.Tests.{eq-eqb, ne_eqb}
use native.Mathlib.Numerals.{add-one}
use native.Mathlib.Omega.{arith}
use mathlib.Core.List.{List, [], ◌∷◌, ◌++◌, append_assoc}
use mathlib.Core.Path.{◌≡◌, refl, sym, ap, ◌∙◌}
use lib.ListN.{length, get_or, drop, set, length-set, length-append, length-drop}
use lib.Seq.{sets-eq, take_at, get_or-set_other}
use Rattle.std.specs.Prelude.{Option, Some, None}
use Rattle.std.proofs.lemmas.Option.{none-some, same_Some}
use Rattle.grammar.specs.Builtin.{none}
use Rattle.grammar.specs.Handle.{absent}
use Rattle.grammar.specs.Symbol.{seek, interned}
use Rattle.grammar.specs.Table.{Holds, Table}
use Rattle.grammar.specs.Token.{lexeme}
use Rattle.grammar.proofs.Symbols.{look_up_none}
use Rattle.grammar.proofs.Seek.{held_once, seek_held, seek_missing}
use Rattle.interner.specs.Index.{bucket, linked}
use Rattle.interner.specs.Interns.{used, symbol_of, count_of, Ready, Outcome, Enters}
use Rattle.interner.specs.Search.{Sought}
use Rattle.interner.specs.declared.Interned.{Interned}
use Rattle.interner.proofs.Buckets.{bucket_inside}
use Rattle.interner.proofs.Grown.{linked_length, grown_table, grown_index}
use Rattle.interner.proofs.Search.{used_length, row_below}

-- the rows in use once there is one more
used_more : (l : List ℕ) (count s e : ℕ) → 2 * (count + 1) ≤ length l → used (count + 1) (used count l ++ (s ∷ e ∷ drop (2 * (count + 1)) l)) ≡ used count l ++ (s ∷ e ∷ [])
used_more l count s e h =
    let k = used_length l count (omega arith) in
    rw (← append_assoc (used count l) (s ∷ e ∷ []) (drop (2 * (count + 1)) l)) (take_at (used count l ++ (s ∷ e ∷ [])) (drop (2 * (count + 1)) l) (2 * (count + 1)) (simp length-append (omega arith)))

-- two stores
stored : (l : List ℕ) (count s e : ℕ) → 2 * (count + 1) ≤ length l → set (set l (2 * count) s) (2 * count + 1) e ≡ used count l ++ (s ∷ e ∷ drop (2 * (count + 1)) l)
stored l count s e h =
    let k : 2 * count + 2 ≡ 2 * (count + 1) = omega arith in
    rw (add-one (2 * count)) (sets-eq (s ∷ e ∷ []) l (2 * count) (omega arith) ∙ rw (k, append_assoc))

module _ {text l index : List ℕ} {s e first size count : ℕ} (p : Ready text s e first size count l index) where
  -- the bucket is in the index
  own_inside : bucket size (lexeme text s e) < 2 * size
  own_inside = bucket_inside (lexeme text s e) (omega (arith, p.free)) (omega arith)

  -- a row has the bytes
  pub old_name : (i : ℕ) → Holds text (lexeme text s e) (used count l) i → Enters text s e first size count l l index index (Some (record { symbol = first + i; count = count }))
  old_name i h = record { outcome = Outcome.known h refl refl refl; indexed = p.indexed }

  -- none has, and there is room for it
  pub new_name : ((i : ℕ) → Holds text (lexeme text s e) (used count l) i → ⊥) →
      2 * (count + 1) ≤ length l →
      Enters text s e first size count l (set (set l (2 * count) s) (2 * count + 1) e) index (linked count (bucket size (lexeme text s e)) index) (Some (record { symbol = first + count; count = count + 1 }))
  new_name none room =
      let x = stored l count s e room in
      let y = used_more l count s e room in
      let whole = used_length l count p.indexed.stands in
      record {
        outcome = Outcome.new none room refl x refl;
        indexed = record {
          stands = simp length-set room;
          table = rw (x, y) (grown_table text (used count l) count s e whole p.indexed.table p.part none);
          index_is = rw (x, y) (grown_index text (used count l) count s e whole size p.indexed.index_is p.free p.indexed.index_room);
          index_room = omega (arith, p.indexed.index_room, linked_length count (bucket size (lexeme text s e)) index);
          few = omega (arith, p.free);
        };
      }

  -- none has, and there is no room
  pub no_place : ((i : ℕ) → Holds text (lexeme text s e) (used count l) i → ⊥) → length l < 2 * (count + 1) → Enters text s e first size count l l index index None
  no_place none lack = record { outcome = Outcome.full none lack refl refl refl; indexed = p.indexed }

  -- the grammar's rows once this text is interned: those before, where a row has the bytes, and else one more
  held_rows : {i : ℕ} → Holds text (lexeme text s e) (used count l) i → interned none text s e (used count l) ≡ used count l
  unfolding interned
  held_rows h =
      let w = seek_held p.indexed.table h in
      let r = h.row in
      rw (look_up_none, ne_eqb (seek text (lexeme text s e) (used count l)) (length (used count l) / 2) (omega arith))

  missing : ((i : ℕ) → Holds text (lexeme text s e) (used count l) i → ⊥) → seek text (lexeme text s e) (used count l) ≡ count
  missing none = omega (arith, seek_missing (used count l) none, used_length l count p.indexed.stands)

  more_rows : ((i : ℕ) → Holds text (lexeme text s e) (used count l) i → ⊥) → interned none text s e (used count l) ≡ used count l ++ (s ∷ e ∷ [])
  unfolding interned
  more_rows none =
      let u = used_length l count p.indexed.stands in
      let w = missing none in
      rw (look_up_none, eq-eqb (seek text (lexeme text s e) (used count l)) (length (used count l) / 2) (omega arith))

  one_more : ((i : ℕ) → Holds text (lexeme text s e) (used count l) i → ⊥) → length (interned none text s e (used count l)) ≡ 2 * (count + 1)
  one_more none =
      let u = used_length l count p.indexed.stands in
      rw (more_rows none) (simp length-append (omega arith))

  -- where they fit, the symbol and the rows are the grammar's
  module _ (fit : length (interned none text s e (used count l)) ≤ length l) where
    pub symbol_is : {m ix : List ℕ} {r : Option Interned} → Outcome text s e first size count l m index ix r → symbol_of r ≡ first + seek text (lexeme text s e) (used count l)
    symbol_is (Outcome.known h x y w) = rw (x, seek_held p.indexed.table h)
    symbol_is (Outcome.new none room x y w) = rw (x, missing none)
    symbol_is (Outcome.full none lack x y w) = absurd (omega (arith, one_more none))

    pub rows_are : {m ix : List ℕ} {r : Option Interned} → Outcome text s e first size count l m index ix r → used (count_of count r) m ≡ interned none text s e (used count l)
    rows_are (Outcome.known h x y w) = rw (x, y) (sym (held_rows h))
    rows_are (Outcome.new none room x y w) = rw (x, y, more_rows none) (used_more l count s e room)
    rows_are (Outcome.full none lack x y w) = absurd (omega (arith, one_more none))

  -- where they do not, there is no symbol
  pub no_symbol : {m ix : List ℕ} {r : Option Interned} → length l < length (interned none text s e (used count l)) → Outcome text s e first size count l m index ix r → symbol_of r ≡ absent
  no_symbol lack (Outcome.known h x y w) = absurd (omega (arith, ap length (held_rows h), used_length l count p.indexed.stands, p.indexed.stands))
  no_symbol lack (Outcome.new none room x y w) = absurd (omega (arith, one_more none))
  no_symbol lack (Outcome.full none less x y w) = rw x

  -- and a symbol that there is differs from the absent one
  pub symbol_there : {m ix : List ℕ} {w : Interned} → Outcome text s e first size count l m index ix (Some w) → w.symbol < absent
  symbol_there {w = w} (Outcome.known {i = i} h x y z) =
      let low = row_below l count p.indexed.stands i h.row in
      rw (same_Some _ _ x) (omega (arith, p.number, p.indexed.few))
  symbol_there (Outcome.new none room x y z) = rw (same_Some _ _ x) (omega (arith, p.number, p.free))
  symbol_there {w = w} (Outcome.full none lack x y z) = absurd (none-some w (sym x))

  -- the rooms' lengths stay
  pub size_kept : {m ix : List ℕ} {r : Option Interned} → Outcome text s e first size count l m index ix r → (length m ≡ length l) × (length ix ≡ length index)
  size_kept (Outcome.known h x y w) = (ap length y, ap length w)
  size_kept (Outcome.new none room x y w) =
      let u = used_length l count p.indexed.stands in
      (ap length y ∙ simp (length-append, length-drop) (omega arith), ap length w ∙ linked_length count (bucket size (lexeme text s e)) index)
  size_kept (Outcome.full none lack x y w) = (ap length y, ap length w)

  -- past the index its room is as it was
  pub beyond : {m ix : List ℕ} {r : Option Interned} → Outcome text s e first size count l m index ix r → (i : ℕ) → 2 * size ≤ i → get_or ix i 0 ≡ get_or index i 0
  beyond (Outcome.known h x y w) i k = rw w
  beyond (Outcome.new none room x y w) i k =
      let b = bucket size (lexeme text s e) in
      let free = p.free in
      rw w (get_or-set_other (set index count (get_or index b 0)) b i (count + 1) 0 (λ f. omega (arith, own_inside)) ∙ get_or-set_other index count i (get_or index b 0) 0 (λ f. omega arith))
  beyond (Outcome.full none lack x y w) i k = rw w

  -- two outcomes are equal
  outcome_once : {m n ix iy : List ℕ} {r q : Option Interned} → Outcome text s e first size count l m index ix r → Outcome text s e first size count l n index iy q → (m ≡ n) × (ix ≡ iy) × (r ≡ q)
  outcome_once (Outcome.known h x y w) (Outcome.known i z v u) = let k = held_once p.indexed.table h i in (y ∙ sym v, w ∙ sym u, cc)
  outcome_once (Outcome.known h x y w) (Outcome.new i j z v u) = absurd (i _ h)
  outcome_once (Outcome.known h x y w) (Outcome.full i j z v u) = absurd (i _ h)
  outcome_once (Outcome.new h k x y w) (Outcome.known i z v u) = absurd (h _ i)
  outcome_once (Outcome.new h k x y w) (Outcome.new i j z v u) = (y ∙ sym v, w ∙ sym u, x ∙ sym z)
  outcome_once (Outcome.new h k x y w) (Outcome.full i j z v u) = absurd (omega arith)
  outcome_once (Outcome.full h k x y w) (Outcome.known i z v u) = absurd (h _ i)
  outcome_once (Outcome.full h k x y w) (Outcome.new i j z v u) = absurd (omega arith)
  outcome_once (Outcome.full h k x y w) (Outcome.full i j z v u) = (y ∙ sym v, w ∙ sym u, x ∙ sym z)

  pub one_interned : {m n ix iy : List ℕ} {r q : Option Interned} → Enters text s e first size count l m index ix r → Enters text s e first size count l n index iy q → (m ≡ n) × (ix ≡ iy) × (r ≡ q)
  one_interned x y = outcome_once x.outcome y.outcome

-- two answers of a search are equal
pub one_sought : {text bytes table : List ℕ} {r q : Option ℕ} → Table text table → Sought text bytes table r → Sought text bytes table q → r ≡ q
one_sought t (Sought.found h) (Sought.found k) = ap Some (held_once t h k)
one_sought t (Sought.found h) (Sought.missing none) = absurd (none _ h)
one_sought t (Sought.missing none) (Sought.found k) = absurd (none _ k)
one_sought t (Sought.missing f) (Sought.missing g) = refl
