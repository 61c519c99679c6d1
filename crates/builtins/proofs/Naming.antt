-- Names are checked one after the other: the first that is wrong says that they are not right, and once all are passed they are, and their index is known. In it
-- a search answers the grammar's `seek`. Two answers are equal, and two indices where a search looks.
use Prim.Native.Nat.{ℕ, ◌*◌, ◌≤◌, ◌<◌}
use native.Mathlib.Omega.{arith}
use borrow.Author.Count.{below_more}
use mathlib.Core.Bool.{Bool, true, false}
use mathlib.Core.List.{List}
use mathlib.Core.Path.{◌≡◌, refl, sym, ap, ◌∙◌}
use lib.ListN.{length, get_or, length-replicate, get_or-replicate}
use Rattle.std.specs.Prelude.{Option, Some, None, IfSome}
use Rattle.grammar.specs.Builtin.{Builtins, built, RightNames}
use Rattle.grammar.specs.Kind.{Identifier}
use Rattle.grammar.specs.Lexeme.{Fits}
use Rattle.grammar.specs.Table.{Part, Row, Holds, Table, start_of, end_of, word}
use Rattle.grammar.proofs.Symbols.{seek_whole}
use Rattle.interner.specs.Index.{bucket, linked}
use Rattle.interner.specs.Interns.{used}
use Rattle.interner.specs.Search.{Sought}
use Rattle.interner.proofs.Grown.{empty_table, empty_index, next_linked}
use Rattle.interner.proofs.Search.{used_length, row_of, row_below, word_is, part_is}
use Rattle.interner.proofs.Seek.{sought_is}
use Rattle.builtins.specs.Known.{most, blank_index, Named, Before, Next, Known, Checked, FoundIn}

unlike : {A : Type 0} → false ≡ true → A
unlike e = absurd (let z : ◌≡◌ {A = ℕ} 0 1 = cc in omega arith)

module _ {names : Builtins} where
  -- no name is passed yet
  pub none_named : {index : List ℕ} → index ≡ blank_index → Named names 0 index
  none_named e = record {
    indexed = record {
      stands = omega arith;
      table = empty_table names.text names.rows;
      index_is = rw e (empty_index names.text (used 0 names.rows) (λ b l h. get_or-replicate (2 * most) b 0 0 h));
      index_room = rw e (omega (arith, length-replicate {A = ℕ} (2 * most) 0));
      few = omega arith;
    };
    identifiers = λ i h. absurd (omega arith);
  }

  -- the next one is wrong
  pub wrong_name : {n : ℕ} {index : List ℕ} → (RightNames names → ⊥) → Next names n index false
  wrong_name h = record { named = unlike; wrong = λ e. h }

  module _ {n : ℕ} {index : List ℕ} (b : Before names n index) where
    there : Row names.rows n
    there = omega (arith, b.there)

    -- right names have a part of the text there, an identifier
    pub part_there : RightNames names → Part names.text (start_of names.rows n) (end_of names.rows n)
    part_there z = z.table.parts n there

    pub name_there : RightNames names → Fits Identifier (word names.text names.rows n)
    name_there z = z.identifiers n there

    -- and none before has its bytes
    pub first_there : {i : ℕ} → i < n → Holds names.text (word names.text names.rows n) (used n names.rows) i → RightNames names → ⊥
    first_there {i} h x z = z.table.different i n h there (sym (word_is names.rows n i h names.text) ∙ x.bytes_are)

    -- it is right
    pub right_name : Part names.text (start_of names.rows n) (end_of names.rows n) → Fits Identifier (word names.text names.rows n) →
        ((i : ℕ) → Holds names.text (word names.text names.rows n) (used n names.rows) i → ⊥) →
        Next names n (linked n (bucket most (word names.text names.rows n)) index) true
    right_name p f none = record {
      named = λ e. record { indexed = next_linked b.named.indexed b.free there p none; identifiers = below_more _ n b.named.identifiers f };
      wrong = λ e. unlike (sym e);
    }

  -- all are passed
  module _ {index : List ℕ} where
    whole_table : Known names index → Table names.text names.rows
    whole_table k =
        let stands = k.indexed.stands in
        let table = k.indexed.table in
        record {
          parts = λ i r. part_is names.rows (built names) i (omega arith) stands table;
          different = λ i j l r e.
              table.different i j l (row_of names.rows (built names) stands j (omega arith))
              (word_is names.rows (built names) i (omega arith) names.text ∙ e ∙ sym (word_is names.rows (built names) j (omega arith) names.text));
        }

    pub all_named : {n : ℕ} → n ≡ built names → Named names n index → length names.text ≤ 65536 → Checked names index true
    all_named e x short =
        let k : Known names index = record { indexed = rw e at x.indexed } in
        record {
          right = λ t. record { short = short; few = k.indexed.few; table = whole_table k; identifiers = λ i r. x.identifiers i (omega arith) };
          known = λ t. k;
          wrong = λ t. unlike (sym t);
        }

    -- or they are not right
    pub not_right : (RightNames names → ⊥) → Checked names index false
    not_right h = record { right = unlike; known = unlike; wrong = λ e. h }

-- a search answers the grammar's
pub known_sought : {names : Builtins} {index x : List ℕ} {r : Option ℕ} → Known names index → Sought names.text x (used (built names) names.rows) r → FoundIn names x r
known_sought {names} {x = x} k s = record {
  is = sought_is (built names) k.indexed.table (used_length names.rows (built names) k.indexed.stands) s ∙ seek_whole names.text x names.rows;
  there = below s;
}
  where
    below : {r : Option ℕ} → Sought names.text x (used (built names) names.rows) r → IfSome r (λ i. i < built names)
    below (Sought.found {i = i} h) = row_below names.rows (built names) k.indexed.stands i h.row
    below (Sought.missing n) = tt

-- two answers are equal
pub one_right : {names : Builtins} {ix iy : List ℕ} {r s : Bool} → Checked names ix r → Checked names iy s → r ≡ s
one_right {r = true} {s = true} x y = refl
one_right {r = true} {s = false} x y = absurd (y.wrong refl (x.right refl))
one_right {r = false} {s = true} x y = absurd (x.wrong refl (y.right refl))
one_right {r = false} {s = false} x y = refl

-- and two indices have the same names' numbers, and the same buckets'
pub one_index : {names : Builtins} {ix iy : List ℕ} → Known names ix → Known names iy →
    ((i : ℕ) → i < built names → get_or ix i 0 ≡ get_or iy i 0) × ((b : ℕ) → most ≤ b → b < 2 * most → get_or ix b 0 ≡ get_or iy b 0)
one_index x y = (λ i h. x.indexed.index_is.next i h ∙ sym (y.indexed.index_is.next i h), λ b l h. x.indexed.index_is.heads b l h ∙ sym (y.indexed.index_is.heads b l h))

-- and so are two answers of a search
pub one_found : {names : Builtins} {x : List ℕ} {r q : Option ℕ} → FoundIn names x r → FoundIn names x q → r ≡ q
one_found {r = Some i} {q = Some j} a b = ap Some (a.is ∙ sym b.is)
one_found {r = Some i} {q = None} a b = let l = a.there in absurd (omega (arith, a.is, b.is))
one_found {r = None} {q = Some j} a b = let l = b.there in absurd (omega (arith, a.is, b.is))
one_found {r = None} {q = None} a b = refl
