-- One token more: its word is looked up, or it has none.
use Prim.Native.Nat.{ℕ, suc, ◌+◌, ◌-◌, ◌*◌, ◌≤◌}
use native.Mathlib.Decide.{ℕ_discrete}
use native.Mathlib.Omega.{arith}
use borrow.Author.Tests.{ne_eqb}
use mathlib.Core.Bool.{true, false}
use mathlib.Core.List.{List}
use mathlib.Core.Path.{◌≡◌, refl, sym, ap, ◌∙◌}
use lib.ListN.{length}
use Rattle.grammar.specs.Builtin.{Builtins}
use Rattle.grammar.specs.Kind.{StringLiteral, Identifier}
use Rattle.grammar.specs.Symbol.{interned, is_name, quote, word_start, word_end, symbol_rows, symbol}
use Rattle.grammar.specs.Token.{kind, count}
use Rattle.grammar.proofs.Quotes.{word_part}
use Rattle.grammar.proofs.Symbols.{InRoom, in_room, rows_same, rows_few}
use Rattle.interner.specs.Interns.{symbol_of}
use Rattle.interner.specs.declared.Interned.{Interned}
use Rattle.std.specs.Prelude.{Option, Some}
use Rattle.names.specs.Resolved.{rows_of, room_of, Free, LookedUp, Before, Named}
use Rattle.names.proofs.Fitting.{wordless_in}
use Rattle.names.proofs.Looking.{rows_length}

-- the two kinds that have a word are neighbours, and a quote is what is left of the one up to the other
module _ (ts : List ℕ) (n : ℕ) (lo : StringLiteral ≤ kind ts n) (hi : kind ts n ≤ Identifier) where
  pub is_word : is_name ts n ≡ true
  is_word = elim (ℕ_discrete (kind ts n) StringLiteral) [ yes e ↦ rw e | no e ↦ let k : kind ts n ≡ Identifier = omega arith in rw k ]

  pub quote_is : Identifier - kind ts n ≡ quote ts n
  quote_is = elim (ℕ_discrete (kind ts n) StringLiteral) [ yes e ↦ rw e | no e ↦ let k : kind ts n ≡ Identifier = omega arith in rw k ]

-- any other kind has none
pub is_no_word : (ts : List ℕ) (n : ℕ) → (kind ts n ≡ Identifier → ⊥) → (kind ts n ≡ StringLiteral → ⊥) → is_name ts n ≡ false
is_no_word ts n h k = rw (ne_eqb (kind ts n) Identifier h, ne_eqb (kind ts n) StringLiteral k)

module _ {names : Builtins} {index text ts own scratch : List ℕ} {built-count size n known : ℕ} (b : Before names built-count index text ts size n known own scratch) where
  -- what is asked of a word's place
  pub free_word : Free names built-count index text (word_start ts n) (word_end ts n) size known own scratch
  free_word =
      let few = rows_few names text ts n in
      let long = rows_length names known own b.indexed.stands in
      let rows = ap length b.rows in
      record {
        built_is = b.built_is;
        built_in = b.built_in;
        ready = record {
          part = word_part b.sound;
          indexed = b.indexed;
          free = omega (arith, b.inside, b.size_is);
          number = omega (arith, b.few, b.size_is, b.built_is, b.built_in.indexed.few);
        };
      }

  -- a word is looked up: the token has its symbol, and where its row fits that row
  module _ {own₁ scratch₁ : List ℕ} {r : Option Interned} (t : is_name ts n ≡ true) (l : LookedUp names text (word_start ts n) (word_end ts n) size known own own₁ scratch scratch₁ r) where
    one_more : symbol_rows names text ts (suc n) ≡ interned names text (word_start ts n) (word_end ts n) (rows_of names known own)
    unfolding symbol_rows
    one_more = rw (t, b.rows)

    number : {x : ℕ} → InRoom names text ts (room_of names own) n x → symbol_of r ≡ x
    unfolding symbol
    number (InRoom.there h) = rw (t, ← b.rows) (l.number (rw one_more at (h t)))
    number (InRoom.missing e h) = l.missing (rw one_more at h)

    pub word_named : Named names text ts size n known own own₁ scratch scratch₁ r
    word_named =
        let s = b.size_is in
        record {
          number = number (in_room names text ts (room_of names own) n);
          there = l.there;
          rows = λ fit. l.rows (rw one_more at fit) ∙ sym one_more;
          indexed = l.indexed;
          numbers = λ j. l.beyond (2 * count ts + j) (omega arith);
          own_size = l.own_size;
          scratch_size = l.scratch_size;
        }

  -- or there is none
  pub no_word : is_name ts n ≡ false → Named names text ts size n known own own scratch scratch (Some (record { symbol = 0; count = known }))
  no_word h = record {
    number = sym (wordless_in names text ts n (room_of names own) h);
    there = omega arith;
    rows = λ fit. b.rows ∙ sym (rows_same names text ts n h);
    indexed = b.indexed;
    numbers = λ j. refl;
    own_size = refl;
    scratch_size = refl;
  }
