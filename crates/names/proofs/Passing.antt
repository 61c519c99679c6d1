-- The pass, token by token: nothing is passed yet, and one token more is. It ends with the last token, or with a word whose row does not fit; from there on the
-- tokens are left out. And the whole room: the built-in rows are put before the script's own.
use Prim.Native.Nat.{ℕ, suc, ◌+◌, ◌-◌, ◌*◌, ◌≤◌, ◌<◌}
use native.Mathlib.Decide.{ℕ_discrete, dec_lt}
use native.Mathlib.Numerals.{add-one}
use native.Mathlib.Omega.{arith}
use mathlib.Core.List.{List, ◌++◌, append-nil}
use mathlib.Core.Path.{◌≡◌, refl, sym, ap, ◌∙◌}
use lib.ListN.{length, take, set, replicate, length-set, length-append}
use lib.Seq.{get_or-set_same, get_or-set_other, take-append-add, take-append-le}
use Rattle.std.specs.Prelude.{Some, None}
use Rattle.grammar.specs.Builtin.{Builtins, built, built_rows}
use Rattle.grammar.specs.Symbol.{symbol_rows, symbol_in}
use Rattle.grammar.specs.Token.{count}
use Rattle.grammar.proofs.Symbols.{built_length, rows_grow}
use Rattle.ast.specs.Written.{Written}
use Rattle.ast.proofs.Rooms.{zero_at}
use Rattle.interner.specs.Interns.{used, Indexed}
use Rattle.interner.specs.declared.Interned.{Interned}
use Rattle.interner.proofs.Grown.{empty_table, empty_index, stored_behind}
use Rattle.names.specs.Resolved.{Open, rows_of, room_of, Before, Named, LeftOut, Owned, Resolved, number_at}
use Rattle.names.proofs.Fitting.{rowless_in, row_fits, row_lacks}
use Rattle.names.proofs.Looking.{rows_length}

-- the words of the first n tokens have their rows, with their index, and these tokens their symbols; the rooms are as long as they were
pub record Passed (names : Builtins) (text ts : List ℕ) (n : ℕ) (own₀ scratch₀ own scratch : List ℕ) (known : ℕ) : Type 0 where
  pub low : n ≤ count ts
  pub rows : rows_of names known own ≡ symbol_rows names text ts n
  pub indexed : Indexed text (count ts) known own scratch
  pub numbers : (i : ℕ) → i < n → number_at ts scratch i ≡ symbol_in names text ts (room_of names own₀) i
  pub own_size : length own ≡ length own₀
  pub scratch_size : length scratch ≡ length scratch₀

-- the middle third of the scratch room is cleared: it is as long as it was, and no word has a row yet
module _ {names : Builtins} {index text ts scratch after : List ℕ} (o : Open names index text ts scratch) (w : Written (count ts) (2 * count ts) (replicate (2 * count ts - count ts) 0) scratch after) where
  pub reopened : Open names index text ts after
  reopened = record { built_in = o.built_in; whole = o.whole; sound = o.sound; scratch_room = omega (arith, o.scratch_room, w.size) }

  pub none_passed : {own : List ℕ} → Passed names text ts 0 own after own after 0
  unfolding symbol_rows
  none_passed {own} = record {
    low = omega arith;
    rows = append-nil (built_rows names);
    indexed = record {
      stands = omega arith;
      table = empty_table text own;
      index_is = empty_index text (used 0 own) (zero_at (omega (arith, o.scratch_room)) w);
      index_room = omega (arith, o.scratch_room, w.size);
      few = omega arith;
    };
    numbers = λ i h. absurd (omega arith);
    own_size = refl;
    scratch_size = refl;
  }

  -- all tokens are passed
  pub all_passed : {n known : ℕ} {own own₁ scratch₁ : List ℕ} → count ts ≤ n → Passed names text ts n own after own₁ scratch₁ known → Owned names text ts own scratch own₁ scratch₁ known
  all_passed {n} h p =
      let e : n ≡ count ts = omega (arith, p.low) in
      let x = rw e at p in
      record { rows = λ fit. x.rows; stands = x.indexed.stands; numbers = x.numbers; own_size = x.own_size; scratch_size = x.scratch_size ∙ w.size }

  -- or a word's row does not fit, and from there on none is
  module _ {n known : ℕ} {own own₁ scratch₁ own₂ scratch₂ scratch₃ : List ℕ}
      (h : n < count ts) (p : Passed names text ts n own after own₁ scratch₁ known) (z : Named names text ts (count ts) n known own₁ own₂ scratch₁ scratch₂ None)
      (l : LeftOut ts n (count ts) scratch₂ scratch₃) where
    lack : room_of names own < length (symbol_rows names text ts (suc n))
    lack = rw p.own_size at (row_lacks names text ts n (room_of names own₁) o.whole o.built_in.indexed.few (sym z.number))

    left_out : (i : ℕ) → i < count ts → number_at ts scratch₃ i ≡ symbol_in names text ts (room_of names own) i
    left_out i k = elim (dec_lt i n) [
      | yes m ↦ l.kept i m ∙ z.numbers i ∙ p.numbers i m
      | no m ↦ l.numbers i (omega arith) k ∙ sym (rowless_in names text ts i (room_of names own) n (omega arith) lack)
    ]

    pub cut_short : Owned names text ts own scratch own₂ scratch₃ known
    cut_short = record {
      rows = λ fit. absurd (omega (arith, lack, rows_grow names text ts (suc n) (count ts) (omega arith)));
      stands = omega (arith, p.indexed.stands, z.own_size);
      numbers = left_out;
      own_size = z.own_size ∙ p.own_size;
      scratch_size = l.size ∙ z.scratch_size ∙ p.scratch_size ∙ w.size;
    }

module _ {names : Builtins} {index text ts : List ℕ} {n known : ℕ} {own₀ scratch₀ own scratch : List ℕ}
    (o : Open names index text ts scratch₀) (h : n < count ts) (p : Passed names text ts n own₀ scratch₀ own scratch known) where
  pub before : Before names (built names) index text ts (count ts) n known own scratch
  before = record {
    built_is = refl;
    built_in = o.built_in;
    size_is = refl;
    inside = h;
    few = o.whole.most;
    sound = o.sound n h;
    rows = p.rows;
    indexed = p.indexed;
    scratch_room = omega (arith, o.scratch_room, p.scratch_size);
  }

  pub place_inside : 2 * count ts + n < length scratch
  place_inside = omega (arith, o.scratch_room, p.scratch_size)

  -- one token more has its symbol, which is stored beyond the index
  module _ {own' scratch' : List ℕ} {w : Interned} (z : Named names text ts (count ts) n known own own' scratch scratch' (Some w)) where
    abbrev stored : List ℕ
    stored = set scratch' (2 * count ts + n) w.symbol

    fit : length (symbol_rows names text ts (suc n)) ≤ room_of names own
    fit = row_fits names text ts n (room_of names own) (omega (arith, ap length p.rows, rows_length names known own p.indexed.stands, p.indexed.stands)) (λ e. let s = z.there in omega (arith, z.number, e))

    number : (i : ℕ) → i < n + 1 → number_at ts stored i ≡ symbol_in names text ts (room_of names own₀) i
    number i k = elim (ℕ_discrete i n) [
      | yes e ↦ rw (e, ← p.own_size) (get_or-set_same scratch' (2 * count ts + n) w.symbol 0 (omega (arith, place_inside, z.scratch_size)) ∙ z.number)
      | no e ↦ get_or-set_other scratch' (2 * count ts + n) (2 * count ts + i) w.symbol 0 (λ f. e (omega arith)) ∙ z.numbers i ∙ p.numbers i (omega arith)
    ]

    pub passes : Passed names text ts (n + 1) own₀ scratch₀ own' (set scratch' (2 * count ts + n) w.symbol) w.count
    passes =
        let x = z.indexed in
        record {
          low = omega arith;
          rows = rw (add-one n) (z.rows fit);
          indexed = record {
            stands = x.stands;
            table = x.table;
            index_is = stored_behind (2 * count ts + n) w.symbol (omega arith) (omega (arith, x.few)) x.index_is;
            index_room = omega (arith, x.index_room, length-set scratch' (2 * count ts + n) w.symbol);
            few = x.few;
          };
          numbers = number;
          own_size = z.own_size ∙ p.own_size;
          scratch_size = length-set scratch' _ _ ∙ z.scratch_size ∙ p.scratch_size;
        }

-- the built-in rows are put at the start of the symbol room, and the script's own are written behind them, to the room's end
module _ {names : Builtins} {text ts symbols₀ symbols₁ own₀ own scratch₀ scratch : List ℕ} {known : ℕ}
    (fit : 2 * built names ≤ length symbols₀) (w : Written 0 (2 * built names) (take (2 * built names) names.rows) symbols₀ symbols₁)
    (long : length own₀ ≡ length symbols₁ - 2 * built names) (o : Owned names text ts own₀ scratch₀ own scratch known) where
  -- the whole room is as long as it was
  whole_room : room_of names own₀ ≡ length symbols₀
  whole_room = omega (arith, w.size)

  both : (rest : List ℕ) → take (2 * (built names + known)) (take (2 * built names) symbols₁ ++ (own ++ rest)) ≡ rows_of names known own
  both rest =
      let e : 2 * (built names + known) ≡ length (built_rows names) + 2 * known = omega (arith, built_length names) in
      rw (w.rows, e, take-append-add (built_rows names) (own ++ rest) (2 * known), take-append-le (2 * known) own rest o.stands)

  size : (rest : List ℕ) → length rest ≡ 0 → length (take (2 * built names) symbols₁ ++ (own ++ rest)) ≡ length symbols₀
  size rest h = rw w.rows (omega (arith, length-append (built_rows names) (own ++ rest), length-append own rest, built_length names, o.own_size, whole_room))

  pub resolved : (rest : List ℕ) → length rest ≡ 0 → Resolved names text ts symbols₀ scratch₀ (take (2 * built names) symbols₁ ++ (own ++ rest)) scratch (built names + known)
  resolved rest h = record {
    rows = λ l. both rest ∙ o.rows (omega (arith, whole_room));
    stands = omega (arith, size rest h, o.stands, o.own_size, whole_room);
    numbers = rw whole_room at o.numbers;
    symbol_size = size rest h;
    scratch_size = o.scratch_size;
  }
