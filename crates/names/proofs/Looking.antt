-- One word: a built-in name has its symbol, and leaves the rows as they are; any other word is interned behind the built-in rows, and its symbol counts them too.
use Prim.Native.Nat.{ℕ, ◌+◌, ◌*◌, ◌≤◌, ◌<◌}
use native.Mathlib.Omega.{arith}
use mathlib.Core.List.{List, ◌++◌}
use mathlib.Core.Path.{◌≡◌, refl, sym, ap, ◌∙◌}
use lib.ListN.{length, length-append}
use Rattle.std.specs.Prelude.{Option, Some, None, IfSome}
use Rattle.grammar.specs.Handle.{absent}
use Rattle.grammar.specs.Builtin.{Builtins, built, built_rows, none}
use Rattle.grammar.specs.Symbol.{seek, interned}
use Rattle.grammar.specs.Token.{lexeme}
use Rattle.grammar.proofs.Symbols.{built_length, look_up_built, look_up_own, interned_built, interned_own}
use Rattle.interner.specs.Interns.{used, Outcome, Enters}
use Rattle.interner.specs.declared.Interned.{Interned}
use Rattle.interner.proofs.Outcomes.{symbol_is, rows_are, no_symbol, symbol_there, size_kept, beyond}
use Rattle.interner.proofs.Search.{used_length}
use Rattle.names.specs.Resolved.{rows_of, Free, LookedUp}

-- how long the rows in use are
pub rows_length : (names : Builtins) (known : ℕ) (own : List ℕ) → 2 * known ≤ length own → length (rows_of names known own) ≡ 2 * built names + 2 * known
rows_length names known own h = omega (arith, length-append (built_rows names) (used known own), built_length names, used_length own known h)

module _ {names : Builtins} {index text own scratch : List ℕ} {s e built-count size known : ℕ} (f : Free names built-count index text s e size known own scratch) where
  -- which built-in name the word is, or how many there are
  abbrev place : ℕ
  place = seek names.text (lexeme text s e) names.rows

  long : length (rows_of names known own) ≡ 2 * built names + 2 * known
  long = rows_length names known own f.ready.indexed.stands

  -- it is one
  pub built_found : place < built names → LookedUp names text s e size known own own scratch scratch (Some (record { symbol = place; count = known }))
  built_found h =
      let same = interned_built names text s e (rows_of names known own) h (omega (arith, long)) in
      record {
        number = λ fit. sym (look_up_built names text (lexeme text s e) (rows_of names known own) h);
        missing = λ lack. absurd (omega (arith, ap length same, long, f.ready.indexed.stands));
        there = omega (arith, f.built_is, f.ready.number);
        rows = λ fit. sym same;
        indexed = f.ready.indexed;
        beyond = λ i k. refl;
        own_size = refl;
        scratch_size = refl;
      }

  -- it is none: it is interned, and its symbol counts the built-in names too
  module _ (n : place ≡ built names) {own₁ scratch₁ : List ℕ} {r : Option Interned} (i : Enters text s e built-count size known own own₁ scratch scratch₁ r) where
    behind : interned names text s e (rows_of names known own) ≡ built_rows names ++ interned none text s e (used known own)
    behind = interned_own names text s e (used known own) n

    split : length (interned names text s e (rows_of names known own)) ≡ 2 * built names + length (interned none text s e (used known own))
    split = omega (arith, ap length behind, length-append (built_rows names) (interned none text s e (used known own)), built_length names)

    pub own_found : LookedUp names text s e size known own own₁ scratch scratch₁ r
    own_found =
        let (wide, high) = size_kept f.ready i.outcome in
        record {
          number = λ fit. symbol_is f.ready (omega (arith, split)) i.outcome ∙ ap (λ k. k + seek text (lexeme text s e) (used known own)) f.built_is ∙ sym (look_up_own names text (lexeme text s e) (used known own) n);
          missing = λ lack. no_symbol f.ready (omega (arith, split)) i.outcome;
          there = some i.outcome;
          rows = λ fit. ap (λ u. built_rows names ++ u) (rows_are f.ready (omega (arith, split)) i.outcome) ∙ sym behind;
          indexed = i.indexed;
          beyond = beyond f.ready i.outcome;
          own_size = wide;
          scratch_size = high;
        }
      where
        some : {r : Option Interned} → Outcome text s e built-count size known own own₁ scratch scratch₁ r → IfSome r (λ w. w.symbol < absent)
        some {r = Some w} x = symbol_there f.ready x
        some {r = None} x = tt
