-- What the readers find: the numbers of the top third are the symbols in the lent room, at every token and beyond. So rows that are read with these numbers are the
-- grammar's.
use Prim.Native.Nat.{ℕ, ◌+◌, ◌*◌, ◌≤◌, ◌<◌}
use native.Mathlib.Decide.{dec_lt}
use native.Mathlib.Omega.{arith}
use mathlib.Core.List.{List}
use mathlib.Core.Path.{◌≡◌, sym, ap, ◌∙◌, fun_ext}
use lib.ListN.{length, get_or, take, drop, get_or-eq_default, length-take}
use lib.Seq.{get_or-take, get_or-drop}
use Rattle.grammar.specs.Builtin.{Builtins}
use Rattle.grammar.specs.Door.{Whole}
use Rattle.grammar.specs.Symbol.{symbol_in}
use Rattle.grammar.specs.Token.{kind, count}
use Rattle.names.specs.Resolved.{Resolved, names_of}
use Rattle.names.proofs.Fitting.{wordless_in}
use Rattle.names.proofs.Words.{is_no_word}

-- where the symbol of a token is read
pub name_at : (ts scratch : List ℕ) (i : ℕ) → i < count ts → get_or scratch (2 * count ts + i) 0 ≡ names_of ts scratch i
unfolding names_of
name_at ts scratch i h = sym (get_or-take (count ts) (drop (2 * count ts) scratch) i 0 h ∙ get_or-drop (2 * count ts) scratch i 0)

-- past the list there is none
pub no_name : (ts scratch : List ℕ) (i : ℕ) → count ts ≤ i → names_of ts scratch i ≡ 0
unfolding names_of
no_name ts scratch i h = get_or-eq_default (take (count ts) (drop (2 * count ts) scratch)) 0 (omega (arith, length-take (count ts) (drop (2 * count ts) scratch)))

-- a stack of items below two thirds leaves them as they are
pub names_kept : (ts scratch after : List ℕ) → drop (2 * count ts) after ≡ drop (2 * count ts) scratch → names_of ts after ≡ names_of ts scratch
unfolding names_of
names_kept ts scratch after e = ap (λ l. λ i. get_or (take (count ts) l) i 0) e

module _ {names : Builtins} {text ts symbols₀ scratch₀ symbols scratch : List ℕ} {known : ℕ} (w : Whole ts) (r : Resolved names text ts symbols₀ scratch₀ symbols scratch known) where
  no_symbol : (i : ℕ) → count ts ≤ i → symbol_in names text ts (length symbols₀) i ≡ 0
  no_symbol i h =
      let k : kind ts i ≡ 0 = get_or-eq_default ts 0 (omega (arith, w.rows)) in
      wordless_in names text ts i (length symbols₀) (is_no_word ts i (λ e. omega arith) (λ e. omega arith))

  pub names_are : names_of ts scratch ≡ symbol_in names text ts (length symbols₀)
  names_are = fun_ext (λ i. elim (dec_lt i (count ts)) [
    | yes h ↦ sym (name_at ts scratch i h) ∙ r.numbers i h
    | no h ↦ no_name ts scratch i (omega arith) ∙ sym (no_symbol i (omega arith))
  ])
