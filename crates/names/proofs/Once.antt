-- Two outcomes of `resolve` have the same symbols for the readers and, where all rows fit, as many rows and the same ones.
use Prim.Native.Nat.{ℕ, ◌*◌, ◌≤◌}
use native.Mathlib.Decide.{dec_lt}
use native.Mathlib.Omega.{arith}
use mathlib.Core.List.{List}
use mathlib.Core.Path.{◌≡◌, sym, ap, ◌∙◌, fun_ext}
use lib.ListN.{length, take}
use lib.Seq.{length-take-le}
use Rattle.grammar.specs.Builtin.{Builtins}
use Rattle.grammar.specs.Room.{symbol_width}
use Rattle.grammar.specs.Symbol.{symbol_rows}
use Rattle.grammar.specs.Token.{count}
use Rattle.names.specs.Resolved.{Resolved, names_of}
use Rattle.names.proofs.Readers.{name_at, no_name}

pub one_resolved : {names : Builtins} {text ts symbols₀ scratch₀ symbols scratch symbols' scratch' : List ℕ} {known known' : ℕ} →
    Resolved names text ts symbols₀ scratch₀ symbols scratch known →
    Resolved names text ts symbols₀ scratch₀ symbols' scratch' known' →
    (length (symbol_rows names text ts (count ts)) ≤ length symbols₀ → (known ≡ known') × (take (symbol_width * known) symbols ≡ take (symbol_width * known') symbols')) ×
    (names_of ts scratch ≡ names_of ts scratch')
one_resolved {ts = ts} {symbols = symbols} {scratch = scratch} {symbols' = symbols'} {scratch' = scratch'} {known = known} {known' = known'} x y =
    (λ h. let e = x.rows h ∙ sym (y.rows h) in (omega (arith, ap length e, length-take-le (symbol_width * known) symbols x.stands, length-take-le (symbol_width * known') symbols' y.stands), e), fun_ext same)
  where
    same : (i : ℕ) → names_of ts scratch i ≡ names_of ts scratch' i
    same i = elim (dec_lt i (count ts)) [
      | yes h ↦ sym (name_at ts scratch i h) ∙ x.numbers i h ∙ sym (y.numbers i h) ∙ name_at ts scratch' i h
      | no h ↦ no_name ts scratch i (omega arith) ∙ sym (no_name ts scratch' i (omega arith))
    ]
