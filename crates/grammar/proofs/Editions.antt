-- Edition 2 after edition 1: whatever edition 1 accepts edition 2 accepts, at the same limit and in the same rooms, with as many rows; and with the very same rows
-- where there is no `not`.
use Prim.Native.Nat.{ℕ, ◌<◌}
use mathlib.Core.List.{List}
use mathlib.Core.Path.{◌≡◌, ap}
use native.Mathlib.Omega.{arith}
use lib.ListN.{length}
use Rattle.grammar.specs.Builtin.{Builtins}
use Rattle.grammar.specs.Edition.{Edition}
use Rattle.grammar.specs.Kaori.{Script, script}
use Rattle.grammar.specs.Kind.{Not}
use Rattle.grammar.specs.Label.{Label}
use Rattle.grammar.specs.Outcome.{accepted, Comes}
use Rattle.grammar.specs.Profile.{Profile}
use Rattle.grammar.specs.Parent.{written}
use Rattle.grammar.specs.Phrase.{Tree, whole}
use Rattle.grammar.specs.Rows.{Rows, blank}
use Rattle.grammar.specs.Space.{Space}
use Rattle.grammar.specs.Symbol.{symbol}
use Rattle.grammar.specs.Token.{kind, count}
use Rattle.grammar.proofs.Follow.{script_middle, script_without}
use Rattle.grammar.proofs.Later.{Later, script_later}
use Rattle.grammar.proofs.Lengths.{Alike, written_alike}
use Rattle.grammar.proofs.Tallies.{tally, tree_writes}

-- a script of edition 1 is one of edition 2, no deeper, and with as many rows
pub read_later : {kind : ℕ → ℕ} {n : ℕ} {t : Tree Label} → Script Edition.first kind n t → Later kind (whole script) 0 n t
read_later x = script_later (script_middle x)

-- trees of one tally have as many numbers in their rows
pub alike_written : (ts : List ℕ) (σ : ℕ → ℕ) (t u : Tree Label) → tally u ≡ tally t → Alike (written ts σ u) (written ts σ t)
alike_written ts σ t u e =
    let g = tree_writes ts σ t blank in
    let h = tree_writes ts σ u blank in
    let v = written_alike ts σ t in
    let w = written_alike ts σ u in
    let n = ap (λ x. x.nodes) e in
    let l = ap (λ x. x.links) e in
    omega arith

module _ {names : Builtins} {text ts : List ℕ} {limit : ℕ} {space : Space} {room : ℕ} where
  -- the symbol rows are the tokens' own, in both editions
  pub accepted_later : {w : Rows} {ss : List ℕ} → Comes Profile.script Edition.first names text ts limit space room (accepted w ss) → (w' : Rows) × (length w'.nodes ≡ length w.nodes) × (length w'.links ≡ length w.links) × Comes Profile.script Edition.second names text ts limit space room (accepted w' ss)
  accepted_later (Comes.read {t = t} x d i j) =
      let l = read_later x in
      let a = alike_written ts (symbol names text ts) t l.tree l.is in
      (_, a.nodes, a.links, Comes.read l.reads (omega (arith, l.deep)) (omega arith) j)

  -- a list without a `not`
  pub same_without_not : {w : Rows} {ss : List ℕ} → ((i : ℕ) → i < count ts → kind ts i ≡ Not → ⊥) → Comes Profile.script Edition.first names text ts limit space room (accepted w ss) → Comes Profile.script Edition.second names text ts limit space room (accepted w ss)
  same_without_not h (Comes.read x d i j) = Comes.read (script_without x (λ k l. h k (omega arith))) d i j
