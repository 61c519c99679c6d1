-- `scan::sign_at` meets its contract: two bytes where they spell a sign, else one, else nothing.
use Prim.Native.Nat.{◌+◌, ◌<◌}
use mathlib.Core.List.{[], ◌∷◌}
use mathlib.Core.Path.{◌≡◌, sym, ◌∙◌}
use native.Mathlib.Omega.{arith}
use Rattle.std.specs.Prelude.{Some, None, length, get_or}
use Rattle.lexer.specs.Parts.{StartCase, Spelt}
use Rattle.lexer.proofs.Standing.{Alone, not_spelt, two_bytes, one_byte, no_byte}
use Rattle.lexer.proofs.scan.sign_at.Goals as goal
use Rattle.lexer.proofs.scan.sign_at.Goals.{In-Some, In_default, then-next-text+then-text-next-eq61, else-next-text, else-next-text-via-then-next-text+else-text-next-eq61, else-next-text-via-else-next-text}

-- a pair that is found
paired : (c : In-Some) → (c.args.start + 1 < length c.args.text.now) × (get_or c.args.text.now (c.args.start + 1) 0 ≡ 61) × Spelt (get_or c.args.text.now c.args.start 0 ∷ 61 ∷ []) (Some c.in-Some.kind)
paired c = elim c.if-next-text.branch [
  | then-next-text+then-text-next-eq61 w ↦ (w.if-next-text.true, w.if-text-next-eq61.true, rw (sym w.pair-is ∙ c.in-Some.is) at w.doubled-pair.ensures)
  | else-next-text w ↦ absurd (let e : ◌≡◌ None (Some c.in-Some.kind) = sym w.pair-is ∙ c.in-Some.is in cc)
]

-- where none is, no two bytes are a sign
alone : (c : In_default) → Alone c.args.text.now c.args.start
alone c = record {
  no_two = λ k h l q x. elim c.if-next-text.branch [
    | then-next-text+then-text-next-eq61 w ↦ not_spelt (rw (sym w.pair-is ∙ c.in_default.is) at w.doubled-pair.ensures) k h x
    | else-next-text w ↦ elim w.else-next-text.branch [
      | else-next-text-via-then-next-text+else-text-next-eq61 v ↦ v.if-text-next-eq61.false q
      | else-next-text-via-else-next-text v ↦ omega arith
    ]
  ];
}

pub returns-in-Some : goal.returns-in-Some
unfolding StartCase
returns-in-Some c = let p = paired c in record { says = two_bytes c.requires.1 p.2 p.0 p.1 }

pub returns-in_err-kind : goal.returns-in_err-kind
unfolding StartCase
returns-in_err-kind c = rw c.from_residual.ensures (record { says = no_byte c.requires.1 (alone (goal.at.returns-in_err-kind c).In_default) c.in_err-kind.ensures })

pub returns : goal.returns
unfolding StartCase
returns c = record { says = one_byte c.requires.1 (alone (goal.at.returns c).In_default) c.in_ok-kind.ensures c.requires.0 }
