-- The answer of the check: by the counts, by the edition, and by the rules, with the scratch room clear.
use Prim.Native.Nat.{ℕ, ◌+◌, ◌-◌, ◌*◌, ◌<◌}
use native.Mathlib.Omega.{arith}
use mathlib.Core.List.{List}
use Rattle.std.specs.Prelude.{Result, Ok, Err}
use mathlib.Core.Logic.{⊎_elim}
use mathlib.Core.Path.{◌≡◌, ap, ◌∙◌}
use lib.ListN.{length, take, replicate}
use Rattle.grammar.specs.Door.{RightEdition}
use Rattle.grammar.specs.Edition.{edition}
use Rattle.grammar.specs.Room.{node_width, link_width, symbol_width, cleared}
use Rattle.ast.specs.Written.{Cleared}
use Rattle.foreign.specs.Check.{Given, Lends, Checks}
use Rattle.checker.specs.Slots.{table, rows}
use Rattle.checker.specs.Verdict.{rooms, given, Tells, Judges, Judged}
use Rattle.checker.specs.Pass.{number}
use Rattle.checker.specs.declared.Verdict.{Verdict}
use Rattle.checker.specs.declared.rule.Broken.{Broken}

-- an answer that has a code alone, and what is told of the rules
abbrev pub bare : (code : ℕ) → Verdict
bare c = record { code = c; rule = 0; row = 0 }

abbrev pub told : Result (Unit {0}) Broken → Verdict
told (Ok u) = bare 0
told (Err b) = record { code = 22; rule = number b.rule; row = b.row }

module _ (e n m s : ℕ) (ns ls ss sc : List ℕ) where
  abbrev g : Given
  g = given e n m s (rooms ns ls ss sc)

  -- nothing is changed
  abbrev pub Refuses : Verdict → Type 0
  Refuses r = Tells g (rooms ns ls ss sc) r

  pub past_nodes : length ns < node_width * n → Refuses (bare 15)
  past_nodes h = record { says = Checks.past (λ l. omega (arith, l.nodes)) }

  pub past_links : length ls < link_width * m → Refuses (bare 15)
  past_links h = record { says = Checks.past (λ l. omega (arith, l.links)) }

  pub past_symbols : length ss < symbol_width * s → Refuses (bare 15)
  past_symbols h = record { says = Checks.past (λ l. omega (arith, l.symbols)) }

  pub past_scratch : length sc < n + 2 * m → Refuses (bare 15)
  past_scratch h = record { says = Checks.past (λ l. omega (arith, l.scratch)) }

  module _ (l : Lends g) where
    pub no_edition : (e ≡ 1 → ⊥) → (e ≡ 2 → ⊥) → Refuses (bare 21)
    no_edition a b = record { says = Checks.no_edition l (⊎_elim a b) }

    -- the rows that the counts tell of
    abbrev node_part : List ℕ
    node_part = take (node_width * n) ns

    abbrev link_part : List ℕ
    link_part = take (link_width * m) ls

    pub judged : {t after sc' : List ℕ} {r : Result (Unit {0}) Broken} → RightEdition e → t ≡ table (edition e) → Judged t s (rows node_part link_part) r → length sc' ≡ length sc → Cleared 0 sc' after → Tells g (rooms ns ls ss after) (told r)
    judged {after = after} {sc' = sc'} {r = r} x q j k c = rw wiped (record { says = pick (j.says (edition e) q) })
      where
        wiped : after ≡ cleared sc
        wiped = let i : length sc' - 0 ≡ length sc = omega arith in c.zeros ∙ ap (λ (z : ℕ). replicate z 0) i

        pick : {v : Result (Unit {0}) Broken} → Judges (edition e) s (rows node_part link_part) v → Checks g (told v).code (told v).rule (told v).row (rooms ns ls ss (cleared sc))
        pick (Judges.failed f) = Checks.failed l x f
        pick (Judges.passed f) = Checks.passed l x f
