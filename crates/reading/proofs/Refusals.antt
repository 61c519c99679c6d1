-- The grammar's refusals, of a state. `use .. as Refuses`: each has its constructor's name.
use Prim.Native.Nat.{ℕ, ◌+◌, ◌≤◌, ◌<◌}
use native.Mathlib.Numerals.{add-one}
use mathlib.Core.List.{List}
use mathlib.Core.Path.{◌≡◌}
use Rattle.grammar.specs.Kaori.{Form, Table}
use Rattle.grammar.specs.Label.{Label}
use Rattle.grammar.specs.Phrase.{token, part, nested, node, choice, chain, once, refusal}
use Rattle.grammar.specs.Refusal.{Refused, refused, Refuses as Of}
use Rattle.grammar.specs.Token.{kind}
use Rattle.reading.specs.Answers.{next, holding}
use Rattle.reading.specs.Reading.{tables, Refusing}
use Rattle.reading.specs.State.{State, state}
use Rattle.reading.specs.declared.Cursor.{Cursor}
use Rattle.reading.specs.declared.Terms.{Terms}

module _ {ts : List ℕ} {terms : Terms} {o : ℕ} where
  module _ {s : State} where
    pub missing : {x : ℕ} {p : Form} → (kind ts s.cursor.at ≡ x → ⊥) → Refusing ts terms (token x p) o s (refused 8 s.cursor.at x)
    missing e = record { refuses = Of.missing e }

    pub stopped : {e : ℕ} → Refusing ts terms (refusal e) o s (refused e s.cursor.at 255)
    stopped = record { refuses = Of.stopped }

    pub too_deep : {k : ℕ} {p : Form} → terms.limit ≤ o → Refusing ts terms (nested k p) o s (refused 11 s.cursor.at 255)
    too_deep h = record { refuses = Of.too_deep h }

    module _ {p : Form} {q : Refused} where
      pub in_first : {r : Form} → Refusing ts terms p o s q → Refusing ts terms (part p r) o s q
      in_first x = record { refuses = Of.in_first x.refuses }

      pub inside : {k : ℕ} → o < terms.limit → Refusing ts terms p (o + 1) s q → Refusing ts terms (nested k p) o s q
      inside h x = record { refuses = Of.inside h (rw add-one at x.refuses) }

      pub in_node : {f : Label} → Refusing ts terms p o s q → Refusing ts terms (node f p) o s q
      in_node x = record { refuses = Of.in_node x.refuses }

      pub in_choice : {n : Table} → tables terms n (kind ts s.cursor.at) ≡ p → Refusing ts terms p o s q → Refusing ts terms (choice n) o s q
      in_choice e x = record { refuses = Of.in_choice e x.refuses }

      pub in_start : {n : Table} → Refusing ts terms p o s q → Refusing ts terms (chain p n) o s q
      in_start x = record { refuses = Of.in_start x.refuses }

      pub in_only : {n : Table} → Refusing ts terms p o s q → Refusing ts terms (once p n) o s q
      in_only x = record { refuses = Of.in_only x.refuses }

      -- what is held does not matter
      pub lowered : {k : ℕ} → Refusing ts terms p o s q → Refusing ts terms p o (holding k s) q
      lowered x = record { refuses = x.refuses }

  pub past_token : {ns ls ss : List ℕ} {c : Cursor} {x : ℕ} {p : Form} {q : Refused} → kind ts c.at ≡ x → Refusing ts terms p o (state ns ls ss (next c)) q →
      Refusing ts terms (token x p) o (state ns ls ss c) q
  past_token e x = record { refuses = Of.past_token e x.refuses }
