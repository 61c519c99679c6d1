-- A whole guard: the expression's rows are all, and its refusals the guard's; or the Eof is missing behind it.
use Prim.Native.Nat.{ℕ, ◌+◌}
use native.Mathlib.Omega.{arith}
use mathlib.Core.List.{List, [], ◌∷◌}
use mathlib.Core.Path.{◌≡◌, ap, subst}
use Rattle.ast.specs.declared.Node.{Node}
use Rattle.grammar.specs.Edition.{edition as named-edition}
use Rattle.grammar.specs.Kaori.{expression, kaori, guard}
use Rattle.grammar.specs.Kind.{Eof}
use Rattle.grammar.specs.Phrase.{whole, more, none, Reads, depth}
use Rattle.grammar.specs.Profile.{Profile}
use Rattle.grammar.specs.Refusal.{Refuses}
use Rattle.grammar.specs.Rows.{walk, unparented}
use Rattle.grammar.specs.Space.{Named}
use Rattle.grammar.specs.Token.{kind, count}
use Rattle.reading.specs.Answers.{node_of, AnswerCase, Answered, Took, Consumed}
use Rattle.reading.specs.Reading.{Success}
use Rattle.reading.specs.State.{State, state, Lent}
use Rattle.reading.specs.declared.Cursor.{Cursor}
use Rattle.reading.specs.declared.Read.{Read}
use Rattle.reading.specs.declared.Refusal.{Refusal}
use Rattle.reading.specs.declared.Terms.{Terms}
use Rattle.reading.proofs.Replies.{after}
use Rattle.syntax.specs.Parsed.{begin, CompleteCase, Completes}

-- a refusal of the expression is the guard's
pub inner_told : {ts : List ℕ} {terms : Terms} {s : State} {ns ls ss : List ℕ} {r : Read} {q : Refusal} → r ≡ Read.Refused q → Answered ts terms node_of (whole expression) 0 s ns ls ss r → Completes Profile.guard ts terms s ns ls ss r
unfolding AnswerCase CompleteCase
inner_told e a = rw e (record { says = record { refuses = Refuses.in_first (rw e at a).says.refuses } })

-- what is read of it
pub inner : {ts : List ℕ} {terms : Terms} {s : State} {ns ls ss : List ℕ} {r : Read} {n : Node} {c : Cursor} → r ≡ Read.Node n c → Answered ts terms node_of (whole expression) 0 s ns ls ss r → Success ts terms (whole expression) 0 s (node_of n ∷ []) (state ns ls ss c)
unfolding AnswerCase
inner e a = (rw e at a).says

module _ {ts : List ℕ} {terms : Terms} {ns₀ ls₀ ss₀ ns ls ss : List ℕ} {n : Node} {c : Cursor} (x : Success ts terms (whole expression) 0 (state ns₀ ls₀ ss₀ begin) (node_of n ∷ []) (state ns ls ss c)) where
  -- another token than Eof stands behind it
  pub unended : {r : Read} {q : Refusal} → r ≡ Read.Refused q → Consumed ts c Eof r → Completes Profile.guard ts terms (state ns₀ ls₀ ss₀ begin) ns ls ss r
  unfolding Took CompleteCase
  unended e a =
      let (m, z) = (rw e at a).says in
      rw (e, z) (record { says = after x.reading (record { refuses = Refuses.missing m }) })

  -- the Eof, which is the last token
  pub guarded : {r : Read} {m : Node} {d : Cursor} → Lent ts → r ≡ Read.Node m d → Consumed ts c Eof r → Completes Profile.guard ts terms (state ns₀ ls₀ ss₀ begin) ns ls ss (Read.Node n c)
  unfolding Took CompleteCase unparented walk depth Named
  guarded l e a =
      let k = (rw e at a).says.0 in
      let z = x.reading in
      let last : c.at + 1 ≡ count ts = (l.closed c.at x.within.at).only k in
      record {
        says = record {
          tree = more z.tree none;
          reads = subst (λ b. Reads (kaori (named-edition terms.edition)) (kind ts) (whole guard) 0 b (more z.tree none)) last (Reads.both z.reads (Reads.taken k Reads.nothing));
          fits = omega (arith, z.fits);
          named = (z.named, tt);
          rows = ap (λ w. w.rows) z.rows;
          rooms = z.rooms;
          stands = x.within.stands;
        };
      }
