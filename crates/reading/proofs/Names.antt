-- Names and the commas after them: a name's symbol is the grammar's, and a list goes on or ends as its table says.
use Prim.Native.Nat.{ℕ, ◌+◌, ◌*◌}
use native.Mathlib.Omega.{arith}
use mathlib.Core.Bool.{true}
use mathlib.Core.List.{List, [], ◌∷◌}
use mathlib.Core.Logic.{⊎_elim}
use mathlib.Core.Path.{◌≡◌, refl, sym, ◌∙◌}
use Rattle.ast.specs.Written.{Written}
use Rattle.ast.specs.declared.Node.{Node}
use Rattle.grammar.specs.Handle.{Handle, absent, link}
use Rattle.grammar.specs.Kaori.{Form, name, comma, rules}
use Rattle.grammar.specs.Kind.{Identifier}
use Rattle.grammar.specs.Label.{Label}
use Rattle.grammar.specs.Phrase.{empty, token, part, node, choice, whole}
use Rattle.grammar.specs.Rows.{make}
use Rattle.grammar.specs.Rule.{word}
use Rattle.grammar.specs.Space.{has_word, Lacks}
use Rattle.grammar.specs.Token.{kind}
use Rattle.grammar.proofs.Room.{paid, spare}
use Rattle.grammar.proofs.Tables.{keyed, unkeyed}
use Rattle.names.specs.Resolved.{names_of}
use Rattle.reading.specs.Answers.{name_of, Answered, Listed}
use Rattle.reading.specs.Parts.{no_room, Separates, Separated}
use Rattle.reading.specs.Reading.{Success}
use Rattle.reading.specs.State.{State, state, Ready, Opened}
use Rattle.reading.specs.declared.Cursor.{Cursor}
use Rattle.reading.specs.declared.Read.{Read}
use Rattle.reading.specs.declared.Terms.{Terms}
use Rattle.reading.proofs.Bound.{Paid, strictly}
use Rattle.reading.proofs.Laws.{Made, unwritten, full, nothing, both, chosen, labelled, taken, more_tokens, ready_next, ready_on}
use Rattle.reading.proofs.Listings.{pushed, listed_one}
use Rattle.reading.proofs.Refusals as Refuses
use Rattle.reading.proofs.Replies.{Taken, answer, answered, refuse, after}

-- a name is made of its token's span and its symbol
pub named : {ts ns ls ss : List ℕ} {a : ℕ} {xs zs : List Handle} {c : Cursor} → (names_of ts ss a ≡ absent → ⊥) → Made ts Label.Name a (state ns ls ss c) xs zs (word ts (names_of ts ss) a ∷ []) (state ns ls ss c)
unfolding make
named h = unwritten (λ w. h) refl

-- a name was read: its node is its symbol and its place
pub name_read : {ts ns ls ss : List ℕ} {terms : Terms} {o : ℕ} {c d : Cursor} {place : Node} {symbol : ℕ} → Ready ts terms o (state ns ls ss c) → Taken ts c Identifier place d →
    symbol ≡ names_of ts ss c.at → (symbol ≡ absent → ⊥) →
    Answered ts terms name_of (whole name) o (state ns ls ss c) ns ls ss (Read.Node (record { id = symbol; start = place.start; end = place.end }) d)
unfolding paid spare
name_read r t e h =
    rw (t.after, t.node_is, e)
    (answer r (record { pays = tt }) (more_tokens r.lent r.within.at t.kind_is (λ z. omega arith)) (labelled (taken t.kind_is (nothing r.deep)) (named (λ z. h (e ∙ z)))))

-- its symbol's row has no room
pub unnamed : {ts ns ls ss : List ℕ} {terms : Terms} {o x : ℕ} {f : Label} {h : Node → Handle} {c d : Cursor} {place : Node} {symbol : ℕ} → Ready ts terms o (state ns ls ss c) → Taken ts c x place d →
    symbol ≡ names_of ts ss c.at → symbol ≡ absent → has_word f ≡ true → Answered ts terms h (whole (node f (token x empty))) o (state ns ls ss c) ns ls ss (Read.Refused (no_room c.at))
unnamed r t e a v = refuse (full (taken t.kind_is (nothing r.deep)) (record { lacks = Lacks.word v (sym e ∙ a) }))

-- a name that is held: the token before it has paid for it
pub name_held : {ts ns ls ss ss' row : List ℕ} {terms : Terms} {o : ℕ} {s : State} {word : Node} {c : Cursor} → Opened ts terms o s →
    Success ts terms (whole name) o s (name_of word ∷ []) (state ns ls ss c) → Written (3 * c.held) (3 * (c.held + 1)) row ss ss' → row ≡ link (name_of word) →
    Listed ts terms (whole name) o s (state ns ls ss' (pushed c))
unfolding paid spare
name_held r z w f =
    let p : Paid name = record { pays = tt } in
    listed_one r.ready.within p z w f (omega (arith, r.spare, z.reading.holds, strictly r.ready.within p z.within.at z.reading))

-- an item, and then the closer or a comma
module _ {ts ns ls ss : List ℕ} {terms : Terms} {o : ℕ} {p : Form} {h : Node → Handle} {s : State} {item : Node} {c : Cursor} {z : ℕ} where
  pub separated : (r : Read) → Ready ts terms o s → Success ts terms (whole p) o s (h item ∷ []) (state ns ls ss c) → Separated ts item c z r →
      Answered ts terms h (whole (part p (choice (comma z)))) o s ns ls ss r
  unfolding Separates rules
  separated (Read.Node m d) i v w =
      let (x, y) = w.says in
      ⊎_elim (λ g. rw (x, g.1) (answered (record { reading = both v.reading (chosen (keyed _ (comma z) (kind ts c.at) refl g.0) (nothing i.deep)); within = v.within; past = v.past })))
      (λ g. rw (x, g.2)
      (answered
      (record {
        reading = both v.reading (chosen (unkeyed _ (comma z) (kind ts c.at) refl g.0) (taken g.1 (nothing i.deep)));
        within = (ready_next (ready_on i v.within) g.1 (λ e. omega arith)).within;
        past = omega (arith, v.past);
      }))) y
  separated (Read.Refused q) i v w =
      let (m, n, e) = w.says in
      rw e (refuse (after v.reading (Refuses.in_choice (unkeyed _ (comma z) (kind ts c.at) refl m) (Refuses.missing n))))
