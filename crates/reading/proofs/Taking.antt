-- A token that was taken and what comes after it, and a row of what was read.
use Prim.Native.Nat.{ℕ, ◌+◌, ◌<◌}
use native.Mathlib.Omega.{arith}
use mathlib.Core.Bool.{false}
use mathlib.Core.List.{List}
use mathlib.Core.Logic.{⊎_elim}
use mathlib.Core.Path.{◌≡◌, ap}
use Rattle.ast.specs.Inserted.{Tried}
use Rattle.ast.specs.declared.Node.{Node}
use Rattle.grammar.specs.Handle.{Handle, absent}
use Rattle.grammar.specs.Kaori.{Form}
use Rattle.grammar.specs.Kind.{NumberLiteral, Eof}
use Rattle.grammar.specs.Label.{Label}
use Rattle.grammar.specs.Phrase.{token, node, whole}
use Rattle.grammar.specs.Refusal.{Refused}
use Rattle.grammar.specs.Rows.{make}
use Rattle.grammar.specs.Space.{has_word}
use Rattle.grammar.specs.Token.{start, end}
use Rattle.names.specs.Resolved.{names_of}
use Rattle.reading.specs.Answers.{node_of, Consumed, Answered}
use Rattle.reading.specs.Parts.{Makes, Binder, Sign}
use Rattle.reading.specs.Reading.{Reading, Refusing}
use Rattle.reading.specs.State.{State, state, written, Lent, Within, Ready, Opened}
use Rattle.reading.specs.declared.Cursor.{Cursor}
use Rattle.reading.specs.declared.Read.{Read}
use Rattle.reading.specs.declared.Terms.{Terms}
use Rattle.reading.proofs.Bound.{Paid}
use Rattle.reading.proofs.Entering.{entered_alone, row_tried}
use Rattle.reading.proofs.Laws.{plain, taken, ready_next, opened_next}
use Rattle.reading.proofs.Refusals.{past_token}
use Rattle.reading.proofs.Replies.{Taken, built}

-- what was learnt of a token, named by the answer that it is read from
abbrev pub TakenBy : {ts : List ℕ} {c : Cursor} {x : ℕ} {r : Read} → Consumed ts c x r → Node → Cursor → Type 0
TakenBy {ts} {c} {x} a n d = Taken ts c x n d

-- where it stands, and the token after it
module _ {ts : List ℕ} {c d : Cursor} {x : ℕ} {n : Node} (k : Taken ts c x n d) where
  pub starts : n.start ≡ start ts c.at
  starts = ap (λ m. m.start) k.node_is

  pub ends : n.end ≡ end ts c.at
  ends = ap (λ m. m.end) k.node_is

  pub past_at : d.at ≡ c.at + 1
  past_at = ap (λ e. e.at) k.after

-- the token, and what is read, asked or refused after it
module _ {ts : List ℕ} {terms : Terms} {o x : ℕ} {c d : Cursor} {n : Node} where
  pub led : {p : Form} {ns ls ss : List ℕ} {hs gs : List Handle} {s' : State} → Taken ts c x n d → Reading ts terms (whole p) o (state ns ls ss d) hs gs s' →
      Reading ts terms (whole (token x p)) o (state ns ls ss c) hs gs s'
  led k r = taken k.kind_is (rw k.after at r)

  pub ready_led : {ns ls ss : List ℕ} → Ready ts terms o (state ns ls ss c) → Taken ts c x n d → (x ≡ Eof → ⊥) → Ready ts terms o (state ns ls ss d)
  ready_led r k m = rw k.after (ready_next r k.kind_is m)

  pub opened_led : {ns ls ss : List ℕ} → Ready ts terms o (state ns ls ss c) → Taken ts c x n d → (x ≡ Eof → ⊥) → Opened ts terms o (state ns ls ss d)
  opened_led r k m = rw k.after (opened_next r k.kind_is m)

  pub led_refused : {p : Form} {ns ls ss : List ℕ} {q : Refused} → Taken ts c x n d → Refusing ts terms p o (state ns ls ss d) q → Refusing ts terms (token x p) o (state ns ls ss c) q
  led_refused k h = past_token k.kind_is (rw k.after at h)

-- one node row more has a number
pub free : {ts ns ls ss : List ℕ} {c : Cursor} → Lent ts → Within ts (state ns ls ss c) → c.nodes < absent
free l w = omega (arith, w.rows, w.at, l.whole.most)

-- a row, by equal numbers
pub tried_as : {n k st st' en en' : ℕ} {fields fields' before after : List ℕ} {m : Node} → st ≡ st' → en ≡ en' → fields ≡ fields' → Tried n k st en fields before after m →
    Tried n k st' en' fields' before after m
tried_as a b e i = rw (← a, ← b, ← e) i

-- a row of what was read
module _ {ts : List ℕ} {terms : Terms} {o : ℕ} {s : State} {xs zs : List Handle} {f : Label} {p : Form} {ns ns' ls ss : List ℕ} {c : Cursor} {k st en : ℕ} {fields : List ℕ} {n : Node} where
  pub row_answered : {r : Read} → Makes n c r → Ready ts terms o s → Paid (node f p) → Reading ts terms (whole p) o s xs zs (state ns ls ss c) → Within ts (state ns ls ss c) →
      Tried c.nodes k st en fields ns ns' n → make ts (names_of ts ss) f s.cursor.at c.at (written (state ns ls ss c)) xs zs ≡ entered_alone c ns ls k st en fields →
      has_word f ≡ false → Answered ts terms node_of (whole (node f p)) o s ns' ls ss r
  row_answered m h p r w i e v = built h p w.at r (row_tried w h.lent (λ x z. plain v x) e m i)

-- the kinds of signs and of binders are below those of literals
pub sign_low : {x : ℕ} → Sign x → x < NumberLiteral
sign_low s = ⊎_elim (λ e. omega arith) (λ e. omega arith) s.known

pub binder_low : {x : ℕ} → Binder x → x < NumberLiteral
binder_low s = ⊎_elim (λ e. omega arith) (⊎_elim (λ e. omega arith) (λ e. omega arith)) s.known
